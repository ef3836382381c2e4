use Rattle.std.proofs.Common.{◌≡◌, map, take}
use Rattle.fst_effects.specs.Scopes.{entry_of, scope_in}
use Rattle.fst_sorting.specs.Sites.{known_at}
use Rattle.fst_sorting.specs.Bodies.{args_break}
use Rattle.fst_sorting.proofs.arguments.check_args.Given as goal

abbrev pub invariant-loop-index : goal.invariant-loop-index
invariant-loop-index l = record {
  so_far : l.found ≡ args_break (known_at l.known) l.is_ghost (scope_in l.fn.context) (take l.index l.args) (map entry_of l.params);
  scope : scope_in l.context ≡ scope_in l.fn.context;
}
