use Rattle.std.proofs.Common.{◌≡◌, take}
use Rattle.fst_effects.specs.Scopes.{applied_at, scope_in, wants_in}
use Rattle.fst_effects.specs.TermChecks.{forms_break}
use Rattle.fst_effects.proofs.checking.+check.Given as goal

abbrev pub invariant-check_forms-loop-index : goal.invariant-check_forms-loop-index
invariant-check_forms-loop-index l = record {
  so_far : l.found ≡ forms_break (applied_at l.place) l.place.is_ghost (scope_in l.fn.context) (take l.index l.forms) (wants_in l.wants);
  scope : scope_in l.context ≡ scope_in l.fn.context;
}
