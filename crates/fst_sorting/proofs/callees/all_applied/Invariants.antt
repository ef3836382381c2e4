use Rattle.std.proofs.Common.{◌≡◌, map, take}
use Rattle.fst_effects.specs.Scopes.{callee_of}
use Rattle.fst_sorting.specs.Listed.{applied_of}
use Rattle.fst_sorting.specs.Sites.{effects_in}
use Rattle.fst_sorting.proofs.callees.all_applied.Given as goal

abbrev pub invariant-loop-fun : goal.invariant-loop-fun
invariant-loop-fun l = map callee_of l.callees ≡ map (λ p. applied_of (effects_in l.effects) p.tree.now) (take l.fun-index l.funs)
