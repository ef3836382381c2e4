use Rattle.std.proofs.Common.{◌≡◌, map, take}
use Rattle.fst_effects.specs.Scopes.{callee_of}
use Rattle.fst_sorting.specs.Listed.{called_of}
use Rattle.fst_sorting.proofs.callees.all_called.Given as goal

abbrev pub invariant-loop-fun : goal.invariant-loop-fun
invariant-loop-fun l = map callee_of l.callees ≡ map (λ p. called_of p.tree.now) (take l.fun-index l.funs)
