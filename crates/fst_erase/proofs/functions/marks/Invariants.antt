use Rattle.std.proofs.Common.{◌≡◌, map, take}
use Rattle.fst_erase.proofs.functions.marks.Given as goal

abbrev pub invariant-loop-param : goal.invariant-loop-param
invariant-loop-param l = l.marks ≡ map (λ p. p.hidden) (take l.param-index l.params)
