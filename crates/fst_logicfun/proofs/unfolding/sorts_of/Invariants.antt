use Rattle.std.proofs.Common.{◌≡◌, take, map}
use Rattle.fst_base.specs.Sorts.{plain_sort}
use Rattle.fst_logicfun.proofs.unfolding.sorts_of.Given as goal

abbrev pub invariant-loop-var : goal.invariant-loop-var
invariant-loop-var l = map plain_sort l.made ≡ map (λ x. plain_sort x.sort) (take l.var-index l.vars)
