use Rattle.std.proofs.Common.{◌≡◌, map, take}
use Rattle.fst_base.specs.Sorts.{plain_sort}
use Rattle.fst_terms.specs.Meaning.{Vr, plain_var}
use Rattle.fst_star.proofs.inference.var_sorts.Given as goal

abbrev pub invariant-loop-var : goal.invariant-loop-var
invariant-loop-var l = map plain_sort l.made ≡ map (λ (x : Vr). x.sort) (map plain_var (take l.var-index l.vars))
