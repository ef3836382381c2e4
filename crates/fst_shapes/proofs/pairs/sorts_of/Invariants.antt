use Rattle.std.proofs.Common.{◌≡◌, take, map}
use Rattle.fst_base.specs.Sorts.{plain_sort}
use Rattle.fst_terms.specs.Meaning.{plain_var}
use Rattle.fst_shapes.proofs.pairs.sorts_of.Given as goal

abbrev pub invariant-loop-var : goal.invariant-loop-var
invariant-loop-var l = map plain_sort l.sorts ≡ map (λ x. x.sort) (map plain_var (take l.var-index l.vars))
