use Rattle.std.proofs.Common.{◌∙◌, ap, sym, subst, IfOk}
use Rattle.fst_base.specs.Sorts.{Srt, plain_sort}
use Rattle.fst_base.specs.Values.{default_of}
use Rattle.fst_base.proofs.SortLemmas.{plain-sort-Pair, plain-sort-Either}
use Rattle.fst_cells.specs.Trees.{IsCell}
use Rattle.fst_cells.proofs.TreeLemmas.{value-kept}
use Rattle.fst_cells.proofs.store.Store.+default.Goals as goal

pub returns-in_ok-second-in-Pair-clause-cell : goal.returns-in_ok-second-in-Pair-clause-cell
returns-in_ok-second-in-Pair-clause-cell t c =
    let a = c.in-Pair.first in
    let b = c.in-Pair.second in
    let m1 = c.default.new.self in
    let m2 = c.default-in-Pair.new.self in
    let first : IsCell m1 c.in_ok-first-in-Pair.first (default_of (plain_sort a)) = subst (λ s. IsCell m1 c.in_ok-first-in-Pair.first (default_of (plain_sort s))) c.get.ensures c.in_ok-first-in-Pair.ensures.cell in
    let second : IsCell m2 c.in_ok-second-in-Pair.second (default_of (plain_sort b)) = subst (λ s. IsCell m2 c.in_ok-second-in-Pair.second (default_of (plain_sort s))) c.get-in-Pair.ensures c.in_ok-second-in-Pair.ensures.cell in
    subst (λ (S : Srt). IfOk c.pair.result (λ x. IsCell c.pair.new.self x (default_of S))) (sym (ap plain_sort c.in-Pair.is ∙ plain-sort-Pair a b))
    (c.pair.ensures.cell (default_of (plain_sort a)) (default_of (plain_sort b)) (value-kept m1 m2 c.in_ok-first-in-Pair.first _ c.in_ok-second-in-Pair.ensures.kept first) second)

pub returns-in_ok-part-in-Either-clause-cell : goal.returns-in_ok-part-in-Either-clause-cell
returns-in_ok-part-in-Either-clause-cell t c =
    let a = c.in-Either.part in
    let m1 = c.default-in-Either.new.self in
    let part : IsCell m1 c.in_ok-part-in-Either.part (default_of (plain_sort a)) = subst (λ s. IsCell m1 c.in_ok-part-in-Either.part (default_of (plain_sort s))) c.get-in-Either.ensures c.in_ok-part-in-Either.ensures.cell in
    subst (λ (S : Srt). IfOk c.left.result (λ x. IsCell c.left.new.self x (default_of S))) (sym (ap plain_sort c.in-Either.is ∙ plain-sort-Either a c.in-Either.field-1))
    (c.left.ensures.cell (default_of (plain_sort a)) part)
