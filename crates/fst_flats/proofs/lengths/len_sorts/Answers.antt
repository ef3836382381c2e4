use Rattle.std.proofs.Common.{map, ap, ◌∙◌, ◌++◌}
use Rattle.fst_base.specs.Sorts.{plain_sort}
use Rattle.fst_flats.specs.Preparing.{sorts_in}
use Rattle.fst_flats.specs.Rows.{given, measured}
use Rattle.fst_terms.specs.Formulas.{sort_of}
use Rattle.fst_terms.specs.Terms.{plain_term}
use Rattle.fst_flats.proofs.DataLemmas.{len-more}
use Rattle.fst_flats.proofs.lengths.len_sorts.Goals as goal

pub loop-term-preserved : goal.loop-term-preserved
loop-term-preserved c =
    len-more (sorts_in c.args.sorts.now) _ _ c.args.terms.now c.loop-term.term-index c.term-item.result c.loop-term-test.true c.loop-term.invariant
    (c.in_ok-add_len_sort.ensures ∙ ap (λ t. map plain_sort c.loop-term.lens ++ given (sort_of (sorts_in c.args.sorts.now)) (measured (plain_term t))) c.term-item.is)
