use Rattle.std.proofs.Common.{map, ap, ◌∙◌, ◌++◌}
use Rattle.fst_flats.specs.Pairs.{paired}
use Rattle.fst_flats.specs.Preparing.{sorts_in}
use Rattle.fst_flats.specs.Rows.{given}
use Rattle.fst_terms.specs.FlatForms.{components}
use Rattle.fst_terms.specs.Terms.{plain_term}
use Rattle.fst_flats.proofs.DataLemmas.{pairs-more}
use Rattle.fst_flats.proofs.pairs.pairs.Goals as goal

pub loop-term-preserved : goal.loop-term-preserved
loop-term-preserved c =
    pairs-more (sorts_in c.args.sorts.now) _ _ c.args.terms.now c.loop-term.term-index c.term-item.result c.loop-term-test.true c.loop-term.invariant
    (c.in_ok-add_pair.ensures ∙ ap (λ t. map plain_term c.loop-term.pairs ++ given (components (sorts_in c.args.sorts.now)) (paired (plain_term t))) c.term-item.is)
