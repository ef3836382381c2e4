use Rattle.std.proofs.Common.{map, ap, ◌∙◌}
use Rattle.fst_base.specs.Sorts.{plain_sort}
use Rattle.fst_flats.specs.Preparing.{sorts_in}
use Rattle.fst_terms.specs.DataFacts.{facts_at}
use Rattle.fst_terms.specs.Same.{firsts}
use Rattle.fst_terms.specs.Terms.{plain_term}
use Rattle.fst_flats.proofs.FoldLemmas.{firsts-more}
use Rattle.fst_flats.proofs.data_facts.add_facts.Goals as goal

pub loop-term-preserved : goal.loop-term-preserved
loop-term-preserved c =
    firsts-more (facts_at (sorts_in c.args.sorts.now) (map plain_sort c.args.lens.now)) _ _ _ c.args.terms.now c.loop-term.term-index c.term-item.result c.loop-term-test.true c.loop-term.invariant
    (c.in_ok-add_facts_at.ensures ∙ ap (λ t. firsts (map plain_term c.loop-term.facts) (facts_at (sorts_in c.args.sorts.now) (map plain_sort c.args.lens.now) (plain_term t))) c.term-item.is)
