use Rattle.std.proofs.Common.{map, ap, ◌∙◌, ◌++◌, ◌∷◌, []}
use Rattle.fst_flats.specs.Preparing.{fact_of_name, sorts_in}
use Rattle.fst_terms.specs.Terms.{plain_term}
use Rattle.fst_flats.proofs.FoldLemmas.{mapped-more}
use Rattle.fst_flats.proofs.name_facts.add_facts_of.Goals as goal

pub loop-term-preserved : goal.loop-term-preserved
loop-term-preserved c =
    mapped-more (fact_of_name (sorts_in c.args.sorts.now) (map plain_term c.args.names.now)) (map plain_term c.args.facts.now) _ _ c.args.terms.now c.loop-term.term-index c.term-item.result c.loop-term-test.true c.loop-term.invariant
    (c.in_ok-push_made.ensures _ c.fact_of_name.ensures ∙ ap (λ t. map plain_term c.loop-term.facts ++ fact_of_name (sorts_in c.args.sorts.now) (map plain_term c.args.names.now) (plain_term t) ∷ []) c.term-item.is)
