use Rattle.std.proofs.Common.{map, ap, ◌∙◌, ◌∷◌, []}
use Rattle.fst_terms.specs.Same.{firsts}
use Rattle.fst_terms.specs.Terms.{plain_term}
use Rattle.fst_flats.proofs.FoldLemmas.{added-more}
use Rattle.fst_flats.proofs.keyed.Keyed.add_all.Goals as goal

pub loop-term-preserved : goal.loop-term-preserved
loop-term-preserved c =
    added-more _ _ _ c.args.terms.now c.loop-term.term-index c.term-item.result c.loop-term-test.true c.loop-term.invariant
    (c.in_ok-add.ensures ∙ ap (λ t. firsts (map plain_term c.loop-term.self) (plain_term t ∷ [])) c.term-item.is)
