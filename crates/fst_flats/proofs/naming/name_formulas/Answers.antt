use Rattle.std.proofs.Common.{false, map, ap, ◌∙◌}
use Rattle.fst_flats.specs.Preparing.{sorts_in}
use Rattle.fst_terms.specs.Naming.{named_in}
use Rattle.fst_terms.specs.Same.{firsts}
use Rattle.fst_terms.specs.Terms.{plain_term}
use Rattle.fst_flats.proofs.FoldLemmas.{firsts-more}
use Rattle.fst_flats.proofs.naming.name_formulas.Goals as goal

pub loop-formula-preserved : goal.loop-formula-preserved
loop-formula-preserved c =
    firsts-more (named_in (sorts_in c.args.sorts.now) false) _ _ _ c.args.formulas.now c.loop-formula.formula-index c.formula-item.result c.loop-formula-test.true c.loop-formula.invariant
    (c.in_ok-name.ensures ∙ ap (λ t. firsts (map plain_term c.loop-formula.names) (named_in (sorts_in c.args.sorts.now) false (plain_term t))) c.formula-item.is)
