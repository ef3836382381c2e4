use Rattle.std.proofs.Common.{arith, ◌<◌, ◌≤◌, min, length, map, ap, ap₂, ◌∙◌, ◌++◌}
use Rattle.fst_flats.specs.Preparing.{sorts_in}
use Rattle.fst_terms.specs.DataFacts.{arrangement}
use Rattle.fst_terms.specs.Terms.{plain_term}
use Rattle.fst_flats.proofs.ArrangementLemmas.{positions-all, positions-more}
use Rattle.fst_flats.proofs.arrangements.add_positions.Goals as goal

pub loop-at-preserved : goal.loop-at-preserved
loop-at-preserved c =
    let h : c.loop-at.at < length c.args.left.now = omega (arith, c.loop-at-test.true, c.min-count.ensures) in
    let i : c.loop-at.at < length c.args.right.now = omega (arith, c.loop-at-test.true, c.min-count.ensures) in
    positions-more (sorts_in c.args.sorts.now) (map plain_term c.args.made.now) _ _ c.args.left.now c.args.right.now c.loop-at.at c.index-left-at.result c.index-right-at.result h i c.loop-at.invariant
    (c.in_ok-add_arrangement.ensures
    ∙ ap₂ (λ t u. map plain_term c.loop-at.made ++ arrangement (sorts_in c.args.sorts.now) (plain_term t) (plain_term u)) c.index-left-at.is c.index-right-at.is)

pub returns : goal.returns
returns c =
    let h : min (length c.args.left.now) (length c.args.right.now) ≤ c.loop-at.at = omega (arith, c.loop-at-test.false, c.min-count.ensures) in
    c.loop-at.invariant ∙ ap (λ xs. map plain_term c.args.made.now ++ xs) (positions-all (sorts_in c.args.sorts.now) c.args.left.now c.args.right.now c.loop-at.at h)
