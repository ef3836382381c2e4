use Rattle.std.proofs.Common.{map, ap, ◌∙◌, ◌++◌}
use Rattle.fst_flats.specs.Arranged.{arranged_pair}
use Rattle.fst_flats.specs.Preparing.{sorts_in}
use Rattle.fst_terms.specs.Terms.{plain_term}
use Rattle.fst_flats.proofs.FoldLemmas.{append-more}
use Rattle.fst_flats.proofs.arrangements.arrange_each.Goals as goal

pub loop-other-preserved : goal.loop-other-preserved
loop-other-preserved c =
    append-more (arranged_pair (sorts_in c.args.sorts.now) (plain_term c.args.term.now)) _ _ _ c.args.later.now c.loop-other.other-index c.other-item.result c.loop-other-test.true c.loop-other.invariant
    (c.in_ok-add_arranged.ensures ∙ ap (λ t. map plain_term c.loop-other.made ++ arranged_pair (sorts_in c.args.sorts.now) (plain_term c.args.term.now) (plain_term t)) c.other-item.is)
