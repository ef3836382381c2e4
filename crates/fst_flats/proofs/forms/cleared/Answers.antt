use Rattle.fst_flats.proofs.StepLemmas.{cleared-from}
use Rattle.fst_flats.proofs.forms.cleared.Goals as goal

pub returns : goal.returns
returns c =
    cleared-from c.args.sequent.now.vars _ _ c.args.sequent.now.hyps _ _ c.args.extra.now _ c.args.sequent.now.goal _ _ _ _ _ _ c.len.ensures c.in_ok-count.ensures c.in_ok-scope.ensures
    c.as_slice.ensures c.in_ok-vars.ensures c.as_slice-2.ensures c.in_ok-hyps.ensures.made c.in_ok-hyps.ensures.kept c.in_ok-goal.ensures.made c.in_ok-goal.ensures.kept c.in_ok-facts.ensures.made
