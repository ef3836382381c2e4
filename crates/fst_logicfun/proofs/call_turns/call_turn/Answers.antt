use Rattle.fst_logicfun.proofs.CallLemmas.{call-some}
use Rattle.fst_logicfun.proofs.call_turns.call_turn.Goals as goal

pub returns : goal.returns
returns c =
    call-some c.args.at.now c.args.function c.args.args.now c.in-Some.fun.now _ _ _ _ _ _ c.in-Some.ensures c.in_ok-args.ensures c.as_slice.ensures c.in_ok-args-2.ensures c.in_ok-result.ensures c.in_ok-hyps.ensures c.in_ok-one.ensures
