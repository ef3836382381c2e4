use Rattle.std.proofs.lemmas.Result.{IfOk-weaker}
use Rattle.fst_program.specs.Plain.{plain_dm}
use Rattle.fst_scopes.specs.Scopes.{terms_for}
use Rattle.fst_logicfun.specs.Turns.{dm_turn_at}
use Rattle.fst_logicfun.proofs.TurnLemmas.{both-by}
use Rattle.fst_logicfun.proofs.definition_turns.if_turn.Goals as goal

pub returns : goal.returns
returns c =
    IfOk-weaker c.both_sides.result _ _
    (λ made e. both-by (dm_turn_at (plain_dm c.args.left.now) (plain_dm c.args.right.now) c.args.header.now c.args.at.now) (terms_for c.args.at.now.hyps.now) _ _ c.in_ok-test.test c.get.result.now c.get-in-None.result.now _
    c.in_ok-test.ensures c.get.ensures c.get-in-None.ensures c.literal.ensures c.in-None.is e)
    c.both_sides.ensures
