use Rattle.std.proofs.lemmas.Result.{IfOk-weaker}
use Rattle.fst_logicfun.specs.Turns.{turns_at}
use Rattle.fst_logicfun.proofs.DmForms.{let-ends-by, match-ends-by}
use Rattle.fst_logicfun.proofs.definition_turns.definition_turn.Goals as goal

pub returns-in-Match : goal.returns-in-Match
returns-in-Match c =
    IfOk-weaker c.match_turn.result _ _ (λ made e. match-ends-by c.args.header.now c.args.at.now _ _ _ c.args.text.now (turns_at c.args.at.now made) c.in-Match.is c.as_slice.ensures e) c.match_turn.ensures

pub returns-in-Let : goal.returns-in-Let
returns-in-Let c =
    IfOk-weaker c.let_turn.result _ _
    (λ made e. let-ends-by c.args.header.now c.args.at.now _ _ _ _ _ c.args.text.now (turns_at c.args.at.now made) c.in-Let.is c.get.ensures c.get-in-Let.ensures e) c.let_turn.ensures
