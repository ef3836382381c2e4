use Rattle.std.proofs.lemmas.Result.{IfOk-weaker}
use Rattle.fst_program.specs.Plain.{plain_fun, plain_program}
use Rattle.fst_logicfun.specs.Rounds.{facts_by}
use Rattle.fst_logicfun.proofs.ClauseLemmas.{facts-by}
use Rattle.fst_logicfun.proofs.posting.facts_of.Goals as goal

pub returns-in-Some : goal.returns-in-Some
returns-in-Some c =
    IfOk-weaker c.facts_at.result _ _
    (λ made e. facts-by (facts_by (plain_program c.args.program.now) c.args.which.now) (plain_program c.args.program.now) c.in-App.function c.in-App.field-1 c.in-App.args c.as_slice.result.now c.args.term.now (plain_fun c.in-Some.fun.now) _ c.in-App.is c.in-Some.ensures c.as_slice.ensures e)
    c.facts_at.ensures
