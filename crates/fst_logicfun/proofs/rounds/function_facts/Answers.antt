use Rattle.std.proofs.Common.{◌∙◌}
use Rattle.std.proofs.lemmas.Result.{IfOk-weaker}
use Rattle.fst_logicfun.proofs.RoundLemmas.{both-facts}
use Rattle.fst_logicfun.proofs.rounds.function_facts.Goals as goal

pub returns : goal.returns
returns c =
    IfOk-weaker c.together-2.result _ _
    (λ made e. both-facts c.args.program.now c.args.sequent.now c.args.depth c.in_ok-n.n c.as_slice.result.now c.in_ok-formulas.formulas c.as_slice-2.result.now c.as_slice-3.result.now c.in_ok-ways.ways c.as_slice-4.result.now
    c.as_slice-5.result.now c.in_ok-all.all c.in_ok-given.given c.as_slice-6.result.now made (c.in_ok-n.ensures ∙ c.len.ensures) c.as_slice.ensures c.in_ok-formulas.ensures c.as_slice-2.ensures c.in_ok-ways.ensures
    c.as_slice-3.ensures c.as_slice-4.ensures c.in_ok-all.ensures c.in_ok-given.ensures c.as_slice-5.ensures c.as_slice-6.ensures e)
    c.together-2.ensures
