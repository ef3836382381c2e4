use Rattle.std.proofs.Common.{map, ap, ◌∙◌}
use Rattle.std.proofs.lemmas.Result.{IfOk-weaker}
use Rattle.fst_program.specs.Plain.{plain_fun, plain_program}
use Rattle.fst_terms.specs.Terms.{plain_term}
use Rattle.fst_logicfun.proofs.UnfoldLemmas.{unfolded-at}
use Rattle.fst_logicfun.proofs.unfolding.unfolded.Goals as goal

pub returns : goal.returns
returns c =
    IfOk-weaker c.way_facts.result _ _
    (λ made e. unfolded-at (plain_program c.args.program.now) c.args.vars.now _ _ (plain_term c.args.application.now) (plain_fun c.args.fun.now) _ _ (map plain_term c.args.args.now) _ _ (map plain_term made)
    c.in_ok-sorts.ensures c.as_slice.ensures c.own_args-args.ensures (ap plain_term c.get.ensures ∙ c.in_ok-input.ensures) c.in_ok-ends.ensures c.as_slice-2.ensures e)
    c.way_facts.ensures
