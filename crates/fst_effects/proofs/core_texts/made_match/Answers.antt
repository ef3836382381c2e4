use Rattle.std.proofs.Common.{ap, ◌∙◌}
use Rattle.std.proofs.lemmas.Result.{IfOk-weaker}
use Rattle.fst_program.specs.Plain.{plain_dm}
use Rattle.fst_effects.proofs.CoreTextLemmas.{plain-Match}
use Rattle.fst_effects.proofs.core_texts.made_match.Goals as goal

pub returns : goal.returns
returns c =
    let parts = c.in_ok-form.ensures.ok in
    IfOk-weaker c.made.result _ _ (λ t e. (c.in_ok-form.form, (c.in_ok-form.arms, (parts.0, parts.1, ap plain_dm e ∙ plain-Match c.in_ok-form.form c.in_ok-form.arms)))) c.made.ensures
