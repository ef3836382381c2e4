use Rattle.std.proofs.Common.{map, ap, ◌∙◌}
use Rattle.fst_flats.specs.Preparing.{sorts_in}
use Rattle.fst_flats.proofs.StepLemmas.{named-from}
use Rattle.fst_terms.specs.Flats.{sorts_of_vars}
use Rattle.fst_terms.specs.Meaning.{plain_var}
use Rattle.fst_flats.proofs.forms.named.Goals as goal

pub returns : goal.returns
returns c =
    let sorts = ap sorts_in c.as_slice-sorts.ensures ∙ c.in_ok-sorts.ensures ∙ ap (λ vs. sorts_of_vars (map plain_var vs)) c.as_slice.ensures in
    named-from (sorts_in c.as_slice-sorts.result.now) c.args.forms.now.vars _ _ _ c.args.forms.now.hyps _ _ c.args.forms.now.facts _ _ _ _ _ c.args.forms.now.goal _ sorts c.in_ok-names.ensures
    c.as_slice-2.ensures c.in_ok-vars.ensures c.as_slice-3.ensures c.in_ok-add_names.ensures c.as_slice-4.ensures c.in_ok-hyps.ensures c.in_ok-goal.ensures c.as_slice-5.ensures c.in_ok-facts.ensures
    c.in_ok-add_name_facts.ensures
