use Rattle.std.proofs.Common.{map, ap, ◌∙◌}
use Rattle.fst_flats.specs.Preparing.{sorts_in}
use Rattle.fst_flats.specs.Steps.{assembled, finished, plain_forms}
use Rattle.fst_flats.proofs.StepLemmas.{made-too, numbered-from}
use Rattle.fst_terms.specs.Flats.{sorts_of_vars}
use Rattle.fst_terms.specs.Meaning.{plain_var}
use Rattle.fst_flats.proofs.preparing.numbered.Goals as goal

pub returns : goal.returns
returns c =
    let sorts = ap sorts_in c.as_slice-2.ensures ∙ c.in_ok-sorts.ensures ∙ ap (λ vs. sorts_of_vars (map plain_var vs)) c.as_slice.ensures in
    made-too c.assembled.result (assembled c.args.forms c.in_ok-numbering.numbering) (finished (plain_forms c.args.forms))
    (numbered-from c.args.forms c.in_ok-numbering.numbering (sorts_in c.as_slice-2.result.now) sorts c.in_ok-numbering.ensures.facts c.in_ok-numbering.ensures.atoms c.in_ok-numbering.ensures.terms)
    c.assembled.ensures
