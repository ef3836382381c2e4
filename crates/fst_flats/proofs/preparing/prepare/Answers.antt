use Rattle.std.proofs.Common.{map, ap}
use Rattle.fst_flats.specs.Steps.{finished, plain_forms}
use Rattle.fst_flats.proofs.StepLemmas.{made-too, prepared-is}
use Rattle.fst_terms.specs.FlatForms.{flat_of}
use Rattle.fst_terms.specs.Meaning.{plain_sequent}
use Rattle.fst_terms.specs.Terms.{plain_term}
use Rattle.fst_flats.proofs.preparing.prepare.Goals as goal

pub returns : goal.returns
returns c =
    let s = plain_sequent c.args.sequent.now in
    let extra = map plain_term c.args.extra.now in
    made-too c.numbered.result (finished (plain_forms c.in_ok-forms-2.forms)) (flat_of s extra)
    (prepared-is s extra (map plain_term c.as_slice.result.now) (plain_forms c.in_ok-forms.forms) (plain_forms c.in_ok-forms-2.forms) (ap (map plain_term) c.as_slice.ensures) c.in_ok-forms.ensures c.in_ok-forms-2.ensures)
    c.numbered.ensures
