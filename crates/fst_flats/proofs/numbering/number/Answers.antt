use Rattle.fst_flats.specs.Preparing.{sorts_in}
use Rattle.fst_flats.specs.Steps.{plain_forms}
use Rattle.fst_flats.proofs.StepLemmas.{added-from, atoms-from}
use Rattle.fst_terms.specs.FlatForms.{formulas}
use Rattle.fst_flats.proofs.numbering.number.Goals as goal

pub returns-clause-facts : goal.returns-clause-facts
returns-clause-facts c =
    let phis = formulas (plain_forms c.args.forms.now) in
    let b = c.in_ok-atoms.ensures in
    added-from (sorts_in c.args.sorts.now) phis _ _ _ c.data_facts.new.atoms c.data_facts.new.terms _ _ _ _ c.as_slice-4.result.now c.gather.new.atoms _ _ _
    b c.as_slice.ensures c.in_ok-lens.ensures c.as_slice-2.ensures (c.in_ok-facts.ensures.facts phis b) (c.in_ok-facts.ensures.atoms phis b) c.as_slice-3.ensures c.in_ok-arranged.ensures
    c.into_terms-facts.ensures c.in_ok-append.ensures.ok

pub returns-clause-atoms : goal.returns-clause-atoms
returns-clause-atoms c =
    let phis = formulas (plain_forms c.args.forms.now) in
    let b = c.in_ok-atoms.ensures in
    atoms-from (sorts_in c.args.sorts.now) phis _ _ _ c.data_facts.new.atoms c.data_facts.new.terms _ _ _ _ c.as_slice-4.result.now c.gather.new.atoms _ _ _
    b c.as_slice.ensures c.in_ok-lens.ensures c.as_slice-2.ensures (c.in_ok-facts.ensures.facts phis b) (c.in_ok-facts.ensures.atoms phis b) c.as_slice-3.ensures c.in_ok-arranged.ensures
    c.into_terms-facts.ensures c.in_ok-append.ensures.ok c.as_slice-4.ensures c.in_ok-gather.ensures.atoms
