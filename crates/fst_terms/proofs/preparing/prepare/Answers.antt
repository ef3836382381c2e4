use Rattle.std.proofs.Common.{◌≡◌, List, map, ap, ◌∙◌}
use Rattle.fst_base.specs.Sorts.{s_bool}
use Rattle.fst_terms.specs.Terms.{Tm, plain_term, plain_terms}
use Rattle.fst_terms.specs.Indices.{lets_of}
use Rattle.fst_terms.specs.Flats.{plain_flat, flat_of}
use Rattle.fst_terms.specs.Meaning.{plain_sequent}
use Rattle.fst_terms.specs.Preparing.{numbered}
use Rattle.fst_terms.specs.declared.flat.Flat.{Flat}
use Rattle.fst_terms.proofs.PrepareLemmas.{given, goal-cleared, hyps-cleared, no-lets, no-lets-each, no-lets-cleared, no-lets-each-cleared, numbered-flat}
use Rattle.fst_terms.proofs.preparing.prepare.Goals as goal

pub clear-requires : goal.clear-requires
clear-requires c = no-lets _ _ s_bool c.requires.sequent.goal

pub clear_all-requires : goal.clear_all-requires
clear_all-requires c = ap (λ ts. lets_of (plain_terms ts)) c.as_slice-2.ensures ∙ no-lets-each _ _ c.requires.sequent.hyps

pub number-done-requires-clause-formulas : goal.number-done-requires-clause-formulas
number-done-requires-clause-formulas c =
    let cleared = hyps-cleared c.args.sequent.now.hyps c.as_slice-2.result.now c.in_ok-vars-3.formulas c.clear_all.result c.clear_all.ensures c.in_ok-vars-3.ensures.ok.1 c.as_slice-2.ensures in
    no-lets-each-cleared _ c.args.sequent.now.hyps c.in_ok-vars-3.formulas c.requires.sequent.hyps (cleared 0)

pub number-done-requires-clause-goal : goal.number-done-requires-clause-goal
number-done-requires-clause-goal c =
    let cleared = goal-cleared c.args.sequent.now.goal c.in_ok-vars-2.goal c.in_ok-vars-3.goal c.clear.result c.clear.ensures c.in_ok-vars-2.ensures.ok.1 (ap (λ p. p.1) c.in_ok-vars-3.ensures.ok.0) in
    no-lets-cleared _ c.args.sequent.now.goal c.in_ok-vars-3.goal c.requires.sequent.goal (cleared 0)

pub number-done-requires-clause-extra : goal.number-done-requires-clause-extra
number-done-requires-clause-extra c = ap (λ ts. lets_of (plain_terms ts)) c.as_slice-3.ensures ∙ no-lets-each _ _ c.requires.extra

pub returns : goal.returns
returns c =
    let begun : Flat = record { vars = c.in_ok-vars-3.vars; formulas = c.in_ok-vars-3.formulas; hyps = c.in_ok-hyps.hyps; goal = c.in_ok-vars-3.goal; terms = c.new.result; atoms = c.new-2.result } in
    let extra : List Tm = map plain_term c.as_slice-3.result.now in
    let hyps = hyps-cleared c.args.sequent.now.hyps c.as_slice-2.result.now c.in_ok-vars-3.formulas c.clear_all.result c.clear_all.ensures c.in_ok-vars-3.ensures.ok.1 c.as_slice-2.ensures in
    let cleared = goal-cleared c.args.sequent.now.goal c.in_ok-vars-2.goal c.in_ok-vars-3.goal c.clear.result c.clear.ensures c.in_ok-vars-2.ensures.ok.1 (ap (λ p. p.1) c.in_ok-vars-3.ensures.ok.0) in
    let done = given (λ _. plain_flat c.number-done.new.flat ≡ numbered (plain_flat begun) extra) c.number-done.result c.in_ok-flat.field-0-1 c.number-done.ensures c.in_ok-flat.ensures.ok.1 in
    ap plain_flat c.in_ok-flat.ensures.ok.0 ∙ done
    ∙ numbered-flat c.args.sequent.now begun extra (ap (λ p. p.0) c.in_ok-vars-3.ensures.ok.0 ∙ c.in_ok-vars-2.ensures.ok.0 ∙ c.in_ok-vars.ensures ∙ c.as_slice.ensures) (c.in_ok-hyps.ensures ∙ c.len.ensures) hyps cleared c.new.ensures c.new-2.ensures
    ∙ ap (λ ts. flat_of (plain_sequent c.args.sequent.now) (map plain_term ts)) c.as_slice-3.ensures
