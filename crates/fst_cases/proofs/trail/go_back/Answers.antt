use Rattle.std.proofs.Common.{sym, ◌∙◌}
use Rattle.fst_terms.specs.Flats.{plain_flat}
use Rattle.fst_terms.specs.Terms.{plain_term}
use Rattle.std.proofs.lemmas.List.{length-map}
use Rattle.std.proofs.Common.{arith}
use Rattle.fst_cases.proofs.TrailLemmas.{atom-within, go-unused, go-next, go-closed, go-true-there, go-less-there, mark-read}
use Rattle.fst_cases.proofs.trail.go_back.Goals as goal

pub returns-in_default : goal.returns-in_default
returns-in_default c =
    go-unused (plain_flat c.args.flat.now) c.args.arena.now c.args.trail.now c.args.last c.args.node c.requires.standing c.in_ok-atom.atom c.in_ok-atom.ensures
    (mark-read c.args.arena.now _ _ c.args.node c.in_ok-atom.atom _ c.first_mark.ensures c.core.ensures c.as_slice.ensures ∙ c.in_default.is)

pub is_number-requires-clause-at : goal.is_number-requires-clause-at
is_number-requires-clause-at c =
    let w = atom-within (plain_flat c.args.flat.now) c.args.arena.now c.args.trail.now c.args.last c.args.node c.requires.standing in
    let l = length-map c.args.flat.now.atoms plain_term in
    omega (arith, w, l)

pub closed-requires-clause-on_true : goal.closed-requires-clause-on_true
closed-requires-clause-on_true c = go-true-there (plain_flat c.args.flat.now) c.args.arena.now c.args.trail.now c.args.last c.args.node c.requires.standing c.is_number.result c.in-Some.used (sym c.next_step.ensures ∙ c.in-None.is)

pub closed-requires-clause-on_less : goal.closed-requires-clause-on_less
closed-requires-clause-on_less c = go-less-there (plain_flat c.args.flat.now) c.args.arena.now c.args.trail.now c.args.last c.args.node c.requires.standing

pub returns-in-Some-next_step : goal.returns-in-Some-next_step
returns-in-Some-next_step c = go-next (plain_flat c.args.flat.now) c.args.arena.now c.args.trail.now c.args.last c.args.node c.requires.standing c.is_number.result c.is_number.ensures c.in-Some.used c.in-Some-next_step.step (sym c.next_step.ensures ∙ c.in-Some-next_step.is)

pub returns-in_ok-closed-in-None : goal.returns-in_ok-closed-in-None
returns-in_ok-closed-in-None c =
    go-closed (plain_flat c.args.flat.now) c.args.arena.now c.args.trail.now c.args.last c.args.node c.requires.standing c.is_number.result c.is_number.ensures c.in_ok-atom.atom c.in-Some.used c.closed.new.arena c.in_ok-closed-in-None.field-0 c.in_ok-atom.ensures
    (mark-read c.args.arena.now _ _ c.args.node c.in_ok-atom.atom _ c.first_mark.ensures c.core.ensures c.as_slice.ensures ∙ c.in-Some.is) (sym c.next_step.ensures ∙ c.in-None.is) c.in_ok-closed-in-None.ensures
