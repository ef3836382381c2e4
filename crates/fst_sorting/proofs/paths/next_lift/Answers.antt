use Rattle.std.proofs.Common.{sym, ap, ◌∙◌, refl}
use Rattle.std.specs.Prelude.{option_map}
use Rattle.std.proofs.lemmas.Option.{slice_get-map, slice_get_past, slice_get_read}
use Rattle.fst_program.specs.Plain.{plain_lift}
use Rattle.fst_sorting.proofs.RouteLemmas.{next-there, next-some, next-within}
use Rattle.fst_sorting.proofs.paths.next_lift.Goals as goal

pub returns-in-None-get-clause-none : goal.returns-in-None-get-clause-none
returns-in-None-get-clause-none c =
    let past = slice_get-map plain_lift c.args.routes.now.lifts.now c.in-Some.number ∙ ap (option_map plain_lift) (slice_get_past c.args.routes.now.lifts.now c.in-Some.number c.in-None-get.ensures.lookup.3) in
    absurd (next-there _ _ _ _ _ _ c.requires.routes c.requires.from c.requires.«to» (sym c.in-Some.ensures) past)

pub returns-in-Some-get-clause-some : goal.returns-in-Some-get-clause-some
returns-in-Some-get-clause-some c =
    let h = c.in-Some-get.ensures.lookup in
    let there = slice_get-map plain_lift c.args.routes.now.lifts.now c.in-Some.number ∙ ap (option_map plain_lift) (slice_get_read c.args.routes.now.lifts.now _ c.in-Some.number c.in-Some-get.lift.now refl h.3.0 h.1) in
    next-some _ _ _ _ _ _ (plain_lift c.in-Some-get.lift.now) c.requires.routes c.requires.from c.requires.«to» (sym c.in-Some.ensures) there

pub returns-in-Some-get-clause-within : goal.returns-in-Some-get-clause-within
returns-in-Some-get-clause-within c =
    let h = c.in-Some-get.ensures.lookup in
    let there = slice_get-map plain_lift c.args.routes.now.lifts.now c.in-Some.number ∙ ap (option_map plain_lift) (slice_get_read c.args.routes.now.lifts.now _ c.in-Some.number c.in-Some-get.lift.now refl h.3.0 h.1) in
    next-within _ _ _ _ (plain_lift c.in-Some-get.lift.now) c.requires.routes there
