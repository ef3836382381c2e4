use Rattle.std.proofs.Common.{sym, subst, ◌∙◌}
use Rattle.fst_terms.specs.Flats.{plain_flat, Flt}
use Rattle.fst_terms.specs.Branches.{AllFit}
use Rattle.fst_terms.specs.Marks.{var_sorts}
use Rattle.fst_cases.specs.declared.verdict.Leaf.TheVariants as leaf
use Rattle.fst_cases.proofs.SearchLemmas.{trail-begun, whole-marks, told, root-told}
use Rattle.fst_cases.proofs.search.search.Goals as goal

pub loop-trail-init : goal.loop-trail-init
loop-trail-init g c = trail-begun (plain_flat c.args.flat.now) c.new-arena.result c.new-trail.result c.new-trail.ensures

pub look-requires : goal.look-requires
look-requires g c =
    let whole = whole-marks (plain_flat c.args.flat.now) c.as_slice.result.now c.loop-trail.trail c.fill.new.trail c.as_slice-in-loop-trail.result.now c.as_slice-in-loop-trail-2.result.now c.in_ok-fill.ensures c.as_slice-in-loop-trail.ensures (c.as_slice-in-loop-trail-2.ensures ∙ c.in_ok-marks.ensures) in
    subst (λ (f : Flt). AllFit (var_sorts f) f.atoms c.as_slice-in-loop-trail-2.result.now) (sym c.requires.same) whole.0

pub returns-in-Open : goal.returns-in-Open
returns-in-Open g c =
    let whole = whole-marks (plain_flat c.args.flat.now) c.as_slice.result.now c.loop-trail.trail c.fill.new.trail c.as_slice-in-loop-trail.result.now c.in_ok-marks.marks c.in_ok-fill.ensures c.as_slice-in-loop-trail.ensures c.in_ok-marks.ensures in
    (told _ (plain_flat c.args.flat.now) c.as_slice-in-loop-trail-2.result.now c.in_ok-marks.marks c.in_ok-look.field-0 leaf.Open c.requires.same c.as_slice-in-loop-trail-2.ensures c.in-Open.is c.in_ok-look.ensures, whole.1)

pub returns-in-TooWide : goal.returns-in-TooWide
returns-in-TooWide g c =
    let whole = whole-marks (plain_flat c.args.flat.now) c.as_slice.result.now c.loop-trail.trail c.fill.new.trail c.as_slice-in-loop-trail.result.now c.in_ok-marks.marks c.in_ok-fill.ensures c.as_slice-in-loop-trail.ensures c.in_ok-marks.ensures in
    (told _ (plain_flat c.args.flat.now) c.as_slice-in-loop-trail-2.result.now c.in_ok-marks.marks c.in_ok-look.field-0 leaf.TooWide c.requires.same c.as_slice-in-loop-trail-2.ensures c.in-TooWide.is c.in_ok-look.ensures, whole.1)

pub returns-in-Some : goal.returns-in-Some
returns-in-Some g c =
    root-told (plain_flat c.args.flat.now) c.loop-trail.arena c.refute.new.arena c.as_slice-in-Some.result.now c.fill.new.trail c.refute.new.trail c.in_ok-all-in-Refuted.all c.in-Some.root c.in_ok-lines-in-Refuted.lines
    c.in_ok-all-in-Refuted.ensures c.in-Some.is c.as_slice-in-Some.ensures c.in_ok-lines-in-Refuted.ensures
