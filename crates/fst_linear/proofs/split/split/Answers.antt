use Rattle.std.proofs.Common.{◌≡◌, arith, get_or, pos, ◌<ℤ◌, refl, ap, ◌∙◌}
use Rattle.std.proofs.lemmas.Int.{ints}
use Rattle.fst_terms.specs.Elimination.{coef}
use Rattle.fst_linear.specs.Derivations.{at}
use Rattle.fst_linear.proofs.SplitLemmas.{split-up, split-down, split-zero}
use Rattle.fst_linear.proofs.split.split.Goals as goal

pub loop-i-preserved-then-by-gt0 : goal.loop-i-preserved-then-by-gt0
loop-i-preserved-then-by-gt0 c =
    let i = get_or c.args.live.now c.loop-i.i-index 0 in
    let e = c.coef-by.ensures ∙ ap (λ r. coef r c.args.unknown) c.row_at.ensures in
    let z : pos 0 <ℤ coef (at c.args.given.now c.args.made.now i) c.args.unknown = omega (arith, ints, e, c.if-by-gt0.true) in
    rw c.in_ok-note.ensures (split-up c.args.given.now c.args.made.now c.args.unknown c.args.live.now c.requires c.loop-i.i-index i (omega arith) refl _ _ _ c.loop-i.invariant z)

pub loop-i-preserved-then-by-lt0 : goal.loop-i-preserved-then-by-lt0
loop-i-preserved-then-by-lt0 c =
    let i = get_or c.args.live.now c.loop-i.i-index 0 in
    let e = c.coef-by.ensures ∙ ap (λ r. coef r c.args.unknown) c.row_at.ensures in
    let z : coef (at c.args.given.now c.args.made.now i) c.args.unknown <ℤ pos 0 = omega (arith, ints, e, c.if-by-lt0.true) in
    rw c.in_ok-note-2.ensures (split-down c.args.given.now c.args.made.now c.args.unknown c.args.live.now c.requires c.loop-i.i-index i (omega arith) refl _ _ _ c.loop-i.invariant z)

pub loop-i-preserved : goal.loop-i-preserved
loop-i-preserved c =
    let i = get_or c.args.live.now c.loop-i.i-index 0 in
    let e = c.coef-by.ensures ∙ ap (λ r. coef r c.args.unknown) c.row_at.ensures in
    let z : coef (at c.args.given.now c.args.made.now i) c.args.unknown ≡ pos 0 = omega (arith, ints, e, c.if-by-gt0.false, c.if-by-lt0.false) in
    rw c.in_ok-note-3.ensures (split-zero c.args.given.now c.args.made.now c.args.unknown c.args.live.now c.requires c.loop-i.i-index i (omega arith) refl _ _ _ c.loop-i.invariant z)
