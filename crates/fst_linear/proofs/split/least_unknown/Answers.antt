use Rattle.std.proofs.Common.{◌+◌, arith, subst, sym, ap}
use Rattle.fst_terms.specs.Rows.{Rise}
use Rattle.fst_rows.specs.Plain.{coefficients}
use Rattle.fst_linear.specs.Living.{Bounds}
use Rattle.fst_linear.proofs.SplitLemmas.{bounds-more}
use Rattle.fst_linear.proofs.split.least_unknown.Goals as goal

pub loop-i-preserved : goal.loop-i-preserved
loop-i-preserved c =
    let given = c.args.given.now in
    let made = c.args.made.now in
    let from = c.args.from in
    let live = c.args.live.now in
    let n = c.loop-i.i-index in
    let e = ap (λ r. r.coefs) c.row_at.ensures in
    let h = subst (Rise from) (sym e) (c.requires.alive n 0 (omega arith)).rises in
    subst (λ b. Bounds given made from live (n + 1) b) (sym c.lower-best.ensures) (bounds-more given made from live n c.loop-i.best (coefficients c.row_at.result.now.coefs) e h c.loop-i.invariant)
