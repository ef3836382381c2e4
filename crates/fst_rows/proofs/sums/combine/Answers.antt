use Rattle.std.proofs.Common.{rules, FitsSigned, ◌≡◌, true, false}
use Rattle.std.proofs.lemmas.Int.{to_z-of_z}
use mir.Syntax.{w128}
use Rattle.fst_rows.specs.Plain.{plain_row, coefficients}
use Rattle.fst_rows.specs.Sums.{are_wide}
use Rattle.fst_terms.specs.Rows.{combined}
use Rattle.fst_rows.proofs.RiseLemmas.{combined-row}
use Rattle.fst_rows.proofs.MergeLemmas.{wide-constant, wide-coefs, narrow-row}
use Rattle.fst_rows.proofs.sums.combine.Goals as goal

pub returns-in_err-constant-clause-past : goal.returns-in_err-constant-clause-past
returns-in_err-constant-clause-past c _ =
    let f : FitsSigned w128 c.args.a.now.constant = search rules in
    let g : FitsSigned w128 c.args.b.now.constant = search rules in
    let fp = c.ranges.p in
    let fq = c.ranges.q in
    let m = simp to_z-of_z at c.in_err-constant.ensures in
    wide-constant c.args.p (plain_row c.args.a.now) c.args.q (plain_row c.args.b.now) m

pub returns-in_err-coefs-clause-past : goal.returns-in_err-coefs-clause-past
returns-in_err-coefs-clause-past c h =
    let f : FitsSigned w128 c.args.a.now.constant = search rules in
    let g : FitsSigned w128 c.args.b.now.constant = search rules in
    let fp = c.ranges.p in
    let fq = c.ranges.q in
    let m = simp to_z-of_z at c.in_ok-constant.ensures in
    let past : are_wide c.args.p (coefficients c.args.a.now.coefs) c.args.q (coefficients c.args.b.now.coefs) ≡ true = search rules in
    wide-coefs c.args.p (plain_row c.args.a.now) c.args.q (plain_row c.args.b.now) m.1 past

pub returns-clause-narrow : goal.returns-clause-narrow
returns-clause-narrow c =
    let f : FitsSigned w128 c.args.a.now.constant = search rules in
    let g : FitsSigned w128 c.args.b.now.constant = search rules in
    let fp = c.ranges.p in
    let fq = c.ranges.q in
    let m = simp to_z-of_z at c.in_ok-constant.ensures in
    let narrow : are_wide c.args.p (coefficients c.args.a.now.coefs) c.args.q (coefficients c.args.b.now.coefs) ≡ false = search rules in
    narrow-row c.args.p (plain_row c.args.a.now) c.args.q (plain_row c.args.b.now) m.1 narrow

pub returns-clause-ordered : goal.returns-clause-ordered
returns-clause-ordered c h k =
    let e : plain_row c.in_ok-tightened.field-0 ≡ combined c.args.p (plain_row c.args.a.now) c.args.q (plain_row c.args.b.now) = search rules in
    combined-row c.args.p (plain_row c.args.a.now) c.args.q (plain_row c.args.b.now) (plain_row c.in_ok-tightened.field-0) e h k
