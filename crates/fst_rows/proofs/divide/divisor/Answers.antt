use Rattle.std.proofs.Common.{arith, rules, get_or, ◌-◌, pos, FitsSigned}
use Rattle.std.proofs.lemmas.Int.{to_z-of_z}
use mir.Syntax.{w128}
use Rattle.fst_rows.specs.declared.row.Coef.{Coef}
use Rattle.fst_rows.proofs.DivisorLemmas.{divisor-one_more}
use Rattle.fst_rows.proofs.divide.divisor.Goals as goal

pub loop-at-preserved : goal.loop-at-preserved
loop-at-preserved c =
    let d : Coef = record { unknown = 0; by = pos 0 } in
    let f : FitsSigned w128 (get_or c.args.coefs.now (c.loop-at.at - 1) d).by = search rules in
    let h = simp to_z-of_z at c.unsigned_abs.ensures.value in
    (omega (arith, c.loop-at.invariant.0), divisor-one_more c.args.coefs.now c.loop-at.at _ _ _ d (omega arith) c.loop-at.invariant.0 h c.loop-at.invariant.1 c.gcd-so_far.ensures)
