use Rattle.std.proofs.Common.{arith, rules, subst}
use Rattle.std.proofs.lemmas.List.Elements.{All-more}
use Rattle.fst_rows.specs.declared.row.Row.{Row}
use Rattle.fst_rows.specs.Plain.{plain_row}
use Rattle.fst_terms.specs.Rows.{SolvesOver}
use Rattle.fst_linear.specs.Values.{values_of}
use Rattle.fst_linear.proofs.solution.solves.Goals as goal

pub loop-row-preserved : goal.loop-row-preserved
loop-row-preserved c =
    let P = λ (r : Row). SolvesOver c.args.scale (values_of c.args.values.now) (plain_row r) in
    let h : P c.row-item.result = c.if-not-solves_one.ensures (search rules) in
    All-more P c.args.rows.now c.loop-row.row-index c.row-item.result (omega arith) c.loop-row.invariant (subst P c.row-item.is h)
