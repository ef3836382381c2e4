use Rattle.fst_rows.specs.Plain.{plain_row}
use Rattle.fst_inequalities.proofs.InequalityLemmas.{inequality-past, inequality-row, making-ok, making-past, rows-missing, rows-ok, rows-past}
use Rattle.fst_inequalities.proofs.rows.row_of.Goals as goal

pub returns-in_err-row : goal.returns-in_err-row
returns-in_err-row c = λ f t u g h.
    rows-past f _ c.from_residual.result _ c.from_residual.ensures.1
    (λ q. inequality-past f t u _ _ g h c.args.less (making-past c.difference.result _ _ c.in_err-row.was (c.difference.ensures g.ordered h.ordered) q))

pub returns-in_err-tighten : goal.returns-in_err-tighten
returns-in_err-tighten c = λ f t u g h. rows-missing f _ c.from_residual-in_err-tighten.result c.from_residual-in_err-tighten.ensures.1

pub returns : goal.returns
returns c = λ f t u g h.
    let made = making-ok c.difference.result _ c.in_ok-row.row c.in_ok-row.was (c.difference.ensures g.ordered h.ordered) in
    rows-ok f _ c.in_ok-tighten.field-0
    (inequality-row f t u _ _ g h c.args.less (plain_row c.in_ok-row.row) (plain_row c.in_ok-tighten.field-0) made.0 made.1.1 c.in_ok-tighten.ensures.is (c.in_ok-tighten.ensures.ordered made.1.0))
