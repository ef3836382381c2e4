use Rattle.std.proofs.Common.{rules, ◌≡◌, pos, ap}
use Rattle.fst_rows.specs.Exact.{plus, sign}
use Rattle.fst_rows.specs.Plain.{plain_row, coefficients}
use Rattle.fst_rows.proofs.ExactLemmas.{plus-row}
use Rattle.fst_rows.proofs.exact.plus.Goals as goal

pub returns-clause-ordered : goal.returns-clause-ordered
returns-clause-ordered c h k =
    plus-row (pos 1) (coefficients c.args.a.now.coefs) (sign c.args.minus) (coefficients c.args.b.now.coefs) _ _ (ap coefficients c.from_vec.ensures)
    (let e : coefficients c.in_ok-coefs.coefs.items ≡ (plus (plain_row c.args.a.now) c.args.minus (plain_row c.args.b.now)).coefs = search rules in e) h k
