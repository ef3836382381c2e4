use Rattle.std.proofs.Common.{rules, ◌≡◌, pos, true, [], ap}
use Rattle.fst_rows.specs.Plain.{plain_row, coefficients}
use Rattle.fst_rows.specs.Sums.{are_wide}
use Rattle.fst_terms.specs.Linear.{scaled}
use Rattle.fst_rows.proofs.ExactLemmas.{multiple-past, past-coefs, plus-row}
use Rattle.fst_rows.proofs.exact.scaled.Goals as goal

pub returns-in_err-coefs-clause-past : goal.returns-in_err-coefs-clause-past
returns-in_err-coefs-clause-past c h =
    let past : are_wide c.args.k (coefficients c.args.a.now.coefs) (pos 0) [] ≡ true = search rules in
    past-coefs (scaled c.args.k (plain_row c.args.a.now)) (multiple-past c.args.k (coefficients c.args.a.now.coefs) past)

pub returns-clause-ordered : goal.returns-clause-ordered
returns-clause-ordered c h =
    plus-row c.args.k (coefficients c.args.a.now.coefs) (pos 0) [] _ _ (ap coefficients c.from_vec.ensures) (let e : coefficients c.in_ok-coefs.coefs.items ≡ (scaled c.args.k (plain_row c.args.a.now)).coefs = search rules in e) h tt
