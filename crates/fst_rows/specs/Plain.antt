-- The rows of the code as plain rows.
use Rattle.std.specs.Prelude.{List, map}
use Rattle.fst_rows.specs.declared.row.Coef.{Coef}
use Rattle.fst_rows.specs.declared.row.Row.{Row}
use Rattle.fst_terms.specs.Rows.{Cf, Rw}

abbrev pub coefficient : Coef → Cf
coefficient c = record { unknown = c.unknown; by = c.by }

abbrev pub coefficients : List Coef → List Cf
coefficients = map coefficient

abbrev pub plain_row : Row → Rw
plain_row r = record { constant = r.constant; coefs = coefficients r.coefs }
