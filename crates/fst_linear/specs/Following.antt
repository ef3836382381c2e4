-- What one more row gives a sum of rows.
use Rattle.std.specs.Prelude.{◌+◌, ◌<◌, List, length, ⊤}
use Rattle.fst_rows.specs.declared.row.Row.{Row}
use Rattle.fst_linear.specs.Refutations.{Refutes}
use Rattle.fst_linear.specs.declared.derivation.Made.{Made}
use Rattle.fst_linear.specs.declared.follow.Followed.{Followed}
use Rattle.fst_linear.specs.declared.follow.Followed.TheVariants.{Sum, Below, Past}
use Rattle.fst_linear.specs.Derivations.{given_rows, made_steps}

-- the sum is a row, or the steps refute the given rows
abbrev pub Follows : List Row → List Made → Followed → Type 0
Follows given made (Sum p) = p.at < length given + length made
Follows given made Below = Refutes (given_rows given) (made_steps made)
Follows given made Past = ⊤
