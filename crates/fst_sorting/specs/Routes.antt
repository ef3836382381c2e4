-- What the table of paths is made of.
use Rattle.std.specs.Prelude.{◌≡◌, ℕ, ◌<◌, List, [], map, Option, None, Some}
use Rattle.fst_program.specs.Plain.{plain_lift}
use Rattle.fst_program.specs.Texts.{LftDef}
use Rattle.fst_program.specs.LiftPaths.{IsPath, path}
use Rattle.fst_lattice.specs.Lattices.{AreWithin, first_of}
use Rattle.fst_lattice.specs.Tables.{step_in}
use Rattle.fst_sorting.specs.declared.paths.Routes as R

-- The lifts are between the first n effects, the table of paths has each path, and these are the first lifts of the paths.
pub record Leads (n : ℕ) (ls : List LftDef) (step : ℕ → ℕ → Option ℕ) : Type 0 where
  pub within : AreWithin n ls
  pub sure : (D E : ℕ) (ns : List ℕ) → IsPath ls D ns E → path ls D E ≡ Some ns
  pub first : (D E : ℕ) → D < n → E < n → step D E ≡ first_of (path ls D E)

abbrev pub AreRoutes : R.Routes → Type 0
AreRoutes r = Leads r.count (map plain_lift r.lifts.now) (step_in r.lattice.now)

-- the path from an effect to another
abbrev pub way : R.Routes → (D E : ℕ) → Option (List ℕ)
way r = path (map plain_lift r.lifts.now)

-- the lifts on the path, where there is one
abbrev pub lifts_on : Option (List ℕ) → List ℕ
lifts_on None = []
lifts_on (Some ns) = ns
