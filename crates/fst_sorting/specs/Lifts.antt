-- The fourth phase: lifts between effects.
use Rattle.std.specs.Prelude.{ℕ, Bool, ◌&&◌, List, [], ◌∷◌, ◌++◌, length, Option, Some, None, slice_get, if◌then◌else◌}
use Rattle.fst_base.specs.declared.rule.Rule.TheVariants as rule
use Rattle.fst_program.specs.declared.effect.Effect.{Effect}
use Rattle.fst_program.specs.declared.effect.Effect.TheVariants as effect
use Rattle.fst_program.specs.Texts.{EffDef, LftDef, is_pure}
use Rattle.fst_program.specs.LiftPaths.{path}
use Rattle.fst_names.specs.declared.broken.Broken.{Broken}
use Rattle.fst_names.specs.Broken.{breaks}
use Rattle.fst_lattice.specs.Tables.{is_there, some_below}
use Rattle.fst_effects.specs.Known.{is_div}

abbrev pub base_at : Option EffDef → Effect
base_at None = effect.Ghost
base_at (Some d) = d.base

module _ (Es : List EffDef) where
  -- behind these lifts the lift makes a second path: some effect leads to its lower end, its upper end to some effect, and the first
  -- leads to the second already
  abbrev pub second_path : (before : List LftDef) → LftDef → Bool
  second_path ls l = some_below (length Es) (λ D. is_there (path ls D l.from) && some_below (length Es) (λ E. is_there (path ls l.«to» E) && is_there (path ls D E)))

  -- a lift goes from base DIV to base PURE, or makes a second path; it stands at its word
  abbrev pub broken_by : (before : List LftDef) → LftDef → (place : ℕ) → List Broken
  broken_by ls l at =
      (if is_div (base_at (slice_get Es l.from)) && is_pure (base_at (slice_get Es l.«to»)) then breaks rule.NoLift at else [])
      ++ (if second_path ls l then breaks rule.TwoPaths at else [])

  abbrev pub broken_lifts : (before : List LftDef) → List LftDef → (places : List ℕ) → List Broken
  broken_lifts ls (l ∷ more) (at ∷ ats) = broken_by ls l at ++ broken_lifts (ls ++ l ∷ []) more ats
  broken_lifts ls _ _ = []
