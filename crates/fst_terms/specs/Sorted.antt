-- Well-sorted terms.
use Rattle.std.specs.Prelude.{◌≡◌, ℕ, Bool, true, false, not, ◌&&◌, List, [], ◌∷◌, Some, slice_get}
use Rattle.fst_base.specs.Sorts.{Srt, s_unit, s_bool, s_int}
use Rattle.fst_base.specs.Rows.{Fits, is_inner}
use Rattle.fst_terms.specs.Terms.{Tm, Tms, t_var, t_int, t_bool, t_unit, t_prim, t_if, t_app, t_let, t_end, t_more}

-- Applies says which applications there are: of function k to arguments of these sorts, with a result of the sort S
module _ (Applies : (k : ℕ) → List Srt → (S : Srt) → Type 0) where
  -- the term has the sort S, where Ss are the sorts of its variables, the last first
  abbrev mutual
    pub TmSorted : (Ss : List Srt) → Tm → (S : Srt) → Type 0
    TmSorted Ss (t_var i) S = slice_get Ss i ≡ Some S
    TmSorted Ss (t_int n) S = S ≡ s_int
    TmSorted Ss (t_bool b) S = S ≡ s_bool
    TmSorted Ss t_unit S = S ≡ s_unit
    TmSorted Ss (t_prim o T ts at) S = (S ≡ T) × ((Ts : List Srt) × (Fits o Ts T × TmsSorted Ss ts Ts))
    TmSorted Ss (t_if c t u) S = TmSorted Ss c s_bool × TmSorted Ss t S × TmSorted Ss u S
    TmSorted Ss (t_app k T ts) S = (S ≡ T) × ((Ts : List Srt) × (Applies k Ts T × TmsSorted Ss ts Ts))
    TmSorted Ss (t_let x t u) S = (T : Srt) × (TmSorted Ss t T × TmSorted (T ∷ Ss) u S)

    -- these terms have these sorts, each its own
    pub TmsSorted : (Ss : List Srt) → Tms → List Srt → Type 0
    TmsSorted Ss t_end Ts = Ts ≡ []
    TmsSorted Ss (t_more t ts) Ts = (T : Srt) × ((Us : List Srt) × ((Ts ≡ T ∷ Us) × TmSorted Ss t T × TmsSorted Ss ts Us))

-- a term that is run: it holds no application, no let and no selector that no program writes
abbrev mutual
  pub is_run : Tm → Bool
  is_run (t_prim o S ts at) = not (is_inner o) && are_run ts
  is_run (t_if c t u) = is_run c && is_run t && is_run u
  is_run (t_app k S ts) = false
  is_run (t_let x t u) = false
  is_run _ = true

  pub are_run : Tms → Bool
  are_run t_end = true
  are_run (t_more t ts) = is_run t && are_run ts
