-- A well-sorted term of few variables and lets can be raised.
use Rattle.std.proofs.Common.{◌≡◌, ℕ, suc, ◌+◌, ◌^◌, ◌≤◌, max, List, ◌∷◌, length, refl, ap, ap₂, arith}
use Rattle.std.proofs.lemmas.Option.{slice_get_within}
use Rattle.fst_base.specs.Sorts.{Srt}
use Rattle.fst_terms.specs.Terms.{Tm, Tms, t_var, t_int, t_bool, t_unit, t_prim, t_if, t_app, t_let, t_end, t_more, shift, shifts}
use Rattle.fst_terms.specs.Indices.{Raisable, AreRaisable, lets, lets_of}
use Rattle.fst_terms.specs.Sorted.{TmSorted, TmsSorted}

module _ (Applies : ℕ → List Srt → Srt → Type 0) where
  -- no index of the term reaches the number of its variables and of the lets around it
  mutual
    pub Raisable-sorted : (Ss : List Srt) (t : Tm) (S : Srt) (from by : ℕ) → TmSorted Applies Ss t S → length Ss + lets t + by ≤ 2 ^ 32 → Raisable from by t
    Raisable-sorted Ss (t_var i) S from by h le = λ above. let within = slice_get_within Ss i S h in omega arith
    Raisable-sorted Ss (t_int n) S from by h le = tt
    Raisable-sorted Ss (t_bool b) S from by h le = tt
    Raisable-sorted Ss t_unit S from by h le = tt
    Raisable-sorted Ss (t_prim o T ts at) S from by h le = AreRaisable-sorted Ss ts h.1.0 from by h.1.1.1 le
    Raisable-sorted Ss (t_if c t u) S from by h le = (Raisable-sorted Ss c _ from by h.0 (omega arith), Raisable-sorted Ss t S from by h.1 (omega arith), Raisable-sorted Ss u S from by h.2 (omega arith))
    Raisable-sorted Ss (t_app k T ts) S from by h le = AreRaisable-sorted Ss ts h.1.0 from by h.1.1.1 le
    Raisable-sorted Ss (t_let x t u) S from by h le = (Raisable-sorted Ss t h.0 from by h.1.0 (omega arith), Raisable-sorted (h.0 ∷ Ss) u S (suc from) by h.1.1 (omega arith))

    AreRaisable-sorted : (Ss : List Srt) (ts : Tms) (Ts : List Srt) (from by : ℕ) → TmsSorted Applies Ss ts Ts → length Ss + lets_of ts + by ≤ 2 ^ 32 → AreRaisable from by ts
    AreRaisable-sorted Ss t_end Ts from by h le = tt
    AreRaisable-sorted Ss (t_more t ts) Ts from by h le = (Raisable-sorted Ss t h.0 from by h.1.1.1 (omega arith), AreRaisable-sorted Ss ts h.1.0 from by h.1.1.2 (omega arith))

-- raising leaves the lets
mutual
  pub lets-shift : (from by : ℕ) (t : Tm) → lets (shift from by t) ≡ lets t
  lets-shift from by (t_var i) = refl
  lets-shift from by (t_int n) = refl
  lets-shift from by (t_bool b) = refl
  lets-shift from by t_unit = refl
  lets-shift from by (t_prim o S ts at) = lets_of-shifts from by ts
  lets-shift from by (t_if c t u) = ap₂ max (lets-shift from by c) (ap₂ max (lets-shift from by t) (lets-shift from by u))
  lets-shift from by (t_app k S ts) = lets_of-shifts from by ts
  lets-shift from by (t_let x t u) = ap₂ max (lets-shift from by t) (ap (λ n. n + 1) (lets-shift (suc from) by u))

  lets_of-shifts : (from by : ℕ) (ts : Tms) → lets_of (shifts from by ts) ≡ lets_of ts
  lets_of-shifts from by t_end = refl
  lets_of-shifts from by (t_more t ts) = ap₂ max (lets-shift from by t) (lets_of-shifts from by ts)
