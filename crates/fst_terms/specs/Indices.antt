-- Raising within 32 bits: what the calls that raise indices need.
use Rattle.std.specs.Prelude.{◌≡◌, ℕ, suc, ◌+◌, ◌-◌, ◌^◌, ◌<◌, ◌≤◌, max, min, ⊤}
use Rattle.fst_terms.specs.Terms.{Tm, Tms, t_var, t_int, t_bool, t_unit, t_prim, t_if, t_app, t_let, t_end, t_more}

-- each index that is raised, where those that are at least `from` are, stays below 2^32
abbrev mutual
  pub Raisable : (from by : ℕ) → Tm → Type 0
  Raisable from by (t_var i) = from ≤ i → i + by < 2 ^ 32
  Raisable from by (t_int n) = ⊤
  Raisable from by (t_bool b) = ⊤
  Raisable from by t_unit = ⊤
  Raisable from by (t_prim op S ts at) = AreRaisable from by ts
  Raisable from by (t_if c t u) = Raisable from by c × Raisable from by t × Raisable from by u
  Raisable from by (t_app k S ts) = AreRaisable from by ts
  Raisable from by (t_let x t u) = Raisable from by t × Raisable (suc from) by u

  pub AreRaisable : (from by : ℕ) → Tms → Type 0
  AreRaisable from by t_end = ⊤
  AreRaisable from by (t_more t ts) = Raisable from by t × AreRaisable from by ts

-- the greatest number of lets that a part of the term stands under
abbrev mutual
  pub lets : Tm → ℕ
  lets (t_var i) = 0
  lets (t_int n) = 0
  lets (t_bool b) = 0
  lets t_unit = 0
  lets (t_prim op S ts at) = lets_of ts
  lets (t_if c t u) = max (lets c) (max (lets t) (lets u))
  lets (t_app k S ts) = lets_of ts
  lets (t_let x t u) = max (lets t) (lets u + 1)

  pub lets_of : Tms → ℕ
  lets_of t_end = 0
  lets_of (t_more t ts) = max (lets t) (lets_of ts)

-- the number of 64 bits that stands for n: n itself, or the greatest one where n is greater
abbrev pub Stands : (number n : ℕ) → Type 0
Stands number n = number ≡ min n (2 ^ 64 - 1)
