-- Texts whose variables are in scope, and that hold no application.
use Rattle.std.specs.Prelude.{ℕ, suc, ◌+◌, Bool, true, ◌&&◌, nat_lt, length}
use Rattle.fst_terms.specs.Terms.{Tm, Tms, t_var, t_int, t_bool, t_unit, t_prim, t_if, t_app, t_let, t_end, t_more}
use Rattle.fst_program.specs.Texts.{Dm, DmArms, d_ret, d_let, d_if, d_match, d_run_f, d_run_g, d_end, d_arm}

-- the term's variables are among the last n, and its applications name functions before k; with 0 for k it holds no application
abbrev mutual
  pub term_within : (n k : ℕ) → Tm → Bool
  term_within n k (t_var i) = nat_lt i n
  term_within n k (t_int m) = true
  term_within n k (t_bool b) = true
  term_within n k t_unit = true
  term_within n k (t_prim op S ts at) = terms_within n k ts
  term_within n k (t_if c t u) = term_within n k c && term_within n k t && term_within n k u
  term_within n k (t_app j S ts) = nat_lt j k && terms_within n k ts
  term_within n k (t_let x t u) = term_within n k t && term_within (suc n) k u

  pub terms_within : (n k : ℕ) → Tms → Bool
  terms_within n k t_end = true
  terms_within n k (t_more t ts) = term_within n k t && terms_within n k ts

-- the variables of definition text are among the last n, and it holds no application
abbrev mutual
  pub dm_within : (n : ℕ) → Dm → Bool
  dm_within n (d_ret t) = term_within n 0 t
  dm_within n (d_let x d1 d2) = dm_within n d1 && dm_within (suc n) d2
  dm_within n (d_if t d1 d2) = term_within n 0 t && dm_within n d1 && dm_within n d2
  dm_within n (d_match t arms) = term_within n 0 t && dm_arms_within n arms
  dm_within n (d_run_f t) = term_within n 0 t
  dm_within n (d_run_g t u) = term_within n 0 t && term_within n 0 u

  pub dm_arms_within : (n : ℕ) → DmArms → Bool
  dm_arms_within n d_end = true
  dm_arms_within n (d_arm c xs d more) = dm_within (length xs + n) d && dm_arms_within n more
