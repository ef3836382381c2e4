-- Transformers as plain trees, and their meaning.
use Rattle.std.specs.Prelude.{◌≡◌, ◌⊎◌, ℕ, suc, List, ◌∷◌, map, ⊤}
use Rattle.fst_base.specs.Sorts.{Srt}
use Rattle.fst_base.specs.Values.{Val, Has}
use Rattle.fst_base.specs.Primitives.{first, second}
use Rattle.fst_terms.specs.Terms.{Tm, shift}
use Rattle.fst_terms.specs.Meaning.{Env, Meaning, value, Truth}
use Rattle.fst_program.specs.declared.goal.SiteKind.{SiteKind}
use Rattle.fst_program.specs.declared.goal.Choice.{Choice}

-- the computations of a header
pub data Which : Type 0 where
  hole_f : Which
  hole_g : Which

mutual
  -- w_then puts each result of the first part in for the variable of the second, which has index 0 there
  pub data Wt : Type 0 where
    w_post : Tm → Wt
    w_need : Tm → SiteKind → (place : ℕ) → Wt → Wt
    w_given : Tm → Wt → Wt
    w_fresh : (name : List ℕ) → Srt → Wt → Wt
    w_ways : Wts → Wt
    w_hole : Which → List Tm → (name : List ℕ) → Wt → Wt
    w_hole_tail : Which → List Tm → Wt
    w_then : Wt → (name : List ℕ) → Wt → Wt

  pub data Wts : Type 0 where
    w_none : Wts
    w_way : Choice → Tm → Wt → Wts → Wts

-- what is known of the computations of a header: the inputs on which they are safe, and the results that they demand
pub record Holes : Type 1 where
  pub safe_f : Val → Type 0
  pub demands_f : Val → Val → Type 0
  pub safe_g : Val → Val → Type 0
  pub demands_g : Val → Val → Val → Type 0

-- of a transformer without holes nothing is asked of computations
abbrev pub no_holes : Holes
no_holes = record { safe_f = λ s. ⊤; demands_f = λ s r. ⊥; safe_g = λ v s. ⊤; demands_g = λ v s r. ⊥ }

abbrev pub hole_safe : Holes → Which → List Val → Type 0
hole_safe H hole_f vs = H.safe_f (first vs)
hole_safe H hole_g vs = H.safe_g (first vs) (second vs)

abbrev pub hole_demands : Holes → Which → List Val → Val → Type 0
hole_demands H hole_f vs r = H.demands_f (first vs) r
hole_demands H hole_g vs r = H.demands_g (first vs) (second vs) r

abbrev pub values_of : Meaning → List Tm → Env → List Val
values_of M ts e = map (λ t. value M t e) ts

module _ (M : Meaning) (H : Holes) where
  abbrev mutual
    pub demands : Wt → Env → Val → Type 0
    demands (w_post t) e r = value M t e ≡ r
    demands (w_need phi m at w) e r = demands w e r
    demands (w_given phi w) e r = Truth M phi e × demands w e r
    demands (w_fresh x S w) e r = (v : Val) × (Has S v × demands w (v ∷ e) r)
    demands (w_ways ws) e r = some_demands ws e r
    demands (w_hole h ts x w) e r = (v : Val) × (hole_demands H h (values_of M ts e) v × demands w (v ∷ e) r)
    demands (w_hole_tail h ts) e r = hole_demands H h (values_of M ts e) r
    demands (w_then w1 x w2) e r = (v : Val) × (demands w1 e v × demands w2 (v ∷ e) r)

    -- some way whose condition is true
    pub some_demands : Wts → Env → Val → Type 0
    some_demands w_none e r = ⊥
    some_demands (w_way c phi w more) e r = (Truth M phi e × demands w e r) ⊎ some_demands more e r

  abbrev mutual
    pub safe : Wt → Env → Type 0
    safe (w_post t) e = ⊤
    safe (w_need phi m at w) e = Truth M phi e × safe w e
    safe (w_given phi w) e = Truth M phi e → safe w e
    safe (w_fresh x S w) e = (v : Val) → Has S v → safe w (v ∷ e)
    safe (w_ways ws) e = all_safe ws e
    safe (w_hole h ts x w) e = hole_safe H h (values_of M ts e) × ((v : Val) → hole_demands H h (values_of M ts e) v → safe w (v ∷ e))
    safe (w_hole_tail h ts) e = hole_safe H h (values_of M ts e)
    safe (w_then w1 x w2) e = safe w1 e × ((v : Val) → demands w1 e v → safe w2 (v ∷ e))

    -- each way whose condition is true
    pub all_safe : Wts → Env → Type 0
    all_safe w_none e = ⊤
    all_safe (w_way c phi w more) e = (Truth M phi e → safe w e) × all_safe more e

-- raising the indices that are at least `from`
abbrev mutual
  pub wshift : (from by : ℕ) → Wt → Wt
  wshift from by (w_post t) = w_post (shift from by t)
  wshift from by (w_need phi m at w) = w_need (shift from by phi) m at (wshift from by w)
  wshift from by (w_given phi w) = w_given (shift from by phi) (wshift from by w)
  wshift from by (w_fresh x S w) = w_fresh x S (wshift (suc from) by w)
  wshift from by (w_ways ws) = w_ways (ws_shift from by ws)
  wshift from by (w_hole h ts x w) = w_hole h (map (shift from by) ts) x (wshift (suc from) by w)
  wshift from by (w_hole_tail h ts) = w_hole_tail h (map (shift from by) ts)
  wshift from by (w_then w1 x w2) = w_then (wshift from by w1) x (wshift (suc from) by w2)

  pub ws_shift : (from by : ℕ) → Wts → Wts
  ws_shift from by w_none = w_none
  ws_shift from by (w_way c phi w more) = w_way c (shift from by phi) (wshift from by w) (ws_shift from by more)

-- a transformer without holes
abbrev mutual
  pub IsClosed : Wt → Type 0
  IsClosed (w_post t) = ⊤
  IsClosed (w_need phi m at w) = IsClosed w
  IsClosed (w_given phi w) = IsClosed w
  IsClosed (w_fresh x S w) = IsClosed w
  IsClosed (w_ways ws) = AreClosed ws
  IsClosed (w_hole h ts x w) = ⊥
  IsClosed (w_hole_tail h ts) = ⊥
  IsClosed (w_then w1 x w2) = IsClosed w1 × IsClosed w2

  pub AreClosed : Wts → Type 0
  AreClosed w_none = ⊤
  AreClosed (w_way c phi w more) = IsClosed w × AreClosed more
