-- The value of a term with terms put in for its variables.
use Rattle.std.proofs.Common.{◌≡◌, ℕ, zero, suc, List, [], ◌∷◌, map, get_or, Option, Some, None, refl, ap, ap₂, ◌∙◌}
use Rattle.fst_base.specs.declared.op.Op.{Op}
use Rattle.fst_base.specs.declared.op.Op.TheVariants as op
use Rattle.fst_base.specs.Sorts.{Srt}
use Rattle.fst_base.specs.Values.{Val}
use Rattle.fst_base.specs.Primitives.{prim, first, second}
use Rattle.fst_terms.specs.Terms.{Tm, Tms, t_var, t_int, t_bool, t_unit, t_prim, t_if, t_app, t_let, t_end, t_more, listed, shift}
use Rattle.fst_terms.specs.Meaning.{Env, Meaning, value, values, lookup}
use Rattle.fst_terms.specs.Formulas.{component, or_else, make, put, puts}
use Rattle.fst_terms.proofs.TermLemmas.{choice, value_shift, widens_one}

-- the first and the second argument's value
pub first-value : (M : Meaning) (ts : Tms) (e : Env) → value M (get_or (listed ts) 0 t_unit) e ≡ first (values M ts e)
first-value M t_end e = refl
first-value M (t_more t ts) e = refl

pub second-value : (M : Meaning) (ts : Tms) (e : Env) → value M (get_or (listed ts) 1 t_unit) e ≡ second (values M ts e)
second-value M t_end e = refl
second-value M (t_more t t_end) e = refl
second-value M (t_more t (t_more u ts)) e = refl

-- a selector of its own constructor term has the value of the component
module _ (M : Meaning) (e : Env) (S : Srt) where
  -- the term has this value, where there is one
  abbrev Gives : Option Tm → Val → Type 0
  Gives None v = Unit {0}
  Gives (Some t) v = value M t e ≡ v

  component-value : (o : Op) (t : Tm) (vs : List Val) → Gives (component o t) (prim o S (value M t e ∷ vs))
  component-value op.Fst (t_prim op.Pair T ts at) vs = first-value M ts e
  component-value op.Fst t vs = tt
  component-value op.Snd (t_prim op.Pair T ts at) vs = second-value M ts e
  component-value op.Snd t vs = tt
  component-value op.Hd (t_prim op.Cons T ts at) vs = first-value M ts e
  component-value op.Hd t vs = tt
  component-value op.Tl (t_prim op.Cons T ts at) vs = second-value M ts e
  component-value op.Tl t vs = tt
  component-value op.The (t_prim op.Just T ts at) vs = first-value M ts e
  component-value op.The t vs = tt
  component-value op.Outl (t_prim op.Inl T ts at) vs = first-value M ts e
  component-value op.Outl t vs = tt
  component-value op.Outr (t_prim op.Inr T ts at) vs = first-value M ts e
  component-value op.Outr t vs = tt
  component-value o t vs = tt

  first-component : (o : Op) (ts : Tms) → Gives (component o (get_or (listed ts) 0 t_unit)) (prim o S (values M ts e))
  first-component o t_end = no-component o
    where
      no-component : (o : Op) → Gives (component o t_unit) (prim o S [])
      no-component op.Fst = tt
      no-component op.Snd = tt
      no-component op.Hd = tt
      no-component op.Tl = tt
      no-component op.The = tt
      no-component op.Outl = tt
      no-component op.Outr = tt
      no-component o = tt
  first-component o (t_more t ts) = component-value o t (values M ts e)

  pub make-value : (o : Op) (ts : Tms) (at : ℕ) → value M (make o S ts at) e ≡ prim o S (values M ts e)
  make-value o ts at = go (component o (get_or (listed ts) 0 t_unit)) (first-component o ts)
    where
      go : (c : Option Tm) → Gives c (prim o S (values M ts e)) → value M (or_else c (t_prim o S ts at)) e ≡ prim o S (values M ts e)
      go None h = refl
      go (Some u) h = h

-- the values of these terms, each in place of its variable
abbrev pub put_values : Meaning → List Tm → Env → Env
put_values M us e = map (λ u. value M u e) us

pub lookup-values : (M : Meaning) (us : List Tm) (e : Env) (i : ℕ) → value M (get_or us i t_unit) e ≡ lookup (put_values M us e) i
lookup-values M [] e i = refl
lookup-values M (u ∷ us) e zero = refl
lookup-values M (u ∷ us) e (suc i) = lookup-values M us e i

raised-values : (M : Meaning) (us : List Tm) (e : Env) (v : Val) → put_values M (map (shift 0 1) us) (v ∷ e) ≡ put_values M us e
raised-values M [] e v = refl
raised-values M (u ∷ us) e v = ap₂ ◌∷◌ (value_shift M 0 1 u e (v ∷ e) (widens_one e v)) (raised-values M us e v)

mutual
  -- the value of a term with terms put in is its value at theirs
  pub put-value : (M : Meaning) (us : List Tm) (t : Tm) (e : Env) → value M (put us t) e ≡ value M t (put_values M us e)
  put-value M us (t_var i) e = lookup-values M us e i
  put-value M us (t_int n) e = refl
  put-value M us (t_bool b) e = refl
  put-value M us t_unit e = refl
  put-value M us (t_prim o S ts at) e = make-value M e S o (puts us ts) at ∙ ap (prim o S) (puts-values M us ts e)
  put-value M us (t_if c t u) e = choice (put-value M us c e) (put-value M us t e) (put-value M us u e)
  put-value M us (t_app k S ts) e = ap (M k) (puts-values M us ts e)
  put-value M us (t_let x t u) e =
      let v = value M (put us t) e in
      put-value M (t_var 0 ∷ map (shift 0 1) us) u (v ∷ e)
      ∙ ap₂ (λ w e. value M u (w ∷ e)) (put-value M us t e) (raised-values M us e v)

  pub puts-values : (M : Meaning) (us : List Tm) (ts : Tms) (e : Env) → values M (puts us ts) e ≡ values M ts (put_values M us e)
  puts-values M us t_end e = refl
  puts-values M us (t_more t ts) e = ap₂ ◌∷◌ (put-value M us t e) (puts-values M us ts e)
