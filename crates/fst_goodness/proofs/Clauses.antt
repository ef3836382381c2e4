-- Clauses on terms and on values: refinements, requires, ensures, measures.
use Rattle.std.proofs.Common.{◌≡◌, Bool, true, false, if◌then◌else◌, List, [], ◌∷◌, ◌++◌, map, reverse, Option, Some, None, refl, sym, ap, ap₂, ◌∙◌, subst, ◌⊎◌, inl, inr, pos}
use Rattle.std.specs.Prelude.{⊤, int_lt, int_le}
use mathlib.Core.List.{reverse_aux}
use Rattle.fst_base.specs.Values.{Val, v_bool, same}
use Rattle.fst_base.specs.Primitives.{is_true, int_of}
use Rattle.fst_base.proofs.ValueLemmas.{same-decides}
use Rattle.fst_terms.specs.Terms.{Tm, row}
use Rattle.fst_terms.specs.Meaning.{Env, Meaning, value, values, Truth, AllTrue}
use Rattle.fst_terms.specs.Formulas.{both, either, joined, equation, at_most, less, nought, floors, descends, decrease, put}
use Rattle.fst_terms.proofs.PutLemmas.{put_values, put-value}
use Rattle.fst_program.specs.declared.effect.Effect.{Effect}
use Rattle.fst_program.specs.Texts.{Prm, Fn, is_user}
use Rattle.fst_program.specs.Good.{clause_env, IfGiven, Refined, Pre}
use Rattle.fst_program.specs.Paths.{clause_terms, given, refinements, demands_of, measures_at}
use Rattle.fst_program.proofs.Ways.{true-value}

-- ---- connectives

if-both : (x : Bool) (a : Val) → (if x then a else v_bool false) ≡ v_bool true → (x ≡ true) × (a ≡ v_bool true)
if-both true a q = (refl, q)
if-both false a q = cc

if-either : (x : Bool) (a : Val) → (if x then v_bool true else a) ≡ v_bool true → (x ≡ true) ⊎ (a ≡ v_bool true)
if-either true a q = inl refl
if-either false a q = inr q

module _ (M : Meaning) (e : Env) where
  both-true : (p q : Tm) → Truth M (both p q) e → Truth M p e × Truth M q e
  both-true p q h = let r = if-both (is_true (value M p e)) (value M q e) h in (true-value (value M p e) r.0, r.1)

  either-true : (p q : Tm) → Truth M (either p q) e → Truth M p e ⊎ Truth M q e
  either-true p q h = go (if-either (is_true (value M p e)) (value M q e) h)
    where
      go : (is_true (value M p e) ≡ true) ⊎ (value M q e ≡ v_bool true) → Truth M p e ⊎ Truth M q e
      go (inl r) = inl (true-value (value M p e) r)
      go (inr r) = inr r

  pub joined-true : (phis : List Tm) → Truth M (joined phis) e → AllTrue M phis e
  joined-true [] h = tt
  joined-true (p ∷ []) h = (h, tt)
  joined-true (p ∷ q ∷ ps) h = let r = both-true p (joined (q ∷ ps)) h in (r.0, joined-true (q ∷ ps) r.1)

  pub true-left : (phis psis : List Tm) → AllTrue M (phis ++ psis) e → AllTrue M phis e
  true-left [] psis h = tt
  true-left (phi ∷ phis) psis h = (h.0, true-left phis psis h.1)

  pub true-right : (phis psis : List Tm) → AllTrue M (phis ++ psis) e → AllTrue M psis e
  true-right [] psis h = h
  true-right (phi ∷ phis) psis h = true-right phis psis h.1

  pub true-both : (phis psis : List Tm) → AllTrue M phis e → AllTrue M psis e → AllTrue M (phis ++ psis) e
  true-both [] psis h k = k
  true-both (phi ∷ phis) psis h k = (h.0, true-both phis psis h.1 k)

-- ---- measures

-- each is at least 0
abbrev pub Floors : List Val → Type 0
Floors [] = ⊤
Floors (v ∷ vs) = (int_le (pos 0) (int_of v) ≡ true) × Floors vs

-- the new ones come before the old ones in lexicographic order
abbrev pub Descends : (new old : List Val) → Type 0
Descends (n ∷ []) (o ∷ os) = int_lt (int_of n) (int_of o) ≡ true
Descends (n ∷ m ∷ ns) (o ∷ os) = (int_lt (int_of n) (int_of o) ≡ true) ⊎ ((n ≡ o) × Descends (m ∷ ns) os)
Descends _ _ = ⊥

bool-is : (x y : Bool) → v_bool x ≡ v_bool y → x ≡ y
bool-is x y q = cc

module _ (M : Meaning) (e : Env) where
  floors-hold : (ns : List Tm) → AllTrue M (map (at_most nought) ns) e → Floors (put_values M ns e)
  floors-hold [] h = tt
  floors-hold (n ∷ ns) h = (bool-is _ true h.0, floors-hold ns h.1)

  descends-holds : (ns os : List Tm) → Truth M (descends ns os) e → Descends (put_values M ns e) (put_values M os e)
  descends-holds [] os h = let x : v_bool false ≡ v_bool true = h in cc
  descends-holds (n ∷ []) [] h = let x : v_bool false ≡ v_bool true = h in cc
  descends-holds (n ∷ []) (o ∷ os) h = bool-is _ true h
  descends-holds (n ∷ m ∷ ns) [] h = let x : v_bool false ≡ v_bool true = h in cc
  descends-holds (n ∷ m ∷ ns) (o ∷ os) h = go (either-true M e (less n o) (both (equation n o) (descends (m ∷ ns) os)) h) (descends-holds (m ∷ ns) os)
    where
      go : Truth M (less n o) e ⊎ Truth M (both (equation n o) (descends (m ∷ ns) os)) e → (Truth M (descends (m ∷ ns) os) e → Descends (put_values M (m ∷ ns) e) (put_values M os e)) → Descends (put_values M (n ∷ m ∷ ns) e) (put_values M (o ∷ os) e)
      go (inl r) ih = inl (bool-is _ true r)
      go (inr r) ih =
          let two = both-true M e (equation n o) (descends (m ∷ ns) os) r in
          inr ((same-decides (value M n e) (value M o e)).0 (bool-is (same (value M n e) (value M o e)) true two.0), ih two.1)

  pub decrease-holds : (ns os : List Tm) → Truth M (decrease ns os) e → Floors (put_values M ns e) × Descends (put_values M ns e) (put_values M os e)
  decrease-holds ns os h = let two = both-true M e (floors ns) (descends ns os) h in (floors-hold ns (joined-true M e (map (at_most nought) ns) two.0), descends-holds ns os two.1)

-- ---- clauses

module _ (M : Meaning) (e : Env) where
  put-turned : (ts us : List Tm) → put_values M (reverse_aux ts us) e ≡ reverse_aux (put_values M ts e) (put_values M us e)
  put-turned [] us = refl
  put-turned (t ∷ ts) us = put-turned ts (t ∷ us)

  pub put-reversed : (ts : List Tm) → put_values M (reverse ts) e ≡ reverse (put_values M ts e)
  put-reversed ts = put-turned ts []

  pub clause-values : (x : Effect) (ts : List Tm) (s : Tm) → put_values M (clause_terms x ts s) e ≡ clause_env x (put_values M ts e) (value M s e)
  clause-values x ts s = go (is_user x)
    where
      go : (b : Bool) → put_values M (if b then s ∷ reverse ts else reverse ts) e ≡ (if b then value M s e ∷ reverse (put_values M ts e) else reverse (put_values M ts e))
      go true = ap (λ vs. value M s e ∷ vs) (put-reversed ts)
      go false = put-reversed ts

  pub given-out : (phi : Option Tm) (us : List Tm) → AllTrue M (given phi us) e → IfGiven M phi (put_values M us e)
  given-out None us h = tt
  given-out (Some phi) us h = sym (put-value M us phi e) ∙ h.0

  pub given-in : (phi : Option Tm) (us : List Tm) → IfGiven M phi (put_values M us e) → AllTrue M (given phi us) e
  given-in None us h = tt
  given-in (Some phi) us h = (put-value M us phi e ∙ h, tt)

  refined-out : (ps : List Prm) (ts us : List Tm) → AllTrue M (refinements ps ts us) e → Refined M ps (put_values M ts e) (put_values M us e)
  refined-out [] ts us h = tt
  refined-out (p ∷ ps) [] us h = tt
  refined-out (p ∷ ps) (t ∷ ts) us h = (given-out p.refine (t ∷ us) (true-left M e (given p.refine (t ∷ us)) _ h), refined-out ps ts (t ∷ us) (true-right M e (given p.refine (t ∷ us)) _ h))

  refined-in : (ps : List Prm) (ts us : List Tm) → Refined M ps (put_values M ts e) (put_values M us e) → AllTrue M (refinements ps ts us) e
  refined-in [] ts us h = tt
  refined-in (p ∷ ps) [] us h = tt
  refined-in (p ∷ ps) (t ∷ ts) us h = true-both M e (given p.refine (t ∷ us)) _ (given-in p.refine (t ∷ us) h.0) (refined-in ps ts (t ∷ us) h.1)

  -- refinements and requires
  pub demands-out : (g : Fn) (ts : List Tm) (s : Tm) → AllTrue M (demands_of g ts s) e → Pre M g (put_values M ts e) (value M s e)
  demands-out g ts s h = (
    refined-out g.params ts [] (true-left M e (refinements g.params ts []) _ h),
    subst (IfGiven M g.needs) (clause-values g.effect ts s) (given-out g.needs (clause_terms g.effect ts s) (true-right M e (refinements g.params ts []) _ h)),
  )

  pub demands-in : (g : Fn) (ts : List Tm) (s : Tm) → Pre M g (put_values M ts e) (value M s e) → AllTrue M (demands_of g ts s) e
  demands-in g ts s h = true-both M e (refinements g.params ts []) _ (refined-in g.params ts [] h.0) (given-in g.needs (clause_terms g.effect ts s) (subst (IfGiven M g.needs) (sym (clause-values g.effect ts s)) h.1))

  pub row-values : (ts : List Tm) → values M (row ts) e ≡ put_values M ts e
  row-values [] = refl
  row-values (t ∷ ts) = ap (λ vs. value M t e ∷ vs) (row-values ts)

-- the values of a function's measures
abbrev pub measures_of : Meaning → Fn → List Val → List Val
measures_of M g vs = map (λ m. value M m (reverse vs)) g.measures

pub measure-values : (M : Meaning) (e : Env) (g : Fn) (ts : List Tm) → put_values M (measures_at g ts) e ≡ measures_of M g (put_values M ts e)
measure-values M e g ts = go g.measures
  where
    go : (ms : List Tm) → put_values M (map (put (reverse ts)) ms) e ≡ map (λ m. value M m (reverse (put_values M ts e))) ms
    go [] = refl
    go (m ∷ ms) = ap₂ ◌∷◌ (put-value M (reverse ts) m e ∙ ap (value M m) (put-reversed M e ts)) (go ms)
