-- A propositional sequent is valid exactly where no branch of its flat form is open.
use Rattle.std.proofs.Common.{◌≡◌, ℕ, zero, suc, Bool, true, false, if◌then◌else◌, List, [], ◌∷◌, ◌++◌, slice_get, Option, Some, refl, sym, ap, ap₂, ◌∙◌, subst}
use Rattle.std.specs.Prelude.{⊤}
use Rattle.std.proofs.lemmas.Option.{get_or_from_slice_get}
use Rattle.fst_base.specs.declared.op.Op.TheVariants as op
use Rattle.fst_base.specs.Sorts.{Srt, s_unit, s_bool}
use Rattle.fst_base.specs.Values.{Val, v_unit, v_bool, Has, HasSorts, same, same_bool}
use Rattle.fst_base.specs.Primitives.{is_true}
use Rattle.fst_terms.specs.Terms.{Tm, t_var, t_int, t_bool, t_unit, t_prim, t_if, t_app, t_let, t_end, t_more}
use Rattle.fst_terms.specs.Meaning.{Env, Meaning, value, lookup}
use Rattle.fst_terms.specs.Formulas.{sort_of}
use Rattle.fst_terms.specs.Flats.{cleared, atoms_in, chosen, agree, equation_atoms, equation_reading, reading}
use Rattle.fst_terms.specs.Propositional.{SortPropositional, TmPropositional}

-- ---- sorts and values

pub sort-is : (Ss : List Srt) (t : Tm) (S : Srt) → TmPropositional Ss t S → sort_of Ss t ≡ S
sort-is Ss (t_var i) S h = get_or_from_slice_get Ss i S s_unit h
sort-is Ss (t_int n) S h = absurd h
sort-is Ss (t_bool b) S h = sym h
sort-is Ss t_unit S h = sym h
sort-is Ss (t_prim op.Eq T (t_more t (t_more u t_end)) at) S h = h.1 ∙ sym h.0
sort-is Ss (t_prim o T ts at) S h = absurd h
sort-is Ss (t_if c t u) S h = sort-is Ss t s_bool h.2 ∙ sym h.0
sort-is Ss (t_app k T ts) S h = absurd h
sort-is Ss (t_let x t u) S h = absurd h

var-has : (Ss : List Srt) (i : ℕ) (S : Srt) (e : Env) → slice_get Ss i ≡ Some S → HasSorts Ss e → Has S (lookup e i)
var-has [] i S e q h = cc
var-has (T ∷ Ss) i S [] q h = absurd h
var-has (T ∷ Ss) zero S (v ∷ e) q h = let p : T ≡ S = cc in subst (λ X. Has X v) p h.0
var-has (T ∷ Ss) (suc i) S (v ∷ e) q h = var-has Ss i S e q h.1

module _ (M : Meaning) (Ss : List Srt) (e : Env) (have : HasSorts Ss e) where
  if-has : (x : Bool) (S : Srt) (v w : Val) → Has S v → Has S w → Has S (if x then v else w)
  if-has true S v w h k = h
  if-has false S v w h k = k

  pub value-has : (t : Tm) (S : Srt) → TmPropositional Ss t S → Has S (value M t e)
  value-has (t_var i) S h = var-has Ss i S e h have
  value-has (t_int n) S h = absurd h
  value-has (t_bool b) S h = subst (λ X. Has X (v_bool b)) (sym h) tt
  value-has t_unit S h = subst (λ X. Has X v_unit) (sym h) tt
  value-has (t_prim op.Eq T (t_more t (t_more u t_end)) at) S h = subst (λ X. Has X (v_bool (same (value M t e) (value M u e)))) (sym h.0) tt
  value-has (t_prim o T ts at) S h = absurd h
  value-has (t_if c t u) S h = if-has (is_true (value M c e)) S _ _ (value-has t S (subst (TmPropositional Ss t) (sym h.0) h.2)) (value-has u S (subst (TmPropositional Ss u) (sym h.0) h.3))
  value-has (t_app k T ts) S h = absurd h
  value-has (t_let x t u) S h = absurd h

pub bool-value : (v : Val) → Has s_bool v → v ≡ v_bool (is_true v)
bool-value (v_bool b) h = refl
bool-value v h = absurd h

pub unit-value : (v : Val) → Has s_unit v → v ≡ v_unit
unit-value v_unit h = refl
unit-value v h = absurd h

-- ---- places are of no account

pub cleared-propositional : (Ss : List Srt) (n : ℕ) (t : Tm) (S : Srt) → TmPropositional Ss t S → TmPropositional Ss (cleared n t) S
cleared-propositional Ss n (t_var i) S h = h
cleared-propositional Ss n (t_int i) S h = h
cleared-propositional Ss n (t_bool b) S h = h
cleared-propositional Ss n t_unit S h = h
cleared-propositional Ss n (t_prim op.Eq T (t_more t (t_more u t_end)) at) S h = (h.0, h.1, (h.2.0, (h.2.1.0, cleared-propositional Ss n t h.2.0 h.2.1.1, cleared-propositional Ss n u h.2.0 h.2.1.2)))
cleared-propositional Ss n (t_prim o T ts at) S h = absurd h
cleared-propositional Ss n (t_if c t u) S h = (h.0, cleared-propositional Ss n c s_bool h.1, cleared-propositional Ss n t s_bool h.2, cleared-propositional Ss n u s_bool h.3)
cleared-propositional Ss n (t_app k T ts) S h = absurd h
cleared-propositional Ss n (t_let x t u) S h = absurd h

pub cleared-value : (M : Meaning) (Ss : List Srt) (n : ℕ) (t : Tm) (S : Srt) (e : Env) → TmPropositional Ss t S → value M (cleared n t) e ≡ value M t e
cleared-value M Ss n (t_var i) S e h = refl
cleared-value M Ss n (t_int i) S e h = refl
cleared-value M Ss n (t_bool b) S e h = refl
cleared-value M Ss n t_unit S e h = refl
cleared-value M Ss n (t_prim op.Eq T (t_more t (t_more u t_end)) at) S e h = ap₂ (λ v w. v_bool (same v w)) (cleared-value M Ss n t h.2.0 e h.2.1.1) (cleared-value M Ss n u h.2.0 e h.2.1.2)
cleared-value M Ss n (t_prim o T ts at) S e h = absurd h
cleared-value M Ss n (t_if c t u) S e h = rw (cleared-value M Ss n c s_bool e h.1, cleared-value M Ss n t s_bool e h.2, cleared-value M Ss n u s_bool e h.3) refl
cleared-value M Ss n (t_app k T ts) S e h = absurd h
cleared-value M Ss n (t_let x t u) S e h = absurd h

-- ---- what a formula is under marks that agree with an environment

chosen-some : (a b c : Bool) → chosen (Some a) (Some b) (Some c) ≡ Some (if a then b else c)
chosen-some true b c = refl
chosen-some false b c = refl

if-true : (a : Bool) (v w : Val) → is_true (if a then v else w) ≡ (if a then is_true v else is_true w)
if-true true v w = refl
if-true false v w = refl

module _ (M : Meaning) (Ss : List Srt) (e : Env) (have : HasSorts Ss e) (look : Tm → Option Bool) where
  -- the marks of these atoms are the truth values that they have
  abbrev pub Agrees : List Tm → Type 0
  Agrees [] = ⊤
  Agrees (t ∷ ts) = (look t ≡ Some (is_true (value M t e))) × Agrees ts

  agrees-left : (ts us : List Tm) → Agrees (ts ++ us) → Agrees ts
  agrees-left [] us h = tt
  agrees-left (t ∷ ts) us h = (h.0, agrees-left ts us h.1)

  agrees-right : (ts us : List Tm) → Agrees (ts ++ us) → Agrees us
  agrees-right [] us h = h
  agrees-right (t ∷ ts) us h = agrees-right ts us h.1

  equal-bools : (v w : Val) → Has s_bool v → Has s_bool w → same_bool (is_true v) (is_true w) ≡ same v w
  equal-bools (v_bool a) (v_bool b) h k = refl
  equal-bools (v_bool a) w h k = absurd k
  equal-bools v w h k = absurd h

  equal-units : (v w : Val) → Has s_unit v → Has s_unit w → true ≡ same v w
  equal-units v_unit v_unit h k = refl
  equal-units v_unit w h k = absurd k
  equal-units v w h k = absurd h

  equation-reads : (T : Srt) (t u : Tm) (at : ℕ) (U : Srt) → SortPropositional U → TmPropositional Ss t U → TmPropositional Ss u U
      → (U ≡ s_bool → (reading Ss look t ≡ Some (is_true (value M t e))) × (reading Ss look u ≡ Some (is_true (value M u e))))
      → reading Ss look (t_prim op.Eq T (t_more t (t_more u t_end)) at) ≡ Some (same (value M t e) (value M u e))
  equation-reads T t u at s_bool p h k r =
      let q = r refl in
      ap (λ S. equation_reading S (agree (reading Ss look t) (reading Ss look u)) (look (t_prim op.Eq T (t_more t (t_more u t_end)) at))) (sort-is Ss t s_bool h) ∙ ap₂ agree q.0 q.1 ∙ ap Some (equal-bools (value M t e) (value M u e) (value-has M Ss e have t s_bool h) (value-has M Ss e have u s_bool k))
  equation-reads T t u at s_unit p h k r =
      ap (λ S. equation_reading S (agree (reading Ss look t) (reading Ss look u)) (look (t_prim op.Eq T (t_more t (t_more u t_end)) at))) (sort-is Ss t s_unit h) ∙ ap Some (equal-units (value M t e) (value M u e) (value-has M Ss e have t s_unit h) (value-has M Ss e have u s_unit k))
  equation-reads T t u at U p h k r = absurd p

  -- the atoms of an equation of bools
  equation-atoms : (T : Srt) (t u : Tm) (at : ℕ) → TmPropositional Ss t s_bool → Agrees (atoms_in Ss (t_prim op.Eq T (t_more t (t_more u t_end)) at)) → Agrees (atoms_in Ss t ++ atoms_in Ss u)
  equation-atoms T t u at h a = subst (λ S. Agrees (equation_atoms S (atoms_in Ss t ++ atoms_in Ss u) (t_prim op.Eq T (t_more t (t_more u t_end)) at))) (sort-is Ss t s_bool h) a

  pub reading-is : (t : Tm) → TmPropositional Ss t s_bool → Agrees (atoms_in Ss t) → reading Ss look t ≡ Some (is_true (value M t e))
  reading-is (t_var i) h a = a.0
  reading-is (t_int n) h a = absurd h
  reading-is (t_bool b) h a = refl
  reading-is t_unit h a = cc
  reading-is (t_prim op.Eq T (t_more t (t_more u t_end)) at) h a = equation-reads T t u at h.2.0 h.2.1.0 h.2.1.1 h.2.1.2 λ e1.
      let ht : TmPropositional Ss t s_bool = subst (TmPropositional Ss t) e1 h.2.1.1 in
      let hu : TmPropositional Ss u s_bool = subst (TmPropositional Ss u) e1 h.2.1.2 in
      let both = equation-atoms T t u at ht a in
      (reading-is t ht (agrees-left (atoms_in Ss t) (atoms_in Ss u) both), reading-is u hu (agrees-right (atoms_in Ss t) (atoms_in Ss u) both))
  reading-is (t_prim o T ts at) h a = absurd h
  reading-is (t_if c t u) h a =
      let front = agrees-left (atoms_in Ss c ++ atoms_in Ss t) (atoms_in Ss u) a in
      rw (reading-is c h.1 (agrees-left (atoms_in Ss c) (atoms_in Ss t) front), reading-is t h.2 (agrees-right (atoms_in Ss c) (atoms_in Ss t) front), reading-is u h.3 (agrees-right (atoms_in Ss c ++ atoms_in Ss t) (atoms_in Ss u) a))
      (chosen-some _ _ _ ∙ ap Some (sym (if-true (is_true (value M c e)) (value M t e) (value M u e))))
  reading-is (t_app k T ts) h a = absurd h
  reading-is (t_let x t u) h a = absurd h
