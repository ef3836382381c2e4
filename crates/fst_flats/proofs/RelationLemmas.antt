-- The atoms of a formula, from the answers for its parts.
use Rattle.std.proofs.Common.{◌≡◌, ℕ, Bool, true, false, not, List, [], ◌∷◌, ◌++◌, map, flat_map, refl, sym, ap, ap₂, ◌∙◌}
use Rattle.std.proofs.lemmas.List.{append-nil, append_assoc}
use Rattle.fst_base.specs.declared.op.Op.{Op}
use Rattle.fst_base.specs.declared.op.Op.TheVariants as op
use Rattle.fst_base.specs.declared.place.Pos.{Pos}
use Rattle.fst_base.specs.declared.sort.Sort.{Sort}
use Rattle.fst_base.specs.Sorts.{Srt, s_bool, plain_sort}
use Rattle.fst_terms.specs.Terms.{Tm, Tms, t_int, t_prim, t_end, t_more, listed, plain_term, plain_terms}
use Rattle.fst_terms.specs.Formulas.{at_most, equation, sort_of}
use Rattle.fst_terms.specs.Naming.{is_data}
use Rattle.fst_terms.specs.Skeletons.{Skl, at_most_form, less_form, numbers_equal, atoms_in, first_atoms, equal, equation_form, skeleton}
use Rattle.fst_terms.specs.declared.term.Term.{Term}
use Rattle.fst_terms.specs.declared.term.Term.TheVariants as T
use Rattle.fst_terms.proofs.PlainLemmas.{plain-term-Prim, plain-term-If}
use Rattle.fst_terms.proofs.FirstsLemmas.{listed-row}
use Rattle.fst_flats.specs.Relations.{atoms_of_formula, is_same, relation}
use Rattle.fst_flats.specs.Sides.{are_literals}
use Rattle.fst_flats.proofs.RoundLemmas.{first_atoms-append}

-- ---- relations

pub literals-equal : (t u : Tm) → are_literals t u ≡ true → atoms_in (numbers_equal t u) ≡ []
literals-equal (t_int m) (t_int n) e = refl
literals-equal (t_int m) u e = cc
literals-equal t u e = cc

pub others-equal : (t u : Tm) → are_literals t u ≡ false → atoms_in (numbers_equal t u) ≡ equation t u ∷ []
others-equal (t_int m) (t_int n) e = cc
others-equal (t_int m) u e = refl
others-equal t u e = refl

pub literals-at_most : (t u : Tm) → are_literals t u ≡ true → atoms_in (at_most_form t u) ≡ []
literals-at_most (t_int m) (t_int n) e = refl
literals-at_most (t_int m) u e = cc
literals-at_most t u e = cc

pub others-at_most : (t u : Tm) → are_literals t u ≡ false → atoms_in (at_most_form t u) ≡ at_most t u ∷ []
others-at_most (t_int m) (t_int n) e = cc
others-at_most (t_int m) u e = refl
others-at_most t u e = refl

pub literals-less : (t u : Tm) → are_literals t u ≡ true → atoms_in (less_form t u) ≡ []
literals-less (t_int m) (t_int n) e = refl
literals-less (t_int m) u e = cc
literals-less t u e = cc

pub others-less : (t u : Tm) → are_literals t u ≡ false → atoms_in (less_form t u) ≡ at_most u t ∷ []
others-less (t_int m) (t_int n) e = cc
others-less (t_int m) u e = refl
others-less t u e = refl

pub ruleset comparisons = (literals-equal, others-equal, literals-at_most, others-at_most, literals-less, others-less)

-- ---- primitives

module _ (Ss : List Srt) where
  form-same : (S : Srt) (p q : Skl) (t u : Tm) → not (is_data S) ≡ true → atoms_in (equation_form S p q t u) ≡ atoms_in p ++ atoms_in q ++ []
  form-same s_bool p q t u e = sym (append-nil (atoms_in p ++ atoms_in q))
  form-same S p q t u e = cc

  form-other : (S : Srt) (p q : Skl) (t u : Tm) → not (is_data S) ≡ false → atoms_in (equation_form S p q t u) ≡ atoms_in (equal S t u)
  form-other s_bool p q t u e = cc
  form-other S p q t u e = refl

  -- an equation of two bools is read through
  pub same-atoms : (o : Op) (S : Srt) (ts : Tms) (at : ℕ) → is_same Ss o ts ≡ true → atoms_of_formula Ss (t_prim o S ts at) ≡ flat_map (atoms_of_formula Ss) (listed ts)
  same-atoms op.Eq S (t_more t (t_more u t_end)) at e =
      form-same (sort_of Ss t) (skeleton Ss t) (skeleton Ss u) t u e ∙ append_assoc (atoms_of_formula Ss t) (atoms_of_formula Ss u) []
  same-atoms op.Eq S t_end at e = cc
  same-atoms op.Eq S (t_more t t_end) at e = cc
  same-atoms op.Eq S (t_more t (t_more u (t_more v ts))) at e = cc
  same-atoms o S ts at e = cc

  -- another primitive is taken apart by its operator
  pub other-atoms : (o : Op) (S : Srt) (ts : Tms) (at : ℕ) → is_same Ss o ts ≡ false → atoms_of_formula Ss (t_prim o S ts at) ≡ atoms_in (relation Ss o ts (t_prim o S ts at))
  other-atoms op.Eq S (t_more t (t_more u t_end)) at e = form-other (sort_of Ss t) (skeleton Ss t) (skeleton Ss u) t u e
  other-atoms op.Eq S t_end at e = refl
  other-atoms op.Eq S (t_more t t_end) at e = refl
  other-atoms op.Eq S (t_more t (t_more u (t_more v ts))) at e = refl
  other-atoms op.Le S t_end at e = refl
  other-atoms op.Le S (t_more t t_end) at e = refl
  other-atoms op.Le S (t_more t (t_more u t_end)) at e = refl
  other-atoms op.Le S (t_more t (t_more u (t_more v ts))) at e = refl
  other-atoms op.Lt S t_end at e = refl
  other-atoms op.Lt S (t_more t t_end) at e = refl
  other-atoms op.Lt S (t_more t (t_more u t_end)) at e = refl
  other-atoms op.Lt S (t_more t (t_more u (t_more v ts))) at e = refl
  other-atoms o S ts at e = refl

  -- ---- as the code goes over them

  pub same-by : (old new : List Tm) (b : Bool) (o : Op) (S : Sort) (ts first second : List Term) (p : Pos) (w : Term) → w ≡ T.Prim o S ts p → first ≡ ts → second ≡ ts
      → b ≡ is_same Ss o (plain_terms first) → b ≡ true → new ≡ first_atoms old (flat_map (atoms_of_formula Ss) (map plain_term second)) → new ≡ first_atoms old (atoms_of_formula Ss (plain_term w))
  same-by old new b o S ts first second p w is ef es d h f =
      let test : is_same Ss o (plain_terms ts) ≡ true = sym (d ∙ ap (λ ts. is_same Ss o (plain_terms ts)) ef) ∙ h in
      f ∙ ap (first_atoms old)
      (ap (λ ts. flat_map (atoms_of_formula Ss) (map plain_term ts)) es ∙ ap (flat_map (atoms_of_formula Ss)) (sym (listed-row (map plain_term ts)))
      ∙ sym (ap (λ t. atoms_of_formula Ss (plain_term t)) is ∙ ap (atoms_of_formula Ss) (plain-term-Prim o S ts p) ∙ same-atoms o (plain_sort S) (plain_terms ts) p.at test))

  pub other-by : (old new : List Tm) (b : Bool) (o : Op) (S : Sort) (ts first second : List Term) (p : Pos) (w : Term) → w ≡ T.Prim o S ts p → first ≡ ts → second ≡ ts
      → b ≡ is_same Ss o (plain_terms first) → b ≡ false → new ≡ first_atoms old (atoms_in (relation Ss o (plain_terms second) (plain_term w))) → new ≡ first_atoms old (atoms_of_formula Ss (plain_term w))
  other-by old new b o S ts first second p w is ef es d h f =
      let test : is_same Ss o (plain_terms ts) ≡ false = sym (d ∙ ap (λ ts. is_same Ss o (plain_terms ts)) ef) ∙ h in
      let open_w : plain_term w ≡ t_prim o (plain_sort S) (plain_terms ts) p.at = ap plain_term is ∙ plain-term-Prim o S ts p in
      f ∙ ap (first_atoms old)
      (ap₂ (λ ts v. atoms_in (relation Ss o (plain_terms ts) v)) es open_w
      ∙ sym (ap (atoms_of_formula Ss) open_w ∙ other-atoms o (plain_sort S) (plain_terms ts) p.at test))

  pub if-by : (old m1 m2 m3 : List Tm) (c t u c' t' u' w : Term) → w ≡ T.If c t u → c' ≡ c → t' ≡ t → u' ≡ u
      → m1 ≡ first_atoms old (atoms_of_formula Ss (plain_term c')) → m2 ≡ first_atoms m1 (atoms_of_formula Ss (plain_term t')) → m3 ≡ first_atoms m2 (atoms_of_formula Ss (plain_term u'))
      → m3 ≡ first_atoms old (atoms_of_formula Ss (plain_term w))
  if-by old m1 m2 m3 c t u c' t' u' w is ec et eu e f g =
      let A : List Tm = atoms_of_formula Ss (plain_term c) in
      let B : List Tm = atoms_of_formula Ss (plain_term t) in
      let C : List Tm = atoms_of_formula Ss (plain_term u) in
      let e' : m1 ≡ first_atoms old A = e ∙ ap (λ t. first_atoms old (atoms_of_formula Ss (plain_term t))) ec in
      let f' : m2 ≡ first_atoms m1 B = f ∙ ap (λ t. first_atoms m1 (atoms_of_formula Ss (plain_term t))) et in
      let g' : m3 ≡ first_atoms m2 C = g ∙ ap (λ t. first_atoms m2 (atoms_of_formula Ss (plain_term t))) eu in
      g' ∙ ap (λ m. first_atoms m C) (f' ∙ ap (λ m. first_atoms m B) e' ∙ sym (first_atoms-append old A B)) ∙ sym (first_atoms-append old (A ++ B) C)
      ∙ ap (first_atoms old) (sym (ap (λ t. atoms_of_formula Ss (plain_term t)) is ∙ ap (atoms_of_formula Ss) (plain-term-If c t u)))
