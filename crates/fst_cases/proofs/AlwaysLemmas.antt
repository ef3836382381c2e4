-- The equations that are found are those that hold whatever the marks.
use Rattle.std.proofs.Common.{◌≡◌, ◌⊎◌, inl, inr, ℕ, zero, suc, ◌+◌, ◌-◌, ◌<◌, ◌≤◌, Bool, true, false, if◌then◌else◌, List, [], ◌∷◌, ◌++◌, length, get_or, map, slice_get, Option, Some, None, refl, sym, ap, ap₂, ◌∙◌, subst, arith}
use Rattle.std.specs.Prelude.{Contains, IsTrue}
use Rattle.std.proofs.lemmas.Bool.{cases_lt}
use Rattle.std.proofs.lemmas.List.{get_or-map}
use Rattle.std.proofs.lemmas.List.Elements.{Contains-append_left, Contains-append_right, Contains-append_cases}
use Rattle.fst_base.specs.Sorts.{Srt, s_unit, s_bool, s_int, s_a, s_b, s_pair, s_opt, s_list, s_either, same_sort}
use Rattle.fst_base.proofs.SortLemmas.{same_sort-decides}
use Rattle.fst_base.specs.declared.op.Op.TheVariants as op
use Rattle.fst_terms.specs.DataFacts.{op_term, left_component, right_component}
use Rattle.fst_terms.specs.FlatForms.{components}
use Rattle.fst_terms.specs.Skeletons.{fst_term, snd_term}
use Rattle.fst_terms.specs.declared.term.Term.{Term}
use Rattle.fst_terms.specs.Terms.{Tm, t_unit, plain_term}
use Rattle.fst_terms.specs.Same.{same_term, is_among}
use Rattle.fst_terms.specs.Flats.{Flt}
use Rattle.fst_terms.specs.Formulas.{sort_of}
use Rattle.fst_terms.specs.Marks.{Marking, at_number, var_sorts}
use Rattle.fst_terms.specs.Branches.{IsNumbered, eta_pair, pair_at}
use Rattle.fst_cert.specs.declared.line.Line.{Line}
use Rattle.fst_cert.specs.declared.line.Line.TheVariants as line
use Rattle.fst_cert.specs.Proving.{on, only_if, Eqn, eqn, equation_by}
use Rattle.fst_cert.proofs.EquationTruths.{on-inv, only-inv}
use Rattle.fst_congruence.specs.declared.equation.Equation.{Equation}
use Rattle.fst_congruence.specs.Closures.{IsGivenLine}
use Rattle.fst_congruence.specs.Numbered.{first_place, number_of, term_at, IsNumber}
use Rattle.fst_cases.specs.Always.{pair_equation, unit_equation, always_by, always_at, always_of, is_pair, is_unit}
use Rattle.fst_cases.specs.Formed.{IsFormed}
use Rattle.fst_cases.specs.Roles.{AreAlways}
use Rattle.fst_cases.proofs.ClashLemmas.{number-found}

-- a term that isn't numbered has no number
number-none : (t : Tm) (i : ℕ) (ts : List Tm) → is_among t ts ≡ false → first_place (same_term t) i ts ≡ 0
number-none t i [] h = refl
number-none t i (u ∷ us) h = go (same_term t u) h (number-none t (i + 1) us)
  where
    go : (b : Bool) → (if b then true else is_among t us) ≡ false → (is_among t us ≡ false → first_place (same_term t) (i + 1) us ≡ 0) → (if b then i else first_place (same_term t) (i + 1) us) ≡ 0
    go true h ih = cc
    go false h ih = ih h

number-some : (f : Flt) (t : Tm) (r : ℕ) → number_of f.terms t ≡ suc r → IsNumbered f t
number-some f t r h = go (is_among t f.terms) refl
  where
    go : (b : Bool) → is_among t f.terms ≡ b → IsTrue (is_among t f.terms)
    go true q = q
    go false q = absurd (let z = number-none t 1 f.terms q in omega (arith, z, h))

get-there : {A : Type 0} (xs : List A) (k : ℕ) (d : A) → k < length xs → slice_get xs k ≡ Some (get_or xs k d)
get-there [] k d h = absurd (omega (arith, h))
get-there (x ∷ xs) zero d h = refl
get-there (x ∷ xs) (suc k) d h = get-there xs k d (omega (arith, h))

get-less : {A : Type 0} (xs : List A) (k : ℕ) (x : A) → slice_get xs k ≡ Some x → k < length xs
get-less [] k x q = cc
get-less (y ∷ ys) zero x q = omega arith
get-less (y ∷ ys) (suc k) x q = let l = get-less ys k x q in omega (arith, l)

contains-one : {A : Type 0} (x e : A) → Contains (x ∷ []) e → x ≡ e
contains-one x e h = subst (λ k. get_or (x ∷ []) k e ≡ e) (let l = h.1 in let z : h.0 ≡ 0 = omega (arith, l) in z) h.2

one-contains : {A : Type 0} (x : A) → Contains (x ∷ []) x
one-contains x = (0, omega arith, refl)

pair-only : (S : Srt) (t p : Tm) → pair_at S t ≡ Some p → (A : Srt) × ((B : Srt) × ((S ≡ s_pair A B) × (p ≡ eta_pair A B t)))
pair-only (s_pair A B) t p h = (A, (B, (refl, (let e : eta_pair A B t ≡ p = cc in sym e))))
pair-only s_unit t p h = cc
pair-only s_bool t p h = cc
pair-only s_int t p h = cc
pair-only s_a t p h = cc
pair-only s_b t p h = cc
pair-only (s_opt A) t p h = cc
pair-only (s_list A) t p h = cc
pair-only (s_either A B) t p h = cc

module _ (f : Flt) (formed : IsFormed f) where
  abbrev ts : List Tm
  ts = f.terms

  abbrev Ss : List Srt
  Ss = var_sorts f

  always-found : (n : ℕ) (e : Equation) → Contains (always_of Ss ts n) e → (k : ℕ) × ((k < n) × Contains (always_at Ss ts k) e)
  always-found zero e h = absurd (let l = h.1 in omega (arith, l))
  always-found (suc n) e h = go (λ c. always-found n e c) (Contains-append_cases (always_of Ss ts n) (always_at Ss ts n) e h)
    where
      go : (Contains (always_of Ss ts n) e → (k : ℕ) × ((k < n) × Contains (always_at Ss ts k) e)) → Contains (always_of Ss ts n) e ⊎ Contains (always_at Ss ts n) e → (k : ℕ) × ((k < suc n) × Contains (always_at Ss ts k) e)
      go ih (inl c) = let k = ih c in (k.0, ((let l = k.1.0 in omega (arith, l)), k.1.1))
      go ih (inr c) = (n, (omega arith, c))

  found-always : (n k : ℕ) (e : Equation) → k < n → Contains (always_at Ss ts k) e → Contains (always_of Ss ts n) e
  found-always zero k e h c = absurd (omega (arith, h))
  found-always (suc n) k e h c = go (λ l. found-always n k e l c) (cases_lt k n)
    where
      go : (k < n → Contains (always_of Ss ts n) e) → (k < n) ⊎ (n ≤ k) → Contains (always_of Ss ts n ++ always_at Ss ts n) e
      go ih (inl l) = Contains-append_left (always_of Ss ts n) (always_at Ss ts n) e (ih l)
      go ih (inr l) = Contains-append_right (always_of Ss ts n) (always_at Ss ts n) e (subst (λ j. Contains (always_at Ss ts j) e) (let q : k ≡ n = omega (arith, h, l) in q) c)

  -- an equation that is found holds
  pub record Holds (e : Equation) : Type 0 where
    pub line : IsGivenLine e.by
    pub is : (look : Marking) → equation_by f look [] e.by ≡ Some (eqn (term_at ts e.left) (term_at ts e.right))
    pub first : IsNumber ts e.left
    pub second : IsNumber ts e.right

  back-of : (k : ℕ) → get_or ts k t_unit ≡ term_at ts (suc k)
  back-of k = ap (λ j. get_or ts j t_unit) (let q : k ≡ suc k - 1 = omega arith in q)

  number-of-place : (k : ℕ) → k < length ts → IsNumber ts (suc k)
  number-of-place k l = record { counted = omega arith; within = omega (arith, l) }

  pair-holds : (k r : ℕ) (A B : Srt) → k < length ts → sort_of Ss (get_or ts k t_unit) ≡ s_pair A B → number_of ts (eta_pair A B (get_or ts k t_unit)) ≡ suc r → Holds (record { left = suc k; right = suc r; by = line.Eta (suc k) })
  pair-holds k r A B l s q =
      let t : Tm = get_or ts k t_unit in
      let p : Tm = eta_pair A B t in
      let there : IsNumbered f p = number-some f p r q in
      let w = number-found f p there in
      let is : term_at ts (suc r) ≡ p = ap (term_at ts) (sym q) ∙ w.1 in
      record {
        line = tt;
        is = λ look. ap (λ o. on o (λ x. on (pair_at (sort_of Ss x) x) (λ p. only_if (is_among p ts) (eqn x p)))) (get-there ts k t_unit l)
            ∙ ap (λ S. on (pair_at S t) (λ p. only_if (is_among p ts) (eqn t p))) s
            ∙ ap (λ b. only_if b (eqn t p)) there
            ∙ ap₂ (λ x y. Some (eqn x y)) (back-of k) (sym is);
        first = number-of-place k l;
        second = subst (IsNumber ts) q w.0;
      }

  unit-holds : (k : ℕ) → k < length ts → sort_of Ss (get_or ts k t_unit) ≡ s_unit → Holds (record { left = suc k; right = number_of ts t_unit; by = line.Unit (suc k) })
  unit-holds k l s =
      let t : Tm = get_or ts k t_unit in
      let w = number-found f t_unit formed.unit_numbered in
      record {
        line = tt;
        is = λ look. ap (λ o. on o (λ x. only_if (same_sort (sort_of Ss x) s_unit) (eqn x t_unit))) (get-there ts k t_unit l)
            ∙ ap (λ b. only_if b (eqn t t_unit)) ((same_sort-decides (sort_of Ss t) s_unit).1 s)
            ∙ ap₂ (λ x y. Some (eqn x y)) (back-of k) (sym w.1);
        first = number-of-place k l;
        second = w.0;
      }

  each-holds : (k : ℕ) (e : Equation) → k < length ts → Contains (always_at Ss ts k) e → Holds e
  each-holds k e l h = go (sort_of Ss (get_or ts k t_unit)) refl h
    where
      none : Contains [] e → Holds e
      none h = absurd (let l = h.1 in omega (arith, l))

      numbered : (A B : Srt) (n : ℕ) → sort_of Ss (get_or ts k t_unit) ≡ s_pair A B → number_of ts (eta_pair A B (get_or ts k t_unit)) ≡ n → Contains (pair_equation (suc k) n) e → Holds e
      numbered A B zero s q h = none h
      numbered A B (suc r) s q h = subst Holds (contains-one (record { left = suc k; right = suc r; by = line.Eta (suc k) }) e h) (pair-holds k r A B l s q)

      go : (S : Srt) → sort_of Ss (get_or ts k t_unit) ≡ S → Contains (always_by ts (suc k) (get_or ts k t_unit) S) e → Holds e
      go (s_pair A B) s h = numbered A B (number_of ts (eta_pair A B (get_or ts k t_unit))) s refl h
      go s_unit s h = subst Holds (contains-one (record { left = suc k; right = number_of ts t_unit; by = line.Unit (suc k) }) e h) (unit-holds k l s)
      go s_bool s h = none h
      go s_int s h = none h
      go s_a s h = none h
      go s_b s h = none h
      go (s_opt A) s h = none h
      go (s_list A) s h = none h
      go (s_either A B) s h = none h

  abbrev pub Found : Tm → Tm → Type 0
  Found t u = (e : Equation) × (Contains (always_of Ss ts (length ts)) e × ((term_at ts e.left ≡ t) × (term_at ts e.right ≡ u)))

  pairs-found : (i : ℕ) (look : Marking) (t u : Tm) → equation_by f look [] (line.Eta i) ≡ Some (eqn t u) → Found t u
  pairs-found zero look t u q = cc
  pairs-found (suc k) look t u q =
      let x = on-inv (slice_get ts k) (λ x. on (pair_at (sort_of Ss x) x) (λ p. only_if (is_among p ts) (eqn x p))) (eqn t u) q in
      let p = on-inv (pair_at (sort_of Ss x.0) x.0) (λ p. only_if (is_among p ts) (eqn x.0 p)) (eqn t u) x.1.1 in
      let g = only-inv (is_among p.0 ts) (eqn x.0 p.0) (eqn t u) p.1.1 in
      let s = pair-only (sort_of Ss x.0) x.0 p.0 p.1.0 in
      let l = get-less ts k x.0 x.1.0 in
      let here : get_or ts k t_unit ≡ x.0 = (let both : Some (get_or ts k t_unit) ≡ Some x.0 = sym (get-there ts k t_unit l) ∙ x.1.0 in cc) in
      let w = number-found f p.0 g.0 in
      let same : number_of ts p.0 ≡ suc (number_of ts p.0 - 1) = (let c = w.0.counted in omega (arith, c)) in
      let e : Equation = record { left = suc k; right = number_of ts p.0; by = line.Eta (suc k) } in (
        e,
        (
          found-always (length ts) k e l
              (subst (λ z. Contains (always_by ts (suc k) z (sort_of Ss z)) e) (sym here)
              (subst (λ S. Contains (always_by ts (suc k) x.0 S) e) (sym s.1.1.0)
              (subst (λ z. Contains (pair_equation (suc k) (number_of ts z)) e) s.1.1.1
              (subst (λ n. Contains (pair_equation (suc k) n) (record { left = suc k; right = n; by = line.Eta (suc k) })) (sym same) (one-contains _))))),
          (
            sym (back-of k) ∙ here ∙ ap (λ (d : Eqn). d.left) g.1,
            w.1 ∙ ap (λ (d : Eqn). d.right) g.1,
          ),
        ),
      )

  units-found : (i : ℕ) (look : Marking) (t u : Tm) → equation_by f look [] (line.Unit i) ≡ Some (eqn t u) → Found t u
  units-found zero look t u q = cc
  units-found (suc k) look t u q =
      let x = on-inv (slice_get ts k) (λ x. only_if (same_sort (sort_of Ss x) s_unit) (eqn x t_unit)) (eqn t u) q in
      let g = only-inv (same_sort (sort_of Ss x.0) s_unit) (eqn x.0 t_unit) (eqn t u) x.1.1 in
      let s : sort_of Ss x.0 ≡ s_unit = (same_sort-decides (sort_of Ss x.0) s_unit).0 g.0 in
      let l = get-less ts k x.0 x.1.0 in
      let here : get_or ts k t_unit ≡ x.0 = (let both : Some (get_or ts k t_unit) ≡ Some x.0 = sym (get-there ts k t_unit l) ∙ x.1.0 in cc) in
      let w = number-found f t_unit formed.unit_numbered in
      let e : Equation = record { left = suc k; right = number_of ts t_unit; by = line.Unit (suc k) } in (
        e,
        (
          found-always (length ts) k e l
              (subst (λ z. Contains (always_by ts (suc k) z (sort_of Ss z)) e) (sym here)
              (subst (λ S. Contains (always_by ts (suc k) x.0 S) e) (sym s) (one-contains e))),
          (
            sym (back-of k) ∙ here ∙ ap (λ (d : Eqn). d.left) g.1,
            w.1 ∙ ap (λ (d : Eqn). d.right) g.1,
          ),
        ),
      )

  pub are-always : AreAlways f (always_of Ss ts (length ts))
  are-always = record {
    given = λ e h.
        (let k = always-found (length ts) e h in
        let w = each-holds k.0 e k.1.0 k.1.1 in
        (w.line, (w.is, (w.first, w.second))));
    pairs = pairs-found;
    units = units-found;
  }

-- ---- as code finds them

no-more : (es : List Equation) → es ≡ es ++ []
no-more [] = refl
no-more (e ∷ es) = ap (λ xs. e ∷ xs) (no-more es)

pub term-get : (ts : List Term) (k : ℕ) (t : Term) → t ≡ get_or ts k t → k < length ts → plain_term t ≡ get_or (map plain_term ts) k t_unit
term-get ts k t e h = ap plain_term e ∙ sym (get_or-map plain_term ts k t t_unit h)

pub put-none : (es : List Equation) (i r n : ℕ) → r ≡ n → r ≡ 0 → es ≡ es ++ pair_equation i n
put-none es i r n e z = no-more es ∙ ap (λ m. es ++ pair_equation i m) (sym z ∙ e)

pub put-some : (old new : List Equation) (l i r n : ℕ) → l ≡ i → r ≡ n → (r ≡ 0 → ⊥) → new ≡ old ++ record { left = l; right = r; by = line.Eta l } ∷ [] → new ≡ old ++ pair_equation i n
put-some old new l i zero n p e z h = absurd (z refl)
put-some old new l i (suc r) n p e z h = h ∙ ap (λ j. old ++ record { left = j; right = suc r; by = line.Eta j } ∷ []) p ∙ ap (λ m. old ++ pair_equation i m) e

pub put-one : (old new : List Equation) (l i r n : ℕ) → l ≡ i → r ≡ n → new ≡ old ++ record { left = l; right = r; by = line.Unit l } ∷ [] → new ≡ old ++ unit_equation i n
put-one old new l i r n p e h = h ∙ ap₂ (λ j m. old ++ unit_equation j m) p e

module _ (Ss : List Srt) (ts : List Tm) (k : ℕ) where
  abbrev at_k : Tm
  at_k = get_or ts k t_unit

  pub pair-here : is_pair (sort_of Ss at_k) ≡ true → pair_equation (k + 1) (number_of ts (components Ss at_k)) ≡ always_at Ss ts k
  pair-here h = (let e : k + 1 ≡ suc k = omega arith in ap (λ i. pair_equation i (number_of ts (components Ss at_k))) e) ∙ go (sort_of Ss at_k) h
    where
      go : (S : Srt) → is_pair S ≡ true → pair_equation (suc k) (number_of ts (op_term op.Pair S (fst_term (left_component S) at_k ∷ snd_term (right_component S) at_k ∷ []))) ≡ always_by ts (suc k) at_k S
      go (s_pair A B) h = refl
      go S h = cc

  pub unit-here : is_unit (sort_of Ss at_k) ≡ true → unit_equation (k + 1) (number_of ts t_unit) ≡ always_at Ss ts k
  unit-here h = (let e : k + 1 ≡ suc k = omega arith in ap (λ i. unit_equation i (number_of ts t_unit)) e) ∙ go (sort_of Ss at_k) h
    where
      go : (S : Srt) → is_unit S ≡ true → unit_equation (suc k) (number_of ts t_unit) ≡ always_by ts (suc k) at_k S
      go s_unit h = refl
      go S h = cc

  pub none-here : (es : List Equation) → is_pair (sort_of Ss at_k) ≡ false → is_unit (sort_of Ss at_k) ≡ false → es ≡ es ++ always_at Ss ts k
  none-here es h i = no-more es ∙ ap (λ xs. es ++ xs) (go (sort_of Ss at_k) h i)
    where
      go : (S : Srt) → is_pair S ≡ false → is_unit S ≡ false → [] ≡ always_by ts (suc k) at_k S
      go (s_pair A B) h i = cc
      go s_unit h i = cc
      go S h i = refl
