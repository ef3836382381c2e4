-- Arrangements, as loops put them together.
use Rattle.std.proofs.Common.{◌≡◌, ℕ, zero, suc, min, ◌+◌, ◌<◌, ◌≤◌, Bool, true, false, not, ◌&&◌, if◌then◌else◌, List, [], ◌∷◌, ◌++◌, length, get_or, take, drop, map, flat_map, refl, sym, ap, ap₂, ◌∙◌, arith, add-one}
use Rattle.std.proofs.lemmas.List.{append-nil, append_assoc}
use Rattle.fst_base.specs.Sorts.{Srt}
use Rattle.fst_terms.specs.Terms.{Tm, t_int, plain_term, plain_terms}
use Rattle.fst_terms.specs.Formulas.{either, equation, negation, sort_of}
use Rattle.fst_terms.specs.Same.{same_term}
use Rattle.fst_terms.specs.DataFacts.{arguments, arranged_with, arrangement, arrangements, is_arranged, is_int, is_literal, positions, same_head}
use Rattle.fst_terms.specs.declared.term.Term.{Term}
use Rattle.fst_flats.specs.Arranged.{arranged_pair}
use Rattle.fst_flats.specs.Sides.{are_literals}

literals-both : (t u : Tm) → are_literals t u ≡ (is_literal t && is_literal u)
literals-both (t_int m) (t_int n) = refl
literals-both (t_int m) u = refl
literals-both t u = refl

-- the arrangement of two terms, where it is made
abbrev pub wanted : Bool → (t u : Tm) → List Tm
wanted b t u = if b then either (equation t u) (negation (equation t u)) ∷ [] else []

module _ (Ss : List Srt) (t u : Tm) where
  abbrev tested : (same x y literals : Bool) → List Tm
  tested s x y l = if not s && x && y && not l then either (equation t u) (negation (equation t u)) ∷ [] else []

  open_arrangement : arrangement Ss t u ≡ tested (same_term t u) (is_int (sort_of Ss t)) (is_int (sort_of Ss u)) (are_literals t u)
  open_arrangement = ap (tested (same_term t u) (is_int (sort_of Ss t)) (is_int (sort_of Ss u))) (sym (literals-both t u))

  pub arranged-same : same_term t u ≡ true → arrangement Ss t u ≡ wanted false t u
  arranged-same e = open_arrangement ∙ ap (λ s. tested s (is_int (sort_of Ss t)) (is_int (sort_of Ss u)) (are_literals t u)) e

  never : (x y : Bool) → tested false x y true ≡ []
  never true true = refl
  never true false = refl
  never false y = refl

  pub arranged-literals : same_term t u ≡ false → are_literals t u ≡ true → arrangement Ss t u ≡ wanted false t u
  arranged-literals e f = open_arrangement ∙ ap₂ (λ s l. tested s (is_int (sort_of Ss t)) (is_int (sort_of Ss u)) l) e f ∙ never (is_int (sort_of Ss t)) (is_int (sort_of Ss u))

  by_sorts : (x y : Bool) → tested false x y false ≡ wanted (x && y) t u
  by_sorts true true = refl
  by_sorts true false = refl
  by_sorts false y = refl

  pub arranged-by : same_term t u ≡ false → are_literals t u ≡ false → arrangement Ss t u ≡ wanted (is_int (sort_of Ss t) && is_int (sort_of Ss u)) t u
  arranged-by e f = open_arrangement ∙ ap₂ (λ s l. tested s (is_int (sort_of Ss t)) (is_int (sort_of Ss u)) l) e f ∙ by_sorts (is_int (sort_of Ss t)) (is_int (sort_of Ss u))

module _ (Ss : List Srt) where
  -- ---- argument by argument

  positions-suc : (ts us : List Term) (k : ℕ) (d e : Term) → k < length ts → k < length us
      → positions Ss (plain_terms (take (suc k) ts)) (plain_terms (take (suc k) us)) ≡ positions Ss (plain_terms (take k ts)) (plain_terms (take k us)) ++ arrangement Ss (plain_term (get_or ts k d)) (plain_term (get_or us k e))
  positions-suc [] us k d e h i = absurd (omega arith)
  positions-suc (t ∷ ts) [] k d e h i = absurd (omega arith)
  positions-suc (t ∷ ts) (u ∷ us) zero d e h i = append-nil (arrangement Ss (plain_term t) (plain_term u))
  positions-suc (t ∷ ts) (u ∷ us) (suc k) d e h i =
      ap (λ xs. arrangement Ss (plain_term t) (plain_term u) ++ xs) (positions-suc ts us k d e (omega arith) (omega arith))
      ∙ sym (append_assoc (arrangement Ss (plain_term t) (plain_term u)) (positions Ss (plain_terms (take k ts)) (plain_terms (take k us))) (arrangement Ss (plain_term (get_or ts k d)) (plain_term (get_or us k e))))

  pub positions-more : (old now new : List Tm) (ts us : List Term) (k : ℕ) (d e : Term) → k < length ts → k < length us
      → now ≡ old ++ positions Ss (plain_terms (take k ts)) (plain_terms (take k us)) → new ≡ now ++ arrangement Ss (plain_term (get_or ts k d)) (plain_term (get_or us k e))
      → new ≡ old ++ positions Ss (plain_terms (take (k + 1) ts)) (plain_terms (take (k + 1) us))
  positions-more old now new ts us k d e h i f g =
      rw add-one (g ∙ ap (λ xs. xs ++ arrangement Ss (plain_term (get_or ts k d)) (plain_term (get_or us k e))) f
      ∙ append_assoc old (positions Ss (plain_terms (take k ts)) (plain_terms (take k us))) (arrangement Ss (plain_term (get_or ts k d)) (plain_term (get_or us k e)))
      ∙ ap (λ xs. old ++ xs) (sym (positions-suc ts us k d e h i)))

  pub positions-all : (ts us : List Term) (k : ℕ) → min (length ts) (length us) ≤ k → positions Ss (plain_terms (take k ts)) (plain_terms (take k us)) ≡ positions Ss (plain_terms ts) (plain_terms us)
  positions-all [] us zero h = refl
  positions-all [] us (suc k) h = refl
  positions-all (t ∷ ts) [] zero h = refl
  positions-all (t ∷ ts) [] (suc k) h = refl
  positions-all (t ∷ ts) (u ∷ us) zero h = absurd (omega (arith, h))
  positions-all (t ∷ ts) (u ∷ us) (suc k) h = ap (λ xs. arrangement Ss (plain_term t) (plain_term u) ++ xs) (positions-all ts us k (omega (arith, h)))

  -- ---- term by term

  pub with-none : (t : Tm) (us : List Tm) → is_arranged t ≡ false → arranged_with Ss t us ≡ []
  with-none t [] e = refl
  with-none t (u ∷ us) e = ap₂ (λ b xs. (if b && same_head t u then positions Ss (arguments t) (arguments u) else []) ++ xs) e (with-none t us e)

  pub with-each : (t : Tm) (us : List Tm) → is_arranged t ≡ true → flat_map (arranged_pair Ss t) us ≡ arranged_with Ss t us
  with-each t [] e = refl
  with-each t (u ∷ us) e = sym (ap₂ (λ b xs. (if b && same_head t u then positions Ss (arguments t) (arguments u) else []) ++ xs) e (sym (with-each t us e)))

  arrangements-suc : (ts : List Term) (k : ℕ) (d : Term) → k < length ts
      → arrangements Ss (map plain_term (drop k ts)) ≡ arranged_with Ss (plain_term (get_or ts k d)) (map plain_term (drop (suc k) ts)) ++ arrangements Ss (map plain_term (drop (suc k) ts))
  arrangements-suc [] k d h = absurd (omega arith)
  arrangements-suc (t ∷ ts) zero d h = refl
  arrangements-suc (t ∷ ts) (suc k) d h = arrangements-suc ts k d (omega arith)

  -- what is made with what is left
  pub arrangements-more : (all now new : List Tm) (ts : List Term) (k : ℕ) (d : Term) → k < length ts → now ++ arrangements Ss (map plain_term (drop k ts)) ≡ all
      → new ≡ now ++ arranged_with Ss (plain_term (get_or ts k d)) (map plain_term (drop (k + 1) ts)) → new ++ arrangements Ss (map plain_term (drop (k + 1) ts)) ≡ all
  arrangements-more all now new ts k d h e f =
      let step : arrangements Ss (map plain_term (drop k ts)) ≡ arranged_with Ss (plain_term (get_or ts k d)) (map plain_term (drop (k + 1) ts)) ++ arrangements Ss (map plain_term (drop (k + 1) ts)) =
      rw add-one (arrangements-suc ts k d h) in
      ap (λ xs. xs ++ arrangements Ss (map plain_term (drop (k + 1) ts))) f
      ∙ append_assoc now (arranged_with Ss (plain_term (get_or ts k d)) (map plain_term (drop (k + 1) ts))) (arrangements Ss (map plain_term (drop (k + 1) ts)))
      ∙ ap (λ xs. now ++ xs) (sym step) ∙ e

  pub arrangements-none : (ts : List Term) (k : ℕ) → length ts ≤ k → arrangements Ss (map plain_term (drop k ts)) ≡ []
  arrangements-none [] zero h = refl
  arrangements-none [] (suc k) h = refl
  arrangements-none (t ∷ ts) zero h = absurd (omega (arith, h))
  arrangements-none (t ∷ ts) (suc k) h = arrangements-none ts k (omega (arith, h))
