-- A branch of a propositional sequent has no clash: its marks are those of an environment.
use Rattle.std.proofs.Common.{◌≡◌, Bool, true, false, if◌then◌else◌, List, [], ◌∷◌, ◌++◌, length, map, Some, IsTrue, refl, sym, ap, ap₂, ◌∙◌, arith}
use Rattle.std.specs.Prelude.{⊤}
use Rattle.std.proofs.lemmas.Bool.{false≢true}
use Rattle.fst_base.specs.Values.{v_bool}
use Rattle.fst_base.specs.Primitives.{is_true}
use Rattle.fst_terms.specs.Terms.{Tm, t_bool}
use Rattle.fst_terms.specs.Meaning.{Meaning, value, Sqt}
use Rattle.fst_terms.specs.Same.{same_term, is_among, firsts}
use Rattle.fst_terms.specs.Flats.{cleared, all_atoms_in, flat_of, truth_of, mark_of, Clash, is_truth, AreTruths}
use Rattle.fst_terms.specs.Propositional.{IsPropositional}
use Rattle.fst_terms.specs.declared.flat.Mark.{Mark}
use Rattle.fst_terms.specs.declared.flat.Mark.TheVariants as mark
use Rattle.fst_terms.proofs.SameLemmas.{same_term-decides}
use Rattle.fst_terms.proofs.MemberLemmas.{AllTm, all-append}
use Rattle.fst_terms.proofs.BranchLemmas.{BoolVar, marks_at, joined-values}
use Rattle.fst_terms.proofs.ValidLemmas.{sorts, atoms-bool, terms-units, look, world, world-has, atom-value}

-- ---- first occurrences are different terms

abbrev Distinct : List Tm → Type 0
Distinct [] = ⊤
Distinct (t ∷ ts) = AllTm (λ u. t ≡ u → ⊥) ts × Distinct ts

distinct-add : (ts : List Tm) (u : Tm) → Distinct ts → AllTm (λ t. t ≡ u → ⊥) ts → Distinct (ts ++ u ∷ [])
distinct-add [] u d h = (tt, tt)
distinct-add (t ∷ ts) u d h = (all-append (λ v. t ≡ v → ⊥) ts (u ∷ []) d.0 (h.0, tt), distinct-add ts u d.1 h.1)

differs : (t u : Tm) → same_term t u ≡ false → u ≡ t → ⊥
differs t u e q = false≢true (sym e ∙ (same_term-decides t u).1 (sym q))

not-among : (t : Tm) (us : List Tm) → is_among t us ≡ false → AllTm (λ u. u ≡ t → ⊥) us
not-among t [] e = tt
not-among t (u ∷ us) e = go (not-among t us) (same_term t u) refl e
  where
    go : (is_among t us ≡ false → AllTm (λ u. u ≡ t → ⊥) us) → (b : Bool) → same_term t u ≡ b → (if b then true else is_among t us) ≡ false → (u ≡ t → ⊥) × AllTm (λ u. u ≡ t → ⊥) us
    go ih true q k = absurd (false≢true (sym k))
    go ih false q k = (differs t u q, ih k)

firsts-distinct : (met ts : List Tm) → Distinct met → Distinct (firsts met ts)
firsts-distinct met [] d = d
firsts-distinct met (t ∷ ts) d = go (firsts-distinct met ts d) (λ e. firsts-distinct (met ++ t ∷ []) ts (distinct-add met t d (not-among t met e))) (is_among t met) refl
  where
    go : Distinct (firsts met ts) → (is_among t met ≡ false → Distinct (firsts (met ++ t ∷ []) ts)) → (b : Bool) → is_among t met ≡ b → Distinct (firsts (if b then met else met ++ t ∷ []) ts)
    go old new true q = old
    go old new false q = new q

-- ---- the marks are those of the environment that they give

mark-first : (u : Tm) (us : List Tm) (m : Mark) (ms : List Mark) → mark_of (u ∷ us) (m ∷ ms) u ≡ Some (truth_of m)
mark-first u us m ms = rw ((same_term-decides u u).1 refl) refl

mark-later : (u : Tm) (us : List Tm) (m : Mark) (ms : List Mark) (t : Tm) → (u ≡ t → ⊥) → mark_of (u ∷ us) (m ∷ ms) t ≡ mark_of us ms t
mark-later u us m ms t n = go (same_term t u) refl
  where
    go : (b : Bool) → same_term t u ≡ b → (if b then Some (truth_of m) else mark_of us ms t) ≡ mark_of us ms t
    go true q = absurd (n (sym ((same_term-decides t u).0 q)))
    go false q = refl

some-is : (a b : Bool) → Some a ≡ Some b → a ≡ b
some-is a b e = cc

mark-back : (m : Mark) → IsTrue (is_truth m) → m ≡ (if truth_of m then mark.True else mark.False)
mark-back mark.True h = refl
mark-back mark.False h = refl
mark-back m h = cc

module _ (s : Sqt) (prop : IsPropositional s) (ms : List Mark) (marked : length ms ≡ length (flat_of s []).atoms) (M : Meaning) where
  abbrev Looks : List Tm → List Mark → Tm → Type 0
  Looks us ns t = look s prop ms marked M t ≡ mark_of us ns t

  looks-later : (u : Tm) (us : List Tm) (m : Mark) (ns : List Mark) (ts : List Tm) → AllTm (λ t. u ≡ t → ⊥) ts → AllTm (Looks (u ∷ us) (m ∷ ns)) ts → AllTm (Looks us ns) ts
  looks-later u us m ns [] d h = tt
  looks-later u us m ns (t ∷ ts) d h = (h.0 ∙ mark-later u us m ns t d.0, looks-later u us m ns ts d.1 h.1)

  world-marks : (us : List Tm) (ns : List Mark) → length ns ≡ length us → Distinct us → AllTm (BoolVar (sorts s prop)) us → AreTruths ns → AllTm (Looks us ns) us → ns ≡ marks_at M (world s prop ms marked M) us
  world-marks [] [] e d h t k = refl
  world-marks [] (m ∷ ns) e d h t k = absurd (omega arith)
  world-marks (u ∷ us) [] e d h t k = absurd (omega arith)
  world-marks (u ∷ us) (m ∷ ns) e d h t k =
      let first = k.0 ∙ mark-first u us m ns in
      let truth : truth_of m ≡ is_true (value M u (world s prop ms marked M)) = some-is _ _ (sym first ∙ atom-value s prop ms marked M u h.0 (truth_of m) first) in
      ap₂ ◌∷◌ (mark-back m t.0 ∙ ap (λ b. if b then mark.True else mark.False) truth) (world-marks us ns (omega arith) d.1 h.1 t.1 (looks-later u us m ns us d.0 k.1))

  looks-all : (us : List Tm) → AllTm (λ t. look s prop ms marked M t ≡ mark_of (flat_of s []).atoms ms t) us
  looks-all [] = tt
  looks-all (u ∷ us) = (refl, looks-all us)

  atoms-distinct : Distinct (flat_of s []).atoms
  atoms-distinct = firsts-distinct [] (all_atoms_in (sorts s prop) (map (cleared (length s.vars)) s.hyps ++ cleared (length s.vars) s.goal ∷ [])) tt

  values-differ : (v_bool true ≡ v_bool false) → ⊥
  values-differ e = cc

  pub no-clash-marked : AreTruths ms → Clash (flat_of s []) ms → ⊥
  no-clash-marked t j = values-differ (joined-values M (world s prop ms marked M) (flat_of s []) ms (world-has s prop ms marked M)
      (world-marks (flat_of s []).atoms ms marked atoms-distinct (atoms-bool s prop) t (looks-all (flat_of s []).atoms))
      (atoms-bool s prop) (terms-units s prop M (world s prop ms marked M)) (t_bool true) (t_bool false) j)
