-- The flat form of well-sorted formulas is one that the search takes; under marks of all atoms its formulas have values.
use Rattle.std.proofs.Common.{◌≡◌, ℕ, zero, suc, ◌<◌, ◌≤◌, Bool, true, false, ◌||◌, if◌then◌else◌, List, [], ◌∷◌, ◌++◌, length, slice_get, Some, None, option_map, refl, sym, ap, ◌∙◌, subst, arith}
use Rattle.std.specs.Prelude.{flat_map}
use Rattle.std.proofs.lemmas.Bool.{false≢true}
use Rattle.fst_base.specs.Sorts.{Srt}
use Rattle.fst_terms.specs.Terms.{Tm}
use Rattle.fst_terms.specs.Same.{same_term}
use Rattle.fst_terms.specs.Flats.{Flt, truth_of}
use Rattle.fst_terms.specs.declared.flat.Mark.{Mark}
use Rattle.fst_terms.specs.Skeletons.{skeleton, atoms_in, turned, same_atom, is_atom_among, first_atoms}
use Rattle.fst_terms.specs.FlatForms.{Fms, sorts, formulas, number_all}
use Rattle.fst_terms.specs.Marks.{marks_of, one_more, number_by, mark_of, var_sorts, reads}
use Rattle.fst_terms.specs.Sentences.{IsFlat}
use Rattle.fst_terms.proofs.MemberLemmas.{AllTm}
use Rattle.fst_terms.proofs.SameLemmas.{same_term-decides}
use Rattle.fst_congruence.specs.Numbered.{IsNumbering}
use Rattle.fst_congruence.proofs.NumberingLemmas.{flat-numbering}
use Rattle.fst_cases.specs.Formed.{Each, IsAtom, HasAtoms, IsFormed}
use Rattle.fst_cases.proofs.LeafLemmas.{made-sides, atom-numbered, literals-numbered}
use Rattle.fst_cases.proofs.ShareRules.{HasValue, reading-value}

-- ---- atoms are numbered

abbrev There : List Tm → Tm → Type 0
There us t = is_atom_among t us ≡ true

there-self : (t : Tm) (us : List Tm) → There (t ∷ us) t
there-self t us = subst (λ b. (if (b || same_term (turned t) t) then true else is_atom_among t us) ≡ true) (sym ((same_term-decides t t).1 refl)) refl

there-front : (t : Tm) (us ws : List Tm) → There us t → There (us ++ ws) t
there-front t [] ws h = absurd (false≢true h)
there-front t (u ∷ us) ws h = go (same_atom t u) (there-front t us ws) h
  where
    go : (b : Bool) → (is_atom_among t us ≡ true → is_atom_among t (us ++ ws) ≡ true) → (if b then true else is_atom_among t us) ≡ true → (if b then true else is_atom_among t (us ++ ws)) ≡ true
    go true ih k = refl
    go false ih k = ih k

there-back : (t : Tm) (us ws : List Tm) → There ws t → There (us ++ ws) t
there-back t [] ws h = h
there-back t (u ∷ us) ws h = go (same_atom t u) (there-back t us ws h)
  where
    go : (b : Bool) → is_atom_among t (us ++ ws) ≡ true → (if b then true else is_atom_among t (us ++ ws)) ≡ true
    go true k = refl
    go false k = k

first-keeps : (met ts : List Tm) (t : Tm) → There met t → There (first_atoms met ts) t
first-keeps met [] t h = h
first-keeps met (u ∷ ts) t h = go (is_atom_among u met) (λ more. first-keeps more ts t)
  where
    go : (b : Bool) → ((more : List Tm) → There more t → There (first_atoms more ts) t) → There (first_atoms (if b then met else met ++ u ∷ []) ts) t
    go true ih = ih met h
    go false ih = ih (met ++ u ∷ []) (there-front t met (u ∷ []) h)

first-includes : (met ts : List Tm) → Each (There (first_atoms met ts)) ts
first-includes met [] = tt
first-includes met (u ∷ ts) = go (is_atom_among u met) refl (λ more. first-includes more ts)
  where
    go : (b : Bool) → is_atom_among u met ≡ b → ((more : List Tm) → Each (There (first_atoms more ts)) ts) → Each (There (first_atoms (if b then met else met ++ u ∷ []) ts)) (u ∷ ts)
    go true p ih = (first-keeps met ts u p, ih met)
    go false p ih = (first-keeps (met ++ u ∷ []) ts u (there-back u met (u ∷ []) (there-self u [])), ih (met ++ u ∷ []))

there-number : (us : List Tm) (t : Tm) → There us t → (k : ℕ) × (number_by same_atom us t ≡ suc k)
there-number [] t h = absurd (false≢true h)
there-number (u ∷ us) t h = go (same_atom t u) (there-number us t) h
  where
    go : (b : Bool) → (is_atom_among t us ≡ true → (k : ℕ) × (number_by same_atom us t ≡ suc k)) → (if b then true else is_atom_among t us) ≡ true → (k : ℕ) × ((if b then 1 else one_more (number_by same_atom us t)) ≡ suc k)
    go true ih q = (0, refl)
    go false ih q = let n = ih q in (suc n.0, ap one_more n.1)

-- ---- each

each-front : (P : Tm → Type 0) (ts us : List Tm) → Each P (ts ++ us) → Each P ts
each-front P [] us h = tt
each-front P (t ∷ ts) us h = (h.0, each-front P ts us h.1)

each-back : (P : Tm → Type 0) (ts us : List Tm) → Each P (ts ++ us) → Each P us
each-back P [] us h = h
each-back P (t ∷ ts) us h = each-back P ts us h.1

each-append : (P : Tm → Type 0) (ts us : List Tm) → Each P ts → Each P us → Each P (ts ++ us)
each-append P [] us h i = i
each-append P (t ∷ ts) us h i = (h.0, each-append P ts us h.1 i)

each-weaker : (P Q : Tm → Type 0) → ((t : Tm) → P t → Q t) → (ts : List Tm) → Each P ts → Each Q ts
each-weaker P Q w [] h = tt
each-weaker P Q w (t ∷ ts) h = (w t h.0, each-weaker P Q w ts h.1)

each-flat : (P : Tm → Type 0) (g : Tm → List Tm) (ts : List Tm) → Each P (flat_map g ts) → Each (λ t. Each P (g t)) ts
each-flat P g [] h = tt
each-flat P g (t ∷ ts) h = (each-front P (g t) (flat_map g ts) h, each-flat P g ts (each-back P (g t) (flat_map g ts) h))

-- ---- flat forms

module _ (m : Fms) where
  abbrev made : Flt
  made = number_all m

  made-atoms : Each (HasAtoms made) (formulas m)
  made-atoms =
      each-weaker (λ phi. Each (There made.atoms) (atoms_in (skeleton (sorts m) phi))) (HasAtoms made) (λ phi h. each-weaker (There made.atoms) (IsAtom made) (there-number made.atoms) (atoms_in (skeleton (sorts m) phi)) h) (formulas m)
      (each-flat (There made.atoms) (λ phi. atoms_in (skeleton (sorts m) phi)) (formulas m) (first-includes [] (flat_map (λ phi. atoms_in (skeleton (sorts m) phi)) (formulas m))))

  made-formed : IsNumbering made.terms → IsFormed made
  made-formed n =
      let rest = each-back (HasAtoms made) m.hyps (m.goal ∷ m.facts) made-atoms in
      record {
        numbering = n;
        atoms = atom-numbered m;
        sides = made-sides m;
        yes_numbered = (literals-numbered m).0;
        no_numbered = (literals-numbered m).1.0;
        unit_numbered = (literals-numbered m).1.1.0;
        formulas = each-append (HasAtoms made) m.hyps m.facts (each-front (HasAtoms made) m.hyps (m.goal ∷ m.facts) made-atoms) rest.1;
        goal = rest.0;
      }

pub flat-formed : (Applies : (k : ℕ) → List Srt → (S : Srt) → Type 0) (f : Flt) → IsFlat Applies f → IsFormed f
flat-formed Applies f flat = subst IsFormed (sym flat.is) (made-formed flat.made (subst (λ (g : Flt). IsNumbering g.terms) flat.is (flat-numbering Applies f flat)))

-- ---- values under marks of all atoms

number-within : (us : List Tm) (t : Tm) → number_by same_atom us t ≤ length us
number-within [] t = omega arith
number-within (u ∷ us) t = go (same_atom t u) (number-within us t)
  where
    more : (n l : ℕ) → n ≤ l → one_more n ≤ suc l
    more zero l h = omega arith
    more (suc n) l h = omega (arith, h)

    go : (b : Bool) → number_by same_atom us t ≤ length us → (if b then 1 else one_more (number_by same_atom us t)) ≤ suc (length us)
    go true h = omega arith
    go false h = more (number_by same_atom us t) (length us) h

get-some : {A : Type 0} (xs : List A) (k : ℕ) → k < length xs → (x : A) × (slice_get xs k ≡ Some x)
get-some [] k h = absurd (omega (arith, h))
get-some (x ∷ xs) zero h = (x, refl)
get-some (x ∷ xs) (suc k) h = get-some xs k (omega (arith, h))

module _ (f : Flt) (ms : List Mark) (e : length ms ≡ length f.atoms) where
  atom-value : (t : Tm) → IsAtom f t → HasValue (option_map truth_of (mark_of f (marks_of ms) t))
  atom-value t n =
      let l = number-within f.atoms t in
      let m = get-some ms n.0 (let q = n.1 in omega (arith, l, q, e)) in
      (truth_of m.0, ap (λ k. option_map truth_of (elim k [ zero ↦ None | suc i ↦ marks_of ms (suc i) ])) n.1 ∙ ap (option_map truth_of) m.1)

  all-values : (ts : List Tm) → Each (IsAtom f) ts → AllTm (λ t. HasValue (option_map truth_of (mark_of f (marks_of ms) t))) ts
  all-values [] h = tt
  all-values (t ∷ ts) h = (atom-value t h.0, all-values ts h.1)

  pub formula-value : (phi : Tm) → HasAtoms f phi → HasValue (reads f (marks_of ms) phi)
  formula-value phi h = reading-value _ (skeleton (var_sorts f) phi) (all-values (atoms_in (skeleton (var_sorts f) phi)) h)
