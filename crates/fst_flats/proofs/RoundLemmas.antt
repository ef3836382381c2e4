-- A round of data facts only adds to what the last one gave, so it can begin where that one ended; a round that adds nothing is the last.
use Rattle.std.proofs.Common.{◌≡◌, ℕ, zero, suc, Bool, true, false, if◌then◌else◌, List, [], ◌∷◌, ◌++◌, flat_map, refl, sym, ap, ◌∙◌}
use Rattle.std.proofs.lemmas.List.{append_assoc, append-nil}
use Rattle.std.proofs.lemmas.Grind.{flat_map-append}
use Rattle.fst_base.specs.Sorts.{Srt}
use Rattle.fst_terms.specs.Terms.{Tm}
use Rattle.fst_terms.specs.Same.{is_among, firsts}
use Rattle.fst_terms.specs.Flats.{parts_of, parts_of_each}
use Rattle.fst_terms.proofs.FirstsLemmas.{firsts-append}
use Rattle.fst_terms.specs.Skeletons.{skeleton, atoms_in, is_atom_among, first_atoms, atoms_of}
use Rattle.fst_terms.specs.DataFacts.{subterms, facts_at, next_facts, again}

-- what is added to the terms that were met
abbrev pub new_firsts : (met : List Tm) → List Tm → List Tm
new_firsts met [] = []
new_firsts met (t ∷ ts) = if is_among t met then new_firsts met ts else t ∷ new_firsts (met ++ t ∷ []) ts

one-more : (b : Bool) (t : Tm) (met xs ys : List Tm) (f : List Tm → List Tm) → f met ≡ met ++ xs → f (met ++ t ∷ []) ≡ (met ++ t ∷ []) ++ ys
    → f (if b then met else met ++ t ∷ []) ≡ met ++ (if b then xs else t ∷ ys)
one-more true t met xs ys f e g = e
one-more false t met xs ys f e g = g ∙ append_assoc met (t ∷ []) ys

pub firsts-adds : (met ts : List Tm) → firsts met ts ≡ met ++ new_firsts met ts
firsts-adds met [] = sym (append-nil met)
firsts-adds met (t ∷ ts) = one-more (is_among t met) t met (new_firsts met ts) (new_firsts (met ++ t ∷ []) ts) (λ met. firsts met ts) (firsts-adds met ts) (firsts-adds (met ++ t ∷ []) ts)

abbrev pub new_atoms : (met : List Tm) → List Tm → List Tm
new_atoms met [] = []
new_atoms met (t ∷ ts) = if is_atom_among t met then new_atoms met ts else t ∷ new_atoms (met ++ t ∷ []) ts

pub first_atoms-adds : (met ts : List Tm) → first_atoms met ts ≡ met ++ new_atoms met ts
first_atoms-adds met [] = sym (append-nil met)
first_atoms-adds met (t ∷ ts) = one-more (is_atom_among t met) t met (new_atoms met ts) (new_atoms (met ++ t ∷ []) ts) (λ met. first_atoms met ts) (first_atoms-adds met ts) (first_atoms-adds (met ++ t ∷ []) ts)

pub first_atoms-append : (met ts us : List Tm) → first_atoms met (ts ++ us) ≡ first_atoms (first_atoms met ts) us
first_atoms-append met [] us = refl
first_atoms-append met (t ∷ ts) us = first_atoms-append (if is_atom_among t met then met else met ++ t ∷ []) ts us

parts-append : (ts us : List Tm) → parts_of_each (ts ++ us) ≡ parts_of_each ts ++ parts_of_each us
parts-append [] us = refl
parts-append (t ∷ ts) us = ap (λ xs. parts_of t ++ xs) (parts-append ts us) ∙ sym (append_assoc (parts_of t) (parts_of_each ts) (parts_of_each us))

-- ---- one round after another

module _ (Ss lens : List Srt) (phis : List Tm) where
  abbrev atoms : List Tm → List Tm
  atoms facts = atoms_of Ss (phis ++ facts)

  abbrev in_formula : Tm → List Tm
  in_formula phi = atoms_in (skeleton Ss phi)

  -- the atoms of more facts come after those of the first ones
  pub atoms-more : (facts more : List Tm) → atoms (facts ++ more) ≡ first_atoms (atoms facts) (flat_map in_formula more)
  atoms-more facts more =
      ap (λ xs. first_atoms [] (flat_map in_formula xs)) (sym (append_assoc phis facts more))
      ∙ ap (first_atoms []) (flat_map-append in_formula (phis ++ facts) more)
      ∙ first_atoms-append [] (flat_map in_formula (phis ++ facts)) (flat_map in_formula more)

  -- so do the subterms of more atoms
  pub subterms-more : (ts us : List Tm) → subterms (ts ++ us) ≡ firsts (subterms ts) (parts_of_each us)
  subterms-more ts us = ap (firsts []) (parts-append ts us) ∙ firsts-append [] (parts_of_each ts) (parts_of_each us)

  -- and the facts of more subterms
  pub facts-more : (ts us : List Tm) → firsts [] (flat_map (facts_at Ss lens) (ts ++ us)) ≡ firsts (firsts [] (flat_map (facts_at Ss lens) ts)) (flat_map (facts_at Ss lens) us)
  facts-more ts us = ap (firsts []) (flat_map-append (facts_at Ss lens) ts us) ∙ firsts-append [] (flat_map (facts_at Ss lens) ts) (flat_map (facts_at Ss lens) us)

  -- what a round adds for more facts: of their new atoms the new subterms' new facts
  abbrev pub added_atoms : (facts more : List Tm) → List Tm
  added_atoms facts more = new_atoms (atoms facts) (flat_map in_formula more)

  abbrev pub added_terms : (facts more : List Tm) → List Tm
  added_terms facts more = new_firsts (subterms (atoms facts)) (parts_of_each (added_atoms facts more))

  abbrev pub added_facts : (facts more : List Tm) → List Tm
  added_facts facts more = flat_map (facts_at Ss lens) (added_terms facts more)

  pub terms-more : (facts more : List Tm) → subterms (atoms (facts ++ more)) ≡ subterms (atoms facts) ++ added_terms facts more
  terms-more facts more =
      ap subterms (atoms-more facts more ∙ first_atoms-adds (atoms facts) (flat_map in_formula more))
      ∙ subterms-more (atoms facts) (added_atoms facts more)
      ∙ firsts-adds (subterms (atoms facts)) (parts_of_each (added_atoms facts more))

  -- a round on more facts, from the round on the first ones
  pub round-more : (facts more : List Tm) → next_facts Ss lens phis (facts ++ more) ≡ firsts (next_facts Ss lens phis facts) (added_facts facts more)
  round-more facts more =
      ap (λ ts. firsts [] (flat_map (facts_at Ss lens) ts)) (terms-more facts more) ∙ facts-more (subterms (atoms facts)) (added_terms facts more)

  -- the facts after n rounds, and those that the next round adds
  abbrev pub round : ℕ → List Tm
  round n = again n (next_facts Ss lens phis) []

  abbrev pub fresh : ℕ → List Tm
  fresh zero = next_facts Ss lens phis []
  fresh (suc n) = new_firsts (round (suc n)) (added_facts (round n) (fresh n))

  -- each round's facts begin with those of the round before
  pub rounds-grow : (n : ℕ) → round (suc n) ≡ round n ++ fresh n
  rounds-grow zero = refl
  rounds-grow (suc n) =
      ap (next_facts Ss lens phis) (rounds-grow n) ∙ round-more (round n) (fresh n)
      ∙ firsts-adds (round (suc n)) (added_facts (round n) (fresh n))

  -- once a round adds nothing, no later one does
  pub rounds-settle : (k : ℕ) (facts : List Tm) → next_facts Ss lens phis facts ≡ facts → again k (next_facts Ss lens phis) facts ≡ facts
  rounds-settle zero facts e = refl
  rounds-settle (suc k) facts e = ap (next_facts Ss lens phis) (rounds-settle k facts e) ∙ e
