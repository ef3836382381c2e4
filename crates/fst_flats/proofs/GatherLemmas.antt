-- A round of data facts, from what its two steps add.
use Rattle.std.proofs.Common.{◌≡◌, ℕ, zero, suc, ◌+◌, List, [], ◌∷◌, ◌++◌, length, map, take, drop, flat_map, Result, Ok, Err, OnOk, refl, sym, subst, ap, ap₂, ◌∙◌, add-one}
use Rattle.std.proofs.lemmas.List.{append-nil, length-map, take-append-drop}
use Rattle.std.proofs.lemmas.Grind.{flat_map-append}
use Rattle.fst_base.specs.Sorts.{Srt}
use Rattle.fst_terms.specs.Terms.{Tm, plain_term}
use Rattle.fst_terms.specs.Same.{firsts}
use Rattle.fst_terms.specs.Flats.{parts_of_each}
use Rattle.fst_terms.specs.Skeletons.{first_atoms, atoms_of}
use Rattle.fst_terms.specs.DataFacts.{again, subterms, facts_at, next_facts}
use Rattle.fst_terms.specs.declared.term.Term.{Term}
use Rattle.fst_terms.proofs.FirstsLemmas.{firsts-append}
use Rattle.fst_flats.specs.Relations.{atoms_of_formula}
use Rattle.fst_flats.specs.Rounds.{Begun, Gathered, Moved}
use Rattle.fst_flats.proofs.RoundLemmas.{new_firsts, firsts-adds, new_atoms, first_atoms-adds, atoms-more, subterms-more}

drop-front : (xs ys : List Tm) → drop (length xs) (xs ++ ys) ≡ ys
drop-front [] ys = refl
drop-front (x ∷ xs) ys = drop-front xs ys

take-front : (xs ys : List Tm) → take (length xs) (xs ++ ys) ≡ xs
take-front [] ys = refl
take-front (x ∷ xs) ys = ap (◌∷◌ x) (take-front xs ys)

-- what stands behind the atoms, when some are added
pub new-behind : (met ts : List Tm) → drop (length met) (first_atoms met ts) ≡ new_atoms met ts
new-behind met ts = ap (drop (length met)) (first_atoms-adds met ts) ∙ drop-front met (new_atoms met ts)

-- the subterms of the atoms, when some are added
pub subterms-behind : (Ss lens : List Srt) (atoms ts terms more : List Tm) → terms ≡ subterms atoms → more ≡ firsts terms (parts_of_each (drop (length atoms) (first_atoms atoms ts))) → more ≡ subterms (first_atoms atoms ts)
subterms-behind Ss lens atoms ts terms more e f =
    f ∙ ap₂ (λ m us. firsts m (parts_of_each us)) e (new-behind atoms ts)
    ∙ sym (ap subterms (first_atoms-adds atoms ts) ∙ subterms-more Ss lens [] atoms (new_atoms atoms ts))

module _ (Ss lens : List Srt) (phis : List Tm) where
  pub begun-gathered : (atoms terms : List Tm) → Begun Ss phis atoms terms → Gathered Ss lens phis atoms terms [] 0
  begun-gathered atoms terms b =
      let here : atoms ≡ atoms_of Ss (phis ++ []) = b.atoms_are ∙ ap (atoms_of Ss) (sym (append-nil phis)) in
      record { begun = record { atoms_are = here; terms_are = b.terms_are }; facts_are = refl }

  pub round-by : (A T F A' T' F' : List Tm) (used : ℕ) → Gathered Ss lens phis A T F used → F' ≡ firsts F (flat_map (facts_at Ss lens) (drop used T))
      → A' ≡ first_atoms A (flat_map (atoms_of_formula Ss) (drop (length F) F')) → (T ≡ subterms A → T' ≡ subterms A') → Moved Ss lens phis F (length T) A' T' F'
  round-by A T F A' T' F' used g e f h =
      let N : List Tm = new_firsts F (flat_map (facts_at Ss lens) (drop used T)) in
      let all : F' ≡ firsts [] (flat_map (facts_at Ss lens) T) =
      e ∙ ap (λ m. firsts m (flat_map (facts_at Ss lens) (drop used T))) g.facts_are
      ∙ sym (firsts-append [] (flat_map (facts_at Ss lens) (take used T)) (flat_map (facts_at Ss lens) (drop used T)))
      ∙ ap (firsts []) (sym (flat_map-append (facts_at Ss lens) (take used T) (drop used T)) ∙ ap (flat_map (facts_at Ss lens)) (take-append-drop used T)) in
      let next : F' ≡ next_facts Ss lens phis F = all ∙ ap (λ ts. firsts [] (flat_map (facts_at Ss lens) ts)) (g.begun.terms_are ∙ ap subterms g.begun.atoms_are) in
      let grown : F' ≡ F ++ N = e ∙ firsts-adds F (flat_map (facts_at Ss lens) (drop used T)) in
      let behind : drop (length F) F' ≡ N = ap (drop (length F)) grown ∙ drop-front F N in
      let atoms : A' ≡ first_atoms A (flat_map (atoms_of_formula Ss) N) = f ∙ ap (λ us. first_atoms A (flat_map (atoms_of_formula Ss) us)) behind in
      let atoms_are : A' ≡ atoms_of Ss (phis ++ F') =
      atoms ∙ ap (λ m. first_atoms m (flat_map (atoms_of_formula Ss) N)) g.begun.atoms_are ∙ sym (atoms-more Ss lens phis F N) ∙ ap (λ fs. atoms_of Ss (phis ++ fs)) (sym grown) in
      let terms_are : T' ≡ subterms A' = h g.begun.terms_are in
      let M : List Tm = new_atoms A (flat_map (atoms_of_formula Ss) N) in
      let more : T' ≡ T ++ new_firsts T (parts_of_each M) =
      terms_are ∙ ap subterms (atoms ∙ first_atoms-adds A (flat_map (atoms_of_formula Ss) N)) ∙ subterms-more Ss lens phis A M
      ∙ ap (λ m. firsts m (parts_of_each M)) (sym g.begun.terms_are) ∙ firsts-adds T (parts_of_each M) in
      let first : take (length T) T' ≡ T = ap (take (length T)) more ∙ take-front T (new_firsts T (parts_of_each M)) in
      record {
        gathered = record { begun = record { atoms_are = atoms_are; terms_are = terms_are }; facts_are = all ∙ ap (λ ts. firsts [] (flat_map (facts_at Ss lens) ts)) (sym first) };
        next = next;
      }

-- ---- as the code does it

map-drop : (k : ℕ) (ts : List Term) → map plain_term (drop k ts) ≡ drop k (map plain_term ts)
map-drop zero ts = refl
map-drop (suc k) [] = refl
map-drop (suc k) (t ∷ ts) = map-drop k ts

-- the subterms of the atoms, where those of the new ones are added
pub gather-by : (Ss : List Srt) (old new slice behind : List Term) (n : ℕ) (ts terms more : List Tm) → map plain_term new ≡ first_atoms (map plain_term old) ts → n ≡ length old
    → slice ≡ new → behind ≡ drop n slice → more ≡ firsts terms (parts_of_each (map plain_term behind)) → terms ≡ subterms (map plain_term old) → more ≡ subterms (map plain_term new)
gather-by Ss old new slice behind n ts terms more e l sl b f g =
    let count : n ≡ length (map plain_term old) = l ∙ sym (length-map old plain_term) in
    let shown : map plain_term behind ≡ drop (length (map plain_term old)) (first_atoms (map plain_term old) ts) =
    ap (map plain_term) (b ∙ ap (drop n) sl) ∙ map-drop n new ∙ ap₂ drop count e in
    subterms-behind Ss [] (map plain_term old) ts terms more g (f ∙ ap (λ us. firsts terms (parts_of_each us)) shown) ∙ ap subterms (sym e)

pub on_ok_both : {T E : Type 0} (P Q : Type 0) (r : Result T E) → OnOk r P → OnOk r Q → OnOk r (P × Q)
on_ok_both P Q (Ok x) p q = (p, q)
on_ok_both P Q (Err d) p q = tt

module _ (Ss lens : List Srt) (atoms terms facts : List Term) where
  -- a round, from the two steps of the code
  pub round-from : (atoms' terms' facts' tslice front fslice behind : List Term) (used known : ℕ) → known ≡ length facts → tslice ≡ terms → front ≡ drop used tslice
      → map plain_term facts' ≡ firsts (map plain_term facts) (flat_map (facts_at Ss lens) (map plain_term front)) → fslice ≡ facts' → behind ≡ drop known fslice
      → (map plain_term atoms' ≡ first_atoms (map plain_term atoms) (flat_map (atoms_of_formula Ss) (map plain_term behind)))
      × (map plain_term terms ≡ subterms (map plain_term atoms) → map plain_term terms' ≡ subterms (map plain_term atoms'))
      → (phis : List Tm) → Gathered Ss lens phis (map plain_term atoms) (map plain_term terms) (map plain_term facts) used
      → Moved Ss lens phis (map plain_term facts) (length terms) (map plain_term atoms') (map plain_term terms') (map plain_term facts')
  round-from atoms' terms' facts' tslice front fslice behind used known k ts fr e fs be p phis g =
      let e' : map plain_term facts' ≡ firsts (map plain_term facts) (flat_map (facts_at Ss lens) (drop used (map plain_term terms))) =
      e ∙ ap (λ ts. firsts (map plain_term facts) (flat_map (facts_at Ss lens) ts)) (ap (map plain_term) (fr ∙ ap (drop used) ts) ∙ map-drop used terms) in
      let f' : map plain_term atoms' ≡ first_atoms (map plain_term atoms) (flat_map (atoms_of_formula Ss) (drop (length (map plain_term facts)) (map plain_term facts'))) =
      p.0 ∙ ap (λ ts. first_atoms (map plain_term atoms) (flat_map (atoms_of_formula Ss) ts))
      (ap (map plain_term) (be ∙ ap (drop known) fs) ∙ map-drop known facts' ∙ ap (λ n. drop n (map plain_term facts')) (k ∙ sym (length-map facts plain_term))) in
      let count : length (map plain_term terms) ≡ length terms = length-map terms plain_term in
      let P : ℕ → Type 0 = λ n. Moved Ss lens phis (map plain_term facts) n (map plain_term atoms') (map plain_term terms') (map plain_term facts') in
      subst P count (round-by Ss lens phis _ _ _ _ _ _ used g e' f' p.1)

-- one round more
abbrev pub Turned : (Ss lens : List Srt) (phis : List Tm) (atoms terms facts : List Term) (used i : ℕ) → Type 0
Turned Ss lens phis atoms terms facts used i =
    Gathered Ss lens phis (map plain_term atoms) (map plain_term terms) (map plain_term facts) used × (map plain_term facts ≡ again i (next_facts Ss lens phis) [])

pub turn-more : (Ss lens : List Srt) (phis : List Tm) (atoms terms facts atoms' terms' facts' : List Term) (used count i : ℕ) → Turned Ss lens phis atoms terms facts used i → count ≡ length terms
    → (Gathered Ss lens phis (map plain_term atoms) (map plain_term terms) (map plain_term facts) used
    → Moved Ss lens phis (map plain_term facts) (length terms) (map plain_term atoms') (map plain_term terms') (map plain_term facts'))
    → Turned Ss lens phis atoms' terms' facts' count (i + 1)
turn-more Ss lens phis atoms terms facts atoms' terms' facts' used count i t c f =
    let m : Moved Ss lens phis (map plain_term facts) (length terms) (map plain_term atoms') (map plain_term terms') (map plain_term facts') = f t.0 in
    let P : ℕ → Type 0 = λ n. Gathered Ss lens phis (map plain_term atoms') (map plain_term terms') (map plain_term facts') n in
    (subst P (sym c) m.gathered, rw add-one (m.next ∙ ap (next_facts Ss lens phis) t.1))
