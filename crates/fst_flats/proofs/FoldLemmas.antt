-- Lists that grow by what each term of another list gives.
use Rattle.std.proofs.Common.{◌≡◌, ℕ, zero, suc, ◌+◌, ◌<◌, List, [], ◌∷◌, ◌++◌, length, get_or, take, map, flat_map, refl, sym, ap, ◌∙◌, arith, add-one}
use Rattle.std.proofs.lemmas.List.{append-nil, append_assoc}
use Rattle.fst_terms.specs.Terms.{Tm, plain_term}
use Rattle.fst_terms.specs.Same.{firsts}
use Rattle.fst_terms.specs.Skeletons.{first_atoms}
use Rattle.fst_terms.specs.declared.term.Term.{Term}
use Rattle.fst_terms.proofs.FirstsLemmas.{firsts-append}
use Rattle.fst_flats.proofs.RoundLemmas.{first_atoms-append}

module _ (each : Tm → List Tm) where
  flat-suc : (ts : List Term) (k : ℕ) (d : Term) → k < length ts → flat_map each (map plain_term (take (suc k) ts)) ≡ flat_map each (map plain_term (take k ts)) ++ each (plain_term (get_or ts k d))
  flat-suc [] k d h = absurd (omega arith)
  flat-suc (t ∷ ts) zero d h = append-nil (each (plain_term t))
  flat-suc (t ∷ ts) (suc k) d h =
      ap (◌++◌ (each (plain_term t))) (flat-suc ts k d (omega arith))
      ∙ sym (append_assoc (each (plain_term t)) (flat_map each (map plain_term (take k ts))) (each (plain_term (get_or ts k d))))

  -- one term more, in a list that is joined in the way `join`
  flat-more : (join : List Tm → List Tm → List Tm) → ((met ts us : List Tm) → join met (ts ++ us) ≡ join (join met ts) us)
      → (old now new : List Tm) (ts : List Term) (k : ℕ) (d : Term) → k < length ts → now ≡ join old (flat_map each (map plain_term (take k ts)))
      → new ≡ join now (each (plain_term (get_or ts k d))) → new ≡ join old (flat_map each (map plain_term (take (k + 1) ts)))
  flat-more join law old now new ts k d h e f =
      rw add-one (f ∙ ap (λ us. join us (each (plain_term (get_or ts k d)))) e
      ∙ sym (law old (flat_map each (map plain_term (take k ts))) (each (plain_term (get_or ts k d)))) ∙ ap (join old) (sym (flat-suc ts k d h)))

  pub firsts-more : (old now new : List Tm) (ts : List Term) (k : ℕ) (d : Term) → k < length ts → now ≡ firsts old (flat_map each (map plain_term (take k ts)))
      → new ≡ firsts now (each (plain_term (get_or ts k d))) → new ≡ firsts old (flat_map each (map plain_term (take (k + 1) ts)))
  firsts-more = flat-more firsts firsts-append

  pub first_atoms-more : (old now new : List Tm) (ts : List Term) (k : ℕ) (d : Term) → k < length ts → now ≡ first_atoms old (flat_map each (map plain_term (take k ts)))
      → new ≡ first_atoms now (each (plain_term (get_or ts k d))) → new ≡ first_atoms old (flat_map each (map plain_term (take (k + 1) ts)))
  first_atoms-more = flat-more first_atoms first_atoms-append

  pub append-more : (old now new : List Tm) (ts : List Term) (k : ℕ) (d : Term) → k < length ts → now ≡ old ++ flat_map each (map plain_term (take k ts))
      → new ≡ now ++ each (plain_term (get_or ts k d)) → new ≡ old ++ flat_map each (map plain_term (take (k + 1) ts))
  append-more = flat-more (λ met ts. met ++ ts) (λ met ts us. sym (append_assoc met ts us))

-- each of the terms, put last where it isn't there
map-suc : (ts : List Term) (k : ℕ) (d : Term) → k < length ts → map plain_term (take (suc k) ts) ≡ map plain_term (take k ts) ++ plain_term (get_or ts k d) ∷ []
map-suc [] k d h = absurd (omega arith)
map-suc (t ∷ ts) zero d h = refl
map-suc (t ∷ ts) (suc k) d h = ap (λ us. plain_term t ∷ us) (map-suc ts k d (omega arith))

pub added-more : (old now new : List Tm) (ts : List Term) (k : ℕ) (d : Term) → k < length ts → now ≡ firsts old (map plain_term (take k ts))
    → new ≡ firsts now (plain_term (get_or ts k d) ∷ []) → new ≡ firsts old (map plain_term (take (k + 1) ts))
added-more old now new ts k d h e f =
    rw add-one (f ∙ ap (λ us. firsts us (plain_term (get_or ts k d) ∷ [])) e ∙ sym (firsts-append old (map plain_term (take k ts)) (plain_term (get_or ts k d) ∷ [])) ∙ ap (firsts old) (sym (map-suc ts k d h)))

-- one item more of what a function gives of each
each-suc : (f : Tm → Tm) (ts : List Term) (k : ℕ) (d : Term) → k < length ts → map f (map plain_term (take (suc k) ts)) ≡ map f (map plain_term (take k ts)) ++ f (plain_term (get_or ts k d)) ∷ []
each-suc f [] k d h = absurd (omega arith)
each-suc f (t ∷ ts) zero d h = refl
each-suc f (t ∷ ts) (suc k) d h = ap (λ us. f (plain_term t) ∷ us) (each-suc f ts k d (omega arith))

pub mapped-more : (f : Tm → Tm) (old now new : List Tm) (ts : List Term) (k : ℕ) (d : Term) → k < length ts → now ≡ old ++ map f (map plain_term (take k ts))
    → new ≡ now ++ f (plain_term (get_or ts k d)) ∷ [] → new ≡ old ++ map f (map plain_term (take (k + 1) ts))
mapped-more f old now new ts k d h e g =
    rw add-one (g ∙ ap (λ us. us ++ f (plain_term (get_or ts k d)) ∷ []) e ∙ append_assoc old (map f (map plain_term (take k ts))) (f (plain_term (get_or ts k d)) ∷ []) ∙ ap (λ us. old ++ us) (sym (each-suc f ts k d h)))
