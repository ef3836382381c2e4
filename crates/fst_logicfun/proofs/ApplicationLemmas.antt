-- The applications in formulas, as the code goes over them.
use Rattle.std.proofs.Common.{◌≡◌, Bool, true, false, if◌then◌else◌, ℕ, zero, suc, ◌+◌, ◌<◌, List, [], ◌∷◌, ◌++◌, length, get_or, take, map, filter, refl, sym, ap, ◌∙◌, arith, add-one}
use Rattle.std.proofs.lemmas.List.{append-nil, append_assoc}
use Rattle.fst_base.specs.declared.op.Op.{Op}
use Rattle.fst_base.specs.declared.place.Pos.{Pos}
use Rattle.fst_base.specs.declared.sort.Sort.{Sort}
use Rattle.fst_base.specs.Sorts.{plain_sort}
use Rattle.fst_terms.specs.Terms.{Tm, t_app, row, plain_term, plain_terms}
use Rattle.fst_terms.specs.Same.{same_term, is_among, firsts}
use Rattle.fst_terms.specs.Flats.{parts_of, parts_of_all, parts_of_each}
use Rattle.fst_terms.specs.declared.term.Term.{Term}
use Rattle.fst_terms.specs.declared.term.Term.TheVariants as T
use Rattle.fst_terms.proofs.PlainLemmas.{plain-term-Prim, plain-term-If, plain-term-App}
use Rattle.fst_terms.proofs.FirstsLemmas.{firsts-append}
use Rattle.fst_program.specs.FunctionFacts.{is_application, applications}

-- the applications among these terms
abbrev pub picked_out : List Tm → List Tm
picked_out ts = filter is_application ts

pub picked-append : (ts us : List Tm) → picked_out (ts ++ us) ≡ picked_out ts ++ picked_out us
picked-append [] us = refl
picked-append (t ∷ ts) us = when (is_application t) (picked-append ts us)
  where
    when : (b : Bool) → picked_out (ts ++ us) ≡ picked_out ts ++ picked_out us → (if b then t ∷ picked_out (ts ++ us) else picked_out (ts ++ us)) ≡ (if b then t ∷ picked_out ts else picked_out ts) ++ picked_out us
    when true ih = ap (λ xs. t ∷ xs) ih
    when false ih = ih

pub parts-append : (ts us : List Tm) → parts_of_each (ts ++ us) ≡ parts_of_each ts ++ parts_of_each us
parts-append [] us = refl
parts-append (t ∷ ts) us = ap (λ xs. parts_of t ++ xs) (parts-append ts us) ∙ sym (append_assoc (parts_of t) (parts_of_each ts) (parts_of_each us))

-- ---- applications among first occurrences

different : (t u : Tm) → is_application t ≡ true → is_application u ≡ false → same_term t u ≡ false
different (t_app k S ts) (t_app l T us) p q = cc
different (t_app k S ts) u p q = refl
different t u p q = cc

among-picked : (t : Tm) (met : List Tm) → is_application t ≡ true → is_among t met ≡ is_among t (picked_out met)
among-picked t [] p = refl
among-picked t (u ∷ us) p = when (is_application u) refl (among-picked t us p)
  where
    when : (b : Bool) → is_application u ≡ b → is_among t us ≡ is_among t (picked_out us) → (if same_term t u then true else is_among t us) ≡ is_among t (if b then u ∷ picked_out us else picked_out us)
    when true q ih = ap (λ c. if same_term t u then true else c) ih
    when false q ih = ap (λ b. if b then true else is_among t us) (different t u p q) ∙ ih

picked-one : (t : Tm) (met : List Tm) → picked_out (if is_among t met then met else met ++ t ∷ []) ≡ firsts (picked_out met) (picked_out (t ∷ []))
picked-one t met = when (is_application t) refl
  where
    here : (b : Bool) → is_application t ≡ true → picked_out (if b then met else met ++ t ∷ []) ≡ (if b then picked_out met else picked_out met ++ t ∷ [])
    here true p = refl
    here false p = picked-append met (t ∷ []) ∙ ap (λ b. picked_out met ++ (if b then t ∷ [] else [])) p

    there : (b : Bool) → is_application t ≡ false → picked_out (if b then met else met ++ t ∷ []) ≡ picked_out met
    there true p = refl
    there false p = picked-append met (t ∷ []) ∙ ap (λ b. picked_out met ++ (if b then t ∷ [] else [])) p ∙ append-nil (picked_out met)

    when : (b : Bool) → is_application t ≡ b → picked_out (if is_among t met then met else met ++ t ∷ []) ≡ firsts (picked_out met) (if b then t ∷ [] else [])
    when true p = here (is_among t met) p ∙ ap (λ b. if b then picked_out met else picked_out met ++ t ∷ []) (among-picked t met p)
    when false p = there (is_among t met) p

pub picked-firsts : (met ts : List Tm) → picked_out (firsts met ts) ≡ firsts (picked_out met) (picked_out ts)
picked-firsts met [] = refl
picked-firsts met (t ∷ ts) =
    picked-firsts (if is_among t met then met else met ++ t ∷ []) ts ∙ ap (λ m. firsts m (picked_out ts)) (picked-one t met)
    ∙ sym (firsts-append (picked_out met) (picked_out (t ∷ [])) (picked_out ts)) ∙ ap (firsts (picked_out met)) (sym (picked-append (t ∷ []) ts))

-- the applications of formulas and of more formulas
pub applications-more : (ts us : List Tm) → applications (ts ++ us) ≡ firsts (applications ts) (picked_out (parts_of_each us))
applications-more ts us =
    picked-firsts [] (parts_of_each (ts ++ us)) ∙ ap (λ ps. firsts [] (picked_out ps)) (parts-append ts us) ∙ ap (firsts []) (picked-append (parts_of_each ts) (parts_of_each us))
    ∙ firsts-append [] (picked_out (parts_of_each ts)) (picked_out (parts_of_each us)) ∙ ap (λ m. firsts m (picked_out (parts_of_each us))) (sym (picked-firsts [] (parts_of_each ts)))

-- ---- as the code does it

parts-row : (ts : List Tm) → parts_of_all (row ts) ≡ parts_of_each ts
parts-row [] = refl
parts-row (t ∷ ts) = ap (λ xs. parts_of t ++ xs) (parts-row ts)

pub applications-Prim : (o : Op) (S : Sort) (ts args : List Term) (p : Pos) (t : Term) (old new : List Tm) → t ≡ T.Prim o S ts p → args ≡ ts
    → new ≡ firsts old (picked_out (parts_of_each (map plain_term args))) → new ≡ firsts old (picked_out (parts_of (plain_term t)))
applications-Prim o S ts args p t old new is e h =
    h ∙ ap (λ ts. firsts old (picked_out ts)) (ap (λ ts. parts_of_each (map plain_term ts)) e ∙ sym (parts-row (map plain_term ts)))
    ∙ sym (ap (λ t. firsts old (picked_out (parts_of t))) (ap plain_term is ∙ plain-term-Prim o S ts p))

pub applications-App : (k : ℕ) (S : Sort) (ts args : List Term) (t : Term) (old mid new : List Tm) → t ≡ T.App k S ts → args ≡ ts → mid ≡ firsts old (plain_term t ∷ [])
    → new ≡ firsts mid (picked_out (parts_of_each (map plain_term args))) → new ≡ firsts old (picked_out (parts_of (plain_term t)))
applications-App k S ts args t old mid new is e f h =
    let self : plain_term t ≡ t_app k (plain_sort S) (plain_terms ts) = ap plain_term is ∙ plain-term-App k S ts in
    h ∙ ap (λ m. firsts m (picked_out (parts_of_each (map plain_term args)))) (f ∙ ap (λ t. firsts old (t ∷ [])) self)
    ∙ ap (λ us. firsts (firsts old (t_app k (plain_sort S) (plain_terms ts) ∷ [])) (picked_out us)) (ap (λ ts. parts_of_each (map plain_term ts)) e ∙ sym (parts-row (map plain_term ts)))
    ∙ sym (ap (λ t. firsts old (picked_out (parts_of t))) self)

pub applications-If : (old m1 m2 m3 : List Tm) (c c' t t' u u' w : Term) → w ≡ T.If c t u → c' ≡ c → t' ≡ t → u' ≡ u → m1 ≡ firsts old (picked_out (parts_of (plain_term c')))
    → m2 ≡ firsts m1 (picked_out (parts_of (plain_term t'))) → m3 ≡ firsts m2 (picked_out (parts_of (plain_term u'))) → m3 ≡ firsts old (picked_out (parts_of (plain_term w)))
applications-If old m1 m2 m3 c c' t t' u u' w is p q r e f g =
    let whole : w ≡ T.If c' t' u' = cc in
    let a : List Tm = parts_of (plain_term c') in
    let b : List Tm = parts_of (plain_term t') in
    let d : List Tm = parts_of (plain_term u') in
    g ∙ ap (λ m. firsts m (picked_out d)) (f ∙ ap (λ m. firsts m (picked_out b)) e ∙ sym (firsts-append old (picked_out a) (picked_out b))) ∙ sym (firsts-append old (picked_out a ++ picked_out b) (picked_out d))
    ∙ ap (firsts old) (ap (λ xs. xs ++ picked_out d) (sym (picked-append a b)) ∙ sym (picked-append (a ++ b) d))
    ∙ sym (ap (λ t. firsts old (picked_out (parts_of t))) (ap plain_term whole ∙ plain-term-If c' t' u'))

-- ---- lists that are gone through

module _ {A : Type 0} (each : A → List Tm) (all : List A → List Tm) (none : all [] ≡ []) (more : (t : A) (ts : List A) → all (t ∷ ts) ≡ each t ++ all ts) where
  all-suc : (ts : List A) (k : ℕ) (d : A) → k < length ts → all (take (suc k) ts) ≡ all (take k ts) ++ each (get_or ts k d)
  all-suc [] k d h = absurd (omega arith)
  all-suc (t ∷ ts) zero d h = more t [] ∙ ap (λ us. each t ++ us) none ∙ append-nil (each t) ∙ ap (λ us. us ++ each t) (sym none)
  all-suc (t ∷ ts) (suc k) d h =
      more t (take (suc k) ts) ∙ ap (λ us. each t ++ us) (all-suc ts k d (omega arith))
      ∙ sym (append_assoc (each t) (all (take k ts)) (each (get_or ts k d))) ∙ ap (λ us. us ++ each (get_or ts k d)) (sym (more t (take k ts)))

  -- one item more, in a list that is joined in the way `join`
  pub all-more : (join : List Tm → List Tm → List Tm) → ((met ts us : List Tm) → join met (ts ++ us) ≡ join (join met ts) us)
      → (old now new : List Tm) (ts : List A) (k : ℕ) (d : A) → k < length ts → now ≡ join old (all (take k ts))
      → new ≡ join now (each (get_or ts k d)) → new ≡ join old (all (take (k + 1) ts))
  all-more join law old now new ts k d h e f =
      rw add-one (f ∙ ap (λ us. join us (each (get_or ts k d))) e ∙ sym (law old (all (take k ts)) (each (get_or ts k d))) ∙ ap (join old) (sym (all-suc ts k d h)))

pub applications-each : (old now new : List Tm) (ts : List Term) (k : ℕ) (d : Term) → k < length ts → now ≡ firsts old (picked_out (parts_of_each (map plain_term (take k ts))))
    → new ≡ firsts now (picked_out (parts_of (plain_term (get_or ts k d)))) → new ≡ firsts old (picked_out (parts_of_each (map plain_term (take (k + 1) ts))))
applications-each =
    all-more (λ (t : Term). picked_out (parts_of (plain_term t))) (λ ts. picked_out (parts_of_each (map plain_term ts))) refl
    (λ t ts. picked-append (parts_of (plain_term t)) (parts_of_each (map plain_term ts))) firsts firsts-append
