-- Data facts by how many arguments a term has; the sorts of measured lists; pairs of components.
use Rattle.std.proofs.Common.{◌≡◌, ℤ, pos, ℕ, zero, suc, ◌+◌, ◌<◌, Bool, true, false, if◌then◌else◌, List, [], ◌∷◌, ◌++◌, length, get_or, take, map, flat_map, refl, sym, ap, ap₂, ◌∙◌, arith, add-one}
use Rattle.std.proofs.lemmas.List.{append-nil, append_assoc}
use Rattle.fst_base.specs.declared.op.Op.{Op}
use Rattle.fst_base.specs.declared.op.Op.TheVariants as op
use Rattle.fst_base.specs.Sorts.{Srt}
use Rattle.fst_terms.specs.Terms.{Tm, t_int, t_prim, t_end, t_more, plain_term}
use Rattle.std.specs.Ordering.{int_eq}
use Rattle.std.proofs.lemmas.Bool.Decides.{Decides-int_eq}
use Rattle.fst_terms.specs.Formulas.{equation, nought, sort_of}
use Rattle.fst_terms.specs.Flats.{parts_of, parts_of_each}
use Rattle.fst_terms.specs.FlatForms.{component_pair, components}
use Rattle.fst_terms.specs.DataFacts.{facts_of, len_sorts}
use Rattle.fst_terms.specs.declared.term.Term.{Term}
use Rattle.fst_flats.specs.Pairs.{paired}
use Rattle.fst_flats.specs.Rows.{given, measured, nullary_facts, remainder_facts, remainder_rows, unary_facts, binary_facts}

-- ---- facts by the number of arguments

module _ (Ss lens : List Srt) where
  pub facts-none : (o : Op) (S : Srt) (t : Tm) → nullary_facts lens o S t ≡ facts_of Ss lens o S [] t
  facts-none op.Nil S t = refl
  facts-none o S t = refl

  pub facts-one : (o : Op) (S : Srt) (u t : Tm) → unary_facts Ss o S u t ≡ facts_of Ss lens o S (u ∷ []) t
  facts-one op.Len S u t = refl
  facts-one op.Hd S u t = refl
  facts-one op.Tl S u t = refl
  facts-one op.The S u t = refl
  facts-one op.Outl S u t = refl
  facts-one op.Outr S u t = refl
  facts-one o S u t = refl

  pub facts-two : (o : Op) (S : Srt) (u r t : Tm) → binary_facts lens o S u r t ≡ facts_of Ss lens o S (u ∷ r ∷ []) t
  facts-two op.Cons S u r t = refl
  facts-two op.Div S u (t_int k) t = refl
  facts-two op.Div S u r t = refl
  facts-two op.Rem S u (t_int k) t = refl
  facts-two op.Rem S u r t = refl
  facts-two o S u (t_int k) t = refl
  facts-two o S u r t = refl

  pub facts-many : (o : Op) (S : Srt) (u r v : Tm) (us : List Tm) (t : Tm) → [] ≡ facts_of Ss lens o S (u ∷ r ∷ v ∷ us) t
  facts-many op.Len S u r v us t = refl
  facts-many op.Nil S u r v us t = refl
  facts-many op.Cons S u r v us t = refl
  facts-many op.Hd S u r v us t = refl
  facts-many op.Tl S u r v us t = refl
  facts-many op.The S u r v us t = refl
  facts-many op.Outl S u r v us t = refl
  facts-many op.Outr S u r v us t = refl
  facts-many op.Div S u (t_int k) v us t = refl
  facts-many op.Div S u r v us t = refl
  facts-many op.Rem S u (t_int k) v us t = refl
  facts-many op.Rem S u r v us t = refl
  facts-many o S u r v us t = refl

-- ---- lists that grow by what some terms give

module _ (Ss : List Srt) where
  len-one : (t : Tm) (ts : List Tm) → len_sorts Ss (t ∷ ts) ≡ given (sort_of Ss) (measured t) ++ len_sorts Ss ts
  len-one (t_prim op.Len S (t_more u t_end) at) ts = refl
  len-one (t_prim op.Len S t_end at) ts = refl
  len-one (t_prim op.Len S (t_more u (t_more v us)) at) ts = refl
  len-one (t_prim o S us at) ts = refl
  len-one t ts = refl

  len-suc : (ts : List Term) (k : ℕ) (d : Term) → k < length ts
      → len_sorts Ss (map plain_term (take (suc k) ts)) ≡ len_sorts Ss (map plain_term (take k ts)) ++ given (sort_of Ss) (measured (plain_term (get_or ts k d)))
  len-suc [] k d h = absurd (omega arith)
  len-suc (t ∷ ts) zero d h = len-one (plain_term t) [] ∙ append-nil (given (sort_of Ss) (measured (plain_term t)))
  len-suc (t ∷ ts) (suc k) d h =
      len-one (plain_term t) (map plain_term (take (suc k) ts)) ∙ ap (λ xs. given (sort_of Ss) (measured (plain_term t)) ++ xs) (len-suc ts k d (omega arith))
      ∙ sym (append_assoc (given (sort_of Ss) (measured (plain_term t))) (len_sorts Ss (map plain_term (take k ts))) (given (sort_of Ss) (measured (plain_term (get_or ts k d)))))
      ∙ ap (λ xs. xs ++ given (sort_of Ss) (measured (plain_term (get_or ts k d)))) (sym (len-one (plain_term t) (map plain_term (take k ts))))

  pub len-more : (now new : List Srt) (ts : List Term) (k : ℕ) (d : Term) → k < length ts → now ≡ len_sorts Ss (map plain_term (take k ts))
      → new ≡ now ++ given (sort_of Ss) (measured (plain_term (get_or ts k d))) → new ≡ len_sorts Ss (map plain_term (take (k + 1) ts))
  len-more now new ts k d h e f = rw add-one (f ∙ ap (λ xs. xs ++ given (sort_of Ss) (measured (plain_term (get_or ts k d)))) e ∙ sym (len-suc ts k d h))

  -- the pair of the term that a term is a component of
  pair-one : (t : Tm) → component_pair Ss t ≡ parts_of_each (given (components Ss) (paired t))
  pair-one (t_prim op.Fst S (t_more u t_end) at) = sym (append-nil (parts_of (components Ss u)))
  pair-one (t_prim op.Fst S t_end at) = refl
  pair-one (t_prim op.Fst S (t_more u (t_more v us)) at) = refl
  pair-one (t_prim op.Snd S (t_more u t_end) at) = sym (append-nil (parts_of (components Ss u)))
  pair-one (t_prim op.Snd S t_end at) = refl
  pair-one (t_prim op.Snd S (t_more u (t_more v us)) at) = refl
  pair-one (t_prim o S us at) = refl
  pair-one t = refl

  parts-append : (ts us : List Tm) → parts_of_each (ts ++ us) ≡ parts_of_each ts ++ parts_of_each us
  parts-append [] us = refl
  parts-append (t ∷ ts) us = ap (λ xs. parts_of t ++ xs) (parts-append ts us) ∙ sym (append_assoc (parts_of t) (parts_of_each ts) (parts_of_each us))

  pair-suc : (ts : List Term) (k : ℕ) (d : Term) → k < length ts
      → flat_map (component_pair Ss) (map plain_term (take (suc k) ts)) ≡ flat_map (component_pair Ss) (map plain_term (take k ts)) ++ component_pair Ss (plain_term (get_or ts k d))
  pair-suc [] k d h = absurd (omega arith)
  pair-suc (t ∷ ts) zero d h = append-nil (component_pair Ss (plain_term t))
  pair-suc (t ∷ ts) (suc k) d h =
      ap (◌++◌ (component_pair Ss (plain_term t))) (pair-suc ts k d (omega arith))
      ∙ sym (append_assoc (component_pair Ss (plain_term t)) (flat_map (component_pair Ss) (map plain_term (take k ts))) (component_pair Ss (plain_term (get_or ts k d))))

  pub pairs-more : (now new : List Tm) (ts : List Term) (k : ℕ) (d : Term) → k < length ts → parts_of_each now ≡ flat_map (component_pair Ss) (map plain_term (take k ts))
      → new ≡ now ++ given (components Ss) (paired (plain_term (get_or ts k d))) → parts_of_each new ≡ flat_map (component_pair Ss) (map plain_term (take (k + 1) ts))
  pairs-more now new ts k d h e f =
      rw add-one (ap parts_of_each f ∙ parts-append now (given (components Ss) (paired (plain_term (get_or ts k d))))
      ∙ ap₂ (λ xs ys. xs ++ ys) e (sym (pair-one (plain_term (get_or ts k d)))) ∙ sym (pair-suc ts k d h))

-- ---- divisions by another number than 0

pub rows-other : (u : Tm) (k : ℤ) (t : Tm) → (k ≡ pos 0 → ⊥) → remainder_facts u k t ≡ remainder_rows u k t
rows-other u k t differ = sym (ap (λ b. if b then equation t nought ∷ [] else remainder_facts u k t) (when (int_eq k (pos 0)) refl))
  where
    when : (b : Bool) → int_eq k (pos 0) ≡ b → b ≡ false
    when true e = absurd (differ ((Decides-int_eq k (pos 0)).0 e))
    when false e = refl
