-- The numbered terms of a flat form are different, hold their arguments, and constructors have their arities.
use Rattle.std.proofs.Common.{◌≡◌, ℕ, zero, suc, ◌-◌, ◌<◌, ◌⊎◌, inl, inr, Bool, true, false, if◌then◌else◌, List, [], ◌∷◌, ◌++◌, length, get_or, IsTrue, refl, sym, ap, subst, ◌∙◌, arith}
use Rattle.std.specs.Prelude.{⊤, flat_map}
use Rattle.std.proofs.lemmas.Bool.{false≢true}
use Rattle.std.proofs.lemmas.List.{length-map}
use Rattle.fst_base.specs.declared.op.Op.{Op}
use Rattle.fst_base.specs.declared.op.Op.TheVariants as op
use Rattle.fst_base.specs.Rows.{row_args}
use Rattle.fst_base.specs.Sorts.{Srt, s_unit, s_bool, s_pair, put_sorts}
use Rattle.fst_terms.specs.Terms.{Tm, Tms, t_bool, t_unit, t_prim, t_end, t_more, listed}
use Rattle.fst_terms.specs.Same.{same_term, is_among, firsts}
use Rattle.fst_terms.specs.Sorted.{TmSorted, TmsSorted}
use Rattle.fst_terms.specs.Flats.{Flt, literals, parts_of_each}
use Rattle.fst_terms.specs.Skeletons.{fst_term, snd_term}
use Rattle.fst_terms.specs.DataFacts.{subterms, op_term, left_component, right_component}
use Rattle.fst_terms.specs.FlatForms.{Fms, sorts, formulas, components, component_pair, number_all}
use Rattle.fst_terms.specs.Sentences.{AreFormulas}
use Rattle.fst_terms.proofs.SameLemmas.{same_term-decides}
use Rattle.fst_terms.proofs.MemberLemmas.{AllTm, Includes, all-append, all-at, firsts-all}
use Rattle.fst_terms.proofs.NumberLemmas.{ArgsAmong, numbered-closed}
use Rattle.fst_terms.proofs.SortedFactLemmas.{HasSort, IsFormula, all-given, all-weaker, subterms-sorted, parts-sorted, first-of}
use Rattle.fst_terms.proofs.AtomSortLemmas.{atoms-sorted, fst-sorted, snd-sorted}
use Rattle.fst_terms.proofs.TermSorts.{sort-sorted}
use Rattle.fst_congruence.specs.Numbered.{constructor_of, arguments, term_at, IsNumber, IsComplete, IsOnce, HaveArities, IsNumbering}
use Rattle.fst_congruence.specs.Explained.{FlatsAreNumbered}
use Rattle.fst_congruence.proofs.JoinedLemmas.{number-among, among-number}
use Rattle.fst_congruence.proofs.MakerLemmas.{maker-same, maker-above}

-- ---- first occurrences are different terms

Distinct : List Tm → Type 0
Distinct [] = ⊤
Distinct (t ∷ ts) = (IsTrue (is_among t ts) → ⊥) × Distinct ts

among-last : (t u : Tm) (ts : List Tm) → IsTrue (is_among t (ts ++ u ∷ [])) → IsTrue (is_among t ts) ⊎ (t ≡ u)
among-last t u [] h = go (same_term t u) refl h
  where
    go : (b : Bool) → same_term t u ≡ b → IsTrue (if b then true else false) → IsTrue (is_among t []) ⊎ (t ≡ u)
    go true e g = inr ((same_term-decides t u).0 e)
    go false e g = absurd (false≢true g)
among-last t u (w ∷ ws) h = go (same_term t w) h (among-last t u ws)
  where
    go : (b : Bool) → IsTrue (if b then true else is_among t (ws ++ u ∷ [])) → (IsTrue (is_among t (ws ++ u ∷ [])) → IsTrue (is_among t ws) ⊎ (t ≡ u)) → IsTrue (if b then true else is_among t ws) ⊎ (t ≡ u)
    go true g later = inl refl
    go false g later = later g

among-head : (t : Tm) (ts : List Tm) → IsTrue (is_among t (t ∷ ts))
among-head t ts = rw ((same_term-decides t t).1 refl) refl

distinct-push : (ts : List Tm) (u : Tm) → Distinct ts → is_among u ts ≡ false → Distinct (ts ++ u ∷ [])
unfolding Distinct
distinct-push [] u d n = (λ h. false≢true h, tt)
distinct-push (t ∷ ts) u d n = (λ h. go (among-last t u ts h), distinct-push ts u d.1 (rest (same_term u t) n))
  where
    rest : (b : Bool) → (if b then true else is_among u ts) ≡ false → is_among u ts ≡ false
    rest true e = absurd (false≢true (sym e))
    rest false e = e

    go : IsTrue (is_among t ts) ⊎ (t ≡ u) → ⊥
    go (inl h) = d.0 h
    go (inr e) = false≢true (sym n ∙ subst (λ w. is_among w (t ∷ ts) ≡ true) e (among-head t ts))

distinct-firsts : (met us : List Tm) → Distinct met → Distinct (firsts met us)
distinct-firsts met [] d = d
distinct-firsts met (u ∷ us) d = go (is_among u met) refl (distinct-firsts met us d) (λ n. distinct-firsts (met ++ u ∷ []) us (distinct-push met u d n))
  where
    go : (b : Bool) → is_among u met ≡ b → Distinct (firsts met us) → (is_among u met ≡ false → Distinct (firsts (met ++ u ∷ []) us)) → Distinct (firsts (if b then met else met ++ u ∷ []) us)
    go true e old new = old
    go false e old new = new e

none-distinct : Distinct []
unfolding Distinct
none-distinct = tt

places-once : (ts : List Tm) → Distinct ts → (i j : ℕ) → i < length ts → j < length ts → get_or ts i t_unit ≡ get_or ts j t_unit → i ≡ j
unfolding Distinct
places-once [] d i j p q e = absurd (omega (arith, p))
places-once (t ∷ ts) d zero zero p q e = refl
places-once (t ∷ ts) d zero (suc j) p q e = absurd (d.0 (number-among ts j t (omega (arith, q)) (sym e)))
places-once (t ∷ ts) d (suc i) zero p q e = absurd (d.0 (number-among ts i t (omega (arith, p)) e))
places-once (t ∷ ts) d (suc i) (suc j) p q e = ap suc (places-once ts d.1 i j (omega (arith, p)) (omega (arith, q)) e)

once : (ts : List Tm) → Distinct ts → IsOnce ts
once ts d i j p q e =
    let same : i - 1 ≡ j - 1 = places-once ts d (i - 1) (j - 1) (omega (arith, p.counted, p.within)) (omega (arith, q.counted, q.within)) e in
    omega (arith, same, p.counted, q.counted)

-- ---- arguments

term-among : (ts : List Tm) (i : ℕ) → IsNumber ts i → IsTrue (is_among (term_at ts i) ts)
term-among ts i h = number-among ts (i - 1) (term_at ts i) (omega (arith, h.counted, h.within)) refl

included : (us ts : List Tm) (k : ℕ) → Includes us ts → k < length us → IsTrue (is_among (get_or us k t_unit) ts)
included [] ts k h lt = absurd (omega (arith, lt))
included (u ∷ us) ts zero h lt = h.0
included (u ∷ us) ts (suc k) h lt = included us ts k h.1 (omega (arith, lt))

number-of-place : (ts : List Tm) (k : ℕ) (t : Tm) → k < length ts → get_or ts k t_unit ≡ t → (j : ℕ) × (IsNumber ts j × (term_at ts j ≡ t))
number-of-place ts k t lt e =
    let back : suc k - 1 ≡ k = omega arith in
    (suc k, (record { counted = omega arith; within = omega (arith, lt) }, ap (λ m. get_or ts m t_unit) back ∙ e))

complete : (ts : List Tm) → AllTm (ArgsAmong ts) ts → IsComplete ts
complete ts all i k h lt =
    let among = included (arguments (term_at ts i)) ts k (all-at (ArgsAmong ts) ts (term_at ts i) all (term-among ts i h)) lt in
    let at = among-number ts (get_or (arguments (term_at ts i)) k t_unit) among in
    number-of-place ts at.0 (get_or (arguments (term_at ts i)) k t_unit) at.1.0 at.1.1

-- ---- arities

module _ (Applies : (k : ℕ) → List Srt → (S : Srt) → Type 0) where
  count-sorted : (Ss : List Srt) (ts : Tms) (Ts : List Srt) → TmsSorted Applies Ss ts Ts → length (listed ts) ≡ length Ts
  count-sorted Ss t_end Ts h = sym (ap (λ (Rs : List Srt). length Rs) h)
  count-sorted Ss (t_more t ts) Ts h = ap suc (count-sorted Ss ts h.1.0 h.1.1.2) ∙ sym (ap (λ (Rs : List Srt). length Rs) h.1.1.0)

  op-count : (Ss : List Srt) (o : Op) (S : Srt) (ts : Tms) (at : ℕ) → HasSort Applies Ss (t_prim o S ts at) → length (listed ts) ≡ length (row_args o)
  op-count Ss o S ts at h =
      let fits = h.1.1.1.0 in
      count-sorted Ss ts h.1.1.0 h.1.1.1.1 ∙ ap (λ (Rs : List Srt). length Rs) fits.args ∙ length-map (row_args o) (put_sorts fits.first fits.second)

  counts-same : (Ss : List Srt) (t u : Tm) → HasSort Applies Ss t → HasSort Applies Ss u → 0 < constructor_of t → constructor_of t ≡ constructor_of u → length (arguments t) ≡ length (arguments u)
  counts-same Ss (t_prim o S ts at) (t_prim p R us bt) h g some e = op-count Ss o S ts at h ∙ ap (λ q. length (row_args q)) (maker-same o p some e) ∙ sym (op-count Ss p R us bt g)
  counts-same Ss (t_prim o S ts at) (t_bool true) h g some e = (let above = (maker-above o some).0 in absurd (omega (arith, above, e)))
  counts-same Ss (t_prim o S ts at) (t_bool false) h g some e = (let above = (maker-above o some).0 in absurd (omega (arith, above, e)))
  counts-same Ss (t_prim o S ts at) u h g some e = absurd (omega (arith, some, e))
  counts-same Ss (t_bool true) (t_prim p R us bt) h g some e = (let above = (maker-above p (subst (λ n. 0 < n) e some)).0 in absurd (omega (arith, above, e)))
  counts-same Ss (t_bool false) (t_prim p R us bt) h g some e = (let above = (maker-above p (subst (λ n. 0 < n) e some)).0 in absurd (omega (arith, above, e)))
  counts-same Ss (t_bool b) (t_bool c) h g some e = refl
  counts-same Ss (t_bool true) u h g some e = absurd (omega (arith, e))
  counts-same Ss (t_bool false) u h g some e = absurd (omega (arith, e))
  counts-same Ss t u h g some e = absurd (omega (arith, some))

  components-sorted : (Ss : List Srt) (A B : Srt) (u : Tm) → TmSorted Applies Ss u (s_pair A B) → HasSort Applies Ss (components Ss u)
  components-sorted Ss A B u h =
      subst (λ R. HasSort Applies Ss (op_term op.Pair R (fst_term (left_component R) u ∷ snd_term (right_component R) u ∷ []))) (sym (sort-sorted Applies Ss u (s_pair A B) h)) (
        s_pair A B,
        (
          refl,
          (
            A ∷ B ∷ [],
            (
              record { first = A; second = B; args = refl; result = refl },
              (A, (B ∷ [], (refl, fst-sorted Applies Ss A B u h, (B, ([], (refl, snd-sorted Applies Ss A B u h, refl)))))),
            ),
          ),
        ),
      )

  pairs-sorted : (Ss : List Srt) (ts : List Tm) → AllTm (HasSort Applies Ss) ts → AllTm (HasSort Applies Ss) (flat_map (component_pair Ss) ts)
  pairs-sorted Ss [] h = tt
  pairs-sorted Ss (t ∷ ts) h = all-append (HasSort Applies Ss) (component_pair Ss t) (flat_map (component_pair Ss) ts) (one t h.0) (pairs-sorted Ss ts h.1)
    where
      one : (t : Tm) → HasSort Applies Ss t → AllTm (HasSort Applies Ss) (component_pair Ss t)
      one (t_prim op.Fst S (t_more u t_end) at) k =
          let g = k.1.1.1.0 in
          parts-sorted Applies Ss (components Ss u) (components-sorted Ss g.first g.second u (first-of Applies Ss (t_more u t_end) (s_pair g.first g.second) [] k.1.1.0 g.args k.1.1.1.1))
      one (t_prim op.Snd S (t_more u t_end) at) k =
          let g = k.1.1.1.0 in
          parts-sorted Applies Ss (components Ss u) (components-sorted Ss g.first g.second u (first-of Applies Ss (t_more u t_end) (s_pair g.first g.second) [] k.1.1.0 g.args k.1.1.1.1))
      one t k = tt

  terms-sorted : (m : Fms) → AreFormulas Applies (sorts m) (formulas m) → AllTm (HasSort Applies (sorts m)) (number_all m).terms
  terms-sorted m formed =
      let Ss = sorts m in
      let atoms = (number_all m).atoms in
      let us = subterms atoms in
      let forms = atoms-sorted Applies Ss (formulas m) (all-given Applies Ss (IsFormula Applies Ss) (formulas m) formed) in
      let sorted = subterms-sorted Applies Ss atoms (all-weaker Applies Ss (IsFormula Applies Ss) (HasSort Applies Ss) atoms (λ t i. (s_bool, i)) forms) in
      firsts-all (HasSort Applies Ss) us (flat_map (component_pair Ss) us ++ literals) sorted
      (all-append (HasSort Applies Ss) (flat_map (component_pair Ss) us) literals (pairs-sorted Ss us sorted) ((s_bool, refl), ((s_bool, refl), ((s_unit, refl), tt))))

  arities : (Ss : List Srt) (ts : List Tm) → AllTm (HasSort Applies Ss) ts → HaveArities ts
  arities Ss ts all i j p q some e =
      counts-same Ss (term_at ts i) (term_at ts j) (all-at (HasSort Applies Ss) ts (term_at ts i) all (term-among ts i p)) (all-at (HasSort Applies Ss) ts (term_at ts j) all (term-among ts j q)) some e

  made-numbering : (m : Fms) → AreFormulas Applies (sorts m) (formulas m) → IsNumbering (number_all m).terms
  made-numbering m formed = record {
    complete = complete (number_all m).terms (numbered-closed (sorts m) (number_all m).atoms);
    once = once (number_all m).terms (distinct-firsts (subterms (number_all m).atoms) (flat_map (component_pair (sorts m)) (subterms (number_all m).atoms) ++ literals) (distinct-firsts [] (parts_of_each (number_all m).atoms) none-distinct));
    arities = arities (sorts m) (number_all m).terms (terms-sorted m formed);
  }

-- the numbered terms of every flat form are so
pub flat-numbering : FlatsAreNumbered
flat-numbering Applies f h = subst (λ (g : Flt). IsNumbering g.terms) (sym h.is) (made-numbering Applies h.made h.formed)
