-- What equation lines and row lines give is true in each environment that agrees with the marks.
use Rattle.std.proofs.Common.{◌≡◌, ℕ, zero, suc, Bool, true, false, ◌||◌, if◌then◌else◌, List, [], ◌∷◌, ◌++◌, get_or, slice_get, Option, Some, None, option_map, IsTrue, refl, sym, ap, ap₂, ◌∙◌, subst}
use Rattle.std.specs.Prelude.{flat_map}
use Rattle.std.proofs.lemmas.Bool.{false≢true}
use Rattle.fst_base.specs.declared.op.Op.TheVariants as op
use Rattle.fst_base.specs.Sorts.{Srt, s_unit, s_bool, s_pair}
use Rattle.fst_base.specs.Values.{Val, v_bool, HasSorts, same, same_bool}
use Rattle.fst_base.specs.Primitives.{is_true}
use Rattle.fst_base.proofs.ValueLemmas.{same-decides}
use Rattle.fst_terms.specs.Terms.{Tm, t_bool, t_unit, t_prim, t_if, t_app, t_end, t_more, listed}
use Rattle.fst_terms.specs.Meaning.{Env, Meaning, value}
use Rattle.fst_terms.specs.Same.{same_term, is_among}
use Rattle.fst_terms.specs.Sorted.{TmSorted}
use Rattle.fst_terms.specs.Flats.{Flt, truth_of, parts_of, parts_of_each, literals}
use Rattle.fst_terms.specs.declared.flat.Mark.{Mark}
use Rattle.fst_terms.specs.declared.flat.Mark.TheVariants as mark
use Rattle.fst_terms.proofs.SameLemmas.{same_term-decides}
use Rattle.fst_terms.proofs.MemberLemmas.{AllTm, all-append, firsts-all, all-at, Includes, among-back, among-here, firsts-include}
use Rattle.fst_terms.specs.Skeletons.{Skl, k_truth, k_atom, k_if, k_same, args_of, same_atom, turned, reading, chosen, agree, skeleton, fst_term, snd_term}
use Rattle.fst_terms.specs.DataFacts.{subterms, op_term, left_component, right_component}
use Rattle.fst_terms.specs.FlatForms.{Fms, sorts, formulas, components, component_pair, number_all}
use Rattle.fst_terms.specs.Marks.{Marking, one_more, number_by, atom_number, at_number, mark_of, reads, MarkHolds, Agrees}
use Rattle.fst_terms.specs.Sentences.{KeepsSorts, AreFormulas}
use Rattle.fst_terms.proofs.TermSorts.{sort-sorted}
use Rattle.fst_terms.proofs.SortedFactLemmas.{HasSort, IsFormula, all-given, all-weaker, subterms-sorted, parts-sorted, first-of}
use Rattle.fst_terms.proofs.AtomSortLemmas.{atoms-sorted, fst-sorted, snd-sorted}
use Rattle.fst_terms.proofs.SkeletonValues.{truth, skeleton-true}
use Rattle.fst_terms.proofs.NumberLemmas.{ArgsAmong, atoms-numbered, numbered-closed}

-- ---- items by number

pub number-among : (ts : List Tm) (n : ℕ) (t : Tm) → at_number ts n ≡ Some t → IsTrue (is_among t ts)
number-among ts zero t h = cc
number-among ts (suc n) t h = go ts n h
  where
    go : (ts : List Tm) (n : ℕ) → slice_get ts n ≡ Some t → IsTrue (is_among t ts)
    go [] n h = cc
    go (u ∷ us) zero h = let p : u ≡ t = cc in subst (λ w. IsTrue (is_among w (u ∷ us))) p (among-here u us)
    go (u ∷ us) (suc n) h = among-back t (u ∷ []) us (go us n h)

among-includes : (t : Tm) (us ws : List Tm) → IsTrue (is_among t us) → Includes us ws → IsTrue (is_among t ws)
among-includes t us ws h k = all-at (λ u. IsTrue (is_among u ws)) us t (each us k) h
  where
    each : (us : List Tm) → Includes us ws → AllTm (λ u. IsTrue (is_among u ws)) us
    each [] k = tt
    each (u ∷ us) k = (k.0, each us k.1)

same-turns : (v w : Val) → same v w ≡ same w v
same-turns v w = go (same v w) (same w v) refl refl
  where
    go : (a b : Bool) → same v w ≡ a → same w v ≡ b → a ≡ b
    go true true p q = refl
    go false false p q = refl
    go true false p q = sym ((same-decides w v).1 (sym ((same-decides v w).0 p))) ∙ q
    go false true p q = sym p ∙ (same-decides v w).1 (sym ((same-decides w v).0 q))

module _ (Applies : (k : ℕ) → List Srt → (S : Srt) → Type 0) (M : Meaning) (keeps : KeepsSorts Applies M) (m : Fms) (formed : AreFormulas Applies (sorts m) (formulas m)) (e : Env) (has : HasSorts (sorts m) e) where
  abbrev pub Ss : List Srt
  Ss = sorts m

  abbrev pub f : Flt
  f = number_all m

  pub forms : AllTm (IsFormula Applies Ss) (formulas m)
  forms = all-given Applies Ss (IsFormula Applies Ss) (formulas m) formed

  atoms-formulas : AllTm (IsFormula Applies Ss) f.atoms
  atoms-formulas = atoms-sorted Applies Ss (formulas m) forms

  pub atom-formula : (a : ℕ) (t : Tm) → at_number f.atoms a ≡ Some t → IsFormula Applies Ss t
  atom-formula a t h = all-at (IsFormula Applies Ss) f.atoms t atoms-formulas (number-among f.atoms a t h)

  -- ---- the numbered terms are well sorted

  components-sorted : (A B : Srt) (u : Tm) → TmSorted Applies Ss u (s_pair A B) → HasSort Applies Ss (components Ss u)
  components-sorted A B u h =
      subst (λ R. HasSort Applies Ss (op_term op.Pair R (fst_term (left_component R) u ∷ snd_term (right_component R) u ∷ []))) (sym (sort-sorted Applies Ss u (s_pair A B) h)) (
        s_pair A B,
        (
          refl,
          (
            A ∷ B ∷ [],
            (
              record { first = A; second = B; args = refl; result = refl },
              (A, (B ∷ [], (refl, fst-sorted Applies Ss A B u h, (B, ([], (refl, snd-sorted Applies Ss A B u h, refl)))))),
            ),
          ),
        ),
      )

  pairs-sorted : (ts : List Tm) → AllTm (HasSort Applies Ss) ts → AllTm (HasSort Applies Ss) (flat_map (component_pair Ss) ts)
  pairs-sorted [] h = tt
  pairs-sorted (t ∷ ts) h = all-append (HasSort Applies Ss) (component_pair Ss t) (flat_map (component_pair Ss) ts) (one t h.0) (pairs-sorted ts h.1)
    where
      one : (t : Tm) → HasSort Applies Ss t → AllTm (HasSort Applies Ss) (component_pair Ss t)
      one (t_prim op.Fst S (t_more u t_end) at) k =
          let g = k.1.1.1.0 in
          parts-sorted Applies Ss (components Ss u) (components-sorted g.first g.second u (first-of Applies Ss (t_more u t_end) (s_pair g.first g.second) [] k.1.1.0 g.args k.1.1.1.1))
      one (t_prim op.Snd S (t_more u t_end) at) k =
          let g = k.1.1.1.0 in
          parts-sorted Applies Ss (components Ss u) (components-sorted g.first g.second u (first-of Applies Ss (t_more u t_end) (s_pair g.first g.second) [] k.1.1.0 g.args k.1.1.1.1))
      one t k = tt

  terms-sorted : AllTm (HasSort Applies Ss) f.terms
  terms-sorted =
      let us = subterms f.atoms in
      let sorted = subterms-sorted Applies Ss f.atoms (all-weaker Applies Ss (IsFormula Applies Ss) (HasSort Applies Ss) f.atoms (λ t i. (s_bool, i)) atoms-formulas) in
      firsts-all (HasSort Applies Ss) us (flat_map (component_pair Ss) us ++ literals) sorted
      (all-append (HasSort Applies Ss) (flat_map (component_pair Ss) us) literals (pairs-sorted us sorted) ((s_bool, refl), ((s_bool, refl), ((s_unit, refl), tt))))

  abbrev pub Numbered : Tm → Type 0
  Numbered t = IsTrue (is_among t f.terms)

  pub term-sorted : (t : Tm) → Numbered t → HasSort Applies Ss t
  term-sorted t h = all-at (HasSort Applies Ss) f.terms t terms-sorted h

  literals-numbered : Includes literals f.terms
  literals-numbered = right (flat_map (component_pair Ss) (subterms f.atoms)) literals (firsts-include (subterms f.atoms) (flat_map (component_pair Ss) (subterms f.atoms) ++ literals))
    where
      right : (ts us : List Tm) → Includes (ts ++ us) f.terms → Includes us f.terms
      right [] us h = h
      right (t ∷ ts) us h = right ts us h.1

  pub bool-numbered : (b : Bool) → Numbered (t_bool b)
  bool-numbered true = literals-numbered.0
  bool-numbered false = literals-numbered.1.0

  pub unit-numbered : Numbered t_unit
  unit-numbered = literals-numbered.1.1.0

  pub args-closed : AllTm (ArgsAmong f.terms) f.terms
  args-closed = numbered-closed Ss f.atoms

  pub nth-numbered : (t : Tm) (k : ℕ) → Numbered t → Numbered (get_or (listed (args_of t)) k t_unit)
  nth-numbered t k h = go (listed (args_of t)) k (all-at (ArgsAmong f.terms) f.terms t args-closed h)
    where
      go : (us : List Tm) (k : ℕ) → Includes us f.terms → Numbered (get_or us k t_unit)
      go [] k i = unit-numbered
      go (u ∷ us) zero i = i.0
      go (u ∷ us) (suc k) i = go us k i.1

  pub atom-numbered : (a : ℕ) (t : Tm) → at_number f.atoms a ≡ Some t → Numbered t
  atom-numbered a t h = go f.atoms (number-among f.atoms a t h) (atoms-numbered Ss f.atoms)
    where
      head-in : (u : Tm) (us ws : List Tm) → Includes (parts_of u ++ us) ws → IsTrue (is_among u ws)
      head-in (t_prim o S ts at) us ws i = i.0
      head-in (t_if c v w) us ws i = i.0
      head-in (t_app k S ts) us ws i = i.0
      head-in u us ws i = i.0

      rest-in : (ts us ws : List Tm) → Includes (ts ++ us) ws → Includes us ws
      rest-in [] us ws i = i
      rest-in (t ∷ ts) us ws i = rest-in ts us ws i.1

      go : (us : List Tm) → IsTrue (is_among t us) → Includes (parts_of_each us) f.terms → Numbered t
      go [] k i = absurd (false≢true k)
      go (u ∷ us) k i = by (λ w. go us w (rest-in (parts_of u) (parts_of_each us) f.terms i)) (same_term t u) refl k
        where
          by : (IsTrue (is_among t us) → Numbered t) → (b : Bool) → same_term t u ≡ b → IsTrue (if b then true else is_among t us) → Numbered t
          by ih true q w = subst Numbered (sym ((same_term-decides t u).0 q)) (head-in u (parts_of_each us) f.terms i)
          by ih false q w = ih w

  -- ---- readings

  abbrev pub Here : Marking → Type 0
  Here look = Agrees M f look e

  pub mark-value : (t : Tm) (n : Mark) → MarkHolds M t n e → value M t e ≡ v_bool (truth_of n)
  mark-value t mark.True h = h
  mark-value t mark.False h = h
  mark-value t mark.Less h = h.0
  mark-value t mark.Greater h = h.0

  abbrev tr : Tm → Bool
  tr t = is_true (value M t e)

  turned-true : (t : Tm) → tr (turned t) ≡ tr t
  turned-true (t_prim op.Eq S (t_more t (t_more u t_end)) at) = same-turns (value M u e) (value M t e)
  turned-true t = refl

  same-atom-true : (t u : Tm) → same_atom t u ≡ true → tr t ≡ tr u
  same-atom-true t u h = go (same_term t u) refl h
    where
      go : (b : Bool) → same_term t u ≡ b → (b || same_term (turned t) u) ≡ true → tr t ≡ tr u
      go true q k = ap tr ((same_term-decides t u).0 q)
      go false q k = sym (turned-true t) ∙ ap tr ((same_term-decides (turned t) u).0 k)

  -- the atom of a number is the term, or the term turned round
  abbrev AtomAt : List Tm → Tm → ℕ → Type 0
  AtomAt us t n = (u : Tm) × ((slice_get us n ≡ Some u) × (tr t ≡ tr u))

  number-later : (u t : Tm) (us : List Tm) (n : ℕ) → ((k : ℕ) → number_by same_atom us t ≡ suc k → AtomAt us t k) → (k : ℕ) → number_by same_atom us t ≡ k → one_more k ≡ suc n → AtomAt (u ∷ us) t n
  number-later u t us n ih zero p q = cc
  number-later u t us n ih (suc k) p q = let s : suc k ≡ n = cc in let r = ih k p in (r.0, (subst (λ i. slice_get (u ∷ us) i ≡ Some r.0) s r.1.0, r.1.1))

  number-atom : (us : List Tm) (t : Tm) (n : ℕ) → number_by same_atom us t ≡ suc n → AtomAt us t n
  number-atom [] t n h = cc
  number-atom (u ∷ us) t n h = go (λ k. number-atom us t k) (same_atom t u) refl h
    where
      go : ((k : ℕ) → number_by same_atom us t ≡ suc k → AtomAt us t k) → (b : Bool) → same_atom t u ≡ b → (if b then 1 else one_more (number_by same_atom us t)) ≡ suc n → AtomAt (u ∷ us) t n
      go ih true q p = let z : zero ≡ n = cc in (u, (subst (λ i. slice_get (u ∷ us) i ≡ Some u) z refl, same-atom-true t u q))
      go ih false q p = number-later u t us n ih (number_by same_atom us t) refl p

  mark-true : (look : Marking) → Here look → (t : Tm) (b : Bool) → option_map truth_of (mark_of f look t) ≡ Some b → tr t ≡ b
  mark-true look here t b h = go (atom_number f t) refl h
    where
      marked : (n : ℕ) → atom_number f t ≡ suc n → (o : Option Mark) → look (suc n) ≡ o → option_map truth_of o ≡ Some b → tr t ≡ b
      marked n q None p k = cc
      marked n q (Some x) p k =
          let r = number-atom f.atoms t n q in
          let w : truth_of x ≡ b = cc in
          r.1.1 ∙ ap is_true (mark-value r.0 x (here (suc n) r.0 x r.1.0 p)) ∙ w

      go : (n : ℕ) → atom_number f t ≡ n → option_map truth_of (elim n [ zero ↦ None | suc n ↦ look (suc n) ]) ≡ Some b → tr t ≡ b
      go zero q k = cc
      go (suc n) q k = marked n q (look (suc n)) refl k

  bool-same : (a b : Bool) → same_bool a b ≡ true → a ≡ b
  bool-same true b h = sym h
  bool-same false true h = absurd (false≢true h)
  bool-same false false h = refl

  -- x, where it is known, is c
  abbrev Tells : Option Bool → Bool → Type 0
  Tells x c = (d : Bool) → x ≡ Some d → c ≡ d

  if-same : (c p q b : Bool) → p ≡ b → q ≡ b → (if c then p else q) ≡ b
  if-same true p q b h k = h
  if-same false p q b h k = k

  common-true : (x y d : Bool) → same_bool x y ≡ d → (b c p q : Bool) → p ≡ x → q ≡ y → (if d then Some x else None) ≡ Some b → (if c then p else q) ≡ b
  common-true x y true w b c p q i j k = let xb : x ≡ b = cc in if-same c p q b (i ∙ xb) (j ∙ sym (bool-same x y w) ∙ xb)
  common-true x y false w b c p q i j k = cc

  chosen-true : (x y z : Option Bool) (c p q b : Bool) → Tells x c → Tells y p → Tells z q → chosen x y z ≡ Some b → (if c then p else q) ≡ b
  chosen-true (Some true) y z c p q b i j k h = ap (λ d. if d then p else q) (i true refl) ∙ j b h
  chosen-true (Some false) y z c p q b i j k h = ap (λ d. if d then p else q) (i false refl) ∙ k b h
  chosen-true None (Some y) (Some z) c p q b i j k h = common-true y z (same_bool y z) refl b c p q (j y refl) (k z refl) h
  chosen-true None y z c p q b i j k h = cc

  agree-true : (x y : Option Bool) (p q b : Bool) → Tells x p → Tells y q → agree x y ≡ Some b → same_bool p q ≡ b
  agree-true (Some x) (Some y) p q b i j h = let w : same_bool x y ≡ b = cc in ap₂ same_bool (i x refl) (j y refl) ∙ w
  agree-true x y p q b i j h = cc

  reading-true : (look : Tm → Option Bool) → ((t : Tm) (b : Bool) → look t ≡ Some b → tr t ≡ b) → (k : Skl) (b : Bool) → reading look k ≡ Some b → truth tr k ≡ b
  reading-true look known (k_truth a) b h = cc
  reading-true look known (k_atom t) b h = known t b h
  reading-true look known (k_if c p q) b h = chosen-true (reading look c) (reading look p) (reading look q) (truth tr c) (truth tr p) (truth tr q) b (reading-true look known c) (reading-true look known p) (reading-true look known q) h
  reading-true look known (k_same p q) b h = agree-true (reading look p) (reading look q) (truth tr p) (truth tr q) b (reading-true look known p) (reading-true look known q) h

  -- a formula that has a value under the marks has it in the environment
  pub reads-true : (look : Marking) → Here look → (phi : Tm) (b : Bool) → IsFormula Applies Ss phi → reads f look phi ≡ Some b → value M phi e ≡ v_bool b
  reads-true look here phi b h k =
      skeleton-true Applies M keeps Ss e has phi h
      ∙ ap v_bool (reading-true (λ t. option_map truth_of (mark_of f look t)) (mark-true look here) (skeleton Ss phi) b k)
