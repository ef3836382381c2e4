-- What the equation lines of a proof give is true in each environment that agrees with the marks.
use Rattle.std.proofs.Common.{◌≡◌, ℕ, zero, suc, Bool, true, false, not, ◌&&◌, ◌||◌, if◌then◌else◌, nat_eq, List, [], ◌∷◌, ◌++◌, get_or, slice_get, Option, Some, None, option_map, refl, sym, ap, ap₂, ◌∙◌, subst}
use Rattle.std.specs.Prelude.{⊤}
use Rattle.std.proofs.lemmas.Bool.{false≢true, eqb-true}
use Rattle.fst_base.specs.declared.op.Op.{Op}
use Rattle.fst_base.specs.declared.op.Op.TheVariants as op
use Rattle.fst_base.specs.Sorts.{Srt, s_unit, s_pair, s_list, same_sort}
use Rattle.fst_base.specs.Values.{Val, v_unit, v_bool, v_pair, Has, HasSorts, same}
use Rattle.fst_base.specs.Primitives.{prim, first, second, fst_of, snd_of}
use Rattle.fst_base.specs.Rows.{Fits, same_op}
use Rattle.fst_base.proofs.ValueLemmas.{same-decides}
use Rattle.fst_base.proofs.SortLemmas.{same_sort-decides}
use Rattle.fst_terms.specs.Terms.{Tm, Tms, t_bool, t_unit, t_prim, t_app, t_end, t_more, row, listed}
use Rattle.fst_terms.specs.Meaning.{Env, Meaning, value, values}
use Rattle.fst_terms.specs.Formulas.{sort_of}
use Rattle.fst_terms.specs.Same.{same_term, is_among}
use Rattle.fst_terms.specs.Sorted.{TmsSorted}
use Rattle.fst_terms.specs.Flats.{Flt, truth_of}
use Rattle.fst_terms.specs.declared.flat.Mark.{Mark}
use Rattle.fst_terms.proofs.SameLemmas.{same_term-decides, same_op-decides}
use Rattle.fst_terms.specs.Skeletons.{args_of, arg_of, rest_of, is_constructor}
use Rattle.fst_terms.specs.DataFacts.{same_head}
use Rattle.fst_terms.specs.FlatForms.{Fms, sorts, formulas}
use Rattle.fst_terms.specs.Marks.{Marking, at_number, is_equation, is_at_most, MarkHolds}
use Rattle.fst_terms.specs.Branches.{same_constructor, eta_pair, pair_at}
use Rattle.fst_cert.specs.Proving.{only_if, on, holds, Eqn, eqn, is_eqn, equation_of_mark, are_reasons, one_head, equation_by}
use Rattle.fst_terms.specs.Sentences.{KeepsSorts, AreFormulas}
use Rattle.fst_cert.specs.declared.line.Line.{Line}
use Rattle.fst_cert.specs.declared.line.Line.TheVariants as line
use Rattle.fst_terms.proofs.TermSorts.{value-sorted, sort-sorted}
use Rattle.fst_terms.proofs.PutLemmas.{make-value, first-value, second-value}
use Rattle.fst_terms.proofs.LineTruths.{f, Numbered, Here, number-among, term-sorted, atom-numbered, nth-numbered, bool-numbered, unit-numbered, mark-value}

-- ---- tests

pub on-inv : {A B : Type 0} (o : Option A) (g : A → Option B) (y : B) → on o g ≡ Some y → (x : A) × ((o ≡ Some x) × (g x ≡ Some y))
on-inv None g y h = cc
on-inv (Some x) g y h = (x, (refl, h))

pub only-inv : {A : Type 0} (b : Bool) (x y : A) → only_if b x ≡ Some y → (b ≡ true) × (x ≡ y)
only-inv true x y h = let p : x ≡ y = cc in (refl, p)
only-inv false x y h = cc

pub holds-inv : {A : Type 0} (o : Option A) (p : A → Bool) → holds o p ≡ true → (x : A) × ((o ≡ Some x) × (p x ≡ true))
holds-inv None p h = absurd (false≢true h)
holds-inv (Some x) p h = (x, (refl, h))

pub map-inv : {A B : Type 0} (g : A → B) (o : Option A) (y : B) → option_map g o ≡ Some y → (x : A) × ((o ≡ Some x) × (g x ≡ y))
map-inv g None y h = cc
map-inv g (Some x) y h = let p : g x ≡ y = cc in (x, (refl, p))

pub both-true : (a b : Bool) → (a && b) ≡ true → (a ≡ true) × (b ≡ true)
both-true true b h = (refl, h)
both-true false b h = absurd (false≢true h)

pair-whole : (S T : Srt) (v : Val) → Has (s_pair S T) v → v ≡ v_pair (fst_of S v) (snd_of T v)
pair-whole S T (v_pair a b) h = refl
pair-whole S T v h = absurd h

pub unit-is : (v : Val) → Has s_unit v → v ≡ v_unit
unit-is v_unit h = refl
unit-is v h = absurd h

module _ (Applies : (k : ℕ) → List Srt → (S : Srt) → Type 0) (M : Meaning) (keeps : KeepsSorts Applies M) (m : Fms) (formed : AreFormulas Applies (sorts m) (formulas m)) (e : Env) (has : HasSorts (sorts m) e) where
  abbrev Nb : Tm → Type 0
  Nb t = Numbered Applies M keeps m formed e has t

  abbrev fl : Flt
  fl = f Applies M keeps m formed e has

  -- both sides are numbered and have one value
  pub record EqnTrue (d : Eqn) : Type 0 where
    pub left_numbered : Nb d.left
    pub right_numbered : Nb d.right
    pub same : value M d.left e ≡ value M d.right e

  abbrev pub AllEqn : List Eqn → Type 0
  AllEqn [] = ⊤
  AllEqn (d ∷ ds) = EqnTrue d × AllEqn ds

  pub eqn-at : (es : List Eqn) (n : ℕ) (d : Eqn) → AllEqn es → at_number es n ≡ Some d → EqnTrue d
  eqn-at es zero d h q = cc
  eqn-at es (suc n) d h q = go es n h q
    where
      go : (es : List Eqn) (n : ℕ) → AllEqn es → slice_get es n ≡ Some d → EqnTrue d
      go [] n h q = cc
      go (c ∷ cs) zero h q = let p : c ≡ d = cc in subst EqnTrue p h.0
      go (c ∷ cs) (suc n) h q = go cs n h.1 q

  pub eqn-add : (es : List Eqn) (d : Eqn) → AllEqn es → EqnTrue d → AllEqn (es ++ d ∷ [])
  eqn-add [] d h k = (k, tt)
  eqn-add (c ∷ cs) d h k = (h.0, eqn-add cs d h.1 k)

  number-in : (n : ℕ) (t : Tm) → at_number fl.terms n ≡ Some t → Nb t
  number-in n t h = number-among fl.terms n t h

  -- ---- given

  pub eq-sides : (t : Tm) → is_equation t ≡ true → value M t e ≡ v_bool true → value M (arg_of t) e ≡ value M (rest_of t) e
  eq-sides (t_prim op.Eq S ts at) h k = let p : same (first (values M ts e)) (second (values M ts e)) ≡ true = cc in first-value M ts e ∙ (same-decides _ _).0 p ∙ sym (second-value M ts e)
  eq-sides t h k = absurd (false≢true h)

  mark-equation : (a : ℕ) (t : Tm) (n : Mark) (d : Eqn) → at_number fl.atoms a ≡ Some t → MarkHolds M t n e → equation_of_mark t n ≡ Some d → EqnTrue d
  mark-equation a t n d q h k = go (is_equation t) refl k
    where
      nt : Nb t
      nt = atom-numbered Applies M keeps m formed e has a t q

      go : (b : Bool) → is_equation t ≡ b → (if b then only_if (truth_of n) (eqn (arg_of t) (rest_of t)) else only_if (not (is_at_most t)) (eqn t (t_bool (truth_of n)))) ≡ Some d → EqnTrue d
      go true p k =
          let w = only-inv (truth_of n) (eqn (arg_of t) (rest_of t)) d k in
          subst EqnTrue w.1 (record {
            left_numbered = nth-numbered Applies M keeps m formed e has t 0 nt;
            right_numbered = nth-numbered Applies M keeps m formed e has t 1 nt;
            same = eq-sides t p (mark-value Applies M keeps m formed e has t n h ∙ ap v_bool w.0);
          })
      go false p k =
          let w = only-inv (not (is_at_most t)) (eqn t (t_bool (truth_of n))) d k in
          subst EqnTrue w.1 (record { left_numbered = nt; right_numbered = bool-numbered Applies M keeps m formed e has (truth_of n); same = mark-value Applies M keeps m formed e has t n h })

  -- ---- same

  pub is-eqn : (t u : Tm) (d : Eqn) → is_eqn t u d ≡ true → (t ≡ d.left) × (u ≡ d.right)
  is-eqn t u d h = let w = both-true (same_term t d.left) (same_term u d.right) h in ((same_term-decides t d.left).0 w.0, (same_term-decides u d.right).0 w.1)

  pub eqn-same : (t u : Tm) (d : Eqn) → EqnTrue d → is_eqn t u d ≡ true → value M t e ≡ value M u e
  eqn-same t u d h k = let w = is-eqn t u d k in ap (λ x. value M x e) w.0 ∙ h.same ∙ sym (ap (λ x. value M x e) w.1)

  reasons-same : (es : List Eqn) → AllEqn es → (ns : List ℕ) (ts us : Tms) → are_reasons es ns ts us ≡ true → values M ts e ≡ values M us e
  reasons-same es h [] t_end t_end k = refl
  reasons-same es h (zero ∷ ns) (t_more t ts) (t_more u us) k =
      let w = both-true (same_term t u) (are_reasons es ns ts us) k in
      ap₂ ◌∷◌ (ap (λ x. value M x e) ((same_term-decides t u).0 w.0)) (reasons-same es h ns ts us w.1)
  reasons-same es h (suc n ∷ ns) (t_more t ts) (t_more u us) k =
      let w = both-true (not (same_term t u) && holds (at_number es (suc n)) (is_eqn t u)) (are_reasons es ns ts us) k in
      let v = both-true (not (same_term t u)) (holds (at_number es (suc n)) (is_eqn t u)) w.0 in
      let d = holds-inv (at_number es (suc n)) (is_eqn t u) v.1 in
      ap₂ ◌∷◌ (eqn-same t u d.0 (eqn-at es (suc n) d.0 h d.1.0) d.1.1) (reasons-same es h ns ts us w.1)
  reasons-same es h ns ts us k = absurd (false≢true k)

  pub head-same : (t u : Tm) → same_head t u ≡ true → values M (args_of t) e ≡ values M (args_of u) e → value M t e ≡ value M u e
  head-same (t_prim o S ts at) (t_prim p T us bt) h k =
      let w = both-true (same_op o p) (same_sort S T) h in
      ap₂ (λ o S. prim o S (values M ts e)) ((same_op-decides o p).0 w.0) ((same_sort-decides S T).0 w.1) ∙ ap (prim p T) k
  head-same (t_app i S ts) (t_app j T us) h k =
      let w = both-true (nat_eq i j) (same_sort S T) h in
      ap (λ i. M i (values M ts e)) (eqb-true i j w.0) ∙ ap (M j) k
  head-same t u h k = absurd (false≢true h)

  one-head : (t u : Tm) → one_head t u ≡ true → values M (args_of t) e ≡ values M (args_of u) e → value M t e ≡ value M u e
  one-head t u h k = go (same_head t u) refl h
    where
      go : (b : Bool) → same_head t u ≡ b → (b || same_term t u) ≡ true → value M t e ≡ value M u e
      go true q w = head-same t u q k
      go false q w = ap (λ x. value M x e) ((same_term-decides t u).0 w)

  -- ---- part

  none-part : (ts : Tms) (Ts : List Srt) (k : ℕ) (x : Tm) → TmsSorted Applies (sorts m) ts Ts → Ts ≡ [] → at_number (listed ts) k ≡ Some x → ⊥
  none-part t_end Ts zero x h p q = cc
  none-part t_end Ts (suc k) x h p q = cc
  none-part (t_more t ts) Ts k x h p q = let w = h.1.1.0 in cc

  one-part : (ts : Tms) (Ts : List Srt) (A : Srt) (k : ℕ) (x : Tm) → TmsSorted Applies (sorts m) ts Ts → Ts ≡ A ∷ [] → at_number (listed ts) k ≡ Some x → value M x e ≡ first (values M ts e)
  one-part ts Ts A zero x h p q = cc
  one-part t_end Ts A (suc k) x h p q = cc
  one-part (t_more t ts) Ts A (suc zero) x h p q = let w : t ≡ x = cc in ap (λ y. value M y e) (sym w)
  one-part (t_more t ts) Ts A (suc (suc k)) x h p q = absurd (none-part ts h.1.0 (suc k) x h.1.1.2 (let w = h.1.1.0 in cc) q)

  two-parts : (ts us : Tms) (Ts Us : List Srt) (A B C D : Srt) (k : ℕ) (x y : Tm) → TmsSorted Applies (sorts m) ts Ts → TmsSorted Applies (sorts m) us Us → Ts ≡ A ∷ B ∷ [] → Us ≡ C ∷ D ∷ []
      → at_number (listed ts) k ≡ Some x → at_number (listed us) k ≡ Some y → first (values M ts e) ≡ first (values M us e) → second (values M ts e) ≡ second (values M us e) → value M x e ≡ value M y e
  two-parts ts us Ts Us A B C D zero x y h i p q r s a b = cc
  two-parts t_end us Ts Us A B C D (suc k) x y h i p q r s a b = cc
  two-parts (t_more t ts) t_end Ts Us A B C D (suc k) x y h i p q r s a b = cc
  two-parts (t_more t ts) (t_more u us) Ts Us A B C D (suc zero) x y h i p q r s a b =
      let v : t ≡ x = cc in let w : u ≡ y = cc in ap (λ y. value M y e) (sym v) ∙ a ∙ ap (λ y. value M y e) w
  two-parts (t_more t ts) (t_more u us) Ts Us A B C D (suc (suc k)) x y h i p q r s a b =
      one-part ts h.1.0 B (suc k) x h.1.1.2 (let w = h.1.1.0 in cc) r ∙ at-second t ts ∙ b ∙ sym (at-second u us) ∙ sym (one-part us i.1.0 D (suc k) y i.1.1.2 (let w = i.1.1.0 in cc) s)
    where
      at-second : (t : Tm) (ts : Tms) → first (values M ts e) ≡ second (value M t e ∷ values M ts e)
      at-second t ts = refl

  parts-same : (o : Op) (S T : Srt) (ts us : Tms) (Ts Us : List Srt) (k : ℕ) (x y : Tm) → is_constructor o ≡ true → Fits o Ts S → Fits o Us T → TmsSorted Applies (sorts m) ts Ts → TmsSorted Applies (sorts m) us Us
      → prim o S (values M ts e) ≡ prim o T (values M us e) → at_number (listed ts) k ≡ Some x → at_number (listed us) k ≡ Some y → value M x e ≡ value M y e
  parts-same op.Pair S T ts us Ts Us k x y c p q h i v a b =
      two-parts ts us Ts Us p.first p.second q.first q.second k x y h i p.args q.args a b (let w = v in cc) (let w = v in cc)
  parts-same op.Cons S T ts us Ts Us k x y c p q h i v a b =
      two-parts ts us Ts Us p.first (s_list p.first) q.first (s_list q.first) k x y h i p.args q.args a b (let w = v in cc) (let w = v in cc)
  parts-same op.Just S T ts us Ts Us k x y c p q h i v a b =
      let w : first (values M ts e) ≡ first (values M us e) = cc in one-part ts Ts p.first k x h p.args a ∙ w ∙ sym (one-part us Us q.first k y i q.args b)
  parts-same op.Inl S T ts us Ts Us k x y c p q h i v a b =
      let w : first (values M ts e) ≡ first (values M us e) = cc in one-part ts Ts p.first k x h p.args a ∙ w ∙ sym (one-part us Us q.first k y i q.args b)
  parts-same op.Inr S T ts us Ts Us k x y c p q h i v a b =
      let w : first (values M ts e) ≡ first (values M us e) = cc in one-part ts Ts p.second k x h p.args a ∙ w ∙ sym (one-part us Us q.second k y i q.args b)
  parts-same op.Nothing S T ts us Ts Us k x y c p q h i v a b = absurd (none-part ts Ts k x h p.args a)
  parts-same op.Nil S T ts us Ts Us k x y c p q h i v a b = absurd (none-part ts Ts k x h p.args a)
  parts-same o S T ts us Ts Us k x y c p q h i v a b = absurd (false≢true c)

  pub part-same : (l r : Tm) (k : ℕ) (x y : Tm) → same_constructor l r ≡ true → Nb l → Nb r → value M l e ≡ value M r e → at_number (listed (args_of l)) k ≡ Some x → at_number (listed (args_of r)) k ≡ Some y → value M x e ≡ value M y e
  part-same (t_prim o S ts at) (t_prim p T us bt) k x y h i j v a b =
      let w = both-true (is_constructor o) (same_op o p) h in
      let q = (same_op-decides o p).0 w.1 in
      let g = (term-sorted Applies M keeps m formed e has (t_prim o S ts at) i).1 in
      let d = (term-sorted Applies M keeps m formed e has (t_prim p T us bt) j).1 in
      parts-same o S T ts us g.1.0 d.1.0 k x y w.0 g.1.1.0 (subst (λ o. Fits o d.1.0 T) (sym q) d.1.1.0) g.1.1.1 d.1.1.1 (v ∙ ap (λ o. prim o T (values M us e)) (sym q)) a b
  part-same l r k x y h i j v a b = absurd (false≢true h)

  part-numbered : (t : Tm) (k : ℕ) (x : Tm) → Nb t → at_number (listed (args_of t)) k ≡ Some x → Nb x
  part-numbered t zero x h q = cc
  part-numbered t (suc k) x h q = subst Nb (at (listed (args_of t)) k q) (nth-numbered Applies M keeps m formed e has t k h)
    where
      at : (us : List Tm) (k : ℕ) → slice_get us k ≡ Some x → get_or us k t_unit ≡ x
      at [] k q = cc
      at (u ∷ us) zero q = cc
      at (u ∷ us) (suc k) q = at us k q

  -- ---- eta and unit

  pub sort-of : (x : Tm) → Nb x → Has (sort_of (sorts m) x) (value M x e)
  sort-of x h =
      let g = term-sorted Applies M keeps m formed e has x h in
      subst (λ R. Has R (value M x e)) (sym (sort-sorted Applies (sorts m) x g.0 g.1)) (value-sorted Applies M keeps (sorts m) x g.0 e g.1 has)

  pub eta-same : (R : Srt) (x p : Tm) → Has R (value M x e) → pair_at R x ≡ Some p → value M x e ≡ value M p e
  eta-same (s_pair S T) x p h q =
      let w : eta_pair S T x ≡ p = cc in
      pair-whole S T (value M x e) h ∙ ap₂ v_pair (sym (make-value M e S op.Fst (row (x ∷ [])) 0)) (sym (make-value M e T op.Snd (row (x ∷ [])) 0)) ∙ ap (λ y. value M y e) w
  eta-same R x p h q = cc

  -- what an equation line gives is true
  pub equation-true : (look : Marking) → Here Applies M keeps m formed e has look → (es : List Eqn) → AllEqn es → (l : Line) (d : Eqn) → equation_by fl look es l ≡ Some d → EqnTrue d
  equation-true look here es h (line.Given a) d k =
      let t = on-inv (at_number fl.atoms a) (λ t. on (look a) (equation_of_mark t)) d k in
      let n = on-inv (look a) (equation_of_mark t.0) d t.1.1 in
      mark-equation a t.0 n.0 d t.1.0 (here a t.0 n.0 t.1.0 n.1.0) n.1.1
  equation-true look here es h (line.Flip i) d k =
      let c = map-inv (λ c. eqn c.right c.left) (at_number es i) d k in
      let g = eqn-at es i c.0 h c.1.0 in
      subst EqnTrue c.1.1 (record { left_numbered = g.right_numbered; right_numbered = g.left_numbered; same = sym g.same })
  equation-true look here es h (line.Chain i j) d k =
      let a = on-inv (at_number es i) (λ a. on (at_number es j) (λ b. only_if (same_term a.right b.left) (eqn a.left b.right))) d k in
      let b = on-inv (at_number es j) (λ b. only_if (same_term a.0.right b.left) (eqn a.0.left b.right)) d a.1.1 in
      let w = only-inv (same_term a.0.right b.0.left) (eqn a.0.left b.0.right) d b.1.1 in
      let g = eqn-at es i a.0 h a.1.0 in
      let g' = eqn-at es j b.0 h b.1.0 in
      subst EqnTrue w.1 (record { left_numbered = g.left_numbered; right_numbered = g'.right_numbered; same = g.same ∙ ap (λ y. value M y e) ((same_term-decides a.0.right b.0.left).0 w.0) ∙ g'.same })
  equation-true look here es h (line.Same t u ns) d k =
      let x = on-inv (at_number fl.terms t) (λ x. on (at_number fl.terms u) (λ y. only_if (one_head x y && are_reasons es ns (args_of x) (args_of y)) (eqn x y))) d k in
      let y = on-inv (at_number fl.terms u) (λ y. only_if (one_head x.0 y && are_reasons es ns (args_of x.0) (args_of y)) (eqn x.0 y)) d x.1.1 in
      let w = only-inv (one_head x.0 y.0 && are_reasons es ns (args_of x.0) (args_of y.0)) (eqn x.0 y.0) d y.1.1 in
      let v = both-true (one_head x.0 y.0) (are_reasons es ns (args_of x.0) (args_of y.0)) w.0 in
      subst EqnTrue w.1 (record { left_numbered = number-in t x.0 x.1.0; right_numbered = number-in u y.0 y.1.0; same = one-head x.0 y.0 v.0 (reasons-same es h ns (args_of x.0) (args_of y.0) v.1) })
  equation-true look here es h (line.Part i k') d k =
      let c = on-inv (at_number es i) (λ c. on (at_number (listed (args_of c.left)) k') (λ x. on (at_number (listed (args_of c.right)) k') (λ y. only_if (same_constructor c.left c.right) (eqn x y)))) d k in
      let x = on-inv (at_number (listed (args_of c.0.left)) k') (λ x. on (at_number (listed (args_of c.0.right)) k') (λ y. only_if (same_constructor c.0.left c.0.right) (eqn x y))) d c.1.1 in
      let y = on-inv (at_number (listed (args_of c.0.right)) k') (λ y. only_if (same_constructor c.0.left c.0.right) (eqn x.0 y)) d x.1.1 in
      let w = only-inv (same_constructor c.0.left c.0.right) (eqn x.0 y.0) d y.1.1 in
      let g = eqn-at es i c.0 h c.1.0 in
      subst EqnTrue w.1 (record {
        left_numbered = part-numbered c.0.left k' x.0 g.left_numbered x.1.0;
        right_numbered = part-numbered c.0.right k' y.0 g.right_numbered y.1.0;
        same = part-same c.0.left c.0.right k' x.0 y.0 w.0 g.left_numbered g.right_numbered g.same x.1.0 y.1.0;
      })
  equation-true look here es h (line.Eta t) d k =
      let x = on-inv (at_number fl.terms t) (λ x. on (pair_at (sort_of (sorts m) x) x) (λ p. only_if (is_among p fl.terms) (eqn x p))) d k in
      let p = on-inv (pair_at (sort_of (sorts m) x.0) x.0) (λ p. only_if (is_among p fl.terms) (eqn x.0 p)) d x.1.1 in
      let w = only-inv (is_among p.0 fl.terms) (eqn x.0 p.0) d p.1.1 in
      let nx = number-in t x.0 x.1.0 in
      subst EqnTrue w.1 (record { left_numbered = nx; right_numbered = w.0; same = eta-same (sort_of (sorts m) x.0) x.0 p.0 (sort-of x.0 nx) p.1.0 })
  equation-true look here es h (line.Unit t) d k =
      let x = on-inv (at_number fl.terms t) (λ x. only_if (same_sort (sort_of (sorts m) x) s_unit) (eqn x t_unit)) d k in
      let w = only-inv (same_sort (sort_of (sorts m) x.0) s_unit) (eqn x.0 t_unit) d x.1.1 in
      let nx = number-in t x.0 x.1.0 in
      subst EqnTrue w.1 (record { left_numbered = nx; right_numbered = unit-numbered Applies M keeps m formed e has; same = unit-is (value M x.0 e) (subst (λ R. Has R (value M x.0 e)) ((same_sort-decides (sort_of (sorts m) x.0) s_unit).0 w.0) (sort-of x.0 nx)) })
  equation-true look here es h l d k = cc
