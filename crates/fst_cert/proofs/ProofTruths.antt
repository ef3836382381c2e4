-- What a proof proves is true.
use Rattle.std.proofs.Common.{◌≡◌, ℕ, zero, suc, ◌+◌, Bool, true, false, ◌&&◌, if◌then◌else◌, nat_eq, List, [], ◌∷◌, ◌++◌, length, slice_get, Option, Some, None, ℤ, ◌≤ℤ◌, refl, sym, ap₂, ◌∙◌, subst, arith}
use Rattle.std.specs.Prelude.{⊤, is_none}
use Rattle.std.specs.Ordering.{int_eq}
use Rattle.std.proofs.lemmas.Bool.{false≢true, eqb-true}
use Rattle.std.proofs.lemmas.Bool.Decides.{Decides-int_eq}
use Rattle.std.proofs.lemmas.Int.{ints, by_lt_z}
use Rattle.fst_base.specs.declared.op.Op.TheVariants as op
use Rattle.fst_base.specs.Sorts.{Srt, s_bool, s_int}
use Rattle.fst_base.specs.Values.{Val, v_bool, v_int, Has, HasSorts, same}
use Rattle.fst_base.specs.Primitives.{int_of}
use Rattle.fst_terms.specs.Terms.{Tm, t_prim, t_more}
use Rattle.fst_terms.specs.Meaning.{Env, Meaning, value, Truth, AllTrue}
use Rattle.fst_terms.specs.Formulas.{sort_of}
use Rattle.fst_terms.specs.Flats.{Flt}
use Rattle.fst_terms.specs.declared.flat.Mark.{Mark}
use Rattle.fst_terms.specs.declared.flat.Mark.TheVariants as mark
use Rattle.fst_terms.proofs.MemberLemmas.{AllTm}
use Rattle.fst_terms.specs.Skeletons.{arg_of, rest_of}
use Rattle.fst_terms.specs.DataFacts.{is_int}
use Rattle.fst_terms.specs.FlatForms.{Fms, sorts, formulas, number_all}
use Rattle.fst_terms.specs.Marks.{at_number, var_sorts, is_int_equation, reads, MarkHolds, Agrees}
use Rattle.fst_cert.specs.Proving.{Mk, marking_of, marked, holds, equation_by, row_by, is_verdict, Owed, owed_all, owed_shares, owed_marks, owed_branch, owed_close, owe_shares, owe_marks, same_mark, has_marks, may_mark, is_value, is_false_mark, in_branch, after_line, first_bad}
use Rattle.fst_terms.specs.Sentences.{KeepsSorts, AreFormulas, IsTrueFlat}
use Rattle.fst_cert.specs.ProofSentences.{ProofsProve}
use Rattle.fst_cert.specs.declared.line.Line.{Line}
use Rattle.fst_cert.specs.declared.line.Line.TheVariants as line
use Rattle.fst_terms.proofs.TermSorts.{value-sorted, sort-sorted}
use Rattle.fst_terms.proofs.SortedFactLemmas.{IsFormula, first-of, second-of}
use Rattle.fst_terms.proofs.PutLemmas.{first-value, second-value}
use Rattle.fst_terms.proofs.LineTruths.{f, forms, atom-formula, reads-true}
use Rattle.fst_cert.proofs.EquationTruths.{only-inv, holds-inv, map-inv, both-true, AllEqn, eqn-add, equation-true}
use Rattle.fst_cert.proofs.RowTruths.{AllRow, row-add, row-line-true, no-verdict}

bool-cases : {P : Type 0} (v : Val) → Has s_bool v → (v ≡ v_bool true → P) → (v ≡ v_bool false → P) → P
bool-cases (v_bool true) h a b = a refl
bool-cases (v_bool false) h a b = b refl
bool-cases v h a b = absurd h

int-whole : (v : Val) → Has s_int v → v ≡ v_int (int_of v)
int-whole (v_int n) h = refl
int-whole v h = absurd h

module _ (Applies : (k : ℕ) → List Srt → (S : Srt) → Type 0) (M : Meaning) (keeps : KeepsSorts Applies M) (m : Fms) (formed : AreFormulas Applies (sorts m) (formulas m)) (e : Env) (has : HasSorts (sorts m) e) where
  abbrev fl : Flt
  fl = f Applies M keeps m formed e has

  abbrev Agreed : List Mk → Type 0
  Agreed ms = Agrees M fl (marking_of ms) e

  abbrev Goal : Type 0
  Goal = Truth M fl.goal e

  module _ (true-formulas : AllTrue M fl.formulas e) where
    -- what each ended share shows
    abbrev Ended : List (List Mk) → Type 0
    Ended [] = ⊤
    Ended (ms ∷ more) = (Agreed ms → Goal) × Ended more

    abbrev Shows : Owed → Type 0
    Shows owed_all = Goal
    Shows (owed_shares n ended) = Ended ended → Goal
    Shows (owed_marks k n ended ms) = Ended ended → Goal
    Shows (owed_branch ended ms) = Ended ended → Agreed ms → Goal
    Shows (owed_close ms c r es rows) = Agreed ms → AllEqn Applies M keeps m formed e has es → AllRow Applies M keeps m formed e has rows → Goal

    abbrev AllShow : List Owed → Type 0
    AllShow [] = ⊤
    AllShow (o ∷ os) = Shows o × AllShow os

    -- ---- formulas

    goal-formula : IsFormula Applies (sorts m) m.goal
    goal-formula = go m.hyps (forms Applies M keeps m formed e has)
      where
        go : (hs : List Tm) → AllTm (IsFormula Applies (sorts m)) (hs ++ m.goal ∷ m.facts) → IsFormula Applies (sorts m) m.goal
        go [] h = h.0
        go (t ∷ ts) h = go ts h.1

    both-formulas : AllTm (IsFormula Applies (sorts m)) fl.formulas
    both-formulas = go m.hyps (forms Applies M keeps m formed e has)
      where
        go : (hs : List Tm) → AllTm (IsFormula Applies (sorts m)) (hs ++ m.goal ∷ m.facts) → AllTm (IsFormula Applies (sorts m)) (hs ++ m.facts)
        go [] h = h.1
        go (t ∷ ts) h = (h.0, go ts h.1)

    formula-at : (k : ℕ) (phi : Tm) → at_number fl.formulas k ≡ Some phi → IsFormula Applies (sorts m) phi × Truth M phi e
    formula-at zero phi q = cc
    formula-at (suc k) phi q = go fl.formulas k both-formulas true-formulas q
      where
        go : (phis : List Tm) (k : ℕ) → AllTm (IsFormula Applies (sorts m)) phis → AllTrue M phis e → slice_get phis k ≡ Some phi → IsFormula Applies (sorts m) phi × Truth M phi e
        go [] k h i q = cc
        go (psi ∷ psis) zero h i q = let p : psi ≡ phi = cc in (subst (IsFormula Applies (sorts m)) p h.0, subst (λ t. Truth M t e) p i.0)
        go (psi ∷ psis) (suc k) h i q = go psis k h.1 i.1 q

    value-is : (b : Bool) (v : Option Bool) → is_value b v ≡ true → v ≡ Some b
    value-is true (Some true) h = refl
    value-is true (Some false) h = absurd (false≢true h)
    value-is false (Some true) h = absurd (false≢true h)
    value-is false (Some false) h = refl
    value-is b None h = absurd (false≢true h)

    -- ---- marks

    agreed-none : Agreed []
    agreed-none a t n p q = cc

    agreed-more : (ms : List Mk) (a : ℕ) (t : Tm) (n : Mark) → at_number fl.atoms a ≡ Some t → MarkHolds M t n e → Agreed ms → Agreed (marked a n ms)
    agreed-more ms a t n p h old b u k q r = go (nat_eq a b) refl r
      where
        go : (c : Bool) → nat_eq a b ≡ c → (if c then Some n else marking_of ms b) ≡ Some k → MarkHolds M u k e
        go true i r =
            let ab = eqb-true a b i in
            let tu : t ≡ u = (let x = subst (λ j. at_number fl.atoms j ≡ Some t) ab p in cc) in
            let nk : n ≡ k = cc in
            subst (λ w. MarkHolds M w k e) tu (subst (λ w. MarkHolds M t w e) nk h)
        go false i r = old b u k q r

    atom-cases : (a : ℕ) (t : Tm) → at_number fl.atoms a ≡ Some t → (value M t e ≡ v_bool true → Goal) → (value M t e ≡ v_bool false → Goal) → Goal
    atom-cases a t p = bool-cases (value M t e) (value-sorted Applies M keeps (sorts m) t s_bool e (atom-formula Applies M keeps m formed e has a t p) has)

    int-sides : (t : Tm) → IsFormula Applies (sorts m) t → is_int_equation (sorts m) t ≡ true → value M t e ≡ v_bool (int_eq (int_of (value M (arg_of t) e)) (int_of (value M (rest_of t) e)))
    int-sides (t_prim op.Eq S (t_more x ts) at) h i =
        let g = h.1.1.0 in
        let a = first-of Applies (sorts m) (t_more x ts) g.first (g.first ∷ []) h.1.0 g.args h.1.1.1 in
        let b = second-of Applies (sorts m) (t_more x ts) g.first g.first [] h.1.0 g.args h.1.1.1 in
        let s : g.first ≡ s_int = sym (sort-sorted Applies (sorts m) x g.first a) ∙ int-sort (sort_of (sorts m) x) i in
        let u = int-whole (value M (arg_of (t_prim op.Eq S (t_more x ts) at)) e) (subst (λ R. Has R (value M (arg_of (t_prim op.Eq S (t_more x ts) at)) e)) s (value-sorted Applies M keeps (sorts m) _ g.first e a has)) in
        let v = int-whole (value M (rest_of (t_prim op.Eq S (t_more x ts) at)) e) (subst (λ R. Has R (value M (rest_of (t_prim op.Eq S (t_more x ts) at)) e)) s (value-sorted Applies M keeps (sorts m) _ g.first e b has)) in
        ap₂ (λ p q. v_bool (same p q)) (sym (first-value M (t_more x ts) e) ∙ u) (sym (second-value M (t_more x ts) e) ∙ v)
      where
        int-sort : (R : Srt) → is_int R ≡ true → R ≡ s_int
        int-sort s_int h = refl
        int-sort R h = absurd (false≢true h)
    int-sides t h i = absurd (false≢true i)

    -- a false equation of numbers is less or greater
    order-cases : (a : ℕ) (t : Tm) → at_number fl.atoms a ≡ Some t → is_int_equation (sorts m) t ≡ true → value M t e ≡ v_bool false → (MarkHolds M t mark.Less e → Goal) → (MarkHolds M t mark.Greater e → Goal) → Goal
    order-cases a t p i off less greater =
        let x = int_of (value M (arg_of t) e) in
        let y = int_of (value M (rest_of t) e) in
        by_lt_z x y (λ l. less (off, l)) (λ k. by_lt_z y x (λ l. greater (off, l)) (λ l. absurd (apart x y (int-sides t (atom-formula Applies M keeps m formed e has a t p) i) k l)))
      where
        apart : (x y : ℤ) → value M t e ≡ v_bool (int_eq x y) → y ≤ℤ x → x ≤ℤ y → ⊥
        apart x y v k l =
            let q : x ≡ y = omega (arith, ints, k, l) in
            let w : int_eq x y ≡ false = (let z = sym v ∙ off in cc) in
            false≢true (sym w ∙ (Decides-int_eq x y).1 q)

    same-mark : (t : Tm) (n k : Mark) → same_mark n k ≡ true → MarkHolds M t k e → MarkHolds M t n e
    same-mark t mark.True mark.True h q = q
    same-mark t mark.False mark.False h q = q
    same-mark t mark.False mark.Less h q = q.0
    same-mark t mark.False mark.Greater h q = q.0
    same-mark t mark.Less mark.Less h q = q
    same-mark t mark.Greater mark.Greater h q = q
    same-mark t n k h q = absurd (false≢true h)

    agreed-share : (ms : List Mk) → Agreed ms → (ks : List Mk) → has_marks (marking_of ms) ks ≡ true → Agreed ks
    agreed-share ms h [] w a t n p q = cc
    agreed-share ms h (k ∷ ks) w a t n p q = go (agreed-share ms h ks (both-true (holds (marking_of ms k.atom) (same_mark k.mark)) (has_marks (marking_of ms) ks) w).1) (nat_eq k.atom a) refl q
      where
        go : Agreed ks → (c : Bool) → nat_eq k.atom a ≡ c → (if c then Some k.mark else marking_of ks a) ≡ Some n → MarkHolds M t n e
        go ih true i r =
            let x = holds-inv (marking_of ms k.atom) (same_mark k.mark) (both-true (holds (marking_of ms k.atom) (same_mark k.mark)) (has_marks (marking_of ms) ks) w).0 in
            let ab = eqb-true k.atom a i in
            let kn : k.mark ≡ n = cc in
            subst (λ z. MarkHolds M t z e) kn (same-mark t k.mark x.0 x.1.1 (h a t x.0 p (subst (λ j. marking_of ms j ≡ Some x.0) ab x.1.0)))
        go ih false i r = ih a t n p r

    ended-at : (ended : List (List Mk)) (i : ℕ) (ms : List Mk) → Ended ended → at_number ended i ≡ Some ms → Agreed ms → Goal
    ended-at ended zero ms h q = cc
    ended-at ended (suc i) ms h q = go ended i h q
      where
        go : (ended : List (List Mk)) (i : ℕ) → Ended ended → slice_get ended i ≡ Some ms → Agreed ms → Goal
        go [] i h q = cc
        go (ks ∷ more) zero h q = let p : ks ≡ ms = cc in subst (λ w. Agreed w → Goal) p h.0
        go (ks ∷ more) (suc i) h q = go more i h.1 q

    ended-add : (ended : List (List Mk)) (ms : List Mk) → Ended ended → (Agreed ms → Goal) → Ended (ended ++ ms ∷ [])
    ended-add [] ms h k = (k, tt)
    ended-add (ks ∷ more) ms h k = (h.0, ended-add more ms h.1 k)

    -- ---- lines

    shares-show : (n : ℕ) (ended : List (List Mk)) → AllShow (owe_shares n ended) → Ended ended → Goal
    shares-show zero ended h k = h.0 k agreed-none
    shares-show (suc n) ended h k = h.0 k

    marks-show : (j n : ℕ) (ended : List (List Mk)) (ms : List Mk) → AllShow (owe_marks j n ended ms) → Ended ended → Goal
    marks-show zero n ended ms h k = shares-show n (ended ++ ms ∷ []) h.1 (ended-add ended ms k (h.0 k))
    marks-show (suc j) n ended ms h k = h.0 k

    branch-shows : (ended : List (List Mk)) (ms : List Mk) (l : Line) (more : List Owed) → in_branch fl ended ms l ≡ Some more → AllShow more → Ended ended → Agreed ms → Goal
    branch-shows ended ms (line.Split a) more q h k g =
        let w = only-inv (holds (at_number fl.atoms a) (λ t. is_none (marking_of ms a))) (owed_branch ended (marked a mark.True ms) ∷ owed_branch ended (marked a mark.False ms) ∷ []) more q in
        let t = holds-inv (at_number fl.atoms a) (λ t. is_none (marking_of ms a)) w.0 in
        let s = subst AllShow (sym w.1) h in
        atom-cases a t.0 t.1.0 (λ v. s.0 k (agreed-more ms a t.0 mark.True t.1.0 v g)) (λ v. s.1.0 k (agreed-more ms a t.0 mark.False t.1.0 v g))
    branch-shows ended ms (line.Order a) more q h k g =
        let w = only-inv (holds (at_number fl.atoms a) (λ t. is_int_equation (var_sorts fl) t && holds (marking_of ms a) is_false_mark)) (owed_branch ended (marked a mark.Less ms) ∷ owed_branch ended (marked a mark.Greater ms) ∷ []) more q in
        let t = holds-inv (at_number fl.atoms a) (λ t. is_int_equation (var_sorts fl) t && holds (marking_of ms a) is_false_mark) w.0 in
        let v = both-true (is_int_equation (var_sorts fl) t.0) (holds (marking_of ms a) is_false_mark) t.1.1 in
        let n = holds-inv (marking_of ms a) is_false_mark v.1 in
        let s = subst AllShow (sym w.1) h in
        order-cases a t.0 t.1.0 v.0 (false-mark t.0 n.0 n.1.1 (g a t.0 n.0 t.1.0 n.1.0)) (λ u. s.0 k (agreed-more ms a t.0 mark.Less t.1.0 u g)) (λ u. s.1.0 k (agreed-more ms a t.0 mark.Greater t.1.0 u g))
      where
        false-mark : (t : Tm) (n : Mark) → is_false_mark n ≡ true → MarkHolds M t n e → value M t e ≡ v_bool false
        false-mark t mark.False h k = k
        false-mark t n h k = absurd (false≢true h)
    branch-shows ended ms (line.Hyp i) more q h k g =
        let w = only-inv (holds (at_number fl.formulas i) (λ phi. is_value false (reads fl (marking_of ms) phi))) [] more q in
        let phi = holds-inv (at_number fl.formulas i) (λ phi. is_value false (reads fl (marking_of ms) phi)) w.0 in
        let fm = formula-at i phi.0 phi.1.0 in
        let off = reads-true Applies M keeps m formed e has (marking_of ms) g phi.0 false fm.0 (value-is false (reads fl (marking_of ms) phi.0) phi.1.1) in
        let z = sym off ∙ fm.1 in
        cc
    branch-shows ended ms line.Done more q h k g =
        let w = only-inv (is_value true (reads fl (marking_of ms) fl.goal)) [] more q in
        reads-true Applies M keeps m formed e has (marking_of ms) g m.goal true goal-formula (value-is true (reads fl (marking_of ms) fl.goal) w.0)
    branch-shows ended ms (line.Close c r) more q h k g = let w : owed_close ms c r [] [] ∷ [] ≡ more = cc in (subst AllShow (sym w) h).0 g tt tt
    branch-shows ended ms (line.Use i) more q h k g =
        let w = only-inv (holds (at_number ended i) (has_marks (marking_of ms))) [] more q in
        let ks = holds-inv (at_number ended i) (has_marks (marking_of ms)) w.0 in
        ended-at ended i ks.0 k ks.1.0 (agreed-share ms g ks.0 ks.1.1)
    branch-shows ended ms l more q h k g = cc

    line-shows : (o : Owed) (l : Line) (more : List Owed) → after_line fl o l ≡ Some more → AllShow more → Shows o
    line-shows owed_all (line.Shared n) more q h = let w : owe_shares n [] ≡ more = cc in shares-show n [] (subst AllShow (sym w) h) tt
    line-shows owed_all l more q h = branch-shows [] [] l more q h tt agreed-none
    line-shows (owed_shares n ended) (line.Share i k) more q h =
        let w = only-inv (nat_eq i (length ended + 1)) (owe_marks k n ended []) more q in
        marks-show k n ended [] (subst AllShow (sym w.1) h)
    line-shows (owed_shares n ended) l more q h = cc
    line-shows (owed_marks j n ended ms) (line.Marked a k) more q h =
        let w = only-inv (holds (at_number fl.atoms a) (λ t. is_none (marking_of ms a) && may_mark (var_sorts fl) t k)) (owe_marks j n ended (marked a k ms)) more q in
        marks-show j n ended (marked a k ms) (subst AllShow (sym w.1) h)
    line-shows (owed_marks j n ended ms) l more q h = cc
    line-shows (owed_branch ended ms) l more q h = branch-shows ended ms l more q h
    line-shows (owed_close ms (suc c) r es rows) l more q h =
        λ g k i.
        let d = map-inv (λ d. owed_close ms c r (es ++ d ∷ []) rows ∷ []) (equation_by fl (marking_of ms) es l) more q in
        (subst AllShow (sym d.1.1) h).0 g (eqn-add Applies M keeps m formed e has es d.0 k (equation-true Applies M keeps m formed e has (marking_of ms) g es k l d.0 d.1.0)) i
    line-shows (owed_close ms zero (suc r) es rows) l more q h =
        λ g k i.
        let d = map-inv (λ a. owed_close ms zero r es (rows ++ a ∷ []) ∷ []) (row_by fl (marking_of ms) es rows l) more q in
        (subst AllShow (sym d.1.1) h).0 g k (row-add Applies M keeps m formed e has rows d.0 i (row-line-true Applies M keeps m formed e has (marking_of ms) g es k rows i l d.0 d.1.0))
    line-shows (owed_close ms zero zero es rows) l more q h =
        λ g k i. absurd (no-verdict Applies M keeps m formed e has (marking_of ms) g es k rows i l (only-inv (is_verdict fl (marking_of ms) es rows l) [] more q).0)

    show-split : (os ps : List Owed) → AllShow (os ++ ps) → AllShow os × AllShow ps
    show-split [] ps h = (tt, h)
    show-split (o ∷ os) ps h = let w = show-split os ps h.1 in ((h.0, w.0), w.1)

    -- where no line is refused, all that is owed is shown
    pub all-shown : (os : List Owed) (ls : List Line) (at : ℕ) → first_bad fl os ls at ≡ None → AllShow os
    all-shown [] [] at q = tt
    all-shown [] (l ∷ ls) at q = cc
    all-shown (o ∷ os) [] at q = cc
    all-shown (o ∷ os) (l ∷ ls) at q = go (λ more. all-shown (more ++ os) ls (suc at)) (after_line fl o l) refl q
      where
        go : ((more : List Owed) → first_bad fl (more ++ os) ls (suc at) ≡ None → AllShow (more ++ os)) → (x : Option (List Owed)) → after_line fl o l ≡ x
            → ◌≡◌ {A = Option ℕ} (elim x [ None ↦ Some at | Some more ↦ first_bad fl (more ++ os) ls (suc at) ]) None → Shows o × AllShow os
        go ih None p k = cc
        go ih (Some more) p k = let w = show-split more os (ih more k) in (line-shows o l more p w.0, w.1)

pub proofs-prove : (Applies : (k : ℕ) → List Srt → (S : Srt) → Type 0) → ProofsProve Applies
proofs-prove Applies M keeps f flat ls proved = subst (IsTrueFlat Applies M) (sym flat.is) made
  where
    made : IsTrueFlat Applies M (number_all flat.made)
    made e has h = (all-shown Applies M keeps flat.made flat.formed e has h (owed_all ∷ []) ls 1 (subst (λ f. first_bad f (owed_all ∷ []) ls 1 ≡ None) flat.is proved)).0
