-- What holds under some marks holds under more marks, and how refutations are put together.
use Rattle.std.proofs.Common.{◌≡◌, ◌⊎◌, inl, inr, ℕ, zero, suc, Bool, true, false, not, ◌&&◌, if◌then◌else◌, nat_eq, List, [], ◌∷◌, ◌++◌, Option, Some, None, option_map, refl, sym, ap, ◌∙◌, subst}
use Rattle.std.proofs.lemmas.Bool.{false≢true}
use Rattle.fst_base.specs.Sorts.{Srt}
use Rattle.fst_base.specs.Values.{same_bool}
use Rattle.fst_terms.specs.Terms.{Tm}
use Rattle.fst_terms.specs.Flats.{Flt, truth_of}
use Rattle.fst_terms.specs.declared.flat.Mark.{Mark}
use Rattle.fst_terms.specs.declared.flat.Mark.TheVariants as mark
use Rattle.fst_terms.specs.Skeletons.{Skl, k_truth, k_atom, k_if, k_same, skeleton, reading, chosen, common, agree, arg_of, rest_of}
use Rattle.fst_terms.specs.Rows.{Rw}
use Rattle.fst_terms.specs.Linear.{Ineq}
use Rattle.fst_terms.specs.Marks.{Marking, at_number, atom_number, mark_of, var_sorts, is_equation, is_at_most, is_int_equation, reads, order_ineqs, equation_ineqs, mark_ineqs}
use Rattle.fst_cert.specs.Proving.{on, holds, Eqn, is_eqn, equation_of_mark, equation_by, narrow_row, row_by, is_verdict, same_mark}
use Rattle.fst_cert.specs.declared.line.Line.{Line}
use Rattle.fst_cert.specs.declared.line.Line.TheVariants as line
use Rattle.fst_congruence.specs.Explained.{equations_by}
use Rattle.fst_cases.specs.Refuting.{Within, put, rows_after, Closes}
use Rattle.fst_cert.proofs.EquationTruths.{on-inv, holds-inv, both-true}

-- ---- marks

pub same-self : (m : Mark) → same_mark m m ≡ true
same-self mark.True = refl
same-self mark.False = refl
same-self mark.Less = refl
same-self mark.Greater = refl

pub same-more : (m n k : Mark) → same_mark m n ≡ true → same_mark n k ≡ true → same_mark m k ≡ true
same-more mark.True mark.True k h i = i
same-more mark.False mark.False k h i = i
same-more mark.False mark.Less mark.Less h i = refl
same-more mark.False mark.Greater mark.Greater h i = refl
same-more mark.Less mark.Less k h i = i
same-more mark.Greater mark.Greater k h i = i
same-more m n k h i = cc

same-truth : (m n : Mark) → same_mark m n ≡ true → truth_of n ≡ truth_of m
same-truth mark.True mark.True h = refl
same-truth mark.False mark.False h = refl
same-truth mark.False mark.Less h = refl
same-truth mark.False mark.Greater h = refl
same-truth mark.Less mark.Less h = refl
same-truth mark.Greater mark.Greater h = refl
same-truth m n h = absurd (false≢true h)

pub within-self : (look : Marking) → Within look look
within-self look a m h = (m, (h, same-self m))

pub within-more : (c d look : Marking) → Within c d → Within d look → Within c look
within-more c d look h i a m q =
    let n = h a m q in
    let k = i a n.0 n.1.0 in
    (k.0, (k.1.0, same-more m n.0 k.0 n.1.1 k.1.1))

-- the same mark put to both
pub within-put : (core look : Marking) (a : ℕ) (m : Mark) → Within core look → Within (put a m core) (put a m look)
within-put core look a m h b k q = go (nat_eq a b) q
  where
    go : (c : Bool) → (if c then Some m else core b) ≡ Some k → (n : Mark) × (((if c then Some m else look b) ≡ Some n) × (same_mark k n ≡ true))
    go true r = let p : m ≡ k = cc in (m, (refl, subst (λ w. same_mark w m ≡ true) p (same-self m)))
    go false r = h b k r

-- a mark that is put twice is put once
within-twice : (look : Marking) (a : ℕ) (m k : Mark) → Within (put a m look) (put a m (put a k look))
within-twice look a m k b n q = go (nat_eq a b) q
  where
    go : (c : Bool) → (if c then Some m else look b) ≡ Some n → (o : Mark) × (((if c then Some m else (if c then Some k else look b)) ≡ Some o) × (same_mark n o ≡ true))
    go true r = (n, (r, same-self n))
    go false r = (n, (r, same-self n))

-- ---- formulas

abbrev pub Knows : (Tm → Option Bool) → (Tm → Option Bool) → Type 0
Knows old new = (t : Tm) (b : Bool) → old t ≡ Some b → new t ≡ Some b

chosen-more : (x y z u v w : Option Bool) (b : Bool) → ((c : Bool) → x ≡ Some c → u ≡ Some c) → ((c : Bool) → y ≡ Some c → v ≡ Some c) → ((c : Bool) → z ≡ Some c → w ≡ Some c) → chosen x y z ≡ Some b → chosen u v w ≡ Some b
chosen-more (Some true) y z u v w b i j k h = subst (λ q. chosen q v w ≡ Some b) (sym (i true refl)) (j b h)
chosen-more (Some false) y z u v w b i j k h = subst (λ q. chosen q v w ≡ Some b) (sym (i false refl)) (k b h)
chosen-more None (Some y) (Some z) u v w b i j k h = both y z u v w b h (j y refl) (k z refl)
  where
    same-is : (p q : Bool) → same_bool p q ≡ true → p ≡ q
    same-is true true h = refl
    same-is true false h = absurd (false≢true h)
    same-is false true h = absurd (false≢true h)
    same-is false false h = refl

    any : (u : Option Bool) (b : Bool) → chosen u (Some b) (Some b) ≡ Some b
    any (Some true) b = refl
    any (Some false) b = refl
    any None true = refl
    any None false = refl

    both : (y z : Bool) (u v w : Option Bool) (b : Bool) → common (Some y) (Some z) ≡ Some b → v ≡ Some y → w ≡ Some z → chosen u v w ≡ Some b
    both y z u v w b h p q = go (same_bool y z) refl h
      where
        go : (c : Bool) → same_bool y z ≡ c → ◌≡◌ {A = Option Bool} (if c then Some y else None) (Some b) → chosen u v w ≡ Some b
        go true s r =
            let yb : y ≡ b = cc in
            let zb = sym (same-is y z s) ∙ yb in
            subst (λ o. chosen u o w ≡ Some b) (sym (p ∙ ap Some yb)) (subst (λ o. chosen u (Some b) o ≡ Some b) (sym (q ∙ ap Some zb)) (any u b))
        go false s r = cc
chosen-more None y z u v w b i j k h = cc

agree-more : (x y u v : Option Bool) (b : Bool) → ((c : Bool) → x ≡ Some c → u ≡ Some c) → ((c : Bool) → y ≡ Some c → v ≡ Some c) → agree x y ≡ Some b → agree u v ≡ Some b
agree-more (Some x) (Some y) u v b i j h = subst (λ o. agree o v ≡ Some b) (sym (i x refl)) (subst (λ o. agree (Some x) o ≡ Some b) (sym (j y refl)) h)
agree-more x y u v b i j h = cc

pub reading-more : (old new : Tm → Option Bool) → Knows old new → (k : Skl) (b : Bool) → reading old k ≡ Some b → reading new k ≡ Some b
reading-more old new i (k_truth a) b h = h
reading-more old new i (k_atom t) b h = i t b h
reading-more old new i (k_if c p q) b h = chosen-more (reading old c) (reading old p) (reading old q) (reading new c) (reading new p) (reading new q) b (reading-more old new i c) (reading-more old new i p) (reading-more old new i q) h
reading-more old new i (k_same p q) b h = agree-more (reading old p) (reading old q) (reading new p) (reading new q) b (reading-more old new i p) (reading-more old new i q) h

-- a conjunction is false where one side is
pub conjunct-false : (look : Tm → Option Bool) (p q : Skl) → (reading look p ≡ Some false) ⊎ (reading look q ≡ Some false) → reading look (k_if p q (k_truth false)) ≡ Some false
conjunct-false look p q (inl h) = subst (λ o. chosen o (reading look q) (Some false) ≡ Some false) (sym h) refl
conjunct-false look p q (inr h) = subst (λ o. chosen (reading look p) o (Some false) ≡ Some false) (sym h) (any (reading look p))
  where
    any : (u : Option Bool) → chosen u (Some false) (Some false) ≡ Some false
    any (Some true) = refl
    any (Some false) = refl
    any None = refl

module _ (f : Flt) (old new : Marking) (within : Within old new) where
  marks-known : Knows (λ t. option_map truth_of (mark_of f old t)) (λ t. option_map truth_of (mark_of f new t))
  marks-known t b h = go (atom_number f t) h
    where
      go : (n : ℕ) → option_map truth_of (elim n [ zero ↦ None | suc k ↦ old (suc k) ]) ≡ Some b → option_map truth_of (elim n [ zero ↦ None | suc k ↦ new (suc k) ]) ≡ Some b
      go zero h = cc
      go (suc k) h = found (old (suc k)) refl h
        where
          found : (o : Option Mark) → old (suc k) ≡ o → option_map truth_of o ≡ Some b → option_map truth_of (new (suc k)) ≡ Some b
          found None q r = cc
          found (Some m) q r =
              let n = within (suc k) m q in
              subst (λ o. option_map truth_of o ≡ Some b) (sym n.1.0) (ap Some (same-truth m n.0 n.1.1) ∙ r)

  pub reads-more : (phi : Tm) (b : Bool) → reads f old phi ≡ Some b → reads f new phi ≡ Some b
  reads-more phi b h = reading-more _ _ marks-known (skeleton (var_sorts f) phi) b h

  -- ---- lines

  equation-of-more : (t : Tm) (m n : Mark) (d : Eqn) → same_mark m n ≡ true → equation_of_mark t m ≡ Some d → equation_of_mark t n ≡ Some d
  equation-of-more t mark.True mark.True d h q = q
  equation-of-more t mark.False mark.False d h q = q
  equation-of-more t mark.False mark.Less d h q = q
  equation-of-more t mark.False mark.Greater d h q = q
  equation-of-more t mark.Less mark.Less d h q = q
  equation-of-more t mark.Greater mark.Greater d h q = q
  equation-of-more t m n d h q = absurd (false≢true h)

  ineqs-more : (Ss : List Srt) (t : Tm) (m n : Mark) (k : ℕ) (d : Ineq) → same_mark m n ≡ true → at_number (mark_ineqs Ss t m) k ≡ Some d → at_number (mark_ineqs Ss t n) k ≡ Some d
  ineqs-more Ss t mark.True mark.True k d h q = q
  ineqs-more Ss t mark.False mark.False k d h q = q
  ineqs-more Ss t mark.False mark.Less k d h q = go (is_at_most t) (is_int_equation Ss t) q
    where
      go : (a b : Bool) → at_number (if a then order_ineqs mark.False (arg_of t) (rest_of t) else (if b then equation_ineqs mark.False (arg_of t) (rest_of t) else [])) k ≡ Some d
          → at_number (if a then order_ineqs mark.Less (arg_of t) (rest_of t) else (if b then equation_ineqs mark.Less (arg_of t) (rest_of t) else [])) k ≡ Some d
      go true b q = q
      go false true q = absurd (none k q)
        where
          none : (k : ℕ) → ◌≡◌ {A = Option Ineq} (at_number [] k) (Some d) → ⊥
          none zero q = cc
          none (suc k) q = cc
      go false false q = q
  ineqs-more Ss t mark.False mark.Greater k d h q = go (is_at_most t) (is_int_equation Ss t) q
    where
      go : (a b : Bool) → at_number (if a then order_ineqs mark.False (arg_of t) (rest_of t) else (if b then equation_ineqs mark.False (arg_of t) (rest_of t) else [])) k ≡ Some d
          → at_number (if a then order_ineqs mark.Greater (arg_of t) (rest_of t) else (if b then equation_ineqs mark.Greater (arg_of t) (rest_of t) else [])) k ≡ Some d
      go true b q = q
      go false true q = absurd (none k q)
        where
          none : (k : ℕ) → ◌≡◌ {A = Option Ineq} (at_number [] k) (Some d) → ⊥
          none zero q = cc
          none (suc k) q = cc
      go false false q = q
  ineqs-more Ss t mark.Less mark.Less k d h q = q
  ineqs-more Ss t mark.Greater mark.Greater k d h q = q
  ineqs-more Ss t m n k d h q = absurd (false≢true h)

  -- what follows from the mark of an atom follows from the mark that it has in the larger marking
  mark-more : {B : Type 0} (a : ℕ) (g : Mark → Option B) (y : B) → ((m n : Mark) → same_mark m n ≡ true → g m ≡ Some y → g n ≡ Some y) → on (old a) g ≡ Some y → on (new a) g ≡ Some y
  mark-more a g y step h =
      let m = on-inv (old a) g y h in
      let n = within a m.0 m.1.0 in
      subst (λ o. on o g ≡ Some y) (sym n.1.0) (step m.0 n.0 n.1.1 m.1.1)

  pub equation-more : (es : List Eqn) (l : Line) (d : Eqn) → equation_by f old es l ≡ Some d → equation_by f new es l ≡ Some d
  equation-more es (line.Given a) d h =
      let t = on-inv (at_number f.atoms a) (λ t. on (old a) (equation_of_mark t)) d h in
      subst (λ o. on o (λ t. on (new a) (equation_of_mark t)) ≡ Some d) (sym t.1.0) (mark-more a (equation_of_mark t.0) d (λ m n s q. equation-of-more t.0 m n d s q) t.1.1)
  equation-more es l d h = h

  pub row-more : (es : List Eqn) (rows : List Rw) (l : Line) (r : Rw) → row_by f old es rows l ≡ Some r → row_by f new es rows l ≡ Some r
  row-more es rows (line.Atom a k) r h =
      let t = on-inv (at_number f.atoms a) (λ t. on (old a) (λ m. on (at_number (mark_ineqs (var_sorts f) t m) k) (narrow_row f))) r h in
      subst (λ o. on o (λ t. on (new a) (λ m. on (at_number (mark_ineqs (var_sorts f) t m) k) (narrow_row f))) ≡ Some r) (sym t.1.0)
      (mark-more a (λ m. on (at_number (mark_ineqs (var_sorts f) t.0 m) k) (narrow_row f)) r (λ m n s q. step t.0 m n s q) t.1.1)
    where
      step : (t : Tm) (m n : Mark) → same_mark m n ≡ true → on (at_number (mark_ineqs (var_sorts f) t m) k) (narrow_row f) ≡ Some r → on (at_number (mark_ineqs (var_sorts f) t n) k) (narrow_row f) ≡ Some r
      step t m n s q =
          let d = on-inv (at_number (mark_ineqs (var_sorts f) t m) k) (narrow_row f) r q in
          subst (λ o. on o (narrow_row f) ≡ Some r) (sym (ineqs-more (var_sorts f) t m n k d.0 s d.1.0)) d.1.1
  row-more es rows l r h = h

  both-are : (a b : Bool) → a ≡ true → b ≡ true → (a && b) ≡ true
  both-are true b h k = k
  both-are false b h k = h

  pub verdict-more : (es : List Eqn) (rows : List Rw) (l : Line) → is_verdict f old es rows l ≡ true → is_verdict f new es rows l ≡ true
  verdict-more es rows (line.Unequal a i) h =
      let t = holds-inv (at_number f.atoms a) (λ t. is_equation t && holds (old a) (λ m. not (truth_of m)) && holds (at_number es i) (is_eqn (arg_of t) (rest_of t))) h in
      let last = both-true (is_equation t.0 && holds (old a) (λ m. not (truth_of m))) (holds (at_number es i) (is_eqn (arg_of t.0) (rest_of t.0))) t.1.1 in
      let first = both-true (is_equation t.0) (holds (old a) (λ m. not (truth_of m))) last.0 in
      let m = holds-inv (old a) (λ m. not (truth_of m)) first.1 in
      let n = within a m.0 m.1.0 in
      let off : holds (new a) (λ m. not (truth_of m)) ≡ true = subst (λ o. holds o (λ m. not (truth_of m)) ≡ true) (sym n.1.0) (ap not (same-truth m.0 n.0 n.1.1) ∙ m.1.1) in
      subst (λ o. holds o (λ t. is_equation t && holds (new a) (λ m. not (truth_of m)) && holds (at_number es i) (is_eqn (arg_of t) (rest_of t))) ≡ true) (sym t.1.0)
      (both-are (is_equation t.0 && holds (new a) (λ m. not (truth_of m))) (holds (at_number es i) (is_eqn (arg_of t.0) (rest_of t.0))) (both-are (is_equation t.0) (holds (new a) (λ m. not (truth_of m))) first.0 off) last.1)
  verdict-more es rows l h = h

  equations-after-more : (es : List Eqn) (ls : List Line) (ds : List Eqn) → equations_by f old es ls ≡ Some ds → equations_by f new es ls ≡ Some ds
  equations-after-more es [] ds h = h
  equations-after-more es (l ∷ ls) ds h =
      let d = on-inv (equation_by f old es l) (λ d. equations_by f old (es ++ d ∷ []) ls) ds h in
      subst (λ o. on o (λ d. equations_by f new (es ++ d ∷ []) ls) ≡ Some ds) (sym (equation-more es l d.0 d.1.0)) (equations-after-more (es ++ d.0 ∷ []) ls ds d.1.1)

  rows-after-more : (es : List Eqn) (rows : List Rw) (ls : List Line) (rs : List Rw) → rows_after f old es rows ls ≡ Some rs → rows_after f new es rows ls ≡ Some rs
  rows-after-more es rows [] rs h = h
  rows-after-more es rows (l ∷ ls) rs h =
      let r = on-inv (row_by f old es rows l) (λ r. rows_after f old es (rows ++ r ∷ []) ls) rs h in
      subst (λ o. on o (λ r. rows_after f new es (rows ++ r ∷ []) ls) ≡ Some rs) (sym (row-more es rows l r.0 r.1.0)) (rows-after-more es (rows ++ r.0 ∷ []) ls rs r.1.1)

  -- a closing holds under more marks
  pub closes-more : (es rs : List Line) (v : Line) → Closes f old es rs v → Closes f new es rs v
  closes-more es rs v c = record {
    gives = c.gives;
    sums = c.sums;
    equations_hold = equations-after-more [] es c.gives c.equations_hold;
    rows_hold = rows-after-more c.gives [] rs c.sums c.rows_hold;
    ends = verdict-more c.gives c.sums v c.ends;
  }
