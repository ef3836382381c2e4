-- The lines of a refutation, written by a stack of refutations.
use Rattle.std.proofs.Common.{◌≡◌, ◌⊎◌, inl, inr, ℕ, zero, suc, ◌+◌, ◌<◌, ◌≤◌, List, [], ◌∷◌, ◌++◌, length, refl, sym, ap, ap₂, ◌∙◌, subst, arith, append_assoc}
use Rattle.std.proofs.lemmas.Bool.{cases_lt}
use Rattle.std.proofs.lemmas.List.{same_from_push, append-nil}
use Rattle.fst_cert.specs.declared.line.Line.{Line}
use Rattle.fst_cert.specs.declared.line.Line.TheVariants as line
use Rattle.fst_cases.specs.declared.arena.Refutation.{Refutation}
use Rattle.fst_cases.specs.declared.arena.Rule.TheVariants as rule
use Rattle.fst_cases.specs.Arenas.{rule_at, Writes, writes_end, writes_split, writes_order}

-- ---- a measure: a refutation weighs more than two earlier ones

abbrev pub heavy : ℕ → ℕ
heavy zero = 1
heavy (suc i) = (heavy i + heavy i) + heavy i

abbrev pub weight : List ℕ → ℕ
weight [] = 0
weight (i ∷ is) = heavy i + weight is

heavy-some : (i : ℕ) → 0 < heavy i
heavy-some zero = omega arith
heavy-some (suc i) = let h = heavy-some i in omega (arith, h)

heavy-more : (i j : ℕ) → i ≤ j → heavy i ≤ heavy j
heavy-more i zero h = subst (λ k. heavy k ≤ heavy zero) (let e : zero ≡ i = omega (arith, h) in e) (omega arith)
heavy-more i (suc j) h = go (heavy-more i j) (cases_lt i (suc j))
  where
    go : (i ≤ j → heavy i ≤ heavy j) → (i < suc j) ⊎ (suc j ≤ i) → heavy i ≤ heavy (suc j)
    go ih (inl less) = let k = ih (omega (arith, less)) in omega (arith, k)
    go ih (inr more) = subst (λ k. heavy k ≤ heavy (suc j)) (let e : suc j ≡ i = omega (arith, h, more) in e) (omega arith)

two-lighter : (l r i : ℕ) → l < i → r < i → heavy l + heavy r < heavy i
two-lighter l r zero h k = absurd (omega (arith, h))
two-lighter l r (suc i) h k =
    let a = heavy-more l i (omega (arith, h)) in
    let b = heavy-more r i (omega (arith, k)) in
    let some = heavy-some i in
    omega (arith, a, b, some)

weight-push : (is : List ℕ) (i : ℕ) → weight (is ++ i ∷ []) ≡ weight is + heavy i
weight-push [] i = omega arith
weight-push (j ∷ is) i = let ih = weight-push is i in omega (arith, ih)

pub lighter : (all is : List ℕ) (i : ℕ) → all ≡ is ++ i ∷ [] → weight is < weight all
lighter all is i e = let w = weight-push is i in let some = heavy-some i in let q = ap weight e in omega (arith, w, some, q)

pub lighter-two : (all is new : List ℕ) (i l r : ℕ) → all ≡ is ++ i ∷ [] → new ≡ (is ++ r ∷ []) ++ l ∷ [] → l < i → r < i → weight new < weight all
lighter-two all is new i l r e f h k =
    let w = weight-push is i in
    let v = weight-push is r in
    let u = weight-push (is ++ r ∷ []) l in
    let p = ap weight e in
    let q = ap weight f in
    let two = two-lighter l r i h k in
    omega (arith, w, v, u, p, q, two)

-- ---- what a refutation stands for

module _ (ns : List Refutation) where
  pub writes-there : (i : ℕ) (ls : List Line) → Writes ns i ls → i < length ns
  writes-there i ls (writes_end j ks h q) = h
  writes-there i ls (writes_split j a l r ks js h q m n u v) = h
  writes-there i ls (writes_order j a l r ks js h q m n u v) = h

  writes-end : (i : ℕ) (all ls : List Line) → Writes ns i all → rule_at ns i ≡ rule.Ends ls → all ≡ ls
  writes-end i all ls (writes_end j ks h q) e = cc
  writes-end i all ls (writes_split j a l r ks js h q m n u v) e = cc
  writes-end i all ls (writes_order j a l r ks js h q m n u v) e = cc

  -- a line, and the lines of two earlier refutations
  pub record Branches (i : ℕ) (head : Line) (l r : ℕ) (all : List Line) : Type 0 where
    pub first : List Line
    pub second : List Line
    pub are : all ≡ head ∷ first ++ second
    pub first_earlier : l < i
    pub second_earlier : r < i
    pub first_written : Writes ns l first
    pub second_written : Writes ns r second

  pub writes-split : (i a l r : ℕ) (all : List Line) → Writes ns i all → rule_at ns i ≡ rule.Split a l r → Branches i (line.Split a) l r all
  writes-split i a l r all (writes_end j ks h q) e = cc
  writes-split i a l r all (writes_split j b m n ks js h q p o u v) e =
      let ab : b ≡ a = cc in
      let lm : m ≡ l = cc in
      let rn : n ≡ r = cc in
      record {
        first = ks;
        second = js;
        are = ap (λ c. line.Split c ∷ ks ++ js) ab;
        first_earlier = subst (λ k. k < i) lm p;
        second_earlier = subst (λ k. k < i) rn o;
        first_written = subst (λ k. Writes ns k ks) lm u;
        second_written = subst (λ k. Writes ns k js) rn v;
      }
  writes-split i a l r all (writes_order j b m n ks js h q p o u v) e = cc

  pub writes-order : (i a l r : ℕ) (all : List Line) → Writes ns i all → rule_at ns i ≡ rule.Order a l r → Branches i (line.Order a) l r all
  writes-order i a l r all (writes_end j ks h q) e = cc
  writes-order i a l r all (writes_split j b m n ks js h q p o u v) e = cc
  writes-order i a l r all (writes_order j b m n ks js h q p o u v) e =
      let ab : b ≡ a = cc in
      let lm : m ≡ l = cc in
      let rn : n ≡ r = cc in
      record {
        first = ks;
        second = js;
        are = ap (λ c. line.Order c ∷ ks ++ js) ab;
        first_earlier = subst (λ k. k < i) lm p;
        second_earlier = subst (λ k. k < i) rn o;
        first_written = subst (λ k. Writes ns k ks) lm u;
        second_written = subst (λ k. Writes ns k js) rn v;
      }

  -- ---- a stack of refutations, the last one first

  pub data Todo : List ℕ → List Line → Type 0 where
    todo_none : Todo [] []
    todo_more : (is : List ℕ) (i : ℕ) (ls ks : List Line) → Todo is ks → Writes ns i ls → Todo (is ++ i ∷ []) (ls ++ ks)

  pub record Top (is : List ℕ) (i : ℕ) (rest : List Line) : Type 0 where
    pub here : List Line
    pub below : List Line
    pub stack : Todo is below
    pub written : Writes ns i here
    pub are : rest ≡ here ++ below

  pub todo-top : (all is : List ℕ) (i : ℕ) (rest : List Line) → Todo all rest → all ≡ is ++ i ∷ [] → Top is i rest
  todo-top all is i rest todo_none e = absurd (let n = ap length e in none is n)
    where
      none : (is : List ℕ) → length {A = ℕ} [] ≡ length (is ++ i ∷ []) → ⊥
      none [] h = omega (arith, h)
      none (j ∷ is) h = omega (arith, h)
  todo-top all is i rest (todo_more js j ls ks t w) e =
      let s = same_from_push js is j i e in
      record { here = ls; below = ks; stack = subst (λ l. Todo l ks) s.0 t; written = subst (λ k. Writes ns k ls) s.1 w; are = refl }

  -- what was written, and the lines of the stack, are those of the root
  pub record Writing (root : ℕ) (written : List Line) (todo : List ℕ) : Type 0 where
    pub rest : List Line
    pub stack : Todo todo rest
    pub whole : Writes ns root (written ++ rest)

  pub writing-begun : (root : ℕ) (ls written : List Line) (todo : List ℕ) → Writes ns root ls → written ≡ [] → todo ≡ root ∷ [] → Writing root written todo
  writing-begun root ls written todo w e f = record {
    rest = ls ++ [];
    stack = subst (λ is. Todo is (ls ++ [])) (sym f) (todo_more [] root ls [] todo_none w);
    whole = subst (Writes ns root) (sym (ap (λ ks. ks ++ (ls ++ [])) e ∙ append-nil ls)) w;
  }

  module _ (root : ℕ) (written : List Line) (all is : List ℕ) (i : ℕ) (w : Writing root written all) (e : all ≡ is ++ i ∷ []) where
    pub top : Top is i w.rest
    top = todo-top all is i w.rest w.stack e

    pub top-there : i < length ns
    top-there = writes-there i top.here top.written

    pub writing-end : (ls new : List Line) → rule_at ns i ≡ rule.Ends ls → new ≡ written ++ ls → Writing root new is
    writing-end ls new q f = record {
      rest = top.below;
      stack = top.stack;
      whole = subst (Writes ns root)
          (ap (λ ks. written ++ ks) (top.are ∙ ap (λ ks. ks ++ top.below) (writes-end i top.here ls top.written q)) ∙ sym (append_assoc written ls top.below) ∙ ap (λ ks. ks ++ top.below) (sym f)) w.whole;
    }

    pub writing-branch : (head : Line) (l r : ℕ) (new : List Line) (todo : List ℕ) → Branches i head l r top.here → new ≡ written ++ head ∷ [] → todo ≡ (is ++ r ∷ []) ++ l ∷ [] → Writing root new todo
    writing-branch head l r new todo b f g = record {
      rest = b.first ++ (b.second ++ top.below);
      stack = subst (λ js. Todo js (b.first ++ (b.second ++ top.below))) (sym g) (todo_more (is ++ r ∷ []) l b.first (b.second ++ top.below) (todo_more is r b.second top.below top.stack b.second_written) b.first_written);
      whole = subst (Writes ns root) lines w.whole;
    }
      where
        lines : written ++ w.rest ≡ new ++ (b.first ++ (b.second ++ top.below))
        lines =
            ap (λ ks. written ++ ks) (top.are ∙ ap (λ ks. ks ++ top.below) b.are)
            ∙ ap (λ ks. written ++ (head ∷ ks)) (append_assoc b.first b.second top.below)
            ∙ sym (append_assoc written (head ∷ []) (b.first ++ (b.second ++ top.below)))
            ∙ ap (λ ks. ks ++ (b.first ++ (b.second ++ top.below))) (sym f)

    pub writing-split : (a l r : ℕ) (new : List Line) (todo : List ℕ) → rule_at ns i ≡ rule.Split a l r → new ≡ written ++ line.Split a ∷ [] → todo ≡ (is ++ r ∷ []) ++ l ∷ [] → Writing root new todo
    writing-split a l r new todo q f g = writing-branch (line.Split a) l r new todo (writes-split i a l r top.here top.written q) f g

    pub writing-order : (a l r : ℕ) (new : List Line) (todo : List ℕ) → rule_at ns i ≡ rule.Order a l r → new ≡ written ++ line.Order a ∷ [] → todo ≡ (is ++ r ∷ []) ++ l ∷ [] → Writing root new todo
    writing-order a l r new todo q f g = writing-branch (line.Order a) l r new todo (writes-order i a l r top.here top.written q) f g

    pub split-lighter : (a l r : ℕ) (todo : List ℕ) → rule_at ns i ≡ rule.Split a l r → todo ≡ (is ++ r ∷ []) ++ l ∷ [] → weight todo < weight all
    split-lighter a l r todo q g = let b = writes-split i a l r top.here top.written q in lighter-two all is todo i l r e g b.first_earlier b.second_earlier

    pub order-lighter : (a l r : ℕ) (todo : List ℕ) → rule_at ns i ≡ rule.Order a l r → todo ≡ (is ++ r ∷ []) ++ l ∷ [] → weight todo < weight all
    order-lighter a l r todo q g = let b = writes-order i a l r top.here top.written q in lighter-two all is todo i l r e g b.first_earlier b.second_earlier

  pub written-whole : (root : ℕ) (written : List Line) (todo : List ℕ) → Writing root written todo → todo ≡ [] → Writes ns root written
  written-whole root written todo w e = subst (Writes ns root) (ap (λ ks. written ++ ks) (none todo w.rest w.stack e) ∙ append-nil written) w.whole
    where
      none : (is : List ℕ) (ks : List Line) → Todo is ks → is ≡ [] → ks ≡ []
      none is ks todo_none q = refl
      none is ks (todo_more js j ls js2 t v) q = absurd (let n = ap length q in some js n)
        where
          some : (js : List ℕ) → length (js ++ j ∷ []) ≡ length {A = ℕ} [] → ⊥
          some [] h = omega (arith, h)
          some (k ∷ js) h = omega (arith, h)

  -- a refutation stands for one list of lines
  pub writes-once : (i : ℕ) (ls ks : List Line) → Writes ns i ls → Writes ns i ks → ls ≡ ks
  writes-once i ls ks (writes_end j js h q) w = sym (writes-end i ks js w q)
  writes-once i ls ks (writes_split j a l r xs ys h q m n u v) w =
      let b = writes-split i a l r ks w q in
      ap₂ (λ x y. line.Split a ∷ x ++ y) (writes-once l xs b.first u b.first_written) (writes-once r ys b.second v b.second_written) ∙ sym b.are
  writes-once i ls ks (writes_order j a l r xs ys h q m n u v) w =
      let b = writes-order i a l r ks w q in
      ap₂ (λ x y. line.Order a ∷ x ++ y) (writes-once l xs b.first u b.first_written) (writes-once r ys b.second v b.second_written) ∙ sym b.are
