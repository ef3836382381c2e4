-- Falling lists of marks: what they say of an atom, and what two of them say together.
use Rattle.std.proofs.Common.{◌≡◌, ℕ, ◌+◌, ◌<◌, ◌≤◌, Bool, true, false, if◌then◌else◌, nat_eq, nat_lt, List, [], ◌∷◌, ◌++◌, length, slice_index_or, Option, Some, None, refl, sym, ap, ◌∙◌, subst, arith, append_assoc}
use Rattle.std.proofs.lemmas.Bool.{false≢true, eqb-true, eq-eqb, ltb-true, ltb-false}
use Rattle.fst_terms.specs.declared.flat.Mark.{Mark}
use Rattle.fst_terms.specs.declared.flat.Mark.TheVariants as mark
use Rattle.fst_terms.specs.Marks.{Marking}
use Rattle.fst_cert.specs.Proving.{same_mark}
use Rattle.fst_cases.specs.declared.known.Known.{Known}
use Rattle.fst_cases.specs.declared.merging.Turn.TheVariants as turn
use Rattle.fst_cases.specs.Knowing.{look_of, Falls, stronger, both_known, beside, joined, turn_of, Shows, first_mark, without}
use Rattle.fst_cases.specs.Refuting.{Within, put}
use Rattle.fst_cases.proofs.RefutedLemmas.{same-self}

-- ---- what comes next

-- of two lists with marks left, the turn of the first two
pub turn-shows : (k j : Known) (ks js : List Known) → Shows (turn_of k j) (k ∷ ks) (j ∷ js)
turn-shows k j ks js = go (nat_lt j.atom k.atom) refl (nat_lt k.atom j.atom) refl
  where
    here : (b c : Bool) → nat_lt j.atom k.atom ≡ b → nat_lt k.atom j.atom ≡ c
        → joined (k ∷ ks) (j ∷ js) ≡ (if b then k ∷ joined ks (j ∷ js) else (if c then j ∷ beside k (joined ks) js else both_known k j ∷ joined ks js))
    here b c p q = rw (p, q) refl

    go : (b : Bool) → nat_lt j.atom k.atom ≡ b → (c : Bool) → nat_lt k.atom j.atom ≡ c
        → Shows (if b then turn.First k else (if c then turn.Second j else turn.Both (both_known k j))) (k ∷ ks) (j ∷ js)
    go true p c q = (ks, refl, here true c p q)
    go false p true q = (js, refl, here false true p q)
    go false p false q = (ks, (js, k, j, refl, refl, here false false p q))

joined-none : (ks : List Known) → joined ks [] ≡ ks
joined-none [] = refl
joined-none (k ∷ ks) = ap (λ ls. k ∷ ls) (joined-none ks)

pub first-shows : (k : Known) (ks : List Known) → Shows (turn.First k) (k ∷ ks) []
first-shows k ks = (ks, refl, refl)

pub second-shows : (j : Known) (js : List Known) → Shows (turn.Second j) [] (j ∷ js)
second-shows j js = (js, refl, refl)

-- one list has no marks left
pub second-alone : (left right : List Known) (d : Known) → length left < 1 → 1 ≤ length right → (rest : List Known) × (right ≡ slice_index_or right 0 d ∷ rest) × (joined left right ≡ slice_index_or right 0 d ∷ joined left rest)
second-alone [] [] d h i = absurd (omega (arith, i))
second-alone [] (j ∷ js) d h i = (js, refl, refl)
second-alone (k ∷ ks) right d h i = absurd (omega (arith, h))

pub first-alone : (left right : List Known) (d : Known) → 1 ≤ length left → length right < 1 → (rest : List Known) × (left ≡ slice_index_or left 0 d ∷ rest) × (joined left right ≡ slice_index_or left 0 d ∷ joined rest right)
first-alone [] right d h i = absurd (omega (arith, h))
first-alone (k ∷ ks) [] d h i = (ks, refl, refl)
first-alone (k ∷ ks) (j ∷ js) d h i = absurd (omega (arith, i))

-- one turn more of a loop: what was put out, and what is left
pub turned : (whole out new now after : List Known) (k : Known) → whole ≡ out ++ now → now ≡ k ∷ after → new ≡ out ++ k ∷ [] → whole ≡ new ++ after
turned whole out new now after k p q r = p ∙ ap (λ ls. out ++ ls) q ∙ sym (append_assoc out (k ∷ []) after) ∙ ap (λ ls. ls ++ after) (sym r)

-- ---- falling lists

pub falls-more : (n m : ℕ) (ks : List Known) → n ≤ m → Falls n ks → Falls m ks
falls-more n m [] le h = tt
falls-more n m (k ∷ ks) le h = (let less = h.0 in omega (arith, less, le), h.1)

pub falls-none : (n a : ℕ) (ks : List Known) → n ≤ a → Falls n ks → look_of ks a ≡ None
falls-none n a [] le h = refl
falls-none n a (k ∷ ks) le h = go (falls-none k.atom a ks (let less = h.0 in omega (arith, less, le)) h.1) (nat_eq k.atom a) refl
  where
    go : look_of ks a ≡ None → (b : Bool) → nat_eq k.atom a ≡ b → (if b then Some k.mark else look_of ks a) ≡ None
    go ih true p = absurd (let less = h.0 in omega (arith, less, le, eqb-true k.atom a p))
    go ih false p = ih

pub beside-falls : (k : Known) (rest : List Known → List Known) → ((js : List Known) → Falls k.atom js → Falls k.atom (rest js)) → (js : List Known) (n : ℕ) → k.atom < n → Falls n js → Falls n (beside k rest js)
beside-falls k rest ih [] n h i = (h, ih [] tt)
beside-falls k rest ih (j ∷ js) n h i = go (beside-falls k rest ih js j.atom) (nat_lt j.atom k.atom) refl (nat_lt k.atom j.atom) refl
  where
    go : (k.atom < j.atom → Falls j.atom js → Falls j.atom (beside k rest js)) → (b : Bool) → nat_lt j.atom k.atom ≡ b → (c : Bool) → nat_lt k.atom j.atom ≡ c
        → Falls n (if b then k ∷ rest (j ∷ js) else (if c then j ∷ beside k rest js else both_known k j ∷ rest js))
    go more true p c q = (h, ih (j ∷ js) (ltb-true j.atom k.atom p, i.1))
    go more false p true q = (i.0, more (ltb-true k.atom j.atom q) i.1)
    go more false p false q = (h, ih js (falls-more j.atom k.atom js (ltb-false k.atom j.atom q) i.1))

pub joined-falls : (ks js : List Known) (n : ℕ) → Falls n ks → Falls n js → Falls n (joined ks js)
joined-falls [] js n h i = i
joined-falls (k ∷ ks) js n h i = beside-falls k (joined ks) (λ ls f. joined-falls ks ls k.atom h.1 f) js n h.0 i

-- ---- what two lists say

abbrev said : Option Mark → Option Mark → Option Mark
said (Some x) (Some y) = Some (stronger x y)
said (Some x) None = Some x
said None o = o

said-none : (o : Option Mark) → said o None ≡ o
said-none None = refl
said-none (Some x) = refl

abbrev Saying : (ks js all : List Known) → Type 0
Saying ks js all = (b : ℕ) → look_of all b ≡ said (look_of ks b) (look_of js b)

beside-says : (k : Known) (ks : List Known) (rest : List Known → List Known) → Falls k.atom ks → ((js : List Known) → Falls k.atom js → Saying ks js (rest js)) → (js : List Known) (n : ℕ) → Falls n js → Saying (k ∷ ks) js (beside k rest js)
beside-says k ks rest falls ih [] n i b = go (nat_eq k.atom b) refl
  where
    go : (c : Bool) → nat_eq k.atom b ≡ c → (if c then Some k.mark else look_of (rest []) b) ≡ said (if c then Some k.mark else look_of ks b) None
    go true p = refl
    go false p = ih [] tt b
beside-says k ks rest falls ih (j ∷ js) n i b = go (beside-says k ks rest falls ih js j.atom i.1 b) (nat_lt j.atom k.atom) refl (nat_lt k.atom j.atom) refl
  where
    first : nat_lt j.atom k.atom ≡ true → (c : Bool) → nat_eq k.atom b ≡ c → (if c then Some k.mark else look_of (rest (j ∷ js)) b) ≡ said (if c then Some k.mark else look_of ks b) (look_of (j ∷ js) b)
    first p true q =
        let none : look_of (j ∷ js) b ≡ None = subst (λ a. look_of (j ∷ js) a ≡ None) (eqb-true k.atom b q) (falls-none k.atom k.atom (j ∷ js) (omega arith) (ltb-true j.atom k.atom p, i.1)) in
        ap (said (Some k.mark)) (sym none)
    first p false q = ih (j ∷ js) (ltb-true j.atom k.atom p, i.1) b

    second : look_of (beside k rest js) b ≡ said (look_of (k ∷ ks) b) (look_of js b) → nat_lt k.atom j.atom ≡ true → (c : Bool) → nat_eq j.atom b ≡ c
        → (if c then Some j.mark else look_of (beside k rest js) b) ≡ said (look_of (k ∷ ks) b) (if c then Some j.mark else look_of js b)
    second more p true q =
        let none : look_of (k ∷ ks) b ≡ None = subst (λ a. look_of (k ∷ ks) a ≡ None) (eqb-true j.atom b q) (falls-none j.atom j.atom (k ∷ ks) (omega arith) (ltb-true k.atom j.atom p, falls)) in
        ap (λ o. said o (Some j.mark)) (sym none)
    second more p false q = more

    both : j.atom ≡ k.atom → (c : Bool) → nat_eq k.atom b ≡ c → (d : Bool) → nat_eq j.atom b ≡ d
        → (if c then Some (stronger k.mark j.mark) else look_of (rest js) b) ≡ said (if c then Some k.mark else look_of ks b) (if d then Some j.mark else look_of js b)
    both same true p true q = refl
    both same false p false q = ih js (subst (λ a. Falls a js) same i.1) b
    both same true p false q = absurd (false≢true (sym q ∙ eq-eqb j.atom b (same ∙ eqb-true k.atom b p)))
    both same false p true q = absurd (false≢true (sym p ∙ eq-eqb k.atom b (sym same ∙ eqb-true j.atom b q)))

    go : look_of (beside k rest js) b ≡ said (look_of (k ∷ ks) b) (look_of js b) → (c : Bool) → nat_lt j.atom k.atom ≡ c → (d : Bool) → nat_lt k.atom j.atom ≡ d
        → look_of (if c then k ∷ rest (j ∷ js) else (if d then j ∷ beside k rest js else both_known k j ∷ rest js)) b ≡ said (look_of (k ∷ ks) b) (look_of (j ∷ js) b)
    go more true p d q = first p (nat_eq k.atom b) refl
    go more false p true q = second more q (nat_eq j.atom b) refl
    go more false p false q = both (let x = ltb-false j.atom k.atom p in let y = ltb-false k.atom j.atom q in omega (arith, x, y)) (nat_eq k.atom b) refl (nat_eq j.atom b) refl

joined-says : (ks js : List Known) (n : ℕ) → Falls n ks → Falls n js → Saying ks js (joined ks js)
joined-says [] js n h i b = refl
joined-says (k ∷ ks) js n h i b = beside-says k ks (joined ks) h.1 (λ ls f. joined-says ks ls k.atom h.1 f) js n i b

-- ---- marks that one mark gives

stronger-first : (x y m : Mark) → same_mark x m ≡ true → same_mark y m ≡ true → same_mark x (stronger x y) ≡ true
stronger-first mark.True y m h i = refl
stronger-first mark.Less y m h i = refl
stronger-first mark.Greater y m h i = refl
stronger-first mark.False mark.False m h i = refl
stronger-first mark.False mark.Less m h i = refl
stronger-first mark.False mark.Greater m h i = refl
stronger-first mark.False mark.True mark.True h i = absurd (false≢true h)
stronger-first mark.False mark.True m h i = absurd (false≢true i)

stronger-second : (x y m : Mark) → same_mark x m ≡ true → same_mark y m ≡ true → same_mark y (stronger x y) ≡ true
stronger-second mark.False mark.True m h i = refl
stronger-second mark.False mark.False m h i = refl
stronger-second mark.False mark.Less m h i = refl
stronger-second mark.False mark.Greater m h i = refl
stronger-second mark.True mark.True m h i = refl
stronger-second mark.True y mark.True h i = i
stronger-second mark.True y m h i = absurd (false≢true h)
stronger-second mark.Less y mark.Less h i = i
stronger-second mark.Less y m h i = absurd (false≢true h)
stronger-second mark.Greater y mark.Greater h i = i
stronger-second mark.Greater y m h i = absurd (false≢true h)

stronger-within : (x y m : Mark) → same_mark x m ≡ true → same_mark y m ≡ true → same_mark (stronger x y) m ≡ true
stronger-within mark.False y m h i = i
stronger-within mark.True y m h i = h
stronger-within mark.Less y m h i = h
stronger-within mark.Greater y m h i = h

-- two lists within a marking are within what they say together, and this within the marking
module _ (look : Marking) (ks js : List Known) (n : ℕ) (h : Falls n ks) (i : Falls n js) (p : Within (look_of ks) look) (q : Within (look_of js) look) where
  one_mark : (b : ℕ) (x y : Mark) → look_of ks b ≡ Some x → look_of js b ≡ Some y → (m : Mark) × ((look b ≡ Some m) × ((same_mark x m ≡ true) × (same_mark y m ≡ true)))
  one_mark b x y e f =
      let u = p b x e in
      let v = q b y f in
      let same : v.0 ≡ u.0 = (let a = u.1.0 in let b = v.1.0 in cc) in
      (u.0, (u.1.0, (u.1.1, subst (λ m. same_mark y m ≡ true) same v.1.1)))

  pub first-joined : Within (look_of ks) (look_of (joined ks js))
  first-joined b x e = go (look_of js b) refl
    where
      go : (o : Option Mark) → look_of js b ≡ o → (m : Mark) × ((look_of (joined ks js) b ≡ Some m) × (same_mark x m ≡ true))
      go None f = (x, (joined-says ks js n h i b ∙ ap (λ o. said o (look_of js b)) e ∙ ap (said (Some x)) f, same-self x))
      go (Some y) f =
          let m = one_mark b x y e f in
          (stronger x y, (joined-says ks js n h i b ∙ ap (λ o. said o (look_of js b)) e ∙ ap (said (Some x)) f, stronger-first x y m.0 m.1.1.0 m.1.1.1))

  pub second-joined : Within (look_of js) (look_of (joined ks js))
  second-joined b y f = go (look_of ks b) refl
    where
      go : (o : Option Mark) → look_of ks b ≡ o → (m : Mark) × ((look_of (joined ks js) b ≡ Some m) × (same_mark y m ≡ true))
      go None e = (y, (joined-says ks js n h i b ∙ ap (λ o. said o (look_of js b)) e ∙ f, same-self y))
      go (Some x) e =
          let m = one_mark b x y e f in
          (stronger x y, (joined-says ks js n h i b ∙ ap (λ o. said o (look_of js b)) e ∙ ap (said (Some x)) f, stronger-second x y m.0 m.1.1.0 m.1.1.1))

  pub joined-within : Within (look_of (joined ks js)) look
  joined-within b z g = go (look_of ks b) refl (look_of js b) refl (sym (joined-says ks js n h i b) ∙ g)
    where
      go : (o : Option Mark) → look_of ks b ≡ o → (r : Option Mark) → look_of js b ≡ r → said (look_of ks b) (look_of js b) ≡ Some z → (m : Mark) × ((look b ≡ Some m) × (same_mark z m ≡ true))
      go None e r f s = q b z (ap (λ o. said o (look_of js b)) (sym e) ∙ s)
      go (Some x) e None f s = p b z (sym (said-none (look_of ks b)) ∙ ap (said (look_of ks b)) (sym f) ∙ s)
      go (Some x) e (Some y) f s =
          let m = one_mark b x y e f in
          let t : ◌≡◌ {A = Option Mark} (Some (stronger x y)) (Some z) = sym (ap (λ o. said o (Some y)) e) ∙ sym (ap (said (look_of ks b)) f) ∙ s in
          let w : stronger x y ≡ z = cc in
          (m.0, (m.1.0, subst (λ k. same_mark k m.0 ≡ true) w (stronger-within x y m.0 m.1.1.0 m.1.1.1)))

-- ---- the first atom

module _ (a : ℕ) where
  pub without-falls : (ks : List Known) → Falls (a + 1) ks → Falls a (without ks a)
  without-falls [] h = tt
  without-falls (k ∷ ks) h = go (nat_eq k.atom a) refl
    where
      go : (b : Bool) → nat_eq k.atom a ≡ b → Falls a (if b then ks else k ∷ ks)
      go true p = subst (λ n. Falls n ks) (eqb-true k.atom a p) h.1
      go false p = (let less = h.0 in strict (λ e. false≢true (sym p ∙ eq-eqb k.atom a e)) less, h.1)
        where
          strict : (k.atom ≡ a → ⊥) → k.atom < a + 1 → k.atom < a
          strict n l = omega (arith, n, l)

  -- the mark of the atom is that of the first one, where it is this one
  pub first-says : (ks : List Known) → Falls (a + 1) ks → look_of ks a ≡ first_mark ks a
  first-says [] h = refl
  first-says (k ∷ ks) h = go (nat_eq k.atom a) refl
    where
      go : (b : Bool) → nat_eq k.atom a ≡ b → (if b then Some k.mark else look_of ks a) ≡ (if b then Some k.mark else None)
      go true p = refl
      go false p = falls-none k.atom a ks (let less = h.0 in small (λ e. false≢true (sym p ∙ eq-eqb k.atom a e)) less) h.1
        where
          small : (k.atom ≡ a → ⊥) → k.atom < a + 1 → k.atom ≤ a
          small n l = omega (arith, n, l)

  without-says : (ks : List Known) (b : ℕ) → (b ≡ a → ⊥) → look_of (without ks a) b ≡ look_of ks b
  without-says [] b n = refl
  without-says (k ∷ ks) b n = go (nat_eq k.atom a) refl
    where
      go : (c : Bool) → nat_eq k.atom a ≡ c → look_of (if c then ks else k ∷ ks) b ≡ look_of (k ∷ ks) b
      go true p = other (nat_eq k.atom b) refl
        where
          other : (d : Bool) → nat_eq k.atom b ≡ d → look_of ks b ≡ (if d then Some k.mark else look_of ks b)
          other true q = absurd (n (sym (eqb-true k.atom b q) ∙ eqb-true k.atom a p))
          other false q = refl
      go false p = refl

  -- the other marks are within what the list says, and the list within them and a mark of the atom
  pub without-within : (ks : List Known) → Falls (a + 1) ks → Within (look_of (without ks a)) (look_of ks)
  without-within ks h b m q = go (nat_eq b a) refl
    where
      go : (c : Bool) → nat_eq b a ≡ c → (n : Mark) × ((look_of ks b ≡ Some n) × (same_mark m n ≡ true))
      go true p =
          let none : look_of (without ks a) b ≡ None = falls-none a b (without ks a) (let e = eqb-true b a p in omega (arith, e)) (without-falls ks h) in
          absurd (let x = sym none ∙ q in clash x)
        where
          clash : ◌≡◌ {A = Option Mark} None (Some m) → ⊥
          clash x = cc
      go false p = (m, (sym (without-says ks b (λ e. false≢true (sym p ∙ eq-eqb b a e))) ∙ q, same-self m))

  pub within-without : (ks : List Known) (m : Mark) → ((x : Mark) → look_of ks a ≡ Some x → same_mark x m ≡ true) → Within (look_of ks) (put a m (look_of (without ks a)))
  within-without ks m last b x q = go (nat_eq a b) refl
    where
      go : (c : Bool) → nat_eq a b ≡ c → (n : Mark) × (((if c then Some m else look_of (without ks a) b) ≡ Some n) × (same_mark x n ≡ true))
      go true p = (m, (refl, last x (subst (λ j. look_of ks j ≡ Some x) (sym (eqb-true a b p)) q)))
      go false p = (x, (without-says ks b (λ e. false≢true (sym p ∙ eq-eqb a b (sym e))) ∙ q, same-self x))
