-- Labels with reasons: what a longer log keeps, and what putting one class into another gives.
use Rattle.std.proofs.Common.{◌≡◌, ℕ, zero, suc, ◌+◌, ◌-◌, ◌<◌, ◌≤◌, ◌^◌, ◌⊎◌, inl, inr, if◌then◌else◌, List, [], ◌∷◌, ◌++◌, length, length-append, get_or, set, refl, sym, ap, subst, ◌∙◌, arith, get_or-set_other, get_or-set_same}
use Rattle.std.specs.Prelude.{Contains}
use Rattle.std.proofs.lemmas.Bool.{eq-eqb, ne_eqb, cases_eq, cases_lt}
use Rattle.std.proofs.lemmas.List.{length-set, get_or_append_left, get_or-append_right, get_or_at, get_or_default}
use Rattle.std.proofs.lemmas.List.Elements.{Contains-append_left, Contains-append_right}
use Rattle.fst_congruence.specs.declared.classes.Classes.{Classes}
use Rattle.fst_congruence.specs.declared.equation.Equation.{Equation}
use Rattle.fst_congruence.specs.declared.why.Why.{Why}
use Rattle.fst_congruence.specs.Lines.{Because, StrictReason, SliceReasons, Extends}
use Rattle.fst_congruence.specs.Classes.{label_at, why_at, under, Labelled, Listed, Sound, moved, Relabelled, Relabelling, After, Joins, root_mark, roots_from, roots}
use Rattle.fst_congruence.proofs.LogLemmas.{because-extends, strict-extends, extends-none, extends-extends}

pub labelled-extends : (labels : List ℕ) (whys : List Why) (old new : List Equation) → Extends old new → Labelled labels whys old → Labelled labels whys new
labelled-extends labels whys old new g h = record {
  few = h.few;
  count = h.count;
  small = h.small;
  rooted = h.rooted;
  reasons = λ i lt. because-extends old new g _ _ _ (h.reasons i lt);
}

-- classes with a longer log
pub sound-after : (old new : Classes) → After old new → Sound old → Sound new
sound-after old new a h = record {
  labelled = subst (λ ls. Labelled ls new.whys new.log) (sym a.labels) (subst (λ (ws : List Why). Labelled old.labels ws new.log) (sym a.whys) (labelled-extends old.labels old.whys old.log new.log a.grown h.labelled));
  listed = subst (λ ls. Listed ls new.members) (sym a.labels) (subst (λ ms. Listed old.labels ms) (sym a.members) h.listed);
}

pub after-after : (a b c : Classes) → After a b → After b c → After a c
after-after a b c p q = record { labels = q.labels ∙ p.labels; whys = q.whys ∙ p.whys; members = q.members ∙ p.members; grown = extends-extends a.log b.log c.log p.grown q.grown }

pub after-none : (c : Classes) → After c c
after-none c = record { labels = refl; whys = refl; members = refl; grown = extends-none _ }

pub after-log : (c : Classes) (log : List Equation) → Extends c.log log → After c (record { labels = c.labels; whys = c.whys; members = c.members; log = log })
after-log c log g = record { labels = refl; whys = refl; members = refl; grown = g }

pub moved-same : (from to l : ℕ) → l ≡ from → moved from to l ≡ to
moved-same from to l e = ap (λ b. if b then to else l) (eq-eqb l from e)

pub moved-other : (from to l : ℕ) → (l ≡ from → ⊥) → moved from to l ≡ l
moved-other from to l n = ap (λ b. if b then to else l) (ne_eqb l from n)

-- ---- the loop that moves labels

pub relabelling-none : (labels : List ℕ) (whys : List Why) (log : List Equation) (terms : List ℕ) (from to : ℕ) → Labelled labels whys log → Relabelling labels labels whys log terms from to 0
relabelling-none labels whys log terms from to h = record {
  labels_count = refl;
  whys_count = h.count;
  each = λ i lt. inl refl;
  done = λ k lt. absurd (omega (arith, lt));
  reasons = h.reasons;
}

pub relabelling-moved : (old new : List ℕ) (whys : List Why) (log next : List Equation) (terms : List ℕ) (from to n t : ℕ) (why : Why) → Relabelling old new whys log terms from to n → t ≡ get_or terms n 0 → t < length old → label_at new t ≡ from
    → (from ≡ to → ⊥) → Extends log next → Because next why t to → Relabelling old (set new t to) (set whys t why) next terms from to (n + 1)
relabelling-moved old new whys log next terms from to n t why r is lt e differ g q = record {
  labels_count = length-set new t to ∙ r.labels_count;
  whys_count = length-set whys t why ∙ r.whys_count;
  each = λ i in_range. each i in_range (cases_eq i t) (r.each i in_range);
  done = λ k below. done k below (cases_eq (get_or terms k 0) t);
  reasons = λ i in_range. reasons i in_range (cases_eq i t);
}
  where
    within : t < length new
    within = omega (arith, lt, r.labels_count)

    each : (i : ℕ) → i < length old → (i ≡ t) ⊎ (i ≡ t → ⊥) → (label_at new i ≡ label_at old i) ⊎ (label_at new i ≡ moved from to (label_at old i)) → (label_at (set new t to) i ≡ label_at old i) ⊎ (label_at (set new t to) i ≡ moved from to (label_at old i))
    each i in_range (inl p) (inl same) =
        inr (ap (label_at (set new t to)) p ∙ get_or-set_same new t to 0 within ∙ sym (moved-same from to (label_at old i) (sym same ∙ ap (label_at new) p ∙ e)))
    each i in_range (inl p) (inr is_moved) = inr (ap (label_at (set new t to)) p ∙ get_or-set_same new t to 0 within ∙ sym (moved-to (label_at old i) (sym is_moved ∙ ap (label_at new) p ∙ e)))
      where
        -- a moved label that is `from` can't be
        moved-to : (l : ℕ) → moved from to l ≡ from → moved from to l ≡ to
        moved-to l f = go (cases_eq l from)
          where
            go : (l ≡ from) ⊎ (l ≡ from → ⊥) → moved from to l ≡ to
            go (inl s) = moved-same from to l s
            go (inr n) = absurd (n (sym (moved-other from to l n) ∙ f))
    each i in_range (inr ne) (inl same) = inl (get_or-set_other new t i to 0 ne ∙ same)
    each i in_range (inr ne) (inr is_moved) = inr (get_or-set_other new t i to 0 ne ∙ is_moved)

    done : (k : ℕ) → k < n + 1 → (get_or terms k 0 ≡ t) ⊎ (get_or terms k 0 ≡ t → ⊥) → label_at (set new t to) (get_or terms k 0) ≡ from → ⊥
    done k below (inl p) f = differ (sym f ∙ ap (label_at (set new t to)) p ∙ get_or-set_same new t to 0 within)
    done k below (inr ne) f = earlier (cases_eq k n)
      where
        earlier : (k ≡ n) ⊎ (k ≡ n → ⊥) → ⊥
        earlier (inl s) = ne (ap (λ m. get_or terms m 0) s ∙ sym is)
        earlier (inr other) = r.done k (let differs : k ≡ n → ⊥ = other in omega arith) (sym (get_or-set_other new t (get_or terms k 0) to 0 ne) ∙ f)

    reasons : (i : ℕ) → i < length old → (i ≡ t) ⊎ (i ≡ t → ⊥) → Because next (why_at (set whys t why) i) i (label_at (set new t to) i)
    reasons i in_range (inl p) =
        let inside : t < length whys = omega (arith, lt, r.whys_count) in
        let at_t : Because next (why_at (set whys t why) t) t (label_at (set new t to) t) =
        subst (λ l. Because next (why_at (set whys t why) t) t l) (sym (get_or-set_same new t to 0 within)) (subst (λ (w : Why). Because next w t to) (sym (get_or-set_same whys t why _ inside)) q) in
        subst (λ m. Because next (why_at (set whys t why) m) m (label_at (set new t to) m)) (sym p) at_t
    reasons i in_range (inr ne) =
        subst (λ l. Because next (why_at (set whys t why) i) i l) (sym (get_or-set_other new t i to 0 ne))
        (subst (λ (w : Why). Because next w i (label_at new i)) (sym (get_or-set_other whys t i why _ ne)) (because-extends log next g _ _ _ (r.reasons i in_range)))

pub relabelling-kept : (old new : List ℕ) (whys : List Why) (log : List Equation) (terms : List ℕ) (from to n t : ℕ) → Relabelling old new whys log terms from to n → t ≡ get_or terms n 0 → (label_at new t ≡ from → ⊥) → Relabelling old new whys log terms from to (n + 1)
relabelling-kept old new whys log terms from to n t r is ne = record {
  labels_count = r.labels_count;
  whys_count = r.whys_count;
  each = r.each;
  done = λ k below. done k below (cases_eq k n);
  reasons = r.reasons;
}
  where
    done : (k : ℕ) → k < n + 1 → (k ≡ n) ⊎ (k ≡ n → ⊥) → label_at new (get_or terms k 0) ≡ from → ⊥
    done k below (inl s) f = ne (ap (label_at new) is ∙ ap (λ m. label_at new (get_or terms m 0)) (sym s) ∙ f)
    done k below (inr other) f = r.done k (let differs : k ≡ n → ⊥ = other in omega arith) f

-- where every term with the label stands among these, all are moved
pub relabelled-all : (old new : List ℕ) (whys : List Why) (log : List Equation) (terms : List ℕ) (from to : ℕ) → Relabelling old new whys log terms from to (length terms)
    → ((i : ℕ) → i < length old → label_at old i ≡ from → Contains terms i) → Relabelled old new whys log from to
relabelled-all old new whys log terms from to r all = record {
  labels_count = r.labels_count;
  whys_count = r.whys_count;
  done = λ i lt. go i lt (r.each i lt) (cases_eq (label_at old i) from);
  reasons = r.reasons;
}
  where
    go : (i : ℕ) → i < length old → (label_at new i ≡ label_at old i) ⊎ (label_at new i ≡ moved from to (label_at old i)) → (label_at old i ≡ from) ⊎ (label_at old i ≡ from → ⊥) → label_at new i ≡ moved from to (label_at old i)
    go i lt (inr is) e = is
    go i lt (inl same) (inr n) = same ∙ sym (moved-other from to (label_at old i) n)
    go i lt (inl same) (inl e) = let at = all i lt e in absurd (r.done at.0 at.1 (ap (label_at new) (get_or_default terms at.0 0 i at.1 ∙ at.2) ∙ same ∙ e))

-- ---- reasons for the arguments of two terms

pub slice-reasons-none : (log : List Equation) (lefts rights reasons : List ℕ) → reasons ≡ [] → SliceReasons log lefts rights 0 reasons
slice-reasons-none log lefts rights reasons e = record { count = ap length e; each = λ k lt. absurd (omega (arith, lt)) }

pub slice-reasons-more : (log next : List Equation) (lefts rights reasons : List ℕ) (n reason : ℕ) → SliceReasons log lefts rights n reasons → Extends log next
    → StrictReason next reason (get_or lefts n 0) (get_or rights n 0) → SliceReasons next lefts rights (n + 1) (reasons ++ reason ∷ [])
slice-reasons-more log next lefts rights reasons n reason h g q = record {
  count = omega (arith, h.count, length-append reasons (reason ∷ []));
  each = λ k lt. each k lt (cases_eq k n);
}
  where
    each : (k : ℕ) → k < n + 1 → (k ≡ n) ⊎ (k ≡ n → ⊥) → StrictReason next (get_or (reasons ++ reason ∷ []) k 0) (get_or lefts k 0) (get_or rights k 0)
    each k lt (inl e) =
        subst (λ m. StrictReason next (get_or (reasons ++ reason ∷ []) m 0) (get_or lefts m 0) (get_or rights m 0)) (sym e)
        (subst (λ m. StrictReason next m (get_or lefts n 0) (get_or rights n 0)) (sym (get_or_at reasons reason [] 0 n h.count)) q)
    each k lt (inr ne) =
        let below : k < n = (let other : k ≡ n → ⊥ = ne in omega arith) in
        subst (λ m. StrictReason next m (get_or lefts k 0) (get_or rights k 0)) (sym (get_or_append_left reasons (reason ∷ []) 0 k (omega (arith, below, h.count))))
        (strict-extends log next g _ _ _ (h.each k below))

-- ---- the number of classes

mark-same : (l i : ℕ) → l ≡ i → root_mark l i ≡ 1
mark-same l i e = rw (eq-eqb l i e) refl

mark-other : (l i : ℕ) → (l ≡ i → ⊥) → root_mark l i ≡ 0
mark-other l i n = rw (ne_eqb l i n) refl

mark-le : (m l i : ℕ) → (m ≡ i → l ≡ i) → root_mark m i ≤ root_mark l i
mark-le m l i f = go (cases_eq m i)
  where
    go : (m ≡ i) ⊎ (m ≡ i → ⊥) → root_mark m i ≤ root_mark l i
    go (inl p) = omega (arith, mark-same m i p, mark-same l i (f p))
    go (inr n) = omega (arith, mark-other m i n)

roots-le : (i : ℕ) (ls ms : List ℕ) → length ms ≡ length ls → ((k : ℕ) → k < length ls → get_or ms k 0 ≡ i + k → get_or ls k 0 ≡ i + k) → roots_from i ms ≤ roots_from i ls
roots-le i [] [] e f = omega arith
roots-le i [] (m ∷ ms) e f = absurd (omega (arith, e))
roots-le i (l ∷ ls) [] e f = absurd (omega (arith, e))
roots-le i (l ∷ ls) (m ∷ ms) e f =
    let first : root_mark m i ≤ root_mark l i = mark-le m l i (λ p. let q : l ≡ i + 0 = f 0 (omega arith) (omega (arith, p)) in omega (arith, q)) in
    let rest : roots_from (i + 1) ms ≤ roots_from (i + 1) ls = roots-le (i + 1) ls ms (omega (arith, e)) (λ k lt p. let q : get_or ls k 0 ≡ i + suc k = f (suc k) (omega (arith, lt)) (omega (arith, p)) in omega (arith, q)) in
    omega (arith, first, rest)

roots-lt : (i : ℕ) (ls ms : List ℕ) → length ms ≡ length ls → ((k : ℕ) → k < length ls → get_or ms k 0 ≡ i + k → get_or ls k 0 ≡ i + k)
    → (j : ℕ) → j < length ls → get_or ls j 0 ≡ i + j → (get_or ms j 0 ≡ i + j → ⊥) → roots_from i ms < roots_from i ls
roots-lt i [] ms e f j lt p n = absurd (omega (arith, lt))
roots-lt i (l ∷ ls) [] e f j lt p n = absurd (omega (arith, e))
roots-lt i (l ∷ ls) (m ∷ ms) e f zero lt p n =
    let old : root_mark l i ≡ 1 = mark-same l i (omega (arith, p)) in
    let new : root_mark m i ≡ 0 = mark-other m i (λ q. n (omega (arith, q))) in
    let rest : roots_from (i + 1) ms ≤ roots_from (i + 1) ls = roots-le (i + 1) ls ms (omega (arith, e)) (λ k lt p. let q : get_or ls k 0 ≡ i + suc k = f (suc k) (omega (arith, lt)) (omega (arith, p)) in omega (arith, q)) in
    omega (arith, old, new, rest)
roots-lt i (l ∷ ls) (m ∷ ms) e f (suc j) lt p n =
    let first : root_mark m i ≤ root_mark l i = mark-le m l i (λ p. let q : l ≡ i + 0 = f 0 (omega arith) (omega (arith, p)) in omega (arith, q)) in
    let rest : roots_from (i + 1) ms < roots_from (i + 1) ls = roots-lt (i + 1) ls ms (omega (arith, e)) (λ k lt p. let q : get_or ls k 0 ≡ i + suc k = f (suc k) (omega (arith, lt)) (omega (arith, p)) in omega (arith, q)) j (omega (arith, lt)) (omega (arith, p)) (λ q. n (omega (arith, q))) in
    omega (arith, first, rest)

-- ---- one class put into another

module _ (old new : List ℕ) (whys before : List Why) (log earlier : List Equation) (left right from to : ℕ)
    (r : Relabelled old new whys log from to) (h : Labelled old before earlier)
    (p : left < length old) (q : right < length old) (is_from : label_at old left ≡ from) (is_to : label_at old right ≡ to) (differ : from ≡ to → ⊥) where
  from-small : from < length old
  from-small = subst (λ l. l < length old) is_from (h.small left p)

  to-small : to < length old
  to-small = subst (λ l. l < length old) is_to (h.small right q)

  from-rooted : label_at old from ≡ from
  from-rooted = ap (label_at old) (sym is_from) ∙ h.rooted left p ∙ is_from

  to-rooted : label_at old to ≡ to
  to-rooted = ap (label_at old) (sym is_to) ∙ h.rooted right q ∙ is_to

  new-moved : (i : ℕ) → i < length old → label_at new i ≡ moved from to (label_at old i)
  new-moved i lt = r.done i lt

  new-to : label_at new to ≡ to
  new-to = new-moved to to-small ∙ moved-other from to (label_at old to) (λ e. differ (sym e ∙ to-rooted)) ∙ to-rooted

  at_label : (i : ℕ) → i < length old → (label_at old i ≡ from) ⊎ (label_at old i ≡ from → ⊥) → (label_at new i < length new) × (label_at new (label_at new i) ≡ label_at new i)
  at_label i lt (inl e) =
      let is : label_at new i ≡ to = new-moved i lt ∙ moved-same from to (label_at old i) e in
      (subst (λ l. l < length new) (sym is) (let small = to-small in omega (arith, r.labels_count, small)), ap (label_at new) is ∙ new-to ∙ sym is)
  at_label i lt (inr n) =
      let is : label_at new i ≡ label_at old i = new-moved i lt ∙ moved-other from to (label_at old i) n in
      let small : label_at old i < length old = h.small i lt in
      let rooted : label_at old (label_at old i) ≡ label_at old i = h.rooted i lt in (
        subst (λ l. l < length new) (sym is) (omega (arith, r.labels_count, small)),
        ap (label_at new) is ∙ new-moved (label_at old i) small ∙ moved-other from to (label_at old (label_at old i)) (λ e. n (sym rooted ∙ e)) ∙ rooted ∙ sym is,
      )

  root-before : (i : ℕ) → i < length old → (label_at old i ≡ from) ⊎ (label_at old i ≡ from → ⊥) → label_at new i ≡ i → label_at old i ≡ i
  root-before i lt (inl e) g =
      let is : i ≡ to = sym g ∙ new-moved i lt ∙ moved-same from to (label_at old i) e in
      absurd (differ (sym e ∙ ap (label_at old) is ∙ to-rooted))
  root-before i lt (inr n) g = sym (new-moved i lt ∙ moved-other from to (label_at old i) n) ∙ g

  pub merged-labelled : Labelled new whys log
  merged-labelled = record {
    few = (let before = h.few in subst (λ n. n < 2 ^ 32) (sym r.labels_count) before);
    count = r.whys_count ∙ sym r.labels_count;
    small = λ i lt. (at_label i (omega (arith, lt, r.labels_count)) (cases_eq (label_at old i) from)).0;
    rooted = λ i lt. (at_label i (omega (arith, lt, r.labels_count)) (cases_eq (label_at old i) from)).1;
    reasons = λ i lt. r.reasons i (omega (arith, lt, r.labels_count));
  }

  pub merged-fewer : roots new < roots old
  merged-fewer = roots-lt 0 old new r.labels_count (λ k lt e. (let back : label_at old k ≡ k = root-before k lt (cases_eq (label_at old k) from) (omega (arith, e)) in omega (arith, back)))
      from from-small (let rooted = from-rooted in omega (arith, rooted)) (λ e. differ (let moves : label_at new from ≡ to = new-moved from from-small ∙ moved-same from to (label_at old from) from-rooted in omega (arith, moves, e)))

-- ---- the terms under labels

-- numbers below n
abbrev pub AllBelow : List ℕ → ℕ → Type 0
AllBelow xs n = (k : ℕ) → k < length xs → get_or xs k 0 < n

pub below-append : (xs ys : List ℕ) (n : ℕ) → AllBelow xs n → AllBelow ys n → AllBelow (xs ++ ys) n
below-append xs ys n f g k lt = go (cases_lt k (length xs))
  where
    go : (k < length xs) ⊎ (length xs ≤ k) → get_or (xs ++ ys) k 0 < n
    go (inl below) = subst (λ m. m < n) (sym (get_or_append_left xs ys 0 k below)) (f k below)
    go (inr le) = subst (λ m. m < n) (sym (get_or-append_right xs ys (length xs) k 0 refl le)) (g (k - length xs) (let size = length-append xs ys in omega (arith, lt, le, size)))

pub below-one : (x n : ℕ) → x < n → AllBelow (x ∷ []) n
below-one x n h zero lt = h
below-one x n h (suc k) lt = absurd (omega (arith, lt))

-- every term of the class stands among those that are moved
pub class-terms : (old : List ℕ) (members : List (List ℕ)) (from : ℕ) (terms : List ℕ) → Listed old members → terms ≡ under members from ++ from ∷ [] → (i : ℕ) → i < length old → label_at old i ≡ from → Contains terms i
class-terms old members from terms h is_terms i lt e = subst (λ ts. Contains ts i) (sym is_terms) (go (h.all i lt))
  where
    go : (i ≡ label_at old i) ⊎ Contains (under members (label_at old i)) i → Contains (under members from ++ from ∷ []) i
    go (inl s) = Contains-append_right (under members from) (from ∷ []) i (subst (λ x. Contains (from ∷ []) x) (sym (s ∙ e)) (0, omega arith, refl))
    go (inr c) = Contains-append_left (under members from) (from ∷ []) i (subst (λ l. Contains (under members l) i) e c)

module _ (old new : List ℕ) (members after : List (List ℕ)) (whys : List Why) (log : List Equation) (from to : ℕ) (terms : List ℕ)
    (h : Listed old members) (r : Relabelled old new whys log from to) (differ : from ≡ to → ⊥) (p : from < length old) (q : to < length old) (is_terms : terms ≡ under members from ++ from ∷ [])
    (is : after ≡ set (set members from []) to (under (set members from []) to ++ terms)) where
  under-to : under after to ≡ under members to ++ terms
  under-to =
      let size : length (set members from []) ≡ length old = length-set members from [] ∙ h.count in
      ap (λ ms. under ms to) is ∙ get_or-set_same (set members from []) to _ [] (omega (arith, q, size)) ∙ ap (λ ts. ts ++ terms) (get_or-set_other members from to [] [] (λ e. differ (sym e)))

  under-other : (l : ℕ) → (l ≡ to → ⊥) → (l ≡ from → ⊥) → under after l ≡ under members l
  under-other l n m = ap (λ ms. under ms l) is ∙ get_or-set_other (set members from []) to l _ [] n ∙ get_or-set_other members from l [] [] m

  under-from : under after from ≡ []
  under-from = ap (λ ms. under ms from) is ∙ get_or-set_other (set members from []) to from _ [] differ ∙ get_or-set_same members from [] [] (let size = h.count in omega (arith, p, size))

  terms-below : AllBelow terms (length old)
  terms-below = subst (λ ts. AllBelow ts (length old)) (sym is_terms) (below-append (under members from) (from ∷ []) (length old) (h.terms from) (below-one from (length old) p))

  pub listed-after : Listed new after
  listed-after = record {
    count = ap (λ (ms : List (List ℕ)). length ms) is ∙ length-set (set members from []) to _ ∙ length-set members from [] ∙ h.count ∙ sym r.labels_count;
    all = λ i lt. (let within : i < length old = omega (arith, lt, r.labels_count) in subst (λ l. (i ≡ l) ⊎ Contains (under after l) i) (sym (r.done i within)) (all i within (cases_eq (label_at old i) from)));
    terms = λ l k lt. (let all_below = below l (cases_eq l to) (cases_eq l from) k lt in let size = r.labels_count in omega (arith, all_below, size));
  }
    where
      kept : (i l : ℕ) → (l ≡ from → ⊥) → (i ≡ l) ⊎ Contains (under members l) i → (l ≡ to) ⊎ (l ≡ to → ⊥) → (i ≡ l) ⊎ Contains (under after l) i
      kept i l n (inl s) e = inl s
      kept i l n (inr c) (inl e) = inr (subst (λ m. Contains (under after m) i) (sym e) (subst (λ ts. Contains ts i) (sym under-to) (Contains-append_left (under members to) terms i (subst (λ m. Contains (under members m) i) e c))))
      kept i l n (inr c) (inr m) = inr (subst (λ ts. Contains ts i) (sym (under-other l m n)) c)

      all : (i : ℕ) → i < length old → (label_at old i ≡ from) ⊎ (label_at old i ≡ from → ⊥) → (i ≡ moved from to (label_at old i)) ⊎ Contains (under after (moved from to (label_at old i))) i
      all i lt (inl e) =
          let is_to = moved-same from to (label_at old i) e in
          subst (λ l. (i ≡ l) ⊎ Contains (under after l) i) (sym is_to) (inr (subst (λ ts. Contains ts i) (sym under-to) (Contains-append_right (under members to) terms i (class-terms old members from terms h is_terms i lt e))))
      all i lt (inr n) =
          let is_old = moved-other from to (label_at old i) n in
          subst (λ l. (i ≡ l) ⊎ Contains (under after l) i) (sym is_old) (kept i (label_at old i) n (h.all i lt) (cases_eq (label_at old i) to))

      below : (l : ℕ) → (l ≡ to) ⊎ (l ≡ to → ⊥) → (l ≡ from) ⊎ (l ≡ from → ⊥) → AllBelow (under after l) (length old)
      below l (inl e) f = subst (λ ts. AllBelow ts (length old)) (sym (ap (under after) e ∙ under-to)) (below-append (under members to) terms (length old) (h.terms to) terms-below)
      below l (inr n) (inl e) = subst (λ ts. AllBelow ts (length old)) (sym (ap (under after) e ∙ under-from)) (λ k lt. absurd (omega (arith, lt)))
      below l (inr n) (inr m) = subst (λ ts. AllBelow ts (length old)) (sym (under-other l n m)) (h.terms l)

-- the class of left put into that of right, after the terms under its label were taken out
pub class-merged : (b : Classes) (labels : List ℕ) (whys : List Why) (log : List Equation) (between after : List (List ℕ)) (terms : List ℕ) (left right from to : ℕ)
    → Sound b → left < length b.labels → right < length b.labels → label_at b.labels left ≡ from → label_at b.labels right ≡ to → (from ≡ to → ⊥)
    → terms ≡ under b.members from ++ from ∷ [] → Relabelling b.labels labels whys log terms from to (length terms) → between ≡ set b.members from [] → after ≡ set between to (under between to ++ terms) → Extends b.log log
    → Joins b (record { labels = labels; whys = whys; members = after; log = log })
class-merged b labels whys log between after terms left right from to h p q is_from is_to differ is_terms r is_between is_after g =
    let from_small : from < length b.labels = subst (λ l. l < length b.labels) is_from (h.labelled.small left p) in
    let to_small : to < length b.labels = subst (λ l. l < length b.labels) is_to (h.labelled.small right q) in
    let is : after ≡ set (set b.members from []) to (under (set b.members from []) to ++ terms) = is_after ∙ ap (λ ms. set ms to (under ms to ++ terms)) is_between in
    let all : (i : ℕ) → i < length b.labels → label_at b.labels i ≡ from → Contains terms i = class-terms b.labels b.members from terms h.listed is_terms in
    let moves : Relabelled b.labels labels whys log from to = relabelled-all b.labels labels whys log terms from to r all in
    record {
      sound = record {
        labelled = merged-labelled b.labels labels whys b.whys log b.log left right from to moves h.labelled p q is_from is_to differ;
        listed = listed-after b.labels labels b.members after whys log from to terms h.listed moves differ from_small to_small is_terms is;
      };
      count = moves.labels_count;
      fewer = merged-fewer b.labels labels whys b.whys log b.log left right from to moves h.labelled p q is_from is_to differ;
      grown = g;
    }

pub joins-after : (a b c : Classes) → After a b → Joins b c → Joins a c
joins-after a b c p j = record {
  sound = j.sound;
  count = j.count ∙ ap (λ ls. length ls) p.labels;
  fewer = (let same : roots b.labels ≡ roots a.labels = ap roots p.labels in let less = j.fewer in omega (arith, same, less));
  grown = extends-extends a.log b.log c.log p.grown j.grown;
}

-- the terms that are moved are terms
pub class-below : (b : Classes) (terms : List ℕ) (from left : ℕ) → Sound b → left < length b.labels → label_at b.labels left ≡ from → terms ≡ under b.members from ++ from ∷ [] → AllBelow terms (length b.labels)
class-below b terms from left h p is_from is_terms =
    subst (λ ts. AllBelow ts (length b.labels)) (sym is_terms)
    (below-append (under b.members from) (from ∷ []) (length b.labels) (h.listed.terms from) (below-one from (length b.labels) (subst (λ l. l < length b.labels) is_from (h.labelled.small left p))))
