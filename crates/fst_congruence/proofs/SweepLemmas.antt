-- Sweeps: terms that have met the first one with their key.
use Rattle.std.proofs.Common.{◌≡◌, ℕ, suc, ◌+◌, ◌-◌, ◌<◌, ◌≤◌, ◌⊎◌, inl, inr, List, [], ◌∷◌, Option, Some, None, length, map, get_or, refl, sym, ap, subst, ◌∙◌, arith, nat_eq, Bool, true, false}
use Rattle.std.specs.Cmp.Lexicographic.{pointwise}
use Rattle.std.proofs.lemmas.Bool.{cases_lt}
use Rattle.std.proofs.lemmas.List.{length-map, get_or-map}
use Rattle.fst_congruence.specs.declared.firsts.Firsts.{Firsts}
use Rattle.fst_congruence.specs.declared.node.Node.{Node}
use Rattle.fst_congruence.specs.Firsts.{first_of, FirstIs}
use Rattle.fst_congruence.specs.Joined.{node_at, arity, Alike, SameConstructor}
use Rattle.fst_congruence.specs.Classes.{label_at, ArgsLabelled, ArgsClosed, PartsClosed}
use Rattle.fst_congruence.specs.Steps.{SameArities, args_key, parts_key, AreTerms, MeetsFirst, Swept}
use Rattle.fst_congruence.proofs.FirstLemmas.{keys-decide}

-- two keys are the same or not
cases_key : (xs ys : List ℕ) → (xs ≡ ys) ⊎ (xs ≡ ys → ⊥)
cases_key xs ys = go (pointwise nat_eq xs ys) refl
  where
    go : (b : Bool) → pointwise nat_eq xs ys ≡ b → (xs ≡ ys) ⊎ (xs ≡ ys → ⊥)
    go true e = inl ((keys-decide xs ys).0 e)
    go false e = inr (λ f. (let on = (keys-decide xs ys).1 f in cc))

some-same : (m n : ℕ) → Some m ≡ Some n → m ≡ n
some-same m n e = cc

none-some : {A : Type 0} (m : ℕ) (o : Option ℕ) → o ≡ None → o ≡ Some m → A
none-some m o p q = (let e = sym p ∙ q in cc)

pub no-terms : (n : ℕ) (f : Firsts) → ((q : List ℕ) → first_of f q ≡ None) → AreTerms n f
no-terms n f h q m e = none-some m (first_of f q) (h q) e

pub terms-more : (n : ℕ) (old new : Firsts) (key : List ℕ) (term first : ℕ) → AreTerms n old → term < n → FirstIs old new key term first → AreTerms n new
terms-more n old new key term first h lt is q m e = go (cases_key q key)
  where
    at_key : (first_of old key ≡ Some first) ⊎ ((first_of old key ≡ None) × (first ≡ term)) → first < n
    at_key (inl w) = h key first w
    at_key (inr w) = subst (λ k. k < n) (sym w.1) lt

    go : (q ≡ key) ⊎ (q ≡ key → ⊥) → m < n
    go (inl s) = subst (λ k. k < n) (some-same first m (sym is.now ∙ ap (first_of new) (sym s) ∙ e)) (at_key is.was)
    go (inr d) = h q m (sym (is.others q d) ∙ e)

pub first-below : (n : ℕ) (old new : Firsts) (key : List ℕ) (term first : ℕ) → AreTerms n old → term < n → FirstIs old new key term first → first < n
first-below n old new key term first h lt is = terms-more n old new key term first h lt is key first is.now

pub swept-none : (key : ℕ → List ℕ) (Closed : ℕ → ℕ → Type 0) (f : Firsts) (Done : ℕ → Type 0) → ((q : List ℕ) → first_of f q ≡ None) → ((i : ℕ) → Done i → ⊥) → Swept key Closed f Done
swept-none key Closed f Done h none = record { keys = λ q m e. none-some m (first_of f q) (h q) e; met = λ i d. absurd (none i d) }

pub swept-more : (key : ℕ → List ℕ) (Closed : ℕ → ℕ → Type 0) (old new : Firsts) (Done More : ℕ → Type 0) (t : ℕ) → Swept key Closed old Done → MeetsFirst key Closed old new t → ((i : ℕ) → More i → Done i ⊎ (i ≡ t)) → Swept key Closed new More
swept-more key Closed old new Done More t s m more = record {
  keys = λ q n e. keys q n e (cases_key q (key t)) m.is.was;
  met = λ i d. met i (more i d);
}
  where
    keys : (q : List ℕ) (n : ℕ) → first_of new q ≡ Some n → (q ≡ key t) ⊎ (q ≡ key t → ⊥) → (first_of old (key t) ≡ Some m.first) ⊎ ((first_of old (key t) ≡ None) × (m.first ≡ t)) → key n ≡ q
    keys q n e (inr d) was = s.keys q n (sym (m.is.others q d) ∙ e)
    keys q n e (inl p) (inl old_first) = ap key (sym (some-same m.first n (sym m.is.now ∙ ap (first_of new) (sym p) ∙ e))) ∙ s.keys (key t) m.first old_first ∙ sym p
    keys q n e (inl p) (inr itself) = ap key (sym (some-same m.first n (sym m.is.now ∙ ap (first_of new) (sym p) ∙ e)) ∙ itself.1) ∙ sym p

    stays : (i n : ℕ) → first_of old (key i) ≡ Some n → (key i ≡ key t) ⊎ (key i ≡ key t → ⊥) → (first_of old (key t) ≡ Some m.first) ⊎ ((first_of old (key t) ≡ None) × (m.first ≡ t)) → first_of new (key i) ≡ Some n
    stays i n e (inr d) was = m.is.others (key i) d ∙ e
    stays i n e (inl p) (inl old_first) = ap (first_of new) p ∙ m.is.now ∙ sym old_first ∙ ap (first_of old) (sym p) ∙ e
    stays i n e (inl p) (inr itself) = none-some n (first_of old (key t)) itself.0 (ap (first_of old) (sym p) ∙ e)

    met : (i : ℕ) → Done i ⊎ (i ≡ t) → (n : ℕ) × ((first_of new (key i) ≡ Some n) × Closed i n)
    met i (inl d) = let before = s.met i d in (before.0, (stays i before.0 before.1.0 (cases_key (key i) (key t)) m.is.was, before.1.1))
    met i (inr e) = (m.first, (ap (λ j. first_of new (key j)) e ∙ m.is.now, subst (λ j. Closed j m.first) (sym e) m.closed))

-- ---- what keys say

head-same : (x y : ℕ) (xs ys : List ℕ) → x ∷ xs ≡ y ∷ ys → x ≡ y
head-same x y xs ys e = cc

tail-same : (x y : ℕ) (xs ys : List ℕ) → x ∷ xs ≡ y ∷ ys → xs ≡ ys
tail-same x y xs ys e = cc

lists-same : (xs ys : List ℕ) → length xs ≡ length ys → ((k : ℕ) → k < length xs → get_or xs k 0 ≡ get_or ys k 0) → xs ≡ ys
lists-same [] [] e h = refl
lists-same [] (y ∷ ys) e h = absurd (omega (arith, e))
lists-same (x ∷ xs) [] e h = absurd (omega (arith, e))
lists-same (x ∷ xs) (y ∷ ys) e h =
    let first : x ≡ y = h 0 (omega arith) in
    let rest : xs ≡ ys = lists-same xs ys (omega (arith, e)) (λ k lt. h (suc k) (omega (arith, lt))) in
    ap (λ z. z ∷ xs) first ∙ ap (λ zs. y ∷ zs) rest

module _ (ns : List Node) (labels : List ℕ) where
  -- terms that congruence joins have one key
  key-of-alike : (i j : ℕ) → Alike ns i j → ArgsLabelled ns labels i j → args_key ns labels i ≡ args_key ns labels j
  key-of-alike i j a h =
      let xs = (node_at ns i).args in
      let ys = (node_at ns j).args in
      let same : map (label_at labels) xs ≡ map (label_at labels) ys =
      lists-same _ _ (length-map xs (label_at labels) ∙ a.arity ∙ sym (length-map ys (label_at labels)))
      (λ k lt.
      (let below : k < length xs = omega (arith, lt, length-map xs (label_at labels)) in
      let beside : k < length ys = omega (arith, below, a.arity) in
      get_or-map (label_at labels) xs k 0 0 below ∙ h k below ∙ sym (get_or-map (label_at labels) ys k 0 0 beside))) in
      ap (λ k. k ∷ map (label_at labels) xs) a.kind ∙ ap (λ zs. (node_at ns j).kind ∷ zs) same

  alike-of-key : (i j : ℕ) → i < length ns → j < length ns → 0 < (node_at ns i).kind → args_key ns labels i ≡ args_key ns labels j → Alike ns i j × ArgsLabelled ns labels i j
  alike-of-key i j p q some e =
      let xs = (node_at ns i).args in
      let ys = (node_at ns j).args in
      let labelled : map (label_at labels) xs ≡ map (label_at labels) ys = tail-same _ _ _ _ e in
      let count : length xs ≡ length ys = sym (length-map xs (label_at labels)) ∙ ap (λ zs. length zs) labelled ∙ length-map ys (label_at labels) in (
        record { first = p; second = q; some = some; kind = head-same _ _ _ _ e; arity = count },
        λ k lt. sym (get_or-map (label_at labels) xs k 0 0 lt) ∙ ap (λ zs. get_or zs k 0) labelled ∙ get_or-map (label_at labels) ys k 0 0 (omega (arith, lt, count)),
      )

  pub args-swept : (f : Firsts) (Done : ℕ → Type 0) → AreTerms (length ns) f → Swept (args_key ns labels) (ArgsClosed ns labels) f Done → ((i : ℕ) → i < length ns → Done i) → (i j : ℕ) → i < length ns → j < length ns → ArgsClosed ns labels i j
  args-swept f Done terms s all i j p q a h =
      let key : args_key ns labels i ≡ args_key ns labels j = key-of-alike i j a h in
      let first = s.met i (all i p) in
      let second = s.met j (all j q) in
      let same : first.0 ≡ second.0 = some-same _ _ (sym first.1.0 ∙ ap (first_of f) key ∙ second.1.0) in
      let below : first.0 < length ns = terms (args_key ns labels i) first.0 first.1.0 in
      let own : args_key ns labels first.0 ≡ args_key ns labels i = s.keys (args_key ns labels i) first.0 first.1.0 in
      let left = alike-of-key i first.0 p below a.some (sym own) in
      let right = alike-of-key j first.0 q below (subst (λ k. 0 < k) a.kind a.some) (sym (own ∙ key)) in
      first.1.1 left.0 left.1 ∙ sym (subst (λ m. ArgsClosed ns labels j m) (sym same) second.1.1 right.0 right.1)

  key-of-parts : (i j : ℕ) → label_at labels i ≡ label_at labels j → SameConstructor ns i j → parts_key ns labels i ≡ parts_key ns labels j
  key-of-parts i j e s = ap (λ l. l ∷ (node_at ns i).constructor ∷ []) e ∙ ap (λ c. label_at labels j ∷ c ∷ []) s.same

  parts-of-key : (i j : ℕ) → 0 < (node_at ns i).constructor → parts_key ns labels i ≡ parts_key ns labels j → (label_at labels i ≡ label_at labels j) × SameConstructor ns i j
  parts-of-key i j some e = (head-same _ _ _ _ e, record { some = some; same = head-same _ _ _ _ (tail-same _ _ _ _ e) })

  pub parts-swept : (f : Firsts) (Done : ℕ → Type 0) → SameArities ns → AreTerms (length ns) f → Swept (parts_key ns labels) (PartsClosed ns labels) f Done → ((i : ℕ) → i < length ns → Done i) → (i j : ℕ) → i < length ns → j < length ns → PartsClosed ns labels i j
  parts-swept f Done arities terms s all i j p q e c k left_in right_in =
      let key : parts_key ns labels i ≡ parts_key ns labels j = key-of-parts i j e c in
      let first = s.met i (all i p) in
      let second = s.met j (all j q) in
      let same : first.0 ≡ second.0 = some-same _ _ (sym first.1.0 ∙ ap (first_of f) key ∙ second.1.0) in
      let below : first.0 < length ns = terms (parts_key ns labels i) first.0 first.1.0 in
      let own : parts_key ns labels first.0 ≡ parts_key ns labels i = s.keys (parts_key ns labels i) first.0 first.1.0 in
      let left = parts-of-key i first.0 c.some (sym own) in
      let right = parts-of-key j first.0 (subst (λ m. 0 < m) c.same c.some) (sym (own ∙ key)) in
      let middle : k < arity ns first.0 = (let count = arities i first.0 p below left.1 in omega (arith, left_in, count)) in
      first.1.1 left.0 left.1 k left_in middle ∙ sym (subst (λ m. PartsClosed ns labels j m) (sym same) second.1.1 right.0 right.1 k right_in middle)

-- ---- one more term

pub one-more : (i n : ℕ) → i < n + 1 → (i < n) ⊎ (i ≡ n)
one-more i n lt = go (cases_lt i n)
  where
    go : (i < n) ⊎ (n ≤ i) → (i < n) ⊎ (i ≡ n)
    go (inl below) = inl below
    go (inr le) = inr (omega (arith, lt, le))

pub one-more-back : (i n done : ℕ) → i < n → n ≤ i + (done + 1) → ((i < n) × (n ≤ i + done)) ⊎ (i ≡ n - 1 - done)
one-more-back i n done lt le = go (cases_lt (i + done) n)
  where
    go : (i + done < n) ⊎ (n ≤ i + done) → ((i < n) × (n ≤ i + done)) ⊎ (i ≡ n - 1 - done)
    go (inl below) = inr (omega (arith, lt, le, below))
    go (inr after) = inl (lt, after)
