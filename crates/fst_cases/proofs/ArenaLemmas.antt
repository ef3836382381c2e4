-- Refutations stay what they are as more are put there; what a new one refutes.
use Rattle.std.proofs.Common.{◌≡◌, ◌⊎◌, inl, inr, ℕ, zero, suc, ◌+◌, ◌<◌, ◌≤◌, Bool, true, false, if◌then◌else◌, nat_eq, List, [], ◌∷◌, ◌++◌, length, slice_get, Some, None, Option, IsTrue, refl, sym, ap, ◌∙◌, subst, arith, length-append}
use Rattle.std.proofs.lemmas.Bool.{cases_lt, eqb-true}
use Rattle.std.proofs.lemmas.List.{get_or_append_left, get_or_at, length_push}
use Rattle.fst_terms.specs.Terms.{Tm}
use Rattle.fst_terms.specs.Flats.{Flt}
use Rattle.fst_terms.specs.declared.flat.Mark.{Mark}
use Rattle.fst_terms.specs.declared.flat.Mark.TheVariants as mark
use Rattle.fst_terms.specs.Marks.{marks_of, at_number, var_sorts, is_int_equation}
use Rattle.fst_cert.specs.declared.line.Line.{Line}
use Rattle.fst_cert.specs.declared.line.Line.TheVariants as line
use Rattle.fst_cert.specs.Proving.{same_mark}
use Rattle.fst_cases.specs.declared.arena.Refutation.{Refutation}
use Rattle.fst_cases.specs.declared.arena.Rule.TheVariants as by
use Rattle.fst_cases.specs.declared.known.Known.{Known}
use Rattle.fst_cases.specs.Knowing.{Falls, look_of, joined, first_mark, without}
use Rattle.fst_cases.specs.Arenas.{no_refutation, refutation_at, core_at, rule_at, branched, Writes, writes_end, writes_split, writes_order, Grows}
use Rattle.fst_cases.specs.Trails.{RefutesAt, Splits, Orders}
use Rattle.fst_cases.specs.Refuting.{Within, put, IsRefuted}
use Rattle.fst_cases.proofs.RefutedLemmas.{within-self, within-more, within-put}
use Rattle.fst_cases.proofs.RefutationRules.{refuted-more, refuted-split, refuted-order}
use Rattle.fst_cases.proofs.KnownLemmas.{falls-none, joined-falls, first-joined, second-joined, joined-within, without-falls, without-within, within-without}

-- ---- more refutations

pub grows-push : (ns : List Refutation) (n : Refutation) → Grows ns (ns ++ n ∷ [])
grows-push ns n = record {
  longer = omega (arith, length-append ns (n ∷ []));
  same = λ i h. get_or_append_left ns (n ∷ []) no_refutation i h;
}

pub grows-grows : (a b c : List Refutation) → Grows a b → Grows b c → Grows a c
grows-grows a b c g h = record {
  longer = let x = g.longer in let y = h.longer in omega (arith, x, y);
  same = λ i l. h.same i (let x = g.longer in omega (arith, x, l)) ∙ g.same i l;
}

pub grows-self : (a : List Refutation) → Grows a a
grows-self a = record { longer = omega arith; same = λ i l. refl }

module _ (old new : List Refutation) (g : Grows old new) where
  rule-grown : (i : ℕ) → i < length old → rule_at new i ≡ rule_at old i
  rule-grown i h = ap (λ (n : Refutation). n.rule) (g.same i h)

  there-grown : (i : ℕ) → i < length old → i < length new
  there-grown i h = let x = g.longer in omega (arith, x, h)

  pub writes-grown : (i : ℕ) (ls : List Line) → Writes old i ls → Writes new i ls
  writes-grown i ls (writes_end j ks h q) = writes_end j ks (there-grown j h) (rule-grown j h ∙ q)
  writes-grown i ls (writes_split j a l r ks js h q m n u v) = writes_split j a l r ks js (there-grown j h) (rule-grown j h ∙ q) m n (writes-grown l ks u) (writes-grown r js v)
  writes-grown i ls (writes_order j a l r ks js h q m n u v) = writes_order j a l r ks js (there-grown j h) (rule-grown j h ∙ q) m n (writes-grown l ks u) (writes-grown r js v)

  pub refutes-grown : (f : Flt) (ms : List Mark) (i : ℕ) → RefutesAt f old ms i → RefutesAt f new ms i
  refutes-grown f ms i r =
      let core : core_at old i ≡ core_at new i = sym (ap (λ (n : Refutation). n.core) (g.same i r.there)) in
      record {
        there = there-grown i r.there;
        falls = subst (Falls (length ms + 1)) core r.falls;
        within = subst (λ ks. Within (look_of ks) (marks_of ms)) core r.within;
        lines = r.lines;
        written = writes-grown i r.lines r.written;
        refuted = subst (λ ks. IsRefuted f [] (length ms) (look_of ks) r.lines) core r.refuted;
      }

-- ---- marks of one atom less

first-get : {A : Type 0} (xs : List A) (y : A) (k : ℕ) → k < length xs → slice_get (xs ++ y ∷ []) k ≡ slice_get xs k
first-get [] y k h = absurd (omega (arith, h))
first-get (x ∷ xs) y zero h = refl
first-get (x ∷ xs) y (suc k) h = first-get xs y k (omega (arith, h))

pub last-get : {A : Type 0} (xs : List A) (y : A) → slice_get (xs ++ y ∷ []) (length xs) ≡ Some y
last-get [] y = refl
last-get (x ∷ xs) y = last-get xs y

first-marks : (ms : List Mark) (m : Mark) (b : ℕ) → b < length ms + 1 → marks_of (ms ++ m ∷ []) b ≡ marks_of ms b
first-marks ms m zero h = refl
first-marks ms m (suc b) h = first-get ms m b (omega (arith, h))

-- marks below the last atom are marks without it
pub within-first : (ms : List Mark) (m : Mark) (ks : List Known) → Falls (length ms + 1) ks → Within (look_of ks) (marks_of (ms ++ m ∷ [])) → Within (look_of ks) (marks_of ms)
within-first ms m ks falls h b x q = go (cases_lt b (length ms + 1))
  where
    go : (b < length ms + 1) ⊎ (length ms + 1 ≤ b) → (n : Mark) × ((marks_of ms b ≡ Some n) × (same_mark x n ≡ true))
    go (inl less) = let n = h b x q in (n.0, (sym (first-marks ms m b less) ∙ n.1.0, n.1.1))
    go (inr more) = let none = falls-none (length ms + 1) b ks more falls in let y : ◌≡◌ {A = Option Mark} None (Some x) = sym none ∙ q in cc

module _ (f : Flt) (ns : List Refutation) (ms : List Mark) (m : Mark) (i : ℕ) (r : RefutesAt f ns (ms ++ m ∷ []) i) where
  pub falls-here : Falls (suc (length ms) + 1) (core_at ns i)
  falls-here = subst (λ n. Falls n (core_at ns i)) (let e = length_push ms m in omega (arith, e)) r.falls

  -- the other marks that it uses
  pub rest-falls : Falls (suc (length ms)) (without (core_at ns i) (suc (length ms)))
  rest-falls = without-falls (suc (length ms)) (core_at ns i) falls-here

  pub rest-within : Within (look_of (without (core_at ns i) (suc (length ms)))) (marks_of ms)
  rest-within = within-first ms m (without (core_at ns i) (suc (length ms))) (subst (λ n. Falls n (without (core_at ns i) (suc (length ms)))) (let e : suc (length ms) ≡ length ms + 1 = omega arith in e) rest-falls)
      (within-more (look_of (without (core_at ns i) (suc (length ms)))) (look_of (core_at ns i)) (marks_of (ms ++ m ∷ [])) (without-within (suc (length ms)) (core_at ns i) falls-here) r.within)

  -- what it uses of the last mark
  pub last-used : (x : Mark) → look_of (core_at ns i) (suc (length ms)) ≡ Some x → same_mark x m ≡ true
  last-used x q =
      let n = r.within (suc (length ms)) x q in
      let same : ◌≡◌ {A = Option Mark} (Some m) (Some n.0) = sym (last-get ms m) ∙ n.1.0 in
      let is : n.0 ≡ m = cc in
      subst (λ k. same_mark x k ≡ true) is n.1.1

  pub refuted-here : IsRefuted f [] (suc (length ms)) (look_of (core_at ns i)) r.lines
  refuted-here = subst (λ n. IsRefuted f [] n (look_of (core_at ns i)) r.lines) (let e = length_push ms m in omega (arith, e)) r.refuted

  -- a refutation that doesn't use the last mark refutes the marks before it
  pub refutes-unused : first_mark (core_at ns i) (suc (length ms)) ≡ None → RefutesAt f ns ms i
  refutes-unused none =
      let falls : Falls (length ms + 1) (core_at ns i) = unused (core_at ns i) falls-here none in
      record {
        there = r.there;
        falls = falls;
        within = within-first ms m (core_at ns i) falls r.within;
        lines = r.lines;
        written = r.written;
        refuted = refuted-more f [] (suc (length ms)) (length ms) (look_of (core_at ns i)) (look_of (core_at ns i)) r.lines (omega arith) (within-self (look_of (core_at ns i))) refuted-here;
      }
    where
      unused : (ks : List Known) → Falls (suc (length ms) + 1) ks → first_mark ks (suc (length ms)) ≡ None → Falls (length ms + 1) ks
      unused ks h q = subst (λ n. Falls n ks) (let e : suc (length ms) ≡ length ms + 1 = omega arith in e) (subst (Falls (suc (length ms))) (same ks q) (without-falls (suc (length ms)) ks h))
        where
          same : (ks : List Known) → first_mark ks (suc (length ms)) ≡ None → without ks (suc (length ms)) ≡ ks
          same [] q = refl
          same (k ∷ ks) q = go (nat_eq k.atom (suc (length ms))) q
            where
              go : (b : Bool) → (if b then Some k.mark else None) ≡ None → (if b then ks else k ∷ ks) ≡ k ∷ ks
              go true q = cc
              go false q = refl

-- ---- two refutations put together

module _ (f : Flt) (ns : List Refutation) (ms : List Mark) where
  -- the marks that they use together, without the last atom's
  abbrev pub rests : (i j : ℕ) → List Known
  rests i j = joined (without (core_at ns i) (suc (length ms))) (without (core_at ns j) (suc (length ms)))

  module _ (m n : Mark) (i j : ℕ) (r : RefutesAt f ns (ms ++ m ∷ []) i) (s : RefutesAt f ns (ms ++ n ∷ []) j) where
    pub rests-falls : Falls (suc (length ms)) (rests i j)
    rests-falls = joined-falls _ _ (suc (length ms)) (rest-falls f ns ms m i r) (rest-falls f ns ms n j s)

    pub rests-within : Within (look_of (rests i j)) (marks_of ms)
    rests-within = joined-within (marks_of ms) _ _ (suc (length ms)) (rest-falls f ns ms m i r) (rest-falls f ns ms n j s) (rest-within f ns ms m i r) (rest-within f ns ms n j s)

    -- the first uses these and a mark of the last atom
    pub first-rests : (k : Mark) → ((x : Mark) → look_of (core_at ns i) (suc (length ms)) ≡ Some x → same_mark x k ≡ true) → Within (look_of (core_at ns i)) (put (suc (length ms)) k (look_of (rests i j)))
    first-rests k last =
        within-more (look_of (core_at ns i)) (put (suc (length ms)) k (look_of (without (core_at ns i) (suc (length ms))))) (put (suc (length ms)) k (look_of (rests i j)))
        (within-without (suc (length ms)) (core_at ns i) k last)
        (within-put (look_of (without (core_at ns i) (suc (length ms)))) (look_of (rests i j)) (suc (length ms)) k
        (first-joined (marks_of ms) _ _ (suc (length ms)) (rest-falls f ns ms m i r) (rest-falls f ns ms n j s) (rest-within f ns ms m i r) (rest-within f ns ms n j s)))

    pub second-rests : (k : Mark) → ((x : Mark) → look_of (core_at ns j) (suc (length ms)) ≡ Some x → same_mark x k ≡ true) → Within (look_of (core_at ns j)) (put (suc (length ms)) k (look_of (rests i j)))
    second-rests k last =
        within-more (look_of (core_at ns j)) (put (suc (length ms)) k (look_of (without (core_at ns j) (suc (length ms))))) (put (suc (length ms)) k (look_of (rests i j)))
        (within-without (suc (length ms)) (core_at ns j) k last)
        (within-put (look_of (without (core_at ns j) (suc (length ms)))) (look_of (rests i j)) (suc (length ms)) k
        (second-joined (marks_of ms) _ _ (suc (length ms)) (rest-falls f ns ms m i r) (rest-falls f ns ms n j s) (rest-within f ns ms m i r) (rest-within f ns ms n j s)))

-- the refutation that was put last
pub pushed-there : (ns new : List Refutation) (n : Refutation) (at : ℕ) → new ≡ ns ++ n ∷ [] → at ≡ length ns → at < length new
pushed-there ns new n at e q = let l = length_push ns n in let k = ap length e in omega (arith, l, k, q)

pub pushed-is : (ns new : List Refutation) (n : Refutation) (at : ℕ) → new ≡ ns ++ n ∷ [] → at ≡ length ns → refutation_at new at ≡ n
pushed-is ns new n at e q = ap (λ ls. refutation_at ls at) e ∙ get_or_at ns n [] no_refutation at (sym q)

pub pushed-grows : (ns new : List Refutation) (n : Refutation) → new ≡ ns ++ n ∷ [] → Grows ns new
pushed-grows ns new n e = subst (Grows ns) (sym e) (grows-push ns n)

-- both marks of the last atom are refuted
pub split-refutes : (f : Flt) (old new : List Refutation) (ms : List Mark) (t : Tm) (m : Mark) (i j at : ℕ) → at_number f.atoms (suc (length ms)) ≡ Some t → Splits old new (suc (length ms)) i j at
    → RefutesAt f old (ms ++ mark.True ∷ []) i → RefutesAt f old (ms ++ m ∷ []) j → ((x : Mark) → look_of (core_at old j) (suc (length ms)) ≡ Some x → same_mark x mark.False ≡ true) → RefutesAt f new ms at
split-refutes f old new ms t m i j at q sp r s last =
    let a : ℕ = suc (length ms) in
    let is : refutation_at new at ≡ branched old by.Split a i j = pushed-is old new _ at sp.put sp.last in
    let core : rests f old ms i j ≡ core_at new at = sym (ap (λ (n : Refutation). n.core) is) in
    let grows : Grows old new = pushed-grows old new _ sp.put in
    record {
      there = pushed-there old new _ at sp.put sp.last;
      falls = subst (Falls (length ms + 1)) core (subst (λ n. Falls n (rests f old ms i j)) (let e : suc (length ms) ≡ length ms + 1 = omega arith in e) (rests-falls f old ms mark.True m i j r s));
      within = subst (λ ks. Within (look_of ks) (marks_of ms)) core (rests-within f old ms mark.True m i j r s);
      lines = line.Split a ∷ r.lines ++ s.lines;
      written = writes_split at a i j r.lines s.lines (pushed-there old new _ at sp.put sp.last) (ap (λ (n : Refutation). n.rule) is) (let h = r.there in let k = sp.last in omega (arith, h, k)) (let h = s.there in let k = sp.last in omega (arith, h, k))
          (writes-grown old new grows i r.lines r.written) (writes-grown old new grows j s.lines s.written);
      refuted = subst (λ ks. IsRefuted f [] (length ms) (look_of ks) (line.Split a ∷ r.lines ++ s.lines)) core
          (refuted-split f [] (length ms) t (look_of (rests f old ms i j)) (look_of (core_at old i)) (look_of (core_at old j)) r.lines s.lines q
          (first-rests f old ms mark.True m i j r s mark.True (last-used f old ms mark.True i r)) (refuted-here f old ms mark.True i r)
          (second-rests f old ms mark.True m i j r s mark.False last) (refuted-here f old ms m j s));
    }

pub splits-grow : (old new : List Refutation) (a i j at : ℕ) → Splits old new a i j at → Grows old new
splits-grow old new a i j at sp = pushed-grows old new _ sp.put

pub orders-grow : (old new : List Refutation) (a i j k at : ℕ) → Orders old new a i j k at → Grows old new
orders-grow old new a i j k at o = grows-grows old o.between new (pushed-grows old o.between _ o.order) (splits-grow o.between new a i (length old) at o.split)

without-none : (a : ℕ) (ks : List Known) → Falls a ks → without ks a ≡ ks
without-none a [] h = refl
without-none a (k ∷ ks) h = go (nat_eq k.atom a) refl
  where
    go : (b : Bool) → nat_eq k.atom a ≡ b → (if b then ks else k ∷ ks) ≡ k ∷ ks
    go true p = absurd (let less = h.0 in omega (arith, less, eqb-true k.atom a p))
    go false p = refl

-- the three marks of the last atom, an equation of numbers, are refuted
module _ (f : Flt) (old new : List Refutation) (ms : List Mark) (t : Tm) (i j k at : ℕ) (q : at_number f.atoms (suc (length ms)) ≡ Some t) (int : IsTrue (is_int_equation (var_sorts f) t)) (o : Orders old new (suc (length ms)) i j k at)
    (r : RefutesAt f old (ms ++ mark.True ∷ []) i) (s : RefutesAt f old (ms ++ mark.Less ∷ []) j) (g : RefutesAt f old (ms ++ mark.Greater ∷ []) k) where
  abbrev a : ℕ
  a = suc (length ms)

  -- the marks that the two orders use, and all three
  abbrev ordered : List Known
  ordered = rests f old ms j k

  abbrev all : List Known
  all = joined (without (core_at old i) a) ordered

  ordered-falls : Falls a ordered
  ordered-falls = rests-falls f old ms mark.Less mark.Greater j k s g

  ordered-within : Within (look_of ordered) (marks_of ms)
  ordered-within = rests-within f old ms mark.Less mark.Greater j k s g

  all-falls : Falls a all
  all-falls = joined-falls _ _ a (rest-falls f old ms mark.True i r) ordered-falls

  all-within : Within (look_of all) (marks_of ms)
  all-within = joined-within (marks_of ms) _ _ a (rest-falls f old ms mark.True i r) ordered-falls (rest-within f old ms mark.True i r) ordered-within

  ordered-in : (m : Mark) → Within (put a m (look_of ordered)) (put a m (look_of all))
  ordered-in m = within-put (look_of ordered) (look_of all) a m (second-joined (marks_of ms) _ _ a (rest-falls f old ms mark.True i r) ordered-falls (rest-within f old ms mark.True i r) ordered-within)

  true-in : Within (look_of (core_at old i)) (put a mark.True (look_of all))
  true-in =
      within-more (look_of (core_at old i)) (put a mark.True (look_of (without (core_at old i) a))) (put a mark.True (look_of all))
      (within-without a (core_at old i) mark.True (last-used f old ms mark.True i r))
      (within-put (look_of (without (core_at old i) a)) (look_of all) a mark.True
      (first-joined (marks_of ms) _ _ a (rest-falls f old ms mark.True i r) ordered-falls (rest-within f old ms mark.True i r) ordered-within))

  less-in : Within (look_of (core_at old j)) (put a mark.Less (look_of all))
  less-in = within-more (look_of (core_at old j)) (put a mark.Less (look_of ordered)) (put a mark.Less (look_of all)) (first-rests f old ms mark.Less mark.Greater j k s g mark.Less (last-used f old ms mark.Less j s)) (ordered-in mark.Less)

  greater-in : Within (look_of (core_at old k)) (put a mark.Greater (look_of all))
  greater-in = within-more (look_of (core_at old k)) (put a mark.Greater (look_of ordered)) (put a mark.Greater (look_of all)) (second-rests f old ms mark.Less mark.Greater j k s g mark.Greater (last-used f old ms mark.Greater k g)) (ordered-in mark.Greater)

  order-is : refutation_at o.between (length old) ≡ branched old by.Order a j k
  order-is = pushed-is old o.between _ (length old) o.order refl

  split-is : refutation_at new at ≡ branched o.between by.Split a i (length old)
  split-is = pushed-is o.between new _ at o.split.put o.split.last

  first-grows : Grows old o.between
  first-grows = pushed-grows old o.between _ o.order

  then-grows : Grows o.between new
  then-grows = pushed-grows o.between new _ o.split.put

  core : all ≡ core_at new at
  core = sym (
      ap (λ (n : Refutation). n.core) split-is
      ∙ ap (λ ks. joined (without ks a) (without (core_at o.between (length old)) a)) (ap (λ (n : Refutation). n.core) (first-grows.same i r.there))
      ∙ ap (λ ks. joined (without (core_at old i) a) (without ks a)) (ap (λ (n : Refutation). n.core) order-is)
      ∙ ap (λ ks. joined (without (core_at old i) a) ks) (without-none a ordered ordered-falls))

  there : at < length new
  there = pushed-there o.between new _ at o.split.put o.split.last

  order-written : Writes o.between (length old) (line.Order a ∷ s.lines ++ g.lines)
  order-written =
      writes_order (length old) a j k s.lines g.lines (pushed-there old o.between _ (length old) o.order refl) (ap (λ (n : Refutation). n.rule) order-is) s.there g.there
      (writes-grown old o.between first-grows j s.lines s.written) (writes-grown old o.between first-grows k g.lines g.written)

  pub order-refutes : RefutesAt f new ms at
  order-refutes = record {
    there = there;
    falls = subst (Falls (length ms + 1)) core (subst (λ n. Falls n all) (let e : suc (length ms) ≡ length ms + 1 = omega arith in e) all-falls);
    within = subst (λ ks. Within (look_of ks) (marks_of ms)) core all-within;
    lines = line.Split a ∷ r.lines ++ (line.Order a ∷ s.lines ++ g.lines);
    written = writes_split at a i (length old) r.lines (line.Order a ∷ s.lines ++ g.lines) there (ap (λ (n : Refutation). n.rule) split-is)
        (let h = r.there in let l = first-grows.longer in let e = o.split.last in omega (arith, h, l, e))
        (let l = length_push old (branched old by.Order a j k) in let x = ap length o.order in let e = o.split.last in omega (arith, l, x, e))
        (writes-grown o.between new then-grows i r.lines (writes-grown old o.between first-grows i r.lines r.written))
        (writes-grown o.between new then-grows (length old) (line.Order a ∷ s.lines ++ g.lines) order-written);
    refuted = subst (λ ks. IsRefuted f [] (length ms) (look_of ks) (line.Split a ∷ r.lines ++ (line.Order a ∷ s.lines ++ g.lines))) core
        (refuted-order f [] (length ms) t (look_of all) (look_of (core_at old i)) (look_of (core_at old j)) (look_of (core_at old k)) r.lines s.lines g.lines q int
        true-in (refuted-here f old ms mark.True i r) less-in (refuted-here f old ms mark.Less j s) greater-in (refuted-here f old ms mark.Greater k g));
  }
