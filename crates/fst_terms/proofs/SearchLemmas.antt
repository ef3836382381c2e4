-- The search for the first open branch: where it is cut, where it ends, and the two marks of the next atom.
use Rattle.std.proofs.Common.{◌≡◌, ℕ, zero, suc, ◌+◌, ◌<◌, inl, inr, Bool, true, false, if◌then◌else◌, List, [], ◌∷◌, ◌++◌, length, get_or, take, map, Option, Some, None, IsTrue, refl, sym, ap, ◌∙◌, subst, arith, add-one}
use Rattle.std.proofs.lemmas.Bool.{false≢true}
use Rattle.std.proofs.lemmas.List.{append-nil, append_assoc, length-append}
use Rattle.fst_base.specs.Sorts.{s_bool}
use Rattle.fst_base.specs.Values.{v_unit}
use Rattle.fst_terms.specs.Terms.{Tm, row, plain_term}
use Rattle.fst_terms.specs.Indices.{lets, lets_of}
use Rattle.fst_terms.specs.Meaning.{Meaning, Sqt}
use Rattle.fst_terms.specs.Flats.{Flt, flat_of, reads, AllRead, is_truth, AreTruths, IsOpen, Earlier, IsFirstOpen}
use Rattle.fst_terms.specs.Propositional.{IsPropositional, FormulasPropositional}
use Rattle.fst_terms.specs.Searching.{is_value, some_false, is_closed, NoneFrom, IsFirstFrom, IsPropositionalFlat, Searched}
use Rattle.fst_terms.specs.declared.flat.Mark.{Mark}
use Rattle.fst_terms.specs.declared.flat.Mark.TheVariants as mark
use Rattle.fst_terms.specs.declared.term.Term.{Term}
use Rattle.fst_terms.proofs.FirstsLemmas.{found, missed}
use Rattle.fst_terms.proofs.PrepareLemmas.{no-lets, no-lets-each}
use Rattle.fst_terms.proofs.MemberLemmas.{AllTm}
use Rattle.fst_terms.proofs.ReadingLemmas.{reads-more}
use Rattle.fst_terms.proofs.ValidLemmas.{sorts, AtomsAmong, formulas-prop, goal-prop, formulas-among, goal-among, branch-reads}
use Rattle.fst_terms.proofs.ClashLemmas.{no-clash-marked}

-- ---- a cut

value-known : (b : Bool) (o : Option Bool) → is_value b o ≡ true → o ≡ Some b
value-known true (Some true) e = refl
value-known true (Some false) e = absurd (false≢true e)
value-known false (Some true) e = absurd (false≢true e)
value-known false (Some false) e = refl
value-known b None e = absurd (false≢true e)

-- no formula has both truth values
both-values : (o : Option Bool) → o ≡ Some false → o ≡ Some true → ⊥
both-values o e f = false≢true (some-same false true (sym e ∙ f))
  where
    some-same : (a b : Bool) → Some a ≡ Some b → a ≡ b
    some-same a b q = cc

module _ (f : Flt) (ms rest : List Mark) where
  some-false-more : (ts : List Tm) → some_false f ms ts ≡ true → AllRead f (ms ++ rest) ts → ⊥
  some-false-more [] e h = false≢true e
  some-false-more (t ∷ ts) e h = go (λ k. some-false-more ts k h.1) (is_value false (reads f ms t)) refl e
    where
      go : (some_false f ms ts ≡ true → ⊥) → (b : Bool) → is_value false (reads f ms t) ≡ b → (if b then true else some_false f ms ts) ≡ true → ⊥
      go ih true q k = both-values (reads f (ms ++ rest) t) (reads-more f ms rest t false (value-known false (reads f ms t) q)) h.0
      go ih false q k = ih k

  closed-more : (b : Bool) → some_false f ms f.formulas ≡ b → (if b then true else is_value true (reads f ms f.goal)) ≡ true → IsOpen f (ms ++ rest) → ⊥
  closed-more true q k o = some-false-more f.formulas q o.formulas
  closed-more false q k o = both-values (reads f (ms ++ rest) f.goal) o.goal (reads-more f ms rest f.goal true (value-known true (reads f ms f.goal) k))

-- no branch is open that begins with marks under which a formula is false or the goal true
pub closed-none : (f : Flt) (ms : List Mark) → is_closed f ms ≡ true → NoneFrom f ms
closed-none f ms e = λ rest o. closed-more f ms rest (some_false f ms f.formulas) refl e o

-- the test of a list of terms, one after the other
module _ (f : Flt) (ms : List Mark) where
  pub some_false-at : (ts : List Term) (k : ℕ) (d : Term) → k < length ts → is_value false (reads f ms (plain_term (get_or ts k d))) ≡ true → some_false f ms (map plain_term ts) ≡ true
  some_false-at [] k d h e = absurd (omega arith)
  some_false-at (t ∷ ts) zero d h e = rw e refl
  some_false-at (t ∷ ts) (suc k) d h e = found (is_value false (reads f ms (plain_term t))) _ (some_false-at ts k d (omega arith) e)

  some_false-suc : (ts : List Term) (k : ℕ) (d : Term) → k < length ts → some_false f ms (map plain_term (take k ts)) ≡ false → is_value false (reads f ms (plain_term (get_or ts k d))) ≡ false → some_false f ms (map plain_term (take (suc k) ts)) ≡ false
  some_false-suc [] k d h e g = absurd (omega arith)
  some_false-suc (t ∷ ts) zero d h e g = rw g refl
  some_false-suc (t ∷ ts) (suc k) d h e g = missed (is_value false (reads f ms (plain_term t))) _ _ e (λ i. some_false-suc ts k d (omega arith) i g)

  pub some_false-next : (ts : List Term) (k : ℕ) (d : Term) → k < length ts → some_false f ms (map plain_term (take k ts)) ≡ false → is_value false (reads f ms (plain_term (get_or ts k d))) ≡ false → some_false f ms (map plain_term (take (k + 1) ts)) ≡ false
  some_false-next ts k d h e g = rw add-one (some_false-suc ts k d h e g)

-- the formulas of such a flat form hold no let
pub formulas-no-lets : (f : Flt) → IsPropositionalFlat f → lets_of (row f.formulas) ≡ 0
formulas-no-lets f p = ap (λ g. lets_of (row g.formulas)) p.is ∙ no-lets-each (sorts p.sequent p.propositional) (flat_of p.sequent []).formulas (formulas-prop p.sequent p.propositional)

pub goal-no-lets : (f : Flt) → IsPropositionalFlat f → lets f.goal ≡ 0
goal-no-lets f p = ap (λ g. lets g.goal) p.is ∙ no-lets (sorts p.sequent p.propositional) (flat_of p.sequent []).goal s_bool (goal-prop p.sequent p.propositional)

-- ---- all atoms are marked

not-earlier : (ms : List Mark) → Earlier ms ms → ⊥
not-earlier [] h = h
not-earlier (m ∷ ms) (inl lt) = omega arith
not-earlier (m ∷ ms) (inr h) = not-earlier ms h.1

no-rest : (ms rest : List Mark) → length (ms ++ rest) ≡ length ms → rest ≡ []
no-rest ms [] e = refl
no-rest ms (m ∷ rest) e = absurd (omega (arith, length-append ms (m ∷ rest)))

value-true : (o : Option Bool) (b : Bool) → o ≡ Some b → is_value false o ≡ false → o ≡ Some true
value-true o true e q = e
value-true o false e q = absurd (false≢true (sym q ∙ ap (is_value false) e))

value-false : (o : Option Bool) (b : Bool) → o ≡ Some b → is_value true o ≡ false → o ≡ Some false
value-false o true e q = absurd (false≢true (sym q ∙ ap (is_value true) e))
value-false o false e q = e

-- a meaning: none matters
nothing : Meaning
nothing k vs = v_unit

module _ (s : Sqt) (prop : IsPropositional s) (ms : List Mark) (marked : length ms ≡ length (flat_of s []).atoms) where
  all-read : (ts : List Tm) → FormulasPropositional (sorts s prop) ts → AllTm (AtomsAmong (sorts s prop) (flat_of s []).atoms) ts → some_false (flat_of s []) ms ts ≡ false → AllRead (flat_of s []) ms ts
  all-read [] h a e = tt
  all-read (t ∷ ts) h a e = go (λ k. all-read ts h.1 a.1 k) (is_value false (reads (flat_of s []) ms t)) refl e
    where
      go : (some_false (flat_of s []) ms ts ≡ false → AllRead (flat_of s []) ms ts) → (b : Bool) → is_value false (reads (flat_of s []) ms t) ≡ b → (if b then true else some_false (flat_of s []) ms ts) ≡ false → AllRead (flat_of s []) ms (t ∷ ts)
      go ih true q k = absurd (false≢true (sym k))
      go ih false q k = (value-true (reads (flat_of s []) ms t) _ (branch-reads s prop ms marked nothing t h.0 a.0) q, ih k)

  open-marked : AreTruths ms → (b : Bool) → some_false (flat_of s []) ms (flat_of s []).formulas ≡ b → (if b then true else is_value true (reads (flat_of s []) ms (flat_of s []).goal)) ≡ false → IsOpen (flat_of s []) ms
  open-marked t true q k = absurd (false≢true (sym k))
  open-marked t false q k = record {
    marked = marked;
    truths = t;
    formulas = all-read (flat_of s []).formulas (formulas-prop s prop) (formulas-among s prop) q;
    goal = value-false (reads (flat_of s []) ms (flat_of s []).goal) _ (branch-reads s prop ms marked nothing (flat_of s []).goal (goal-prop s prop) (goal-among s prop)) k;
    no_clash = no-clash-marked s prop ms marked nothing t;
  }

  first-marked : AreTruths ms → is_closed (flat_of s []) ms ≡ false → IsFirstFrom (flat_of s []) ms ms
  first-marked t e = record {
    rest = [];
    begins = sym (append-nil ms);
    opens = open-marked t (some_false (flat_of s []) ms (flat_of s []).formulas) refl e;
    none_before = λ rest h o. not-earlier ms (subst (λ ns. Earlier ns ms) (ap (λ ns. ms ++ ns) (no-rest ms rest (o.marked ∙ sym marked)) ∙ append-nil ms) h);
  }

-- where every atom is marked and nothing contradicts, the marks are an open branch, and the only one that begins with them
pub marked-first : (f : Flt) (ms : List Mark) → IsPropositionalFlat f → length ms ≡ length f.atoms → AreTruths ms → is_closed f ms ≡ false → IsFirstFrom f ms ms
marked-first f ms p =
    subst (λ g. length ms ≡ length g.atoms → AreTruths ms → is_closed g ms ≡ false → IsFirstFrom g ms ms) (sym p.is) (λ marked t e. first-marked p.sequent p.propositional ms marked t e)

-- ---- the next atom

truths-at : (ms : List Mark) (m : Mark) (rest : List Mark) → AreTruths (ms ++ m ∷ rest) → IsTrue (is_truth m)
truths-at [] m rest h = h.0
truths-at (n ∷ ms) m rest h = truths-at ms m rest h.1

pub truths-push : (ms : List Mark) (m : Mark) → AreTruths ms → IsTrue (is_truth m) → AreTruths (ms ++ m ∷ [])
truths-push [] m h k = (k, tt)
truths-push (n ∷ ms) m h k = (h.0, truths-push ms m h.1 k)

same-front : (ms ns os : List Mark) → Earlier (ms ++ ns) (ms ++ os) → Earlier ns os
same-front [] ns os h = h
same-front (m ∷ ms) ns os (inl lt) = absurd (omega arith)
same-front (m ∷ ms) ns os (inr h) = same-front ms ns os h.1

false-later : (ns os : List Mark) → Earlier (mark.False ∷ ns) (mark.True ∷ os) → ⊥
false-later ns os (inl lt) = omega arith
false-later ns os (inr h) = differ h.0
  where
    differ : mark.False ≡ mark.True → ⊥
    differ e = cc

module _ (f : Flt) (ms : List Mark) (short : length ms < length f.atoms) where
  next : (m : Mark) (rest : List Mark) → ms ++ m ∷ rest ≡ (ms ++ m ∷ []) ++ rest
  next m rest = sym (append_assoc ms (m ∷ []) rest)

  no-end : IsOpen f (ms ++ []) → ⊥
  no-end o = let e : length (ms ++ []) ≡ length ms = ap length (append-nil ms) in omega (arith, o.marked)

  -- no branch with either mark
  pub none-next : NoneFrom f (ms ++ mark.True ∷ []) → NoneFrom f (ms ++ mark.False ∷ []) → NoneFrom f ms
  none-next h k [] o = no-end o
  none-next h k (mark.True ∷ rest) o = h rest (subst (IsOpen f) (next mark.True rest) o)
  none-next h k (mark.False ∷ rest) o = k rest (subst (IsOpen f) (next mark.False rest) o)
  none-next h k (m ∷ rest) o = absurd (false≢true (truths-at ms m rest o.truths))

  -- the first branch with the mark true
  pub first-true : (ns : List Mark) → IsFirstFrom f (ms ++ mark.True ∷ []) ns → IsFirstFrom f ms ns
  first-true ns r = record { rest = mark.True ∷ r.rest; begins = begins; opens = r.opens; none_before = before }
    where
      begins : ns ≡ ms ++ mark.True ∷ r.rest
      begins = r.begins ∙ append_assoc ms (mark.True ∷ []) r.rest

      before : (rest : List Mark) → Earlier (ms ++ rest) ns → IsOpen f (ms ++ rest) → ⊥
      before [] h o = no-end o
      before (mark.True ∷ rest) h o = r.none_before rest (subst (λ os. Earlier os ns) (next mark.True rest) h) (subst (IsOpen f) (next mark.True rest) o)
      before (mark.False ∷ rest) h o = false-later rest r.rest (same-front ms (mark.False ∷ rest) (mark.True ∷ r.rest) (subst (Earlier (ms ++ mark.False ∷ rest)) begins h))
      before (m ∷ rest) h o = absurd (false≢true (truths-at ms m rest o.truths))

  -- the first branch with the mark false, where none has the mark true
  pub first-false : (ns : List Mark) → NoneFrom f (ms ++ mark.True ∷ []) → IsFirstFrom f (ms ++ mark.False ∷ []) ns → IsFirstFrom f ms ns
  first-false ns none r = record { rest = mark.False ∷ r.rest; begins = r.begins ∙ append_assoc ms (mark.False ∷ []) r.rest; opens = r.opens; none_before = before }
    where
      before : (rest : List Mark) → Earlier (ms ++ rest) ns → IsOpen f (ms ++ rest) → ⊥
      before [] h o = no-end o
      before (mark.True ∷ rest) h o = none rest (subst (IsOpen f) (next mark.True rest) o)
      before (mark.False ∷ rest) h o = r.none_before rest (subst (λ os. Earlier os ns) (next mark.False rest) h) (subst (IsOpen f) (next mark.False rest) o)
      before (m ∷ rest) h o = absurd (false≢true (truths-at ms m rest o.truths))

  -- what the search with the mark false leaves, where none has the mark true
  pub searched-false : (new : List Mark) (found : Bool) → NoneFrom f (ms ++ mark.True ∷ []) → Searched f (ms ++ mark.False ∷ []) ms new found → Searched f ms ms new found
  searched-false new true none r = first-false new none r
  searched-false new false none r = (r.0, none-next none r.1)

-- ---- the whole search

pub first-open : (f : Flt) (ns : List Mark) → IsFirstFrom f [] ns → IsFirstOpen f ns
first-open f ns r = record { opens = r.opens; none_before = λ os h o. r.none_before os h o }
