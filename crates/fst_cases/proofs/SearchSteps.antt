-- One step of the search: what is known of a prefix from what is known of its next marks.
use Rattle.std.proofs.Common.{◌≡◌, zero, suc, ◌<◌, true, not, List, [], ◌∷◌, ◌++◌, length, slice_get, Some, None, IsTrue, refl, sym, ap, subst, arith}
use Rattle.std.proofs.lemmas.Bool.{false≢true}
use Rattle.fst_terms.specs.Terms.{Tm}
use Rattle.fst_terms.specs.Flats.{Flt, rank}
use Rattle.fst_terms.specs.declared.flat.Mark.{Mark}
use Rattle.fst_terms.specs.declared.flat.Mark.TheVariants as mark
use Rattle.fst_terms.specs.Marks.{Marking, marks_of, at_number, var_sorts, is_int_equation, fits}
use Rattle.fst_cert.specs.Proving.{Proves}
use Rattle.fst_cert.specs.declared.line.Line.TheVariants as line
use Rattle.fst_cases.specs.Refuting.{Within, put, IsRefuted, IsRefutedAt, LeftRefuted}
use Rattle.fst_cases.proofs.RefutedLemmas.{within-self}
use Rattle.fst_cases.proofs.RefutationRules.{joined-lists, no-more, refuted-more, refuted-split, refuted-order, refuted-proves}

length-more : (ms : List Mark) (m : Mark) → length (ms ++ m ∷ []) ≡ suc (length ms)
length-more [] m = refl
length-more (n ∷ ms) m = ap suc (length-more ms m)

module _ (f : Flt) where
  -- a refutation of a prefix with the marks that it uses, which aren't necessarily all
  abbrev pub Uses : List Mark → Marking → Type 0
  Uses ms core = Within core (marks_of ms)

  -- a refutation that doesn't use the last mark refutes the prefix without it
  pub step-unused : (before : List Mark) (m : Mark) (r : IsRefutedAt f (before ++ m ∷ [])) → Uses before r.core → IsRefutedAt f before
  step-unused before m r within = record {
    core = r.core;
    lines = r.lines;
    within = within;
    refuted = refuted-more f [] (length (before ++ m ∷ [])) (length before) r.core r.core r.lines (omega (arith, length-more before m)) (within-self r.core) r.refuted;
  }

  at-next : (before : List Mark) (m : Mark) (r : IsRefutedAt f (before ++ m ∷ [])) → IsRefuted f [] (suc (length before)) r.core r.lines
  at-next before m r = subst (λ n. IsRefuted f [] n r.core r.lines) (length-more before m) r.refuted

  -- both marks of the next atom are refuted; a false equation of numbers may be refuted without its order
  pub step-split : (before : List Mark) (t : Tm) (core : Marking) (m : Mark) → at_number f.atoms (suc (length before)) ≡ Some t → Uses before core
      → (r : IsRefutedAt f (before ++ mark.True ∷ [])) → Within r.core (put (suc (length before)) mark.True core)
      → (s : IsRefutedAt f (before ++ m ∷ [])) → Within s.core (put (suc (length before)) mark.False core) → IsRefutedAt f before
  step-split before t core m q within r on_true s on_false = record {
    core = core;
    lines = line.Split (suc (length before)) ∷ r.lines ++ s.lines;
    within = within;
    refuted = refuted-split f [] (length before) t core r.core s.core r.lines s.lines q on_true (at-next before mark.True r) on_false (at-next before m s);
  }

  -- the three marks of an equation of numbers are refuted
  pub step-order : (before : List Mark) (t : Tm) (core : Marking) → at_number f.atoms (suc (length before)) ≡ Some t → is_int_equation (var_sorts f) t ≡ true → Uses before core
      → (r : IsRefutedAt f (before ++ mark.True ∷ [])) → Within r.core (put (suc (length before)) mark.True core)
      → (s : IsRefutedAt f (before ++ mark.Less ∷ [])) → Within s.core (put (suc (length before)) mark.Less core)
      → (g : IsRefutedAt f (before ++ mark.Greater ∷ [])) → Within g.core (put (suc (length before)) mark.Greater core) → IsRefutedAt f before
  step-order before t core q i within r on_true s on_less g on_greater = record {
    core = core;
    lines = line.Split (suc (length before)) ∷ r.lines ++ (line.Order (suc (length before)) ∷ s.lines ++ g.lines);
    within = within;
    refuted = refuted-order f [] (length before) t core r.core s.core g.core r.lines s.lines g.lines q i on_true (at-next before mark.True r) on_less (at-next before mark.Less s) on_greater (at-next before mark.Greater g);
  }

  -- ---- a branch is left below a mark

  pub left-true : (before : List Mark) (t : Tm) (ts : List Tm) (rest : List Mark) → LeftRefuted f (before ++ mark.True ∷ []) ts rest → LeftRefuted f before (t ∷ ts) (mark.True ∷ rest)
  left-true before t ts rest l = ((λ m h less. absurd (omega (arith, less))), l)

  pub left-false : (before : List Mark) (t : Tm) (ts : List Tm) (rest : List Mark) → IsRefutedAt f (before ++ mark.True ∷ []) → LeftRefuted f (before ++ mark.False ∷ []) ts rest → LeftRefuted f before (t ∷ ts) (mark.False ∷ rest)
  left-false before t ts rest r l = (go, l)
    where
      go : (m : Mark) → IsTrue (fits (var_sorts f) t m) → rank m < 1 → IsRefutedAt f (before ++ m ∷ [])
      go mark.True h less = r
      go mark.False h less = absurd (omega (arith, less))
      go mark.Less h less = absurd (omega (arith, less))
      go mark.Greater h less = absurd (omega (arith, less))

  pub left-less : (before : List Mark) (t : Tm) (ts : List Tm) (rest : List Mark) → is_int_equation (var_sorts f) t ≡ true → IsRefutedAt f (before ++ mark.True ∷ []) → LeftRefuted f (before ++ mark.Less ∷ []) ts rest → LeftRefuted f before (t ∷ ts) (mark.Less ∷ rest)
  left-less before t ts rest i r l = (go, l)
    where
      go : (m : Mark) → IsTrue (fits (var_sorts f) t m) → rank m < 2 → IsRefutedAt f (before ++ m ∷ [])
      go mark.True h less = r
      go mark.False h less = absurd (false≢true (subst (λ b. IsTrue (not b)) i h))
      go mark.Less h less = absurd (omega (arith, less))
      go mark.Greater h less = absurd (omega (arith, less))

  pub left-greater : (before : List Mark) (t : Tm) (ts : List Tm) (rest : List Mark) → is_int_equation (var_sorts f) t ≡ true → IsRefutedAt f (before ++ mark.True ∷ []) → IsRefutedAt f (before ++ mark.Less ∷ []) → LeftRefuted f (before ++ mark.Greater ∷ []) ts rest → LeftRefuted f before (t ∷ ts) (mark.Greater ∷ rest)
  left-greater before t ts rest i r s l = (go, l)
    where
      go : (m : Mark) → IsTrue (fits (var_sorts f) t m) → rank m < 3 → IsRefutedAt f (before ++ m ∷ [])
      go mark.True h less = r
      go mark.False h less = absurd (false≢true (subst (λ b. IsTrue (not b)) i h))
      go mark.Less h less = s
      go mark.Greater h less = absurd (omega (arith, less))

  -- the empty prefix is refuted: the lines are a proof
  pub refuted-all : (r : IsRefutedAt f []) → Proves f r.lines
  refuted-all r = refuted-proves f r.lines (refuted-more f [] 0 0 r.core (λ a. None) r.lines (omega arith) empty r.refuted)
    where
      empty : Within r.core (λ a. None)
      empty zero m q = r.within zero m q
      empty (suc a) m q = let w = r.within (suc a) m q in let p = w.1.0 in cc

  -- ---- the invariant of a loop: left marks are refuted along the marks that stand

  pub left-none : (before : List Mark) (ts : List Tm) → LeftRefuted f before ts []
  left-none before [] = tt
  left-none before (t ∷ ts) = tt

  -- fewer marks
  pub left-first : (before : List Mark) (ts : List Tm) (ms ns : List Mark) → LeftRefuted f before ts (ms ++ ns) → LeftRefuted f before ts ms
  left-first before ts [] ns l = left-none before ts
  left-first before [] (m ∷ ms) ns l = tt
  left-first before (t ∷ ts) (m ∷ ms) ns l = (l.0, left-first (before ++ m ∷ []) ts ms ns l.1)

  -- one mark more, where each mark of its atom that stands before it is refuted
  pub left-put : (before : List Mark) (ts : List Tm) (ms : List Mark) (m : Mark) → LeftRefuted f before ts ms
      → ((t : Tm) (k : Mark) → slice_get ts (length ms) ≡ Some t → IsTrue (fits (var_sorts f) t k) → rank k < rank m → IsRefutedAt f ((before ++ ms) ++ k ∷ []))
      → LeftRefuted f before ts (ms ++ m ∷ [])
  left-put before [] [] m l new = tt
  left-put before (t ∷ ts) [] m l new = ((λ k h less. subst (λ w. IsRefutedAt f (w ++ k ∷ [])) (no-more before) (new t k refl h less)), left-none (before ++ m ∷ []) ts)
  left-put before [] (n ∷ ms) m l new = tt
  left-put before (t ∷ ts) (n ∷ ms) m l new =
      (l.0, left-put (before ++ n ∷ []) ts ms m l.1 (λ u k q h less. subst (λ w. IsRefutedAt f (w ++ k ∷ [])) (sym (joined-lists before (n ∷ []) ms)) (new u k q h less)))

  -- the next atom true
  pub left-more : (ts : List Tm) (ms : List Mark) → LeftRefuted f [] ts ms → LeftRefuted f [] ts (ms ++ mark.True ∷ [])
  left-more ts ms l = left-put [] ts ms mark.True l (λ t k q h less. absurd (omega (arith, less)))
