-- The marks that lines read, as a falling list.
use Rattle.std.proofs.Common.{◌≡◌, ◌⊎◌, inl, inr, ℕ, zero, suc, ◌+◌, ◌-◌, ◌<◌, ◌≤◌, Bool, true, false, if◌then◌else◌, nat_eq, List, [], ◌∷◌, ◌++◌, length, take, get_or, slice_get, Option, Some, None, option_map, refl, sym, ap, ◌∙◌, subst, arith, append_assoc}
use Rattle.std.proofs.lemmas.Bool.{false≢true, eqb-true, eq-eqb, cases_lt}
use Rattle.std.proofs.lemmas.List.{take_more}
use Rattle.fst_terms.specs.Flats.{truth_of}
use Rattle.fst_terms.specs.declared.flat.Mark.{Mark}
use Rattle.fst_terms.specs.declared.flat.Mark.TheVariants as mark
use Rattle.fst_terms.specs.Marks.{marks_of, at_number}
use Rattle.fst_cert.specs.Proving.{on, same_mark}
use Rattle.fst_cert.specs.declared.line.Line.{Line}
use Rattle.fst_cert.specs.declared.line.Line.TheVariants as line
use Rattle.fst_cases.specs.Cores.{used}
use Rattle.fst_cases.specs.declared.cores.Want.{Want}
use Rattle.fst_cases.specs.declared.cores.Want.TheVariants as want
use Rattle.fst_cases.specs.declared.known.Known.{Known}
use Rattle.fst_cases.specs.Cited.{rank_of, or_whole, want_at, Read, AllRead, mark_as, chosen, known_as, entry_at, put_known, core_list, IsCore}
use Rattle.fst_cases.specs.Closings.{Kept, AllKept}
use Rattle.fst_cases.specs.Knowing.{Falls, look_of}
use Rattle.fst_cases.specs.Refuting.{Within}
use Rattle.fst_cases.proofs.KnownLemmas.{falls-more, falls-none}
use Rattle.fst_cases.proofs.RefutedLemmas.{same-self}

-- ---- notes grow

module _ (old new : List Want) (more : (b : ℕ) → rank_of (want_at old b) ≤ rank_of (want_at new b)) where
  pub read-more : (l : Line) → Read old l → Read new l
  read-more (line.Given a) h = let m = more a in omega (arith, h, m)
  read-more (line.Atom a k) h = let m = more a in omega (arith, h, m)
  read-more (line.Unequal a i) h = let m = more a in omega (arith, h, m)
  read-more l h = tt

  pub all-read-more : (ls : List Line) → AllRead old ls → AllRead new ls
  all-read-more [] h = tt
  all-read-more (l ∷ ls) h = (read-more l h.0, all-read-more ls h.1)

  -- one line more
  pub lines-more : (ls : List Line) (i : ℕ) (l : Line) → i < length ls → l ≡ get_or ls i l → AllRead old (take i ls) → Read new l → AllRead new (take (i + 1) ls)
  lines-more ls i l h e r n =
      subst (AllRead new) (sym (take_more ls i l h)) (append (take i ls) (all-read-more (take i ls) r) (subst (Read new) e n))
    where
      append : (xs : List Line) → AllRead new xs → Read new (get_or ls i l) → AllRead new (xs ++ get_or ls i l ∷ [])
      append [] x y = (y, tt)
      append (k ∷ xs) x y = (x.0, append xs x.1 y)

-- ---- the list

module _ (ws : List Want) (ms : List Mark) where
  pub core-more : (whole out new : List Known) (n done : ℕ) (o : Option Known) → done < n → whole ≡ out ++ core_list ws ms (n - done) → o ≡ entry_at ws ms (n - 1 - done) → new ≡ out ++ put_known o [] → whole ≡ new ++ core_list ws ms (n - (done + 1))
  core-more whole out new n done o h e p q =
      let step : n - done ≡ suc (n - (done + 1)) = omega (arith, h) in
      let at : n - 1 - done ≡ n - (done + 1) = omega (arith, h) in
      e ∙ ap (λ k. out ++ core_list ws ms k) step ∙ ap (λ x. out ++ put_known x (core_list ws ms (n - (done + 1)))) (sym (p ∙ ap (entry_at ws ms) at)) ∙ put o ∙ ap (λ ls. ls ++ core_list ws ms (n - (done + 1))) (sym q)
    where
      put : (o : Option Known) → out ++ put_known o (core_list ws ms (n - (done + 1))) ≡ (out ++ put_known o []) ++ core_list ws ms (n - (done + 1))
      put None = ap (λ ls. ls ++ core_list ws ms (n - (done + 1))) (sym (nil out))
        where
          nil : (xs : List Known) → xs ++ [] ≡ xs
          nil [] = refl
          nil (x ∷ xs) = ap (λ ys. x ∷ ys) (nil xs)
      put (Some k) = sym (append_assoc out (k ∷ []) (core_list ws ms (n - (done + 1))))

  pub core-falls : (n : ℕ) → Falls (n + 1) (core_list ws ms n)
  core-falls zero = tt
  core-falls (suc n) = go (chosen ws ms (suc n)) (core-falls n)
    where
      go : (o : Option Mark) → Falls (n + 1) (core_list ws ms n) → Falls (suc n + 1) (put_known (option_map (known_as (suc n)) o) (core_list ws ms n))
      go None h = falls-more (n + 1) (suc n + 1) (core_list ws ms n) (omega arith) h
      go (Some m) h = (omega arith, subst (λ k. Falls k (core_list ws ms n)) (let e : n + 1 ≡ suc n = omega arith in e) h)

  core-looks : (n a : ℕ) → a ≤ n → look_of (core_list ws ms n) a ≡ chosen ws ms a
  core-looks zero a h = ap (λ k. chosen ws ms k) (let e : 0 ≡ a = omega (arith, h) in e)
  core-looks (suc n) a h = go (λ l. core-looks n a l) (nat_eq (suc n) a) refl (chosen ws ms (suc n)) refl
    where
      go : (a ≤ n → look_of (core_list ws ms n) a ≡ chosen ws ms a) → (b : Bool) → nat_eq (suc n) a ≡ b → (o : Option Mark) → chosen ws ms (suc n) ≡ o → look_of (put_known (option_map (known_as (suc n)) o) (core_list ws ms n)) a ≡ chosen ws ms a
      go ih true p None q =
          falls-none (n + 1) a (core_list ws ms n) (let e = eqb-true (suc n) a p in omega (arith, e)) (core-falls n) ∙ sym q ∙ ap (chosen ws ms) (eqb-true (suc n) a p)
      go ih true p (Some m) q = ap (λ b. if b then Some m else look_of (core_list ws ms n) a) p ∙ sym q ∙ ap (chosen ws ms) (eqb-true (suc n) a p)
      go ih false p None q = ih (less p)
        where
          less : nat_eq (suc n) a ≡ false → a ≤ n
          less p = small (λ e. false≢true (sym p ∙ eq-eqb (suc n) a e)) h
            where
              small : (suc n ≡ a → ⊥) → a ≤ suc n → a ≤ n
              small x y = omega (arith, x, y)
      go ih false p (Some m) q = ap (λ b. if b then Some m else look_of (core_list ws ms n) a) p ∙ ih (less p)
        where
          less : nat_eq (suc n) a ≡ false → a ≤ n
          less p = small (λ e. false≢true (sym p ∙ eq-eqb (suc n) a e)) h
            where
              small : (suc n ≡ a → ⊥) → a ≤ suc n → a ≤ n
              small x y = omega (arith, x, y)

  marks-at : (a : ℕ) → marks_of ms a ≡ at_number ms a
  marks-at zero = refl
  marks-at (suc a) = refl

  past : {A : Type 0} (xs : List A) (a : ℕ) → length xs < a → at_number xs a ≡ None
  past xs zero h = refl
  past xs (suc n) h = go xs n (omega (arith, h))
    where
      go : {A : Type 0} (xs : List A) (n : ℕ) → length xs ≤ n → slice_get xs n ≡ None
      go [] n h = refl
      go (x ∷ xs) zero h = absurd (omega (arith, h))
      go (x ∷ xs) (suc n) h = go xs n (omega (arith, h))

  -- the marks that are read, whatever the atom
  pub core-chosen : (a : ℕ) → look_of (core_list ws ms (length ms)) a ≡ chosen ws ms a
  core-chosen a = go (cases_lt (length ms) a)
    where
      none : (o : Option Want) (r : Option Mark) → r ≡ None → on o (λ w. on r (mark_as w)) ≡ None
      none None r e = refl
      none (Some w) r e = ap (λ x. on x (mark_as w)) e

      go : (length ms < a) ⊎ (a ≤ length ms) → look_of (core_list ws ms (length ms)) a ≡ chosen ws ms a
      go (inl more) = falls-none (length ms + 1) a (core_list ws ms (length ms)) (omega (arith, more)) (core-falls (length ms)) ∙ sym (none (at_number ws a) (at_number ms a) (past ms a more))
      go (inr less) = core-looks (length ms) a less

  used-same : (m : Mark) → same_mark (used false m) m ≡ true
  used-same mark.True = refl
  used-same mark.False = refl
  used-same mark.Less = refl
  used-same mark.Greater = refl

  pub core-within : Within (look_of (core_list ws ms (length ms))) (marks_of ms)
  core-within a x q = go (at_number ws a) (at_number ms a) refl (sym (core-chosen a) ∙ q)
    where
      go : (o : Option Want) (r : Option Mark) → at_number ms a ≡ r → on o (λ w. on r (mark_as w)) ≡ Some x → (n : Mark) × ((marks_of ms a ≡ Some n) × (same_mark x n ≡ true))
      go None r e h = cc
      go (Some w) None e h = cc
      go (Some want.Nothing) (Some m) e h = cc
      go (Some want.Truth) (Some m) e h = let y : used false m ≡ x = cc in (m, (marks-at a ∙ e, subst (λ k. same_mark k m ≡ true) y (used-same m)))
      go (Some want.Whole) (Some m) e h = let y : m ≡ x = cc in (m, (marks-at a ∙ e, subst (λ k. same_mark k m ≡ true) y (same-self m)))

  -- ---- the list keeps what lines read

  module _ (count : length ws ≡ length ms) where
    whole-kept : (a : ℕ) → 2 ≤ rank_of (want_at ws a) → chosen ws ms a ≡ marks_of ms a
    whole-kept a h = go (at_number ws a) refl h
      where
        go : (o : Option Want) → at_number ws a ≡ o → 2 ≤ rank_of (or_whole o) → on o (λ w. on (at_number ms a) (mark_as w)) ≡ marks_of ms a
        go None e h = sym (marks-at a ∙ absent a e)
          where
            absent : (a : ℕ) → at_number ws a ≡ None → at_number ms a ≡ None
            absent zero e = refl
            absent (suc n) e = both ws ms n count e
              where
                both : (xs : List Want) (ys : List Mark) (n : ℕ) → length xs ≡ length ys → slice_get xs n ≡ None → slice_get ys n ≡ None
                both xs [] n c e = refl
                both [] (y ∷ ys) n c e = absurd (omega (arith, c))
                both (x ∷ xs) (y ∷ ys) zero c e = cc
                both (x ∷ xs) (y ∷ ys) (suc n) c e = both xs ys n (omega (arith, c)) e
        go (Some want.Nothing) e h = absurd (omega (arith, h))
        go (Some want.Truth) e h = absurd (omega (arith, h))
        go (Some want.Whole) e h = self (at_number ms a) ∙ sym (marks-at a)
          where
            self : (o : Option Mark) → on o (mark_as want.Whole) ≡ o
            self None = refl
            self (Some m) = refl

    truth-kept : (a : ℕ) → 1 ≤ rank_of (want_at ws a) → option_map truth_of (chosen ws ms a) ≡ option_map truth_of (marks_of ms a)
    truth-kept a h = go (at_number ws a) refl h
      where
        same : (m : Mark) → truth_of (used false m) ≡ truth_of m
        same mark.True = refl
        same mark.False = refl
        same mark.Less = refl
        same mark.Greater = refl

        weak : (o : Option Mark) → option_map truth_of (on o (mark_as want.Truth)) ≡ option_map truth_of o
        weak None = refl
        weak (Some m) = ap Some (same m)

        go : (o : Option Want) → at_number ws a ≡ o → 1 ≤ rank_of (or_whole o) → option_map truth_of (on o (λ w. on (at_number ms a) (mark_as w))) ≡ option_map truth_of (marks_of ms a)
        go None e h = ap (option_map truth_of) (ap (λ o. on o (λ w. on (at_number ms a) (mark_as w))) (sym e) ∙ whole-kept a (subst (λ o. 2 ≤ rank_of (or_whole o)) (sym e) (omega arith)))
        go (Some want.Nothing) e h = absurd (omega (arith, h))
        go (Some want.Truth) e h = weak (at_number ms a) ∙ ap (option_map truth_of) (sym (marks-at a))
        go (Some want.Whole) e h = ap (option_map truth_of) (ap (λ o. on o (λ w. on (at_number ms a) (mark_as w))) (sym e) ∙ whole-kept a (subst (λ o. 2 ≤ rank_of (or_whole o)) (sym e) (omega arith)))

    pub line-kept : (l : Line) → Read ws l → Kept (look_of (core_list ws ms (length ms))) (marks_of ms) l
    line-kept (line.Given a) h = core-chosen a ∙ whole-kept a h
    line-kept (line.Atom a k) h = core-chosen a ∙ whole-kept a h
    line-kept (line.Unequal a i) h = ap (option_map truth_of) (core-chosen a) ∙ truth-kept a h
    line-kept l h = tt

    pub lines-kept : (ls : List Line) → AllRead ws ls → AllKept (look_of (core_list ws ms (length ms))) (marks_of ms) ls
    lines-kept [] h = tt
    lines-kept (l ∷ ls) h = (line-kept l h.0, lines-kept ls h.1)

pub core-is : (ws : List Want) (ms : List Mark) (core : List Known) (es rs : List Line) (v : Line) → length ws ≡ length ms → core ≡ core_list ws ms (length ms) → AllRead ws es → AllRead ws rs → Read ws v → IsCore ms core es rs v
core-is ws ms core es rs v n e h k l = subst (λ ks. IsCore ms ks es rs v) (sym e) (record {
  falls = core-falls ws ms (length ms);
  within = core-within ws ms;
  equations_kept = lines-kept ws ms n es h;
  rows_kept = lines-kept ws ms n rs k;
  verdict_kept = line-kept ws ms n v l;
})
