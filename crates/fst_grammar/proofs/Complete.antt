-- What has a derivation is read.
use Rattle.std.proofs.Common.{◌≡◌, Bool, true, false, not, ◌||◌, ◌&&◌, List, ◌∷◌, ◌++◌, refl, sym, ◌∙◌, ap, subst, ◌⊎◌, inl, inr, Ok, if◌then◌else◌}
use Rattle.fst_grammar.specs.Alphabet.{Alphabet, Sound, next, has, within, apart}
use Rattle.fst_grammar.specs.Grammar.{Code, El, Rule, tree, Derives, d_token, d_mark, d_empty, d_seq, d_left, d_right, d_act, d_call}
use Rattle.fst_grammar.specs.Reading.{Outcome, expect, may_be_empty, first, run}
use Rattle.fst_grammar.specs.Conditions.{starts, settles, is_good}
use Rattle.fst_grammar.proofs.KindSets.{both_true, has_left, has_right, has_within, has_apart}

either_left : (a b : Bool) → a ≡ true → a || b ≡ true
either_left a b e = rw e refl

either_right : (a b : Bool) → b ≡ true → a || b ≡ true
either_right true b e = refl
either_right false b e = e

no_both : (b : Bool) → b ≡ false → b ≡ true → ⊥
no_both b e h = cc

empty_at : (n e : Bool) → n || not e ≡ true → e ≡ true → n ≡ true
empty_at true e h g = refl
empty_at false true h g = cc
empty_at false false h g = cc

alt_parts : (e a b c : Bool) → not e && a && b && c ≡ true → (e ≡ false) × (a ≡ true) × (b ≡ true) × (c ≡ true)
alt_parts false true true true h = (refl, refl, refl, refl)
alt_parts false true true false h = cc
alt_parts false true false c h = cc
alt_parts false false b c h = cc
alt_parts true a b c h = cc

not_both : (a b : Bool) → (a ≡ true → b ≡ false) → b ≡ true → a ≡ false
not_both true b f e = absurd (no_both b (f refl) e)
not_both false b f e = refl

module _ (K : Alphabet) (D : Sound K) where
  begins_seq : (rn qn : Bool) (rf qf : List K.Kind) (ts ms ks : List K.Token)
      → (has K rf (next K ts) ≡ true) ⊎ ((rn ≡ true) × (ts ≡ ms)) → (has K qf (next K ms) ≡ true) ⊎ ((qn ≡ true) × (ms ≡ ks))
      → (has K (if rn then rf ++ qf else rf) (next K ts) ≡ true) ⊎ ((rn && qn ≡ true) × (ts ≡ ks))
  begins_seq true qn rf qf ts ms ks (inl h) y = inl (has_left K rf qf _ h)
  begins_seq false qn rf qf ts ms ks (inl h) y = inl h
  begins_seq true qn rf qf ts ms ks (inr e) (inl h) = inl (has_right K rf qf _ (subst (λ x. has K qf (next K x) ≡ true) (sym e.1) h))
  begins_seq true qn rf qf ts ms ks (inr e) (inr d) = inr (d.0, e.1 ∙ d.1)
  begins_seq false qn rf qf ts ms ks (inr e) y = cc

  starts_at : (rn : Bool) (rf fs : List K.Kind) (ts ks : List K.Token) → (has K rf (next K ts) ≡ true) ⊎ ((rn ≡ true) × (ts ≡ ks)) → has K fs (next K ks) ≡ true
      → has K (if rn then rf ++ fs else rf) (next K ts) ≡ true
  starts_at true rf fs ts ks (inl h) g = has_left K rf fs _ h
  starts_at false rf fs ts ks (inl h) g = h
  starts_at true rf fs ts ks (inr e) g = has_right K rf fs _ (subst (λ x. has K fs (next K x) ≡ true) (sym e.1) g)
  starts_at false rf fs ts ks (inr e) g = cc

  expect_it : (k : K.Kind) (t : K.Token) (ts : List K.Token) → K.kind t ≡ k → expect K k (t ∷ ts) ≡ Ok (t, ts)
  expect_it k t ts e = let h = subst (λ j. K.same j k ≡ true) (sym e) (D.reflexive k) in rw h refl

  begins_full : (e : Bool) (rf : List K.Kind) (ts ks : List K.Token) → e ≡ false → (has K rf (next K ts) ≡ true) ⊎ ((e ≡ true) × (ts ≡ ks)) → has K rf (next K ts) ≡ true
  begins_full e rf ts ks p (inl h) = h
  begins_full e rf ts ks p (inr h) = absurd (no_both e p h.0)

  apart_has : (js ks : List K.Kind) (x : K.Kind) → apart K js ks ≡ true → has K ks x ≡ true → has K js x ≡ false
  apart_has js ks x a h = not_both (has K js x) (has K ks x) (has_apart K D js ks x a) h

  module _ (N : Type 0) (T : N → Type 0) (rule : (n : N) → Rule K N T (tree n)) (firsts : N → List K.Kind) (nullable : N → Bool) (follow : N → List K.Kind)
      (good : (n : N) → is_good K N T firsts nullable follow n (rule n) ≡ true) where
    abbrev E : {c : Code K N T} → Rule K N T c → Bool
    E r = may_be_empty K N T firsts nullable r

    abbrev F : {c : Code K N T} → Rule K N T c → List K.Kind
    F r = first K N T firsts nullable r

    abbrev S : {c : Code K N T} → List K.Kind → Rule K N T c → Bool
    S fs r = settles K N T firsts nullable follow fs r

    pub record IsGood (n : N) : Type 0 where
      pub settled : S (follow n) (rule n) ≡ true
      pub begun : within K (F (rule n)) (firsts n) ≡ true
      pub empty : E (rule n) ≡ true → nullable n ≡ true

    is_good_at : (n : N) → IsGood n
    is_good_at n =
        let p = both_true (S (follow n) (rule n) && within K (F (rule n)) (firsts n)) (nullable n || not (E (rule n))) (good n) in
        let q = both_true (S (follow n) (rule n)) (within K (F (rule n)) (firsts n)) p.0 in
        record { settled = q.0; begun = q.1; empty = λ e. empty_at (nullable n) (E (rule n)) p.1 e }

    begins_call : (n : N) (ts ks : List K.Token) → (has K (F (rule n)) (next K ts) ≡ true) ⊎ ((E (rule n) ≡ true) × (ts ≡ ks))
        → (has K (firsts n) (next K ts) ≡ true) ⊎ ((nullable n ≡ true) × (ts ≡ ks))
    begins_call n ts ks (inl h) = inl (has_within K D (F (rule n)) (firsts n) (next K ts) (is_good_at n).begun h)
    begins_call n ts ks (inr e) = inr ((is_good_at n).empty e.0, e.1)

    begins : {c : Code K N T} {r : Rule K N T c} {a : El K N T c} {ts ks : List K.Token} → Derives K N T rule c r a ts ks
        → (has K (F r) (next K ts) ≡ true) ⊎ ((E r ≡ true) × (ts ≡ ks))
    begins (d_token {k = k} {t = t} e) = inl (either_left (K.same (K.kind t) k) false (subst (λ j. K.same j k ≡ true) (sym e) (D.reflexive k)))
    begins (d_mark {k = k} {t = t} e) = inl (either_left (K.same (K.kind t) k) false (subst (λ j. K.same j k ≡ true) (sym e) (D.reflexive k)))
    begins d_empty = inr (refl, refl)
    begins (d_seq {r = r} {q = q} {ts = ts} {ms = ms} {ks = ks} x y) = begins_seq (E r) (E q) (F r) (F q) ts ms ks (begins x) (begins y)
    begins (d_left {r = r} {q = q} {ts = ts} x) = elim (begins x) [ inl h ↦ inl (has_left K (F r) (F q) (next K ts) h) | inr e ↦ inr (either_left (E r) (E q) e.0, e.1) ]
    begins (d_right {r = r} {q = q} {ts = ts} x) = elim (begins x) [ inl h ↦ inl (has_right K (F r) (F q) (next K ts) h) | inr e ↦ inr (either_right (E r) (E q) e.0, e.1) ]
    begins (d_act x) = begins x
    begins (d_call {n = n} {ts = ts} {ks = ks} x) = begins_call n ts ks (begins x)

    starts_has : {c : Code K N T} {r : Rule K N T c} {a : El K N T c} {ts ks : List K.Token} (fs : List K.Kind) → Derives K N T rule c r a ts ks
        → has K fs (next K ks) ≡ true → has K (starts K N T firsts nullable fs r) (next K ts) ≡ true
    starts_has {r = r} {ts = ts} {ks = ks} fs x h = starts_at (E r) (F r) fs ts ks (begins x) h

    module _ (read : (n : N) → List K.Token → Outcome K.Token (T n)) (fix : (n : N) (ts : List K.Token) → read n ts ≡ run K N T firsts nullable read (rule n) ts) where
      pub again : {c : Code K N T} {r : Rule K N T c} {a : El K N T c} {ts ks : List K.Token} (fs : List K.Kind) → Derives K N T rule c r a ts ks
          → S fs r ≡ true → has K fs (next K ks) ≡ true → run K N T firsts nullable read r ts ≡ Ok (a, ks)
      again fs (d_token {k = k} {t = t} {ts = ts} e) s h = expect_it k t ts e
      again fs (d_mark {k = k} {t = t} {ts = ts} e) s h = rw (expect_it k t ts e) refl
      again fs d_empty s h = refl
      again fs (d_seq {r = r} {q = q} {a = a} {b = b} {ts = ts} {ms = ms} {ks = ks} x y) s h =
          let qs = starts K N T firsts nullable fs q in
          let p = both_true (S qs r) (S fs q) s in
          let u = again qs x p.0 (starts_has fs y h) in
          let v = again fs y p.1 h in
          rw (u, v) refl
      again fs (d_left {r = r} {q = q} {ts = ts} {ks = ks} x) s h =
          let p = alt_parts (E r) (apart K (F r) (starts K N T firsts nullable fs q)) (S fs r) (S fs q) s in
          let b = begins_full (E r) (F r) ts ks p.0 (begins x) in
          rw (b, again fs x p.2 h) refl
      again fs (d_right {r = r} {q = q} {ts = ts} {ks = ks} x) s h =
          let p = alt_parts (E r) (apart K (F r) (starts K N T firsts nullable fs q)) (S fs r) (S fs q) s in
          let b = apart_has (F r) (starts K N T firsts nullable fs q) (next K ts) p.1 (starts_has fs x h) in
          rw (b, again fs x p.3 h) refl
      again fs (d_act {f = f} {ts = ts} x) s h = rw (again fs x s h) refl
      again fs (d_call {n = n} {ts = ts} {ks = ks} x) s h =
          fix n ts ∙ again (follow n) x (is_good_at n).settled (has_within K D fs (follow n) (next K ks) s h)
