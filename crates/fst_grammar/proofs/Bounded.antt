-- The bound on nesting is of no account where it is large enough.
use Rattle.std.proofs.Common.{◌≡◌, Bool, true, false, not, ◌&&◌, ◌||◌, List, [], length, refl, sym, ◌∙◌, ap, inl, inr, subst, ℕ, zero, suc, ◌+◌, ◌*◌, ◌<◌, ◌≤◌, Ok, Err, if◌then◌else◌, arith}
use Rattle.std.proofs.lemmas.Bool.{lt-ltb}
use Rattle.std.proofs.Math.Nat.{mul-le-mul_left}
use borrow.Author.Tests.{ltb-true}
use Rattle.fst_grammar.specs.Alphabet.{Alphabet, Sound, next, has}
use Rattle.fst_grammar.specs.Grammar.{Code, El, Rule, tree, token, mark, empty, seq, alt, act, call, Derives, d_token, d_mark, d_empty, d_seq, d_left, d_right, d_act, d_call}
use Rattle.fst_grammar.specs.Reading.{Outcome, ◌>>=◌, first, run, at, read_by, may_be_empty}
use Rattle.fst_grammar.specs.Conditions.{below}
use Rattle.fst_grammar.proofs.KindSets.{both_true, either_true, not_true}
use Rattle.fst_grammar.proofs.Sound.{Sample, Means, Law, ahead, law}

and_true : (a b : Bool) → a ≡ true → b ≡ true → a && b ≡ true
and_true a b e h = rw (e, h) refl

or_right : (a b : Bool) → b ≡ true → a || b ≡ true
or_right true b e = refl
or_right false b e = e

left_false : (a b : Bool) → a || b ≡ false → a ≡ false
left_false true b e = cc
left_false false b e = refl

right_false : (a b : Bool) → a || b ≡ false → b ≡ false
right_false true b e = cc
right_false false b e = e

clash : (e : Bool) → e ≡ true → not e ≡ true → ⊥
clash true h k = cc
clash false h k = cc

module _ (K : Alphabet) (D : Sound K) where
  module _ (N : Type 0) (T : N → Type 0) (rule : (n : N) → Rule K N T (tree n)) (firsts : N → List K.Kind) (nullable : N → Bool)
      (full : (n : N) → nullable n ≡ false → may_be_empty K N T firsts nullable (rule n) ≡ false)
      (sample : (n : N) → Sample K D N T rule firsts nullable (call n)) where
    abbrev E : {c : Code K N T} → Rule K N T c → Bool
    E r = may_be_empty K N T firsts nullable r

    pub record Shorter (e : Bool) (ts ks : List K.Token) : Type 0 where
      pub least : length ks ≤ length ts
      pub less : e ≡ false → length ks < length ts

    shorter_seq : (a b : Bool) (ts ms ks : List K.Token) → Shorter a ts ms → Shorter b ms ks → Shorter (a && b) ts ks
    shorter_seq true b ts ms ks x y = let l = x.least in let k = y.least in record { least = omega arith; less = λ h. let z : length ks < length ms = y.less h in omega arith }
    shorter_seq false b ts ms ks x y = let l : length ms < length ts = x.less refl in let k = y.least in record { least = omega arith; less = λ h. omega arith }

    shorter : {c : Code K N T} {r : Rule K N T c} {a : El K N T c} {ts ks : List K.Token} → Derives K N T rule c r a ts ks → Shorter (E r) ts ks
    shorter (d_token {ts = ts} e) = record { least = omega arith; less = λ h. omega arith }
    shorter (d_mark {ts = ts} e) = record { least = omega arith; less = λ h. omega arith }
    shorter d_empty = record { least = omega arith; less = λ h. absurd (cc) }
    shorter (d_seq {r = r} {q = q} {ts = ts} {ms = ms} {ks = ks} x y) = shorter_seq (E r) (E q) ts ms ks (shorter x) (shorter y)
    shorter (d_left {r = r} {q = q} {ts = ts} {ks = ks} x) = let s = shorter x in record { least = s.least; less = λ h. s.less (left_false (E r) (E q) h) }
    shorter (d_right {r = r} {q = q} {ts = ts} {ks = ks} x) = let s = shorter x in record { least = s.least; less = λ h. s.less (right_false (E r) (E q) h) }
    shorter (d_act x) = let s = shorter x in record { least = s.least; less = s.less }
    shorter (d_call {n = n} x) = let s = shorter x in record { least = s.least; less = λ h. s.less (full n h) }

    abbrev pub at_depth : ℕ → (n : N) → List K.Token → Outcome K.Token (T n)
    at_depth = at K N T firsts nullable rule

    abbrev go : (f : ℕ) → {c : Code K N T} → Rule K N T c → List K.Token → Outcome K.Token (El K N T c)
    go f r = run K N T firsts nullable (at_depth f) r

    called : (n : N) (front : List K.Token) (o : Outcome K.Token (T n)) → Means K D N T rule firsts nullable (rule n) front o → Means K D N T rule firsts nullable (call n) front o
    called n front (Ok p) m = λ ks. d_call (m ks)
    called n front (Err _) m = (m.0, (m.1.0, λ ks. d_call (m.1.1 ks)))

    pub law_at : (f : ℕ) (n : N) (ts : List K.Token) → Law K D N T rule firsts nullable (call n) (at_depth f n) ts (at_depth f n ts)
    law_at zero n ts = record { is = refl; front = []; split = refl; local = λ ks l. refl; means = ahead K D N T rule firsts nullable (sample n) ts }
    law_at (suc f) n ts = let x = law K D N T rule firsts nullable sample (at_depth f) (law_at f) (rule n) ts in
        record { is = refl; front = x.front; split = x.split; local = x.local; means = called n x.front (at_depth (suc f) n ts) x.means }

    module _ (rank : N → ℕ) (top : ℕ) (ranks : (n : N) → rank n < top) (ranked : (n : N) → below K N T firsts nullable rank (rank n) (rule n) ≡ true) where
      abbrev B : {c : Code K N T} → ℕ → Rule K N T c → Bool
      B m r = below K N T firsts nullable rank m r

      below_top : {c : Code K N T} (r : Rule K N T c) → B top r ≡ true
      below_top (token k) = refl
      below_top (mark k) = refl
      below_top empty = refl
      below_top (seq r q) = and_true _ _ (below_top r) (or_right (not (E r)) _ (below_top q))
      below_top (alt r q) = and_true _ _ (below_top r) (below_top q)
      below_top (act f r) = below_top r
      below_top (call n) = lt-ltb (rank n) top (ranks n)

      abbrev need : (n : N) → List K.Token → ℕ
      need n ts = top * length ts + rank n

      module _ (f : ℕ) (env : (n : N) → List K.Token → Outcome K.Token (T n)) (b : ℕ) (agree : (m : N) (us : List K.Token) → need m us < b → at_depth f m us ≡ env m us) where
        abbrev to : {c : Code K N T} → Rule K N T c → List K.Token → Outcome K.Token (El K N T c)
        to r = run K N T firsts nullable env r

        seq_same : {c d : Code K N T} (r : Rule K N T c) (q : Rule K N T d) (ts : List K.Token) (m : ℕ) → m ≤ top → top * length ts + m ≤ b → not (E r) || B m q ≡ true
            → ((ms : List K.Token) (m : ℕ) → m ≤ top → top * length ms + m ≤ b → B m q ≡ true → go f q ms ≡ to q ms)
            → (o : Outcome K.Token (El K N T c)) → Law K D N T rule firsts nullable r (go f r) ts o
            → ◌≡◌ {A = Outcome K.Token (El K N T c × El K N T d)} (o >>= λ a ms. go f q ms >>= λ b ks. Ok ((a, b), ks)) (o >>= λ a ms. to q ms >>= λ b ks. Ok ((a, b), ks))
        seq_same r q ts m l h e qs (Err us) x = refl
        seq_same {c = c} {d = d} r q ts m l h e qs (Ok p) x =
            let s : Shorter (E r) ts p.1 = subst (λ us. Shorter (E r) us p.1) (sym x.split) (shorter (x.means p.1)) in
            let z = s.least in
            let same : go f q p.1 ≡ to q p.1 = elim (either_true (not (E r)) (B m q) e) [
              | inl k ↦ (let y : length p.1 < length ts = s.less (not_true (E r) k) in let w = mul-le-mul_left top y in qs p.1 top (omega arith) (omega arith) (below_top q))
              | inr k ↦ (let w = mul-le-mul_left top z in qs p.1 m l (omega arith) k)
            ] in
            ap (λ (o : Outcome K.Token (El K N T d)). ◌>>=◌ {B = El K N T c × El K N T d} o (λ b ks. Ok ((p.0, b), ks))) same

        same_run : {c : Code K N T} (r : Rule K N T c) (ts : List K.Token) (m : ℕ) → m ≤ top → top * length ts + m ≤ b → B m r ≡ true → go f r ts ≡ to r ts
        same_run (token k) ts m l h e = refl
        same_run (mark k) ts m l h e = refl
        same_run empty ts m l h e = refl
        same_run (seq {c = c} {d = d} r q) ts m l h e = let p = both_true (B m r) (not (E r) || B m q) e in
            seq_same r q ts m l h p.1 (same_run q) (go f r ts) (law K D N T rule firsts nullable sample (at_depth f) (law_at f) r ts)
            ∙ ap (λ (o : Outcome K.Token (El K N T c)). ◌>>=◌ {B = El K N T c × El K N T d} o (λ a ms. to q ms >>= λ b ks. Ok ((a, b), ks))) (same_run r ts m l h p.0)
        same_run (alt r q) ts m l h e = let p = both_true (B m r) (B m q) e in let x = same_run r ts m l h p.0 in let y = same_run q ts m l h p.1 in
            ap (λ (o : Outcome K.Token _). if has K (first K N T firsts nullable r) (next K ts) then o else go f q ts) x ∙ ap (λ (o : Outcome K.Token _). if has K (first K N T firsts nullable r) (next K ts) then to r ts else o) y
        same_run (act {c = c} {d = d} g r) ts m l h e = ap (λ (o : Outcome K.Token (El K N T c)). ◌>>=◌ {B = El K N T d} o (λ a ks. Ok (g a, ks))) (same_run r ts m l h e)
        same_run (call n) ts m l h e = agree n ts (let k = ltb-true (rank n) m e in omega arith)

      pub stable : (f g : ℕ) (n : N) (ts : List K.Token) → need n ts < f → need n ts < g → at_depth f n ts ≡ at_depth g n ts
      stable zero g n ts h k = absurd (omega arith)
      stable (suc f) zero n ts h k = absurd (omega arith)
      stable (suc f) (suc g) n ts h k = let r = ranks n in same_run f (at_depth g) (need n ts) (λ m us l. stable f g m us (omega arith) (omega arith)) (rule n) ts (rank n) (omega arith) (omega arith) (ranked n)

      abbrev read : (n : N) → List K.Token → Outcome K.Token (T n)
      read = read_by K N T firsts nullable rule rank top

      pub fix : (n : N) (ts : List K.Token) → read n ts ≡ run K N T firsts nullable read (rule n) ts
      fix n ts = let r = ranks n in same_run (need n ts) read (need n ts) (λ m us l. stable (need n ts) (suc (need m us)) m us l (omega arith)) (rule n) ts (rank n) (omega arith) (omega arith) (ranked n)
