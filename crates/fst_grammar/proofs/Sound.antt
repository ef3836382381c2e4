-- What is read has K a derivation; up to a fault there is a front of one; and nothing depends on the tokens after the next.
use Rattle.std.proofs.Common.{◌≡◌, Bool, true, false, List, [], ◌∷◌, ◌++◌, refl, sym, ◌∙◌, ap, subst, append_assoc, Ok, Err, if◌then◌else◌}
use Rattle.std.proofs.lemmas.List.{map-append}
use Rattle.fst_grammar.specs.Alphabet.{Alphabet, Sound, Like, next, examples, has}
use Rattle.fst_grammar.specs.Grammar.{Code, El, Rule, pair, tree, token, mark, empty, seq, alt, act, call, Derives, d_token, d_mark, d_empty, d_seq, d_left, d_right, d_act, d_call}
use Rattle.fst_grammar.specs.Reading.{Outcome, ◌>>=◌, expect, first, run}

abbrev pub rest : {Tok A : Type 0} → Outcome Tok A → List Tok
rest (Ok p) = p.1
rest (Err ks) = ks

abbrev pub with_rest : {Tok A : Type 0} → List Tok → Outcome Tok A → Outcome Tok A
with_rest ks (Ok p) = Ok (p.0, ks)
with_rest ks (Err _) = Err ks

pub like_self : {A : Type 0} (ts : List A) → Like ts ts
like_self [] = tt
like_self (t ∷ ts) = refl

pub like_after : {A : Type 0} (front ts us : List A) → Like ts us → Like (front ++ ts) (front ++ us)
like_after [] ts us l = l
like_after (t ∷ front) ts us l = refl

module _ (K : Alphabet) where
  pub next_like : (ts us : List K.Token) → Like ts us → next K ts ≡ next K us
  next_like [] [] l = refl
  next_like (t ∷ ts) (u ∷ us) l = ap K.kind l
  next_like [] (u ∷ us) l = absurd l
  next_like (t ∷ ts) [] l = absurd l

  no_token : (k : K.Kind) (ks : List K.Token) → Like [] ks → expect K k ks ≡ Err ks
  no_token k [] l = refl
  no_token k (t ∷ ks) l = absurd l

  no_match : (k : K.Kind) (t : K.Token) (ts : List K.Token) → K.same (K.kind t) k ≡ false → (ks : List K.Token) → Like (t ∷ ts) ks → expect K k ks ≡ Err ks
  no_match k t ts e [] l = absurd l
  no_match k t ts e (u ∷ ks) l = let d : K.same (K.kind u) k ≡ false = subst (λ (v : K.Token). K.same (K.kind v) k ≡ false) l e in rw d refl

  module _ (D : Sound K) where
    examples_append : (xs ys : List K.Kind) (ks : List K.Token) → examples K (xs ++ ys) ++ ks ≡ examples K xs ++ (examples K ys ++ ks)
    examples_append xs ys ks = ap (λ us. us ++ ks) (map-append K.example xs ys) ∙ append_assoc (examples K xs) (examples K ys) ks

    module _ (N : Type 0) (T : N → Type 0) (rule : (n : N) → Rule K N T (tree n)) (firsts : N → List K.Kind) (nullable : N → Bool) where
      -- a list of kinds whose examples have a derivation by a right side
      pub record Sample {c : Code K N T} (r : Rule K N T c) : Type 0 where
        pub tree : El K N T c
        pub kinds : List K.Kind
        pub spelled : (ks : List K.Token) → Derives K N T rule c r tree (examples K kinds ++ ks) ks

      abbrev pub Means : {c : Code K N T} → Rule K N T c → List K.Token → Outcome K.Token (El K N T c) → Type 0
      Means {c = c} r front (Ok p) = (ks : List K.Token) → Derives K N T rule c r p.0 (front ++ ks) ks
      Means {c = c} r front (Err _) = (a : El K N T c) × ((z : List K.Kind) × ((ks : List K.Token) → Derives K N T rule c r a (front ++ (examples K z ++ ks)) ks))

      pub record Law {c : Code K N T} (r : Rule K N T c) (p : List K.Token → Outcome K.Token (El K N T c)) (ts : List K.Token) (o : Outcome K.Token (El K N T c)) : Type 0 where
        pub is : p ts ≡ o
        pub front : List K.Token
        pub split : ts ≡ front ++ rest o
        pub local : (ks : List K.Token) → Like (rest o) ks → p (front ++ ks) ≡ with_rest ks o
        pub means : Means r front o

      -- samples of right sides, from samples of their parts
      pub one_token : {k : K.Kind} → Sample (token k)
      one_token {k = k} = record { tree = K.example k; kinds = k ∷ []; spelled = λ ks. d_token (D.exemplary k) }

      pub one : {k : K.Kind} → Sample (mark k)
      one {k = k} = record { tree = K.place (K.example k); kinds = k ∷ []; spelled = λ ks. d_mark (D.exemplary k) }

      pub none : Sample empty
      none = record { tree = tt; kinds = []; spelled = λ ks. d_empty }

      pub both : {c d : Code K N T} {r : Rule K N T c} {q : Rule K N T d} → Sample r → Sample q → Sample (seq r q)
      both {c = c} {d = d} {r = r} {q = q} x y = record {
        tree = (x.tree, y.tree);
        kinds = x.kinds ++ y.kinds;
        spelled = λ ks.
            subst (λ us. Derives K N T rule (pair c d) (seq r q) (x.tree, y.tree) us ks) (sym (examples_append x.kinds y.kinds ks)) (d_seq (x.spelled (examples K y.kinds ++ ks)) (y.spelled ks));
      }

      pub left : {c : Code K N T} {r q : Rule K N T c} → Sample r → Sample (alt r q)
      left x = record { tree = x.tree; kinds = x.kinds; spelled = λ ks. d_left (x.spelled ks) }

      pub right : {c : Code K N T} {r q : Rule K N T c} → Sample q → Sample (alt r q)
      right x = record { tree = x.tree; kinds = x.kinds; spelled = λ ks. d_right (x.spelled ks) }

      pub made : {c d : Code K N T} {f : El K N T c → El K N T d} {r : Rule K N T c} → Sample r → Sample (act f r)
      made {f = f} x = record { tree = f x.tree; kinds = x.kinds; spelled = λ ks. d_act (x.spelled ks) }

      pub called : {n : N} → Sample (rule n) → Sample (call n)
      called x = record { tree = x.tree; kinds = x.kinds; spelled = λ ks. d_call (x.spelled ks) }

      -- what an outcome that fails at its first token means
      pub ahead : {c : Code K N T} {r : Rule K N T c} → Sample r → (ts : List K.Token) → Means r [] (Err ts)
      ahead x ts = (x.tree, (x.kinds, x.spelled))

      module _ (sample : (n : N) → Sample (call n)) where
        pub example : {c : Code K N T} (r : Rule K N T c) → Sample r
        example (token k) = one_token
        example (mark k) = one
        example empty = none
        example (seq r q) = both (example r) (example q)
        example (alt r q) = left (example r)
        example (act f r) = made (example r)
        example (call n) = sample n

        module _ (env : (n : N) → List K.Token → Outcome K.Token (T n)) (laws : (n : N) (ts : List K.Token) → Law (call n) (env n) ts (env n ts)) where
          abbrev go : {c : Code K N T} → Rule K N T c → List K.Token → Outcome K.Token (El K N T c)
          go r = run K N T firsts nullable env r

          token_at : (k : K.Kind) (t : K.Token) (ts : List K.Token) (b : Bool) → K.same (K.kind t) k ≡ b → Law (token k) (go (token k)) (t ∷ ts) (if b then Ok (t, ts) else Err (t ∷ ts))
          token_at k t ts true e = record { is = rw e refl; front = t ∷ []; split = refl; local = λ ks l. rw e refl; means = λ ks. d_token (D.equal (K.kind t) k e) }
          token_at k t ts false e = record { is = rw e refl; front = []; split = refl; local = no_match k t ts e; means = ahead (example (token k)) (t ∷ ts) }

          token_law : (k : K.Kind) (ts : List K.Token) → Law (token k) (go (token k)) ts (go (token k) ts)
          token_law k [] = record { is = refl; front = []; split = refl; local = no_token k; means = ahead (example (token k)) [] }
          token_law k (t ∷ ts) = token_at k t ts (K.same (K.kind t) k) refl

          mark_at : (k : K.Kind) (t : K.Token) (ts : List K.Token) (b : Bool) → K.same (K.kind t) k ≡ b → Law (mark k) (go (mark k)) (t ∷ ts) (◌>>=◌ {A = K.Token} {B = K.Place} (if b then Ok (t, ts) else Err (t ∷ ts)) (λ u ks. Ok (K.place u, ks)))
          mark_at k t ts true e = record { is = rw e refl; front = t ∷ []; split = refl; local = λ ks l. rw e refl; means = λ ks. d_mark (D.equal (K.kind t) k e) }
          mark_at k t ts false e = record { is = rw e refl; front = []; split = refl; local = λ ks l. let d = no_match k t ts e ks l in rw d refl; means = ahead (example (mark k)) (t ∷ ts) }

          mark_law : (k : K.Kind) (ts : List K.Token) → Law (mark k) (go (mark k)) ts (go (mark k) ts)
          mark_law k [] = record { is = refl; front = []; split = refl; local = λ ks l. let d = no_token k ks l in rw d refl; means = ahead (example (mark k)) [] }
          mark_law k (t ∷ ts) = mark_at k t ts (K.same (K.kind t) k) refl

          seq_ok : {c d : Code K N T} (r : Rule K N T c) (q : Rule K N T d) (ts : List K.Token) (p : El K N T c × List K.Token) → Law r (go r) ts (Ok p)
              → (o : Outcome K.Token (El K N T d)) → Law q (go q) p.1 o → Law (seq r q) (go (seq r q)) ts (o >>= λ b ks. Ok ((p.0, b), ks))
          seq_ok {c = c} {d = d} r q ts p x (Err ks) y = record {
            is = let e = x.is in let f = y.is in rw (e, f) refl;
            front = x.front ++ y.front;
            split = x.split ∙ ap (λ us. x.front ++ us) y.split ∙ sym (append_assoc x.front y.front ks);
            local = λ us l. let e = x.local (y.front ++ us) (subst (λ v. Like v (y.front ++ us)) (sym y.split) (like_after y.front ks us l)) in
                let f = y.local us l in ap (go (seq r q)) (append_assoc x.front y.front us) ∙ rw (e, f) refl;
            means = let m = y.means in ((p.0, m.0), (m.1.0, λ us. subst (λ vs. Derives K N T rule (pair c d) (seq r q) (p.0, m.0) vs us) (sym (append_assoc x.front y.front (examples K m.1.0 ++ us))) (d_seq (x.means (y.front ++ (examples K m.1.0 ++ us))) (m.1.1 us))));
          }
          seq_ok {c = c} {d = d} r q ts p x (Ok w) y = record {
            is = let e = x.is in let f = y.is in rw (e, f) refl;
            front = x.front ++ y.front;
            split = x.split ∙ ap (λ us. x.front ++ us) y.split ∙ sym (append_assoc x.front y.front w.1);
            local = λ us l. let e = x.local (y.front ++ us) (subst (λ v. Like v (y.front ++ us)) (sym y.split) (like_after y.front w.1 us l)) in
                let f = y.local us l in ap (go (seq r q)) (append_assoc x.front y.front us) ∙ rw (e, f) refl;
            means = λ us. subst (λ vs. Derives K N T rule (pair c d) (seq r q) (p.0, w.0) vs us) (sym (append_assoc x.front y.front us)) (d_seq (x.means (y.front ++ us)) (y.means us));
          }

          seq_law : {c d : Code K N T} (r : Rule K N T c) (q : Rule K N T d) (ts : List K.Token) (o : Outcome K.Token (El K N T c)) → Law r (go r) ts o
              → ((ms : List K.Token) → Law q (go q) ms (go q ms))
              → Law (seq r q) (go (seq r q)) ts (o >>= λ a ms. go q ms >>= λ b ks. Ok ((a, b), ks))
          seq_law {c = c} {d = d} r q ts (Err ks) x y = record {
            is = let e = x.is in rw e refl;
            front = x.front;
            split = x.split;
            local = λ us l. let e = x.local us l in rw e refl;
            means = let m = x.means in let n = example q in (
              (m.0, n.tree),
              (
                m.1.0 ++ n.kinds,
                λ us.
                    subst (λ vs. Derives K N T rule (pair c d) (seq r q) (m.0, n.tree) (x.front ++ vs) us) (sym (examples_append m.1.0 n.kinds us)) (d_seq (m.1.1 (examples K n.kinds ++ us)) (n.spelled us)),
              ),
            );
          }
          seq_law r q ts (Ok p) x y = seq_ok r q ts p x (go q p.1) (y p.1)

          left_means : {c : Code K N T} (r q : Rule K N T c) (front : List K.Token) (o : Outcome K.Token (El K N T c)) → Means r front o → Means (alt r q) front o
          left_means r q front (Ok p) m = λ ks. d_left (m ks)
          left_means r q front (Err _) m = (m.0, (m.1.0, λ ks. d_left (m.1.1 ks)))

          right_means : {c : Code K N T} (r q : Rule K N T c) (front : List K.Token) (o : Outcome K.Token (El K N T c)) → Means q front o → Means (alt r q) front o
          right_means r q front (Ok p) m = λ ks. d_right (m ks)
          right_means r q front (Err _) m = (m.0, (m.1.0, λ ks. d_right (m.1.1 ks)))

          same_choice : {c : Code K N T} (r : Rule K N T c) (ts front us ks : List K.Token) (b : Bool) → has K (first K N T firsts nullable r) (next K ts) ≡ b → ts ≡ front ++ us → Like us ks
              → has K (first K N T firsts nullable r) (next K (front ++ ks)) ≡ b
          same_choice r ts front us ks b e s l = ap (has K (first K N T firsts nullable r)) (sym (next_like (front ++ us) (front ++ ks) (like_after front us ks l)) ∙ ap (next K) (sym s)) ∙ e

          alt_law : {c : Code K N T} (r q : Rule K N T c) (ts : List K.Token) (b : Bool) → has K (first K N T firsts nullable r) (next K ts) ≡ b → Law r (go r) ts (go r ts) → Law q (go q) ts (go q ts)
              → Law (alt r q) (go (alt r q)) ts (if b then go r ts else go q ts)
          alt_law r q ts true e x y = record {
            is = rw e refl;
            front = x.front;
            split = x.split;
            local = λ ks l. let d = same_choice r ts x.front (rest (go r ts)) ks true e x.split l in rw d (x.local ks l);
            means = left_means r q x.front (go r ts) x.means;
          }
          alt_law r q ts false e x y = record {
            is = rw e refl;
            front = y.front;
            split = y.split;
            local = λ ks l. let d = same_choice r ts y.front (rest (go q ts)) ks false e y.split l in rw d (y.local ks l);
            means = right_means r q y.front (go q ts) y.means;
          }

          act_law : {c d : Code K N T} (f : El K N T c → El K N T d) (r : Rule K N T c) (ts : List K.Token) (o : Outcome K.Token (El K N T c)) → Law r (go r) ts o
              → Law (act f r) (go (act f r)) ts (o >>= λ a ks. Ok (f a, ks))
          act_law f r ts (Ok p) x = record { is = let e = x.is in rw e refl; front = x.front; split = x.split; local = λ ks l. let e = x.local ks l in rw e refl; means = λ ks. d_act (x.means ks) }
          act_law f r ts (Err us) x = record {
            is = let e = x.is in rw e refl;
            front = x.front;
            split = x.split;
            local = λ ks l. let e = x.local ks l in rw e refl;
            means = let m = x.means in (f m.0, (m.1.0, λ ks. d_act (m.1.1 ks)));
          }

          pub law : {c : Code K N T} (r : Rule K N T c) (ts : List K.Token) → Law r (go r) ts (go r ts)
          law (token k) ts = token_law k ts
          law (mark k) ts = mark_law k ts
          law empty ts = record { is = refl; front = []; split = refl; local = λ ks l. refl; means = λ ks. d_empty }
          law (seq r q) ts = seq_law r q ts (go r ts) (law r ts) (law q)
          law (alt r q) ts = alt_law r q ts (has K (first K N T firsts nullable r) (next K ts)) refl (law r ts) (law q ts)
          law (act f r) ts = act_law f r ts (go r ts) (law r ts)
          law (call n) ts = laws n ts
