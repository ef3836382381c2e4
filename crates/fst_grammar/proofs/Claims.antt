-- Reading by the tables is exact, and a fault is at the first token with which nothing goes on.
use Rattle.std.proofs.Common.{◌≡◌, Bool, true, List, [], ◌∷◌, ◌++◌, length, refl, sym, ◌∙◌, ap, subst, ℕ, suc, append-nil, append_assoc, ◌+◌, ◌*◌, ◌<◌, Ok, Err, arith}
use Rattle.std.proofs.lemmas.List.{append_cancel_right}
use Rattle.fst_grammar.specs.Alphabet.{Alphabet, Sound, Like, next, has, examples}
use Rattle.fst_grammar.specs.Grammar.{Rule, tree, call}
use Rattle.fst_grammar.specs.Reading.{Outcome, at, read_by, run}
use Rattle.fst_grammar.specs.Conditions.{Settled}
use Rattle.fst_grammar.specs.Claims as C
use Rattle.fst_grammar.specs.Claims.{FaultAt}
use Rattle.fst_grammar.proofs.Sound.{rest, with_rest, Sample, Means, Law}
use Rattle.fst_grammar.proofs.Bounded.{stable, fix, law_at}
use Rattle.fst_grammar.proofs.Complete.{again}

abbrev pub tree_or : {Tok A : Type 0} → A → Outcome Tok A → A
tree_or a (Ok p) = p.0
tree_or a (Err _) = a

no_tokens : {A : Type 0} (ks : List A) → length ks ≡ 0 → ks ≡ []
no_tokens [] e = refl
no_tokens (t ∷ ks) e = absurd (omega (arith, e))

module _ (K : Alphabet) (D : Sound K) (N : Type 0) (T : N → Type 0) (rule : (n : N) → Rule K N T (tree n)) (firsts : N → List K.Kind) (nullable : N → Bool)
    (follow : N → List K.Kind) (rank : N → ℕ) (top : ℕ) (settled : Settled K N T firsts nullable follow rule rank top)
    (sample : (n : N) → Sample K D N T rule firsts nullable (call n)) where
  abbrev reads : (n : N) → List K.Token → Outcome K.Token (T n)
  reads = read_by K N T firsts nullable rule rank top

  abbrev Spells : (n : N) → T n → List K.Token → List K.Token → Type 0
  Spells = C.Spells K N T rule

  abbrev L : (n : N) → (List K.Token → Outcome K.Token (T n)) → List K.Token → Outcome K.Token (T n) → Type 0
  L n = Law K D N T rule firsts nullable (call n)

  abbrev deep : ℕ → (n : N) → List K.Token → Outcome K.Token (T n)
  deep = at K N T firsts nullable rule

  abbrev needs : N → List K.Token → ℕ
  needs n ts = top * length ts + rank n

  pub opens : (n : N) (ts : List K.Token) → reads n ts ≡ run K N T firsts nullable reads (rule n) ts
  opens = fix K D N T rule firsts nullable settled.full sample rank top settled.ranks settled.ranked

  reads_deep : (f : ℕ) (n : N) (ts : List K.Token) → needs n ts < f → deep f n ts ≡ reads n ts
  reads_deep f n ts h = stable K D N T rule firsts nullable settled.full sample rank top settled.ranks settled.ranked f (suc (needs n ts)) n ts h (omega arith)

  -- the law at a depth that is enough for two lists
  local_at : (n : N) (ts front ks : List K.Token) → ts ≡ front ++ rest (reads n ts) → Like (rest (reads n ts)) ks → reads n (front ++ ks) ≡ with_rest ks (reads n ts)
  local_at n ts front ks s l =
      let f : ℕ = suc (needs n ts + needs n (front ++ ks)) in
      let law = law_at K D N T rule firsts nullable settled.full sample f n ts in
      let e : deep f n ts ≡ reads n ts = reads_deep f n ts (omega arith) in
      let same : law.front ≡ front = append_cancel_right law.front front (rest (reads n ts)) (subst (λ (o : Outcome K.Token (T n)). law.front ++ rest o ≡ front ++ rest (reads n ts)) e (sym law.split ∙ s)) in
      let here = law.local ks (subst (λ (o : Outcome K.Token (T n)). Like (rest o) ks) (sym e) l) in
      sym (reads_deep f n (front ++ ks) (omega arith))
      ∙ subst (λ us. deep f n (us ++ ks) ≡ with_rest ks (deep f n ts)) same here
      ∙ ap (with_rest ks) e

  pub law_of : (n : N) (ts : List K.Token) → L n (reads n) ts (reads n ts)
  law_of n ts =
      let f : ℕ = suc (needs n ts) in
      let law = law_at K D N T rule firsts nullable settled.full sample f n ts in
      let e : deep f n ts ≡ reads n ts = reads_deep f n ts (omega arith) in
      let s : ts ≡ law.front ++ rest (reads n ts) = law.split ∙ ap (λ (o : Outcome K.Token (T n)). law.front ++ rest o) e in
      record {
        is = refl;
        front = law.front;
        split = s;
        local = λ ks l. local_at n ts law.front ks s l;
        means = subst (λ (o : Outcome K.Token (T n)). Means K D N T rule firsts nullable (call n) law.front o) e law.means;
      }

  -- what has a derivation is read, where a token that may follow comes next
  pub complete : (n : N) (a : T n) (ts ks : List K.Token) → Spells n a ts ks → has K (follow n) (next K ks) ≡ true → reads n ts ≡ Ok (a, ks)
  complete n a ts ks d h = again K D N T rule firsts nullable follow settled.good reads opens {r = call n} (follow n) d (settled.follows n) h

  -- a token list has one tree
  pub one_tree : (n : N) (a b : T n) (ts : List K.Token) → has K (follow n) K.End ≡ true → Spells n a ts [] → Spells n b ts [] → a ≡ b
  one_tree n a b ts h x y = let p = complete n a ts [] x h in let q = complete n b ts [] y h in ap (tree_or a) (sym p ∙ q)

  pub sound : (n : N) (a : T n) (ts ks : List K.Token) → reads n ts ≡ Ok (a, ks) → Spells n a ts ks
  sound n a ts ks e = let law = law_of n ts in
      subst (λ us. Spells n a us ks) (sym (law.split ∙ ap (λ (o : Outcome K.Token (T n)). law.front ++ rest o) e)) (subst (λ (o : Outcome K.Token (T n)). Means K D N T rule firsts nullable (call n) law.front o) e law.means ks)

  stops_err : (n : N) (ts front ks : List K.Token) → has K (follow n) K.End ≡ true → ts ≡ front ++ ks → reads n ts ≡ Err ks → C.Stops K N T rule n front ks
  stops_err n ts front ks h s e us l a d =
      let p = local_at n ts front us (s ∙ ap (λ (o : Outcome K.Token (T n)). front ++ rest o) (sym e)) (subst (λ (o : Outcome K.Token (T n)). Like (rest o) us) (sym e) l) in
      let q = p ∙ ap (λ (o : Outcome K.Token (T n)). with_rest us o) e in
      let r = complete n a (front ++ us) [] d h in cc (q, r)

  pub fault : (n : N) (ts ks : List K.Token) → has K (follow n) K.End ≡ true → reads n ts ≡ Err ks → FaultAt K N T rule n ts ks
  fault n ts ks h e = let law = law_of n ts in
      let s : ts ≡ law.front ++ ks = law.split ∙ ap (λ (o : Outcome K.Token (T n)). law.front ++ rest o) e in
      let m = subst (λ (o : Outcome K.Token (T n)). Means K D N T rule firsts nullable (call n) law.front o) e law.means in
      record {
        front = law.front;
        split = s;
        begins = (m.0, (m.1.0, subst (λ us. Spells n m.0 (law.front ++ us) []) (append-nil (examples K m.1.0)) (m.1.1 [])));
        stops = stops_err n ts law.front ks h s e;
      }

  no_end : (n : N) (b a : T n) (t : K.Token) (ks us : List K.Token) → Like (t ∷ ks) us → ◌≡◌ {A = Outcome K.Token (T n)} (Ok (b, us)) (Ok (a, [])) → ⊥
  no_end n b a t ks [] l e = l
  no_end n b a t ks (u ∷ us) l e = let f = ap rest e in cc (f)

  -- a tree, and then a token too many
  pub left_over : (n : N) (b : T n) (ts : List K.Token) (t : K.Token) (ks : List K.Token) → has K (follow n) K.End ≡ true → reads n ts ≡ Ok (b, t ∷ ks) → FaultAt K N T rule n ts (t ∷ ks)
  left_over n b ts t ks h e = let law = law_of n ts in
      let s : ts ≡ law.front ++ (t ∷ ks) = law.split ∙ ap (λ (o : Outcome K.Token (T n)). law.front ++ rest o) e in
      let m = subst (λ (o : Outcome K.Token (T n)). Means K D N T rule firsts nullable (call n) law.front o) e law.means in
      record {
        front = law.front;
        split = s;
        begins = (b, ([], m []));
        stops = λ us l a d.
            let p = local_at n ts law.front us (s ∙ ap (λ (o : Outcome K.Token (T n)). law.front ++ rest o) (sym e)) (subst (λ (o : Outcome K.Token (T n)). Like (rest o) us) (sym e) l) in
            let q = p ∙ ap (λ (o : Outcome K.Token (T n)). with_rest us o) e in
            no_end n b a t ks us l (sym q ∙ complete n a (law.front ++ us) [] d h);
      }
