-- Faults of a list of tokens and of its fronts.
use Rattle.std.proofs.Common.{◌≡◌, List, [], ◌∷◌, ◌++◌, length, ℕ, ◌≤◌, ◌+◌, refl, sym, ◌∙◌, ap, subst, append_assoc, append-nil, ◌⊎◌, inl, inr, length-append, arith}
use Rattle.fst_grammar.specs.Alphabet.{Alphabet, Like, examples}
use Rattle.fst_grammar.specs.Grammar.{Rule, tree}
use Rattle.fst_grammar.specs.Claims.{Spells, Begins, Stops, FaultAt}

-- two ways to part a list: at one place, or one part goes on where the other ends
pub record Beyond {A : Type 0} (front ks longer rest : List A) : Type 0 where
  pub t : A
  pub more : List A
  pub front_is : longer ≡ front ++ (t ∷ more)
  pub ks_is : ks ≡ t ∷ (more ++ rest)

grown : {A : Type 0} (x : A) (front ks longer rest : List A) → Beyond front ks longer rest → Beyond (x ∷ front) ks (x ∷ longer) rest
grown x front ks longer rest b = record { t = b.t; more = b.more; front_is = ap (λ us. x ∷ us) b.front_is; ks_is = b.ks_is }

head_same : {A : Type 0} (x y : A) (xs ys : List A) → x ∷ xs ≡ y ∷ ys → x ≡ y
head_same x y xs ys e = cc (e)

tail_same : {A : Type 0} (x y : A) (xs ys : List A) → x ∷ xs ≡ y ∷ ys → xs ≡ ys
tail_same x y xs ys e = cc (e)

pub parted : {A : Type 0} (f ks g ls : List A) → f ++ ks ≡ g ++ ls → (ks ≡ ls) ⊎ ((Beyond f ks g ls) ⊎ (Beyond g ls f ks))
parted [] ks [] ls e = inl e
parted [] ks (y ∷ g) ls e = inr (inl (record { t = y; more = g; front_is = refl; ks_is = e }))
parted (x ∷ f) ks [] ls e = inr (inr (record { t = x; more = f; front_is = refl; ks_is = sym e }))
parted (x ∷ f) ks (y ∷ g) ls e =
    let h = head_same x y (f ++ ks) (g ++ ls) e in
    elim (parted f ks g ls (tail_same x y (f ++ ks) (g ++ ls) e)) [
      | inl s ↦ inl s
      | inr (inl b) ↦ inr (inl (subst (λ y. Beyond (x ∷ f) ks (y ∷ g) ls) h (grown x f ks g ls b)))
      | inr (inr b) ↦ inr (inr (subst (λ y. Beyond (y ∷ g) ls (x ∷ f) ks) h (grown x g ls f ks b)))
    ]

like_head : {A : Type 0} (t : A) (xs ys us : List A) → Like (t ∷ xs) us → Like (t ∷ ys) us
like_head t xs ys [] l = l
like_head t xs ys (u ∷ us) l = l

module _ (K : Alphabet) (N : Type 0) (T : N → Type 0) (rule : (n : N) → Rule K N T (tree n)) where
  abbrev F : N → List K.Token → List K.Token → Type 0
  F = FaultAt K N T rule

  -- a fault at a token stays where more tokens follow
  pub longer : (n : N) (ts us : List K.Token) (t : K.Token) (ks : List K.Token) → F n ts (t ∷ ks) → F n (ts ++ us) (t ∷ (ks ++ us))
  longer n ts us t ks f = record {
    front = f.front;
    split = ap (λ vs. vs ++ us) f.split ∙ append_assoc f.front (t ∷ ks) us;
    begins = f.begins;
    stops = λ vs l. f.stops vs (like_head t (ks ++ us) ks vs l);
  }

  -- no fault stands within tokens that begin something
  no_begin : (n : N) (f ks g ls : List K.Token) → Stops K N T rule n f ks → Begins K N T rule n g → Beyond f ks g ls → ⊥
  no_begin n f ks g ls s (a, (kinds, d)) b =
      let vs = b.t ∷ (b.more ++ examples K kinds) in
      s vs (subst (λ x. Like x vs) (sym b.ks_is) refl) a
      (subst (λ x. Spells K N T rule n a x []) (ap (λ x. x ++ examples K kinds) b.front_is ∙ append_assoc f (b.t ∷ b.more) (examples K kinds)) d)

  -- a list has one fault
  pub one_fault : (n : N) (ts ks ls : List K.Token) → F n ts ks → F n ts ls → ks ≡ ls
  one_fault n ts ks ls f g = elim (parted f.front ks g.front ls (sym f.split ∙ g.split)) [
    | inl e ↦ e
    | inr (inl b) ↦ absurd (no_begin n f.front ks g.front ls f.stops g.begins b)
    | inr (inr b) ↦ absurd (no_begin n g.front ls f.front ks g.stops f.begins b)
  ]

  -- where a front begins something, the fault is behind it
  pub behind : (n : N) (front back ks : List K.Token) → Begins K N T rule n front → F n (front ++ back) ks → (more : List K.Token) × (back ≡ more ++ ks)
  behind n front back ks b f = elim (parted f.front ks front back (sym f.split)) [
    | inl e ↦ ([], sym e)
    | inr (inl x) ↦ absurd (no_begin n f.front ks front back f.stops b x)
    | inr (inr x) ↦ (x.t ∷ x.more, x.ks_is)
  ]

  -- what has a derivation begins something; so does what goes up to a fault at the end
  pub whole_begins : (n : N) (a : T n) (ts : List K.Token) → Spells K N T rule n a ts [] → Begins K N T rule n ts
  whole_begins n a ts d = (a, ([], subst (λ x. Spells K N T rule n a x []) (sym (append-nil ts)) d))

  pub end_begins : (n : N) (ts : List K.Token) → F n ts [] → Begins K N T rule n ts
  end_begins n ts f = subst (Begins K N T rule n) (sym (f.split ∙ append-nil f.front)) f.begins
