-- What a production may be, and what has a derivation.
use Rattle.std.specs.Prelude.{◌≡◌, List, [], ◌∷◌, Option, Some, None}
use Rattle.fst_grammar.specs.Alphabet.{Alphabet}

-- N are the nonterminals, and T is the tree of each.
module _ (K : Alphabet) (N : Type 0) (T : N → Type 0) where
  -- what a right side gives
  pub data Code : Type 0 where
    a_token : Code
    a_place : Code
    nothing : Code
    pair : Code → Code → Code
    maybe : Code → Code
    tree : N → Code

  abbrev pub El : Code → Type 0
  El a_token = K.Token
  El a_place = K.Place
  El nothing = Unit {0}
  El (pair c d) = El c × El d
  El (maybe c) = Option (El c)
  El (tree n) = T n

  -- The right side of a production: a token of a kind; the place of one; nothing; two right sides in order; one of two; one with its tree
  -- put through a function; a nonterminal.
  pub data Rule : Code → Type 0 where
    token : K.Kind → Rule a_token
    mark : K.Kind → Rule a_place
    empty : Rule nothing
    seq : {c d : Code} → Rule c → Rule d → Rule (pair c d)
    alt : {c : Code} → Rule c → Rule c → Rule c
    act : {c d : Code} → (El c → El d) → Rule c → Rule d
    call : (n : N) → Rule (tree n)

  -- [r]
  abbrev pub opt : {c : Code} → Rule c → Rule (maybe c)
  opt r = alt (act (λ a. Some a) r) (act (λ _. None) empty)

  module _ (rule : (n : N) → Rule (tree n)) where
    -- The tokens ts, up to the rest ks, have a derivation by a right side, which gives a.
    pub data Derives : (c : Code) → Rule c → El c → List K.Token → List K.Token → Type 0 where
      d_token : {k : K.Kind} {t : K.Token} {ts : List K.Token} → K.kind t ≡ k → Derives a_token (token k) t (t ∷ ts) ts
      d_mark : {k : K.Kind} {t : K.Token} {ts : List K.Token} → K.kind t ≡ k → Derives a_place (mark k) (K.place t) (t ∷ ts) ts
      d_empty : {ts : List K.Token} → Derives nothing empty tt ts ts
      d_seq : {c d : Code} {r : Rule c} {q : Rule d} {a : El c} {b : El d} {ts ms ks : List K.Token} → Derives c r a ts ms → Derives d q b ms ks → Derives (pair c d) (seq r q) (a, b) ts ks
      d_left : {c : Code} {r q : Rule c} {a : El c} {ts ks : List K.Token} → Derives c r a ts ks → Derives c (alt r q) a ts ks
      d_right : {c : Code} {r q : Rule c} {a : El c} {ts ks : List K.Token} → Derives c q a ts ks → Derives c (alt r q) a ts ks
      d_act : {c d : Code} {f : El c → El d} {r : Rule c} {a : El c} {ts ks : List K.Token} → Derives c r a ts ks → Derives d (act f r) (f a) ts ks
      d_call : {n : N} {a : T n} {ts ks : List K.Token} → Derives (tree n) (rule n) a ts ks → Derives (tree n) (call n) a ts ks
