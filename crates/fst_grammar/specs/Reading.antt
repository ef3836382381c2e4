-- Reading by one token of lookahead.
use Rattle.std.specs.Prelude.{ℕ, zero, suc, ◌+◌, ◌*◌, length, Bool, true, false, ◌||◌, ◌&&◌, if◌then◌else◌, List, [], ◌∷◌, ◌++◌, Result, Ok, Err}
use Rattle.fst_grammar.specs.Alphabet.{Alphabet, next, has}
use Rattle.fst_grammar.specs.Grammar.{Code, El, Rule, tree, token, mark, empty, seq, alt, act, call}

-- A tree and the tokens after it, or the tokens from the fault on.
abbrev pub Outcome : Type 0 → Type 0 → Type 0
Outcome Tok A = Result (A × List Tok) (List Tok)

infixl 10 ◌>>=◌
abbrev pub ◌>>=◌ : {Tok A B : Type 0} → Outcome Tok A → (A → List Tok → Outcome Tok B) → Outcome Tok B
(Ok p) >>= f = f p.0 p.1
(Err e) >>= f = Err e

abbrev pub expect : (K : Alphabet) → K.Kind → List K.Token → Outcome K.Token K.Token
expect K k [] = Err []
expect K k (t ∷ ts) = if K.same (K.kind t) k then Ok (t, ts) else Err (t ∷ ts)

-- firsts: the tokens with which each nonterminal may begin; nullable: whether it may be empty
module _ (K : Alphabet) (N : Type 0) (T : N → Type 0) (firsts : N → List K.Kind) (nullable : N → Bool) where
  abbrev pub may_be_empty : {c : Code K N T} → Rule K N T c → Bool
  may_be_empty (token k) = false
  may_be_empty (mark k) = false
  may_be_empty empty = true
  may_be_empty (seq r q) = may_be_empty r && may_be_empty q
  may_be_empty (alt r q) = may_be_empty r || may_be_empty q
  may_be_empty (act f r) = may_be_empty r
  may_be_empty (call n) = nullable n

  abbrev pub first : {c : Code K N T} → Rule K N T c → List K.Kind
  first (token k) = k ∷ []
  first (mark k) = k ∷ []
  first empty = []
  first (seq r q) = if may_be_empty r then first r ++ first q else first r
  first (alt r q) = first r ++ first q
  first (act f r) = first r
  first (call n) = firsts n

  -- what reading by a right side gives, where `env` reads the nonterminals
  abbrev pub run : ((n : N) → List K.Token → Outcome K.Token (T n)) → {c : Code K N T} → Rule K N T c → List K.Token → Outcome K.Token (El K N T c)
  run env (token k) ts = expect K k ts
  run env (mark k) ts = expect K k ts >>= λ t ks. Ok (K.place t, ks)
  run env empty ts = Ok (tt, ts)
  run env (seq r q) ts = run env r ts >>= λ a ms. run env q ms >>= λ b ks. Ok ((a, b), ks)
  run env (alt r q) ts = if has K (first r) (next K ts) then run env r ts else run env q ts
  run env (act f r) ts = run env r ts >>= λ a ks. Ok (f a, ks)
  run env (call n) ts = env n ts

  module _ (rule : (n : N) → Rule K N T (tree n)) where
    -- reading, with a bound on how deep the productions are nested
    abbrev pub at : ℕ → (n : N) → List K.Token → Outcome K.Token (T n)
    at zero n ts = Err ts
    at (suc f) n ts = run (at f) (rule n) ts

    module _ (rank : N → ℕ) (top : ℕ) where
      -- reading, nested as deep as the tokens may need
      abbrev pub read_by : (n : N) → List K.Token → Outcome K.Token (T n)
      read_by n ts = at (suc (top * length ts + rank n)) n ts
