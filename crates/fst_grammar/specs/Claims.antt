-- Derivations of whole lists of tokens, and the place of a fault.
use Rattle.std.specs.Prelude.{◌≡◌, List, [], ◌++◌}
use Rattle.fst_grammar.specs.Alphabet.{Alphabet, Like, examples}
use Rattle.fst_grammar.specs.Grammar.{Rule, tree, call, Derives}

module _ (K : Alphabet) (N : Type 0) (T : N → Type 0) (rule : (n : N) → Rule K N T (tree n)) where
  -- The tokens ts, up to ks, have a derivation, which gives this tree.
  abbrev pub Spells : (n : N) → T n → List K.Token → List K.Token → Type 0
  Spells n = Derives K N T rule (tree n) (call n)

  -- With examples of some kinds behind them these tokens have a derivation.
  abbrev pub Begins : N → List K.Token → Type 0
  Begins n front = (a : T n) × ((kinds : List K.Kind) × Spells n a (front ++ examples K kinds) [])

  -- With the first token of ks after the front, or with the end there if ks is empty, nothing has a derivation.
  abbrev pub Stops : N → List K.Token → List K.Token → Type 0
  Stops n front ks = (us : List K.Token) → Like ks us → (a : T n) → Spells n a (front ++ us) [] → ⊥

  -- The fault of ts is where ks begins.
  pub record FaultAt (n : N) (ts ks : List K.Token) : Type 0 where
    pub front : List K.Token
    pub split : ts ≡ front ++ ks
    pub begins : Begins n front
    pub stops : Stops n front ks
