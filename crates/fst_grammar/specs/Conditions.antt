-- The conditions under which the next token settles each choice.
use Rattle.std.specs.Prelude.{◌≡◌, ◌<◌, ℕ, nat_lt, Bool, true, false, not, ◌||◌, ◌&&◌, if◌then◌else◌, List, ◌++◌}
use Rattle.fst_grammar.specs.Alphabet.{Alphabet, within, apart}
use Rattle.fst_grammar.specs.Grammar.{Code, Rule, tree, token, mark, empty, seq, alt, act, call}
use Rattle.fst_grammar.specs.Reading.{may_be_empty, first}

module _ (K : Alphabet) (N : Type 0) (T : N → Type 0) (firsts : N → List K.Kind) (nullable : N → Bool) where
  -- the productions that are called before a token is taken have ranks below this one
  module _ (rank : N → ℕ) where
    abbrev pub below : {c : Code K N T} → ℕ → Rule K N T c → Bool
    below m (token k) = true
    below m (mark k) = true
    below m empty = true
    below m (seq r q) = below m r && (not (may_be_empty K N T firsts nullable r) || below m q)
    below m (alt r q) = below m r && below m q
    below m (act f r) = below m r
    below m (call n) = nat_lt (rank n) m

  -- the tokens with which a right side may begin where one of fs follows it
  abbrev pub starts : {c : Code K N T} → List K.Kind → Rule K N T c → List K.Kind
  starts fs r = if may_be_empty K N T firsts nullable r then first K N T firsts nullable r ++ fs else first K N T firsts nullable r

  module _ (follow : N → List K.Kind) where
    -- the next token settles each choice in a right side, where one of fs follows it
    abbrev pub settles : {c : Code K N T} → List K.Kind → Rule K N T c → Bool
    settles fs (token k) = true
    settles fs (mark k) = true
    settles fs empty = true
    settles fs (seq r q) = settles (starts fs q) r && settles fs q
    settles fs (alt r q) = not (may_be_empty K N T firsts nullable r) && apart K (first K N T firsts nullable r) (starts fs q) && settles fs r && settles fs q
    settles fs (act f r) = settles fs r
    settles fs (call n) = within K fs (follow n)

    -- what the tables must say of a production
    abbrev pub is_good : (n : N) → Rule K N T (tree n) → Bool
    is_good n r = settles (follow n) r && within K (first K N T firsts nullable r) (firsts n) && (nullable n || not (may_be_empty K N T firsts nullable r))

    -- The tables `firsts`, `nullable`, `follow` and `rank` are right for the productions; `top` is above all ranks.
    pub record Settled (rule : (n : N) → Rule K N T (tree n)) (rank : N → ℕ) (top : ℕ) : Type 0 where
      pub good : (n : N) → is_good n (rule n) ≡ true
      pub full : (n : N) → nullable n ≡ false → may_be_empty K N T firsts nullable (rule n) ≡ false
      pub ranked : (n : N) → below rank (rank n) (rule n) ≡ true
      pub ranks : (n : N) → rank n < top
      pub follows : (n : N) → within K (follow n) (follow n) ≡ true
