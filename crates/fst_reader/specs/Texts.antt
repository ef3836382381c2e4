-- What is read of a text that holds texts of its kind, from what reading as such a text gives.
use Rattle.std.specs.Prelude.{◌≡◌, ℕ, ◌<◌, false, List, [], ◌∷◌, length, Result, Ok, OnOk}
use denote.Ref.{MutBor}
use Rattle.fst_base.specs.declared.place.Pos.{Pos}
use Rattle.fst_grammar.specs.Alphabet.{has, next}
use Rattle.fst_grammar.specs.Reading.{Outcome, ◌>>=◌}
use Rattle.fst_syntax.specs.declared.binding.Binding.{Binding}
use Rattle.fst_syntax.specs.declared.stop.Stop.{Stop}
use Rattle.fst_syntax.specs.declared.terminal.Terminal.{Terminal}
use Rattle.fst_syntax.specs.declared.terminal.Terminal.TheVariants as k
use Rattle.fst_syntax.specs.Tokens.{Token, alphabet}
use Rattle.fst_syntax.specs.Trees.{Tree}
use Rattle.fst_syntax.specs.Productions as n
use Rattle.fst_syntax.specs.Reading.{Reads, reads, takes, behind, listing}
use Rattle.fst_trees.specs.declared.pattern.ArmTree.{ArmTree}

-- what reading gives
abbrev pub Reading : Type 0 → Type 0
Reading A = List Token → Outcome Token A

-- one reading and then another
abbrev pub both : {A B : Type 0} → Reading A → Reading B → Reading (A × B)
both r q ts = r ts >>= λ a ms. q ms >>= λ b ks. Ok ((a, b), ks)

-- what is read, put through a function
abbrev pub made : {A B : Type 0} → (A → B) → Reading A → Reading B
made f r ts = r ts >>= λ a ks. Ok (f a, ks)

-- behind a mark or a word, and before one
abbrev pub after : {A : Type 0} → Terminal → Reading A → Reading A
after k r = made (λ p. p.1) (both (takes k) r)

abbrev pub before : {A : Type 0} → Reading A → Terminal → Reading A
before r k = made (λ p. p.0) (both r (takes k))

module _ {A : Type 0} (text : Reading A) where
  -- the two texts behind a condition
  abbrev pub two : Reading (A × A)
  two = after k.Then (both text (after k.Else text))

  -- a condition with its two texts
  abbrev pub branches : Reading (Tree × (A × A))
  branches = after k.If (both (reads (n.term false)) two)

  -- a text in braces
  abbrev pub braced : Reading A
  braced = after k.LeftBrace (before text k.RightBrace)

  -- an arm of a match
  abbrev pub arm : Reading (ArmTree A)
  arm = made (λ p. record { at = p.0.at; con = p.0.con; names = p.0.names; body = p.1 }) (after k.Bar (both (reads n.pattern) (after k.Arrow text)))

-- the arms of a match between its words
abbrev pub with_arms : {A : Type 0} → Reading (List (ArmTree A)) → Reading (List (ArmTree A))
with_arms arms = after k.With (before arms k.EndWord)

-- the place of a match, what it looks at, and its arms
abbrev pub cases : {A : Type 0} → Reading (List (ArmTree A)) → Reading (Pos × (Tree × List (ArmTree A)))
cases arms = both (takes k.Match) (both (reads (n.term false)) (with_arms arms))

-- the part that a name is bound to
abbrev pub bound : {B : Type 0} → Reading B → Reading B
bound part = after k.Equal (before part k.In)

-- a name, its sort and the part that it is bound to
abbrev pub binding : {B : Type 0} → Reading B → Reading (Binding B)
binding part = made (λ p. record { name = p.0; sort = p.1.0; part = p.1.1 }) (both (reads n.binder) (both (reads n.annotation) (bound part)))

-- a binding with the text behind it
abbrev pub let_in : {A B : Type 0} → Reading (Binding B) → Reading A → Reading (Binding B × A)
let_in names text = after k.Let (both names text)

-- A kind of text with its parts, and what each of its readings is by the others.
pub record Kind (A B : Type 0) : Type 0 where
  pub text : Reading A
  pub part : Reading B
  pub names : Reading (Binding B)
  pub arm : Reading (ArmTree A)
  pub arms : Reading (List (ArmTree A))
  pub arms_more : Reading (List (ArmTree A))
  pub names_open : (ts : List Token) → names ts ≡ binding part ts
  pub arm_opens : (ts : List Token) → arm ts ≡ Rattle.fst_reader.specs.Texts.arm text ts
  pub arms_open : (ts : List Token) → arms ts ≡ (arm ts >>= λ a us. behind (a ∷ []) (arms_more us))
  pub arms_list : (ts : List Token) → arms_more ts ≡ listing (has alphabet (k.Bar ∷ []) (next alphabet ts)) (arm ts) arms_more ts

-- A function value that reads a text of at most so many tokens.
pub record Nests {A : Type 0} (text : Reading A) (room : ℕ) (pre : MutBor (List Token) → ℕ → Type 0) (post : MutBor (List Token) → ℕ → Result A Stop → MutBor (List Token) → Type 0) : Type 0 where
  pub callable : (old : MutBor (List Token)) → length old.now < room → pre old room
  pub reads : (old new : MutBor (List Token)) (r : Result A Stop) → post old room r new → Reads (text old.now) r new.now
  pub shorter : (old new : MutBor (List Token)) (r : Result A Stop) → post old room r new → OnOk r (length new.now < length old.now)
