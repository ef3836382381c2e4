-- What a text is read as, and what it is refused with.
use Rattle.std.specs.Prelude.{◌≡◌, ◌<◌, ◌≤◌, ◌^◌, ◌+◌, ◌⊎◌, ℕ, List, [], ◌∷◌, Option, Some, None, length}
use Rattle.fst_base.specs.declared.place.Pos.{Pos}
use Rattle.fst_base.specs.declared.rule.Rule.{Rule}
use Rattle.fst_base.specs.declared.rule.Rule.TheVariants as rule
use Rattle.fst_base.specs.declared.rule.Fault.{Fault}
use Rattle.fst_base.specs.declared.rule.Fault.TheVariants as F
use Rattle.fst_grammar.specs.Claims as C
use Rattle.fst_trees.specs.declared.word.Word.{Word}
use Rattle.fst_trees.specs.declared.decl.Decl.{Decl}
use Rattle.fst_syntax.specs.declared.limit.Limit.{Limit}
use Rattle.fst_syntax.specs.Tokens.{Token, alphabet}
use Rattle.fst_syntax.specs.Lexemes.{lexemes}
use Rattle.fst_syntax.specs.Limits.{first_limit}
use Rattle.fst_syntax.specs.Productions as n

-- the tokens have a derivation as a program, which gives these declarations
abbrev pub Spells : List (Decl Word) → List Token → Type 0
Spells decls ts = C.Spells alphabet n.N n.T n.rule n.program decls ts []

-- The tokens before ks begin a program; with the first token of ks, or with the end where ks is empty, they begin none.
abbrev pub FaultAt : List Token → List Token → Type 0
FaultAt = C.FaultAt alphabet n.N n.T n.rule n.program

-- these tokens begin a program
abbrev pub Begins : List Token → Type 0
Begins = C.Begins alphabet n.N n.T n.rule n.program

-- the place where these tokens begin, in a text that ends there
abbrev pub place : ℕ → List Token → ℕ
place end [] = end
place end (t ∷ ts) = t.at

-- the place of the first token, if there is one
abbrev pub first_place : List Token → Option Pos
first_place [] = None
first_place (t ∷ ts) = Some (alphabet.place t)

-- the places of the tokens rise from one on, and stay below the end
abbrev pub Rising : ℕ → List Token → ℕ → Type 0
Rising from [] end = from ≤ end
Rising from (t ∷ ts) end = (from ≤ t.at) × Rising (t.at + 1) ts end

-- the text is a program: it is short enough, spells these declarations and passes no limit
pub record IsProgram (bytes : List ℕ) (decls : List (Decl Word)) : Type 0 where
  pub short : length bytes ≤ 2 ^ 20
  pub spelled : Spells decls (lexemes bytes)
  pub within : first_limit (lexemes bytes) ≡ None

-- a syntax fault answers: no limit is passed before its place
pub record IsFault (bytes : List ℕ) (at : ℕ) : Type 0 where
  pub short : length bytes ≤ 2 ^ 20
  pub left : List Token
  pub fault : FaultAt (lexemes bytes) left
  pub there : at ≡ place (length bytes) left
  pub first : (l : Limit) → first_limit (lexemes bytes) ≡ Some l → at ≤ l.at.at

-- a limit answers: no syntax fault stands up to its place
pub record IsLimit (bytes : List ℕ) (r : Rule) (at : ℕ) : Type 0 where
  pub short : length bytes ≤ 2 ^ 20
  pub limit : Limit
  pub passed : first_limit (lexemes bytes) ≡ Some limit
  pub rule_is : r ≡ limit.rule
  pub there : at ≡ limit.at.at
  pub first : (left : List Token) → FaultAt (lexemes bytes) left → at < place (length bytes) left

abbrev pub IsRefused : List ℕ → Rule → Pos → Type 0
IsRefused bytes rule.Syntax p = IsFault bytes p.at
IsRefused bytes rule.TooLong p = (2 ^ 20 < length bytes) × (p.at ≡ 0)
IsRefused bytes rule.TooDeep p = IsLimit bytes rule.TooDeep p.at
IsRefused bytes rule.NumberTooWide p = IsLimit bytes rule.NumberTooWide p.at
IsRefused bytes _ p = ⊥

-- what is answered where a limit is passed: a fault up to its place, else the limit
abbrev pub AtLimit : List Token → ℕ → Limit → Fault → Type 0
AtLimit ts end limit F.NoMemory = Unit {0}
AtLimit ts end limit (F.Refused r p) =
    ((r ≡ rule.Syntax) × ((ks : List Token) × (FaultAt ts ks × ((p.at ≡ place end ks) × (p.at ≤ limit.at.at)))))
    ⊎ ((r ≡ limit.rule) × ((p ≡ limit.at) × ((ks : List Token) → FaultAt ts ks → limit.at.at < place end ks)))
