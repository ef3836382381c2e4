-- The limits on what is read. They count in whatever stands before a fault.
use Rattle.std.specs.Prelude.{ℕ, ◌+◌, ◌-◌, ◌^◌, nat_lt, nat_le, Bool, true, false, not, ◌&&◌, ◌||◌, List, [], ◌∷◌, Option, Some, None, if◌then◌else◌}
use Rattle.fst_base.specs.declared.place.Pos.{Pos}
use Rattle.fst_base.specs.declared.rule.Rule.{Rule}
use Rattle.fst_base.specs.declared.rule.Rule.TheVariants as rule
use Rattle.fst_syntax.specs.declared.terminal.Terminal.{Terminal}
use Rattle.fst_syntax.specs.declared.terminal.Terminal.TheVariants as k
use Rattle.fst_syntax.specs.declared.limit.Seen.{Seen}
use Rattle.fst_syntax.specs.declared.limit.Limit.{Limit}
use Rattle.fst_syntax.specs.Tokens.{Token, alphabet}
use Rattle.fst_syntax.specs.Trees.{magnitude}

abbrev pub opens : Terminal → Bool
opens k.LeftParen = true
opens k.LeftBracket = true
opens k.LeftBrace = true
opens _ = false

abbrev pub closes : Terminal → Bool
closes k.RightParen = true
closes k.RightBracket = true
closes k.RightBrace = true
closes _ = false

-- the words that begin a declaration
abbrev pub declares : Terminal → Bool
declares k.Fun = true
declares k.Effect = true
declares k.Lift = true
declares _ = false

-- the last token of an operand may be such a one: a minus behind it takes something from it
abbrev pub ends_operand : Terminal → Bool
ends_operand k.Name = true
ends_operand k.Small = true
ends_operand k.Number = true
ends_operand k.True = true
ends_operand k.False = true
ends_operand k.None = true
ends_operand k.Result = true
ends_operand k.Input = true
ends_operand k.RightParen = true
ends_operand k.RightBracket = true
ends_operand _ = false

-- the brackets that are open behind a token
abbrev pub opened : Seen → Terminal → ℕ
opened s terminal = if opens terminal then s.brackets + 1 else (if closes terminal then s.brackets - 1 else s.brackets)

-- the tokens of the declaration up to this one; before the first declaration there are none
abbrev pub counted : Seen → Terminal → ℕ
counted s terminal = if declares terminal then 1 else (if nat_lt 0 s.declared then s.declared + 1 else 0)

-- what stands before the next token
abbrev pub see : Seen → Terminal → Pos → Seen
see s terminal at = record {
  brackets = opened s terminal;
  declared = counted s terminal;
  operand = ends_operand terminal;
  minus = if alphabet.same terminal k.Minus && not s.operand then Some at else None;
}

-- the 257th open bracket, or the 2,049th token of a declaration
abbrev pub is_deep : Seen → Terminal → Bool
is_deep s terminal = nat_lt 256 (opened s terminal) || nat_lt 2048 (counted s terminal)

-- the digits are a literal outside 128 bits, with its minus where it has one
abbrev pub is_wide_behind : Option Pos → List ℕ → Bool
is_wide_behind None digits = nat_le (2 ^ 127) (magnitude digits)
is_wide_behind (Some at) digits = nat_lt (2 ^ 127) (magnitude digits)

abbrev pub is_wide : Seen → List ℕ → Bool
is_wide s digits = is_wide_behind s.minus digits

-- the rule that a token breaks and the place: a literal's is its minus, where it has one; on one place TooDeep answers
abbrev pub passed_behind : Option Pos → Bool → Bool → Pos → Option (Rule × Pos)
passed_behind None wide deep at = if deep then Some (rule.TooDeep, at) else (if wide then Some (rule.NumberTooWide, at) else None)
passed_behind (Some minus) wide deep at = if wide then Some (rule.NumberTooWide, minus) else (if deep then Some (rule.TooDeep, at) else None)

abbrev pub passed : Seen → Token → Option (Rule × Pos)
passed s t = passed_behind s.minus (alphabet.same t.terminal k.Number && is_wide s t.text) (is_deep s t.terminal) (alphabet.place t)

abbrev pub limit_at : ℕ → Option (Rule × Pos) → Option Limit → Option Limit
limit_at i None later = later
limit_at i (Some p) later = Some (record { index = i; rule = p.0; at = p.1 })

-- the first token, counted from i, with which a limit is passed
abbrev pub limit_from : Seen → ℕ → List Token → Option Limit
limit_from s i [] = None
limit_from s i (t ∷ ts) = limit_at i (passed s t) (limit_from (see s t.terminal (alphabet.place t)) (i + 1) ts)

abbrev pub first_limit : List Token → Option Limit
first_limit ts = limit_from (record { brackets = 0; declared = 0; operand = false; minus = None }) 0 ts
