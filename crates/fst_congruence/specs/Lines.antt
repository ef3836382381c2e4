-- Equation lines: what a line gives after earlier lines, and lists of lines of which each one holds.
use Rattle.std.specs.Prelude.{◌≡◌, ℕ, ◌-◌, ◌<◌, ◌≤◌, ◌⊎◌, Bool, true, false, List, [], ◌∷◌, ◌++◌, length, get_or, Contains}
use Rattle.fst_congruence.specs.declared.equation.Equation.{Equation}
use Rattle.fst_cert.specs.declared.line.Line.{Line}
use Rattle.fst_cert.specs.declared.line.Line.TheVariants as line
use Rattle.fst_congruence.specs.declared.node.Node.{Node}
use Rattle.fst_congruence.specs.declared.why.Why.{Why}
use Rattle.fst_congruence.specs.Joined.{arg_at, arity, Alike, SameConstructor}

-- line i of the log, counted from 1, gives x = y
pub record At (log : List Equation) (i x y : ℕ) : Type 0 where
  pub counted : 0 < i
  pub within : i ≤ length log
  pub left : (d : Equation) → (get_or log (i - 1) d).left ≡ x
  pub right : (d : Equation) → (get_or log (i - 1) d).right ≡ y

-- 0 where x and y are the same term, else a line that gives x = y
abbrev pub Reason : List Equation → ℕ → ℕ → ℕ → Type 0
Reason log i x y = ((i ≡ 0) × (x ≡ y)) ⊎ At log i x y

-- line i gives x = y, or y = x where it is turned round
abbrev pub AtTurned : (turned : Bool) → List Equation → ℕ → ℕ → ℕ → Type 0
AtTurned false log i x y = At log i x y
AtTurned true log i x y = At log i y x

-- no line where x and y are the same term, else a line that gives x = y in one of the two orders
abbrev pub Because : List Equation → Why → ℕ → ℕ → Type 0
Because log w x y = ((w.line ≡ 0) × (x ≡ y)) ⊎ AtTurned w.turned log w.line x y

-- 0 exactly where x and y are the same term, else a line that gives x = y
abbrev pub StrictReason : List Equation → ℕ → ℕ → ℕ → Type 0
StrictReason log i x y = ((i ≡ 0) × (x ≡ y)) ⊎ ((x ≡ y → ⊥) × At log i x y)

-- the first n of these reasons are those for the equations of two lists of terms in order
pub record SliceReasons (log : List Equation) (lefts rights : List ℕ) (n : ℕ) (reasons : List ℕ) : Type 0 where
  pub count : length reasons ≡ n
  pub each : (k : ℕ) → k < n → StrictReason log (get_or reasons k 0) (get_or lefts k 0) (get_or rights k 0)

-- two terms of one head and one sort, with a reason for each two arguments in order
pub record ArgReasons (ns : List Node) (log : List Equation) (i j : ℕ) (reasons : List ℕ) : Type 0 where
  pub alike : Alike ns i j
  pub count : length reasons ≡ arity ns i
  pub each : (k : ℕ) → k < arity ns i → StrictReason log (get_or reasons k 0) (arg_at ns i k) (arg_at ns j k)

-- the parts at place k, counted from 1, of the two sides of line i, which have the same constructor
pub record PartOf (ns : List Node) (log : List Equation) (i k x y : ℕ) : Type 0 where
  pub left : ℕ
  pub right : ℕ
  pub line : At log i left right
  pub same : SameConstructor ns left right
  pub counted : 0 < k
  pub first : k ≤ arity ns left
  pub second : k ≤ arity ns right
  pub left_part : arg_at ns left (k - 1) ≡ x
  pub right_part : arg_at ns right (k - 1) ≡ y

-- the line holds after the log, and gives x = y
abbrev pub Gives : List Node → List Equation → Line → ℕ → ℕ → Type 0
Gives ns log (line.Flip i) x y = At log i y x
Gives ns log (line.Chain i j) x y = (m : ℕ) × (At log i x m × At log j m y)
Gives ns log (line.Same i j reasons) x y = (i ≡ x) × ((j ≡ y) × ArgReasons ns log i j reasons)
Gives ns log (line.Part i k) x y = PartOf ns log i k x y
Gives ns log _ x y = ⊥

-- the equation is one of the given ones, with the line that gives it, or its line is a rule that gives it after the log
abbrev pub Holds : List Node → (es log : List Equation) → Equation → Type 0
Holds ns es log e = Contains es e ⊎ Gives ns log e.by e.left e.right

-- the second log goes on from the first one by lines that hold
pub data Grown (ns : List Node) (es : List Equation) : List Equation → List Equation → Type 0 where
  grown_none : {log : List Equation} → Grown ns es log log
  grown_more : {old new : List Equation} {e : Equation} → Grown ns es old new → Holds ns es new e → Grown ns es old (new ++ e ∷ [])

-- the same by rules alone, whatever the terms and the given equations are
pub record Extends (old new : List Equation) : Type 0 where
  pub by : (ns : List Node) (es : List Equation) → Grown ns es old new

-- a log of which every line holds
abbrev pub Valid : List Node → List Equation → List Equation → Type 0
Valid ns es log = Grown ns es [] log
