-- What the steps of a close do to classes, and what they have found.
use Rattle.std.specs.Prelude.{◌≡◌, ℕ, nat_eq, get_or, if◌then◌else◌, ◌<◌, Bool, true, false, List, [], ◌∷◌, length, map, Some, Contains}
use Rattle.fst_congruence.specs.declared.classes.Classes.{Classes}
use Rattle.fst_congruence.specs.declared.equation.Equation.{Equation}
use Rattle.fst_congruence.specs.declared.firsts.Firsts.{Firsts}
use Rattle.fst_congruence.specs.declared.node.Node.{Node}
use Rattle.fst_congruence.specs.Firsts.{first_of, FirstIs}
use Rattle.fst_congruence.specs.Joined.{node_at, arg_at, arity, SameConstructor}
use Rattle.fst_congruence.specs.Lines.{Grown}
use Rattle.fst_congruence.specs.Classes.{label_at, Sound, roots}

-- classes after a step: some were joined, or none
pub record Step (ns : List Node) (es : List Equation) (old new : Classes) (joined : Bool) : Type 0 where
  pub sound : Sound new
  pub grown : Grown ns es old.log new.log
  pub count : length new.labels ≡ length old.labels
  pub still : joined ≡ false → new.labels ≡ old.labels
  pub fewer : joined ≡ true → roots new.labels < roots old.labels

-- the arguments of every numbered term are numbered
abbrev pub ArgsWithin : List Node → Type 0
ArgsWithin ns = (i k : ℕ) → i < length ns → k < arity ns i → arg_at ns i k < length ns

-- terms with the same constructor have as many parts
abbrev pub SameArities : List Node → Type 0
SameArities ns = (i j : ℕ) → i < length ns → j < length ns → SameConstructor ns i j → arity ns i ≡ arity ns j

-- as many parts as a term with this constructor has
abbrev pub arity_of : ℕ → ℕ
arity_of c = if nat_eq c 3 then 2 else (if nat_eq c 5 then 1 else (if nat_eq c 7 then 2 else (if nat_eq c 8 then 1 else (if nat_eq c 9 then 1 else 0))))

-- a term's arguments are terms of a table of so many, and as many as its constructor asks for
pub record NodeFits (n : Node) (count : ℕ) : Type 0 where
  pub args : (k : ℕ) → k < length n.args → get_or n.args k 0 < count
  pub arity : 0 < n.constructor → length n.args ≡ arity_of n.constructor

-- a table of terms
pub record IsTable (ns : List Node) : Type 0 where
  pub within : ArgsWithin ns
  pub arities : SameArities ns

-- classes of the terms of a table
pub record Fits (ns : List Node) (c : Classes) : Type 0 where
  pub table : IsTable ns
  pub sound : Sound c
  pub count : length c.labels ≡ length ns

-- injectivity has nothing to join at the parts of two terms in place k
abbrev pub PartClosed : List Node → List ℕ → ℕ → ℕ → ℕ → Type 0
PartClosed ns labels i j k = label_at labels i ≡ label_at labels j → SameConstructor ns i j → label_at labels (arg_at ns i k) ≡ label_at labels (arg_at ns j k)

-- the two sides of an equation have the same label
abbrev pub SidesLabelled : List ℕ → Equation → Type 0
SidesLabelled labels e = label_at labels e.left ≡ label_at labels e.right

-- the sides of all equations are numbered
abbrev pub SidesWithin : List Equation → ℕ → Type 0
SidesWithin es n = (e : Equation) → Contains es e → (e.left < n) × (e.right < n)

-- ---- keys

-- a term's kind and the labels of its arguments: two terms with one key are joined by congruence
abbrev pub args_key : List Node → List ℕ → ℕ → List ℕ
args_key ns labels i = (node_at ns i).kind ∷ map (label_at labels) (node_at ns i).args

-- a term's label and its constructor: the parts of two terms with one key are joined
abbrev pub parts_key : List Node → List ℕ → ℕ → List ℕ
parts_key ns labels i = label_at labels i ∷ (node_at ns i).constructor ∷ []

-- the first terms are terms
abbrev pub AreTerms : (count : ℕ) → Firsts → Type 0
AreTerms n f = (q : List ℕ) (m : ℕ) → first_of f q ≡ Some m → m < n

-- a term meets the first one with its key: Closed says that there is nothing to join at the two
pub record MeetsFirst (key : ℕ → List ℕ) (Closed : ℕ → ℕ → Type 0) (old new : Firsts) (term : ℕ) : Type 0 where
  pub first : ℕ
  pub is : FirstIs old new (key term) term first
  pub closed : Closed term first

-- each first term has its key, and the terms of which Done holds have met the first one with theirs
pub record Swept (key : ℕ → List ℕ) (Closed : ℕ → ℕ → Type 0) (f : Firsts) (Done : ℕ → Type 0) : Type 0 where
  pub keys : (q : List ℕ) (m : ℕ) → first_of f q ≡ Some m → key m ≡ q
  pub met : (i : ℕ) → Done i → (m : ℕ) × ((first_of f (key i) ≡ Some m) × Closed i m)
