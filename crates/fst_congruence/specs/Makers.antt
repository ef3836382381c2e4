-- Joined terms with different constructors.
use Rattle.std.specs.Prelude.{◌≡◌, ℕ, ◌+◌, ◌<◌, Bool, nat_lt, List, length, get_or, Option, Some, None}
use Rattle.fst_congruence.specs.declared.makers.Different.{Different}
use Rattle.fst_congruence.specs.Classes.{label_at}
use Rattle.fst_congruence.specs.Closures.{ClosureView}
use Rattle.fst_congruence.specs.Joined.{node_at}

-- the number of the constructor that a term begins with, 0 for none
abbrev pub maker_at : ClosureView → ℕ → ℕ
maker_at c i = (node_at c.nodes i).constructor

-- this is the number of a term that begins with a constructor: of a truth value, or of another one
abbrev pub IsMade : ClosureView → (truth : Bool) → ℕ → Type 0
IsMade c b i = (i < length c.labels) × ((0 < i) × ((0 < (node_at c.nodes i).kind) × ((0 < maker_at c i) × (nat_lt (maker_at c i) 3 ≡ b))))

-- two such terms with one label begin with different constructors
pub record AreDifferent (c : ClosureView) (b : Bool) (i j : ℕ) : Type 0 where
  pub first : IsMade c b i
  pub second : IsMade c b j
  pub different : maker_at c i ≡ maker_at c j → ⊥
  pub same : label_at c.labels i ≡ label_at c.labels j

-- two such terms, or there are none
abbrev pub FoundDifferent : ClosureView → (truth : Bool) → Option Different → Type 0
FoundDifferent c b None = (i j : ℕ) → AreDifferent c b i j → ⊥
FoundDifferent c b (Some d) = AreDifferent c b d.left d.right

-- ---- on the way

abbrev pub first_at : List ℕ → ℕ → ℕ
first_at firsts l = get_or firsts l 0

-- for each label a term with it that begins with a constructor, 0 for none; each of the first n terms begins with that of its label
pub record FirstsKnown (c : ClosureView) (b : Bool) (firsts : List ℕ) (n : ℕ) : Type 0 where
  pub count : length firsts ≡ length c.labels
  pub terms : (l : ℕ) → 0 < first_at firsts l → IsMade c b (first_at firsts l) × (label_at c.labels (first_at firsts l) ≡ l)
  pub all : (j : ℕ) → j < n → IsMade c b j → (0 < first_at firsts (label_at c.labels j)) × (maker_at c (first_at firsts (label_at c.labels j)) ≡ maker_at c j)

-- one more term is known, or it differs from the first one with its label
abbrev pub Meets : ClosureView → (truth : Bool) → List ℕ → (term : ℕ) → Option Different → Type 0
Meets c b firsts i None = FirstsKnown c b firsts (i + 1)
Meets c b firsts i (Some d) = AreDifferent c b d.left d.right
