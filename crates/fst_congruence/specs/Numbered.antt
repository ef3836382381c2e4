-- The numbered terms of a flat form as nodes.
use Rattle.std.specs.Prelude.{◌≡◌, ℕ, ◌+◌, ◌-◌, ◌<◌, ◌≤◌, length, get_or, Bool, true, false, ◌&&◌, if◌then◌else◌, nat_eq, List, [], ◌∷◌, map}
use Rattle.fst_base.specs.declared.op.Op.{Op}
use Rattle.fst_base.specs.declared.op.Op.TheVariants as op
use Rattle.fst_base.specs.Rows.{same_op}
use Rattle.fst_base.specs.Sorts.{Srt, same_sort}
use Rattle.fst_terms.specs.Terms.{Tm, t_bool, t_unit, t_prim, t_app, listed}
use Rattle.fst_terms.specs.Same.{same_term}
use Rattle.fst_terms.specs.Skeletons.{args_of}
use Rattle.fst_congruence.specs.declared.node.Node.{Node}

-- the number of a constructor, 0 for another operator
abbrev pub maker : Op → ℕ
maker op.Pair = 3
maker op.Nothing = 4
maker op.Just = 5
maker op.Nil = 6
maker op.Cons = 7
maker op.Inl = 8
maker op.Inr = 9
maker _ = 0

-- the constructor that a term begins with, 0 for none
abbrev pub constructor_of : Tm → ℕ
constructor_of (t_bool true) = 1
constructor_of (t_bool false) = 2
constructor_of (t_prim o S ts at) = maker o
constructor_of t = 0

-- the arguments of a term; a numbered term is no let
abbrev pub arguments : Tm → List Tm
arguments t = listed (args_of t)

-- whether the term is one of this operator and this sort
abbrev pub is_of_op : Op → Srt → Tm → Bool
is_of_op o S (t_prim p T us at) = same_op o p && same_sort S T
is_of_op o S u = false

-- whether the term is an application of this function at this sort
abbrev pub is_of_function : ℕ → Srt → Tm → Bool
is_of_function k S (t_app l T us) = nat_eq k l && same_sort S T
is_of_function k S u = false

-- whether two terms have one head and one sort: a variable and a literal are heads without arguments
abbrev pub same_head : Tm → Tm → Bool
same_head (t_prim o S ts at) u = is_of_op o S u
same_head (t_app k S ts) u = is_of_function k S u
same_head t u = same_term t u

-- the number of the first term that passes the test, where the first one has the number i; 0 for none
abbrev pub first_place : (Tm → Bool) → (i : ℕ) → List Tm → ℕ
first_place p i [] = 0
first_place p i (u ∷ us) = if p u then i else first_place p (i + 1) us

-- the number of a term, from 1
abbrev pub number_of : List Tm → Tm → ℕ
number_of ts t = first_place (same_term t) 1 ts

-- the number of the first term of the same head and sort
abbrev pub kind_of : List Tm → Tm → ℕ
kind_of ts t = first_place (same_head t) 1 ts

abbrev pub node_of : List Tm → Tm → Node
node_of ts t = record { kind = kind_of ts t; constructor = constructor_of t; args = map (number_of ts) (arguments t) }

-- stands at place 0, so that each numbered term has the place of its number
abbrev pub no_node : Node
no_node = record { kind = 0; constructor = 0; args = [] }

-- the nodes of numbered terms
abbrev pub nodes_of : List Tm → List Node
nodes_of ts = no_node ∷ map (node_of ts) ts

-- ---- well-formed lists of numbered terms

-- the term of this number, from 1
abbrev pub term_at : List Tm → ℕ → Tm
term_at ts i = get_or ts (i - 1) t_unit

pub record IsNumber (ts : List Tm) (i : ℕ) : Type 0 where
  pub counted : 0 < i
  pub within : i ≤ length ts

-- every argument of a numbered term is numbered
abbrev pub IsComplete : List Tm → Type 0
IsComplete ts = (i k : ℕ) → IsNumber ts i → k < length (arguments (term_at ts i)) → (j : ℕ) × (IsNumber ts j × (term_at ts j ≡ get_or (arguments (term_at ts i)) k t_unit))

-- no term has two numbers
abbrev pub IsOnce : List Tm → Type 0
IsOnce ts = (i j : ℕ) → IsNumber ts i → IsNumber ts j → term_at ts i ≡ term_at ts j → i ≡ j

-- terms with the same constructor have as many arguments
abbrev pub HaveArities : List Tm → Type 0
HaveArities ts = (i j : ℕ) → IsNumber ts i → IsNumber ts j → 0 < constructor_of (term_at ts i) → constructor_of (term_at ts i) ≡ constructor_of (term_at ts j) → length (arguments (term_at ts i)) ≡ length (arguments (term_at ts j))

-- what the numbered terms of a flat form are
pub record IsNumbering (ts : List Tm) : Type 0 where
  pub complete : IsComplete ts
  pub once : IsOnce ts
  pub arities : HaveArities ts

-- the head of a term with its sort: a variable and a literal are heads without arguments
pub data Head : Type 0 where
  head_op : Op → Srt → Head
  head_function : ℕ → Srt → Head
  head_term : Tm → Head

abbrev pub head_of : Tm → Head
head_of (t_prim o S ts at) = head_op o S
head_of (t_app k S ts) = head_function k S
head_of t = head_term t
