-- The trees that the productions give. What is written in short is written out, at the place of its operator, its word or
-- its bracket.
use Rattle.std.specs.Prelude.{ℕ, ◌*◌, ◌+◌, ◌-◌, ◌^◌, min, Bool, true, false, List, [], ◌∷◌, fold, Option, Some, None, codes, pos, neg_ℤ}
use Rattle.fst_base.specs.declared.op.Op.{Op}
use Rattle.fst_base.specs.declared.op.Op.TheVariants as op
use Rattle.fst_base.specs.declared.place.Pos.{Pos}
use Rattle.fst_trees.specs.declared.word.Word.{Word}
use Rattle.fst_trees.specs.declared.form.Form.{Form}
use Rattle.fst_trees.specs.declared.form.FormNode.{FormNode}
use Rattle.fst_trees.specs.declared.form.FormNode.TheVariants as f
use Rattle.fst_syntax.specs.declared.operator.Operator.{Operator}
use Rattle.fst_syntax.specs.declared.operator.Comparison.{Comparison}
use Rattle.fst_syntax.specs.declared.operator.Relation.TheVariants as r

-- the number that decimal digits are
abbrev pub decimal : List ℕ → ℕ
decimal digits = fold (λ n digit. n * 10 + (digit - 48)) 0 digits

-- 2^127 + 1 stands for all that are greater: a text with such a literal is refused.
abbrev pub magnitude : List ℕ → ℕ
magnitude digits = min (decimal digits) (2 ^ 127 + 1)

abbrev pub Tree : Type 0
Tree = Form Word

abbrev pub node : Pos → FormNode Word → Tree
node p n = record { at = p; node = n }

abbrev pub ident : Word → Tree
ident w = node w.at (f.Ident w)

abbrev pub truth : Bool → Pos → Tree
truth b p = node p (f.Bool b)

abbrev pub unit : Pos → Tree
unit p = node p f.Unit

-- a literal, of the number's magnitude
abbrev pub literal : Pos → ℕ → Tree
literal p n = node p (f.Int (pos (min n (2 ^ 127 - 1))))

abbrev pub negative : Pos → ℕ → Tree
negative p n = node p (f.Int (neg_ℤ (pos (min n (2 ^ 127)))))

abbrev pub nullary : Op → Pos → Tree
nullary o p = node p (f.Prim o [])

abbrev pub unary : Op → Pos → Tree → Tree
unary o p a = node p (f.Prim o (a ∷ []))

abbrev pub binary : Op → Pos → Tree → Tree → Tree
binary o p a b = node p (f.Prim o (a ∷ b ∷ []))

abbrev pub choice : Pos → Tree → Tree → Tree → Tree
choice p a b c = node p (f.If a b c)

abbrev pub applied : Word → List Tree → Tree
applied w args = node w.at (f.App w args)

abbrev pub let_in : Pos → Word → Tree → Tree → Tree
let_in p w a b = node p (f.Let w a b)

-- a reserved word that is used as a name
abbrev pub the_word : List ℕ → Pos → Word
the_word text p = record { text = text; at = p }

abbrev pub result_text : List ℕ
result_text = codes "result"

abbrev pub input_text : List ℕ
input_text = codes "input"

abbrev pub negation : Pos → Tree → Tree
negation p a = choice p a (truth false p) (truth true p)

abbrev pub conjunction : Pos → Tree → Tree → Tree
conjunction p a b = choice p a b (truth false p)

abbrev pub disjunction : Pos → Tree → Tree → Tree
disjunction p a b = choice p a (truth true p) b

abbrev pub implied : Pos → Tree → Tree → Tree
implied p a b = choice p a b (truth true p)

abbrev pub compared : Comparison → Tree → Tree → Tree
compared c a b = elim c.relation [
  | r.Equal ↦ binary op.Eq c.at a b
  | r.NotEqual ↦ negation c.at (binary op.Eq c.at a b)
  | r.LessEqual ↦ binary op.Le c.at a b
  | r.Less ↦ binary op.Lt c.at a b
  | r.GreaterEqual ↦ binary op.Le c.at b a
  | r.Greater ↦ binary op.Lt c.at b a
]

-- a first operand with what follows it
abbrev pub implied_by : Tree → Option (Pos × Tree) → Tree
implied_by a None = a
implied_by a (Some p) = implied p.0 a p.1

abbrev pub compared_by : Tree → Option (Comparison × Tree) → Tree
compared_by a None = a
compared_by a (Some p) = compared p.0 a p.1

abbrev pub cons_by : Tree → Option (Pos × Tree) → Tree
cons_by a None = a
cons_by a (Some p) = binary op.Cons p.0 a p.1

-- a name, and a function's name with its arguments
abbrev pub applied_to : Word → Option (List Tree) → Tree
applied_to w None = ident w
applied_to w (Some args) = applied w args

abbrev pub operated : Operator → Tree → Tree → Tree
operated o a b = binary o.op o.at a b

-- [x; y; ..]
abbrev pub listed : Pos → List Tree → Tree
listed p [] = nullary op.Nil p
listed p (a ∷ more) = binary op.Cons p a (listed p more)

abbrev pub is_there : {A : Type 0} → Option A → Bool
is_there None = false
is_there (Some _) = true
