-- The rows of the table of primitives.
use Rattle.std.specs.Prelude.{ℕ, Bool, true, false, ◌&&◌, List, [], ◌∷◌, map, codes, ◌==◌, ◌≡◌}
use Rattle.std.specs.Cmp.Lexicographic.{pointwise}
use Rattle.fst_base.specs.Rows.{row_args, row_result}
use Rattle.fst_base.specs.Sorts.{Srt, s_unit, s_bool, s_int, s_a, s_b, s_pair, s_opt, s_list, s_either, same_sort}
use Rattle.fst_base.specs.declared.op.Op.{Op}
use Rattle.fst_base.specs.declared.op.Op.TheVariants as op
use Rattle.fst_prims.specs.declared.table.Row.{Row}
use Rattle.fst_prims.specs.declared.table.Shape.{Shape}
use Rattle.fst_prims.specs.declared.table.Shape.TheVariants as shape

-- the name of a primitive
abbrev pub name_of : Op → List ℕ
name_of op.Add = codes "add"
name_of op.Sub = codes "sub"
name_of op.Mul = codes "mul"
name_of op.Div = codes "div"
name_of op.Rem = codes "rem"
name_of op.Neg = codes "neg"
name_of op.Le = codes "le"
name_of op.Lt = codes "lt"
name_of op.Eq = codes "eq"
name_of op.Pair = codes "pair"
name_of op.Fst = codes "fst"
name_of op.Snd = codes "snd"
name_of op.Nothing = codes "none"
name_of op.Just = codes "some"
name_of op.Nil = codes "nil"
name_of op.Cons = codes "cons"
name_of op.Inl = codes "inl"
name_of op.Inr = codes "inr"
name_of op.Len = codes "len"
name_of op.Hd = codes "hd"
name_of op.Tl = codes "tl"
name_of op.The = codes "the"
name_of op.Outl = codes "outl"
name_of op.Outr = codes "outr"

-- a shape as a sort, where s_a and s_b stand for any two sorts
abbrev pub sort_of : Shape → Srt
sort_of shape.Unit = s_unit
sort_of shape.Bool = s_bool
sort_of shape.Int = s_int
sort_of shape.A = s_a
sort_of shape.B = s_b
sort_of shape.PairAB = s_pair s_a s_b
sort_of shape.OptA = s_opt s_a
sort_of shape.ListA = s_list s_a
sort_of shape.EitherAB = s_either s_a s_b

-- the row is that of the primitive
pub record IsRow (o : Op) (r : Row) : Type 0 where
  pub name : r.name.now ≡ name_of o
  pub args : map sort_of r.args.now ≡ row_args o
  pub result : sort_of r.result ≡ row_result o

-- whether the row is that of the primitive
abbrev pub is_row : Op → Row → Bool
is_row o r = pointwise ◌==◌ r.name.now (name_of o) && pointwise same_sort (map sort_of r.args.now) (row_args o) && same_sort (sort_of r.result) (row_result o)

-- the primitives in order
abbrev pub all_ops : List Op
all_ops = op.Add ∷ op.Sub ∷ op.Mul ∷ op.Div ∷ op.Rem ∷ op.Neg ∷ op.Le ∷ op.Lt ∷ op.Eq ∷ op.Pair ∷ op.Fst ∷ op.Snd ∷ op.Nothing ∷ op.Just ∷ op.Nil ∷ op.Cons
    ∷ op.Inl ∷ op.Inr ∷ op.Len ∷ op.Hd ∷ op.Tl ∷ op.The ∷ op.Outl ∷ op.Outr ∷ []

-- whether the rows are those of these primitives, one by one
abbrev pub are_rows : List Op → List Row → Bool
are_rows [] [] = true
are_rows (o ∷ os) (r ∷ rs) = is_row o r && are_rows os rs
are_rows _ _ = false
