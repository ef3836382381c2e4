-- The sorts of the primitives.
use Rattle.std.specs.Prelude.{◌≡◌, List, [], ◌∷◌, map, Bool, true, false}
use denote.Enum.Bare.{sameb}
use Rattle.fst_base.specs.contracts.op.Op.{the_type}
use Rattle.fst_base.specs.declared.op.Op.{Op}
use Rattle.fst_base.specs.declared.op.Op.TheVariants as op
use Rattle.fst_base.specs.Sorts.{Srt, s_unit, s_bool, s_int, s_a, s_b, s_pair, s_opt, s_list, s_either, put_sorts}

-- the sorts of the arguments of a primitive, where s_a and s_b stand for any two sorts
abbrev pub row_args : Op → List Srt
row_args op.Add = s_int ∷ s_int ∷ []
row_args op.Sub = s_int ∷ s_int ∷ []
row_args op.Mul = s_int ∷ s_int ∷ []
row_args op.Div = s_int ∷ s_int ∷ []
row_args op.Rem = s_int ∷ s_int ∷ []
row_args op.Neg = s_int ∷ []
row_args op.Le = s_int ∷ s_int ∷ []
row_args op.Lt = s_int ∷ s_int ∷ []
row_args op.Eq = s_a ∷ s_a ∷ []
row_args op.Pair = s_a ∷ s_b ∷ []
row_args op.Fst = s_pair s_a s_b ∷ []
row_args op.Snd = s_pair s_a s_b ∷ []
row_args op.Nothing = []
row_args op.Just = s_a ∷ []
row_args op.Nil = []
row_args op.Cons = s_a ∷ s_list s_a ∷ []
row_args op.Inl = s_a ∷ []
row_args op.Inr = s_b ∷ []
row_args op.Len = s_list s_a ∷ []
row_args op.Hd = s_list s_a ∷ []
row_args op.Tl = s_list s_a ∷ []
row_args op.The = s_opt s_a ∷ []
row_args op.Outl = s_either s_a s_b ∷ []
row_args op.Outr = s_either s_a s_b ∷ []

-- the sort of its result
abbrev pub row_result : Op → Srt
row_result op.Add = s_int
row_result op.Sub = s_int
row_result op.Mul = s_int
row_result op.Div = s_int
row_result op.Rem = s_int
row_result op.Neg = s_int
row_result op.Le = s_bool
row_result op.Lt = s_bool
row_result op.Eq = s_bool
row_result op.Pair = s_pair s_a s_b
row_result op.Fst = s_a
row_result op.Snd = s_b
row_result op.Nothing = s_opt s_a
row_result op.Just = s_opt s_a
row_result op.Nil = s_list s_a
row_result op.Cons = s_list s_a
row_result op.Inl = s_either s_a s_b
row_result op.Inr = s_either s_a s_b
row_result op.Len = s_int
row_result op.Hd = s_a
row_result op.Tl = s_list s_a
row_result op.The = s_a
row_result op.Outl = s_a
row_result op.Outr = s_b

-- arguments of these sorts and a result of the sort S are those of the primitive, for some two sorts
pub record Fits (o : Op) (Ss : List Srt) (S : Srt) : Type 0 where
  pub first : Srt
  pub second : Srt
  pub args : Ss ≡ map (put_sorts first second) (row_args o)
  pub result : S ≡ put_sorts first second (row_result o)

-- the selectors that no program writes: only goals hold them
abbrev pub is_inner : Op → Bool
is_inner op.Hd = true
is_inner op.Tl = true
is_inner op.The = true
is_inner op.Outl = true
is_inner op.Outr = true
is_inner _ = false

-- whether the two are the same primitive
abbrev pub same_op : Op → Op → Bool
same_op = sameb the_type
