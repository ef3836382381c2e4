-- Forms of terms and scopes for private functions.
use Rattle.std.specs.Prelude.{ℕ, if◌then◌else◌, List, map, get_or, reverse, Option, Some, None}
use Rattle.fst_base.specs.declared.op.Op.{Op}
use Rattle.fst_base.specs.declared.op.Op.TheVariants as op
use Rattle.fst_base.specs.Rows.{same_op}
use Rattle.fst_base.specs.Sorts.{Srt, plain_sort}
use Rattle.fst_base.specs.declared.sort.Sort.{Sort}
use Rattle.fst_terms.specs.Terms.{Tm, t_unit, t_prim, listed, plain_term}
use Rattle.fst_terms.specs.declared.term.Term.{Term}

-- the constructor that a selector selects from, and the argument that it selects
abbrev pub maker_of : Op → Option Op
maker_of op.Fst = Some op.Pair
maker_of op.Snd = Some op.Pair
maker_of op.Hd = Some op.Cons
maker_of op.Tl = Some op.Cons
maker_of op.The = Some op.Just
maker_of op.Outl = Some op.Inl
maker_of op.Outr = Some op.Inr
maker_of _ = None

abbrev pub selected : Op → ℕ
selected op.Snd = 1
selected op.Tl = 1
selected _ = 0

-- the arguments of a term of this constructor
abbrev pub parts_from : (maker : Op) → Tm → Option (List Tm)
parts_from m (t_prim o S ts at) = if same_op o m then Some (listed ts) else None
parts_from m _ = None

-- the first of these terms
abbrev pub first_of : List Tm → Tm
first_of ts = get_or ts 0 t_unit
