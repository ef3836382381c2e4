-- What the steps of preparing a sequent give.
use Rattle.std.specs.Prelude.{ℕ, false, if◌then◌else◌, List, map, get_or, reverse, Option, Some, None, option_map}
use Rattle.fst_base.specs.declared.op.Op.{Op}
use Rattle.fst_base.specs.declared.op.Op.TheVariants as op
use Rattle.fst_base.specs.Rows.{same_op}
use Rattle.fst_base.specs.Sorts.{Srt, plain_sort}
use Rattle.fst_base.specs.declared.sort.Sort.{Sort}
use Rattle.fst_terms.specs.Terms.{Tm, Tms, t_var, t_unit, t_prim, t_end, t_more, listed, plain_term}
use Rattle.fst_terms.specs.declared.term.Term.{Term}
use Rattle.fst_terms.specs.Formulas.{sort_of}
use Rattle.fst_terms.specs.Naming.{name_fact, is_data, name_index, renamed}

-- the constructor that a selector selects from, and the argument that it selects
abbrev pub maker_of : Op → Option Op
maker_of op.Fst = Some op.Pair
maker_of op.Snd = Some op.Pair
maker_of op.Hd = Some op.Cons
maker_of op.Tl = Some op.Cons
maker_of op.The = Some op.Just
maker_of op.Outl = Some op.Inl
maker_of op.Outr = Some op.Inr
maker_of _ = None

abbrev pub selected : Op → ℕ
selected op.Snd = 1
selected op.Tl = 1
selected _ = 0

-- the arguments of a term of this constructor
abbrev pub parts_from : (maker : Op) → Tm → Option (List Tm)
parts_from m (t_prim o S ts at) = if same_op o m then Some (listed ts) else None
parts_from m _ = None

abbrev pub parts_from_some : Option Op → Tm → Option (List Tm)
parts_from_some None t = None
parts_from_some (Some m) t = parts_from m t

-- the first of these terms
abbrev pub first_of : List Tm → Tm
first_of ts = get_or ts 0 t_unit

-- the terms for the variables, from those of a scope: the last variable's first
abbrev pub scope_of : List Term → List Tm
scope_of ts = reverse (map plain_term ts)

-- the argument that a selector selects from these
abbrev pub picked : Op → Option (List Tm) → Option Tm
picked o ts = option_map (λ ts. get_or ts (selected o) t_unit) ts

-- the sorts of variables, the last variable's first
abbrev pub sorts_in : List Sort → List Srt
sorts_in Ss = reverse (map plain_sort Ss)

-- the fact of the name of a term
abbrev pub fact_of_name : (Ss : List Srt) → (names : List Tm) → Tm → Tm
fact_of_name Ss ns u = name_fact (is_data (sort_of Ss u)) (t_var (name_index ns u)) (renamed Ss ns false u)

-- the argument of a term of one argument
abbrev pub only : Tms → Option Tm
only (t_more t t_end) = Some t
only _ = None
