-- How the two sides of an equation meet.
use Rattle.std.specs.Prelude.{ℕ, zero, suc, Bool, true, false, ◌&&◌, Option, Some, None}
use Rattle.fst_base.specs.declared.op.Op.{Op}
use Rattle.fst_base.specs.declared.op.Op.TheVariants as op
use Rattle.fst_base.specs.Rows.{same_op}
use Rattle.fst_terms.specs.Terms.{Tm, Tms, t_int, t_prim, t_end, t_more}

abbrev pub are_literals : Tm → Tm → Bool
are_literals (t_int m) (t_int n) = true
are_literals _ _ = false

-- a term is of this constructor; both are
abbrev pub is_by : Op → Option Op → Bool
is_by o None = false
is_by o (Some p) = same_op p o

abbrev pub are_by : Op → Option Op → Option Op → Bool
are_by o p q = is_by o p && is_by o q

-- a term is of some constructor; both are
abbrev pub is_made : Option Op → Bool
is_made None = false
is_made (Some o) = true

abbrev pub are_made : Option Op → Option Op → Bool
are_made p q = is_made p && is_made q

-- two arguments
abbrev pub is_two : Tms → Bool
is_two (t_more x (t_more r t_end)) = true
is_two _ = false

-- a cons of two arguments; a list's constructor term
abbrev pub is_long : Tm → Bool
is_long (t_prim op.Cons S ts at) = is_two ts
is_long _ = false

abbrev pub is_list_term : Tm → Bool
is_list_term (t_prim op.Nil S ts at) = true
is_list_term (t_prim op.Cons S ts at) = is_two ts
is_list_term _ = false

-- how many conses of two arguments follow one another
abbrev pub spine : Tm → ℕ
spine (t_prim op.Cons S (t_more x (t_more r t_end)) at) = suc (spine r)
spine _ = zero
