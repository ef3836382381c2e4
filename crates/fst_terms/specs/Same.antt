-- Equality of terms as a test.
use Rattle.std.specs.Prelude.{ℕ, Bool, true, false, ◌&&◌, if◌then◌else◌, nat_eq, List, [], ◌∷◌, ◌++◌, bytes_eq}
use Rattle.std.specs.Ordering.{int_eq}
use Rattle.fst_base.specs.Sorts.{same_sort}
use Rattle.fst_base.specs.Values.{same_bool}
use Rattle.fst_base.specs.Rows.{same_op}
use Rattle.fst_terms.specs.Terms.{Tm, Tms, t_var, t_int, t_bool, t_unit, t_prim, t_if, t_app, t_let, t_end, t_more}

-- whether the two are the same term, places and names counted
abbrev mutual
  pub same_term : Tm → Tm → Bool
  same_term (t_var i) (t_var j) = nat_eq i j
  same_term (t_int n) (t_int m) = int_eq n m
  same_term (t_bool a) (t_bool b) = same_bool a b
  same_term t_unit t_unit = true
  same_term (t_prim o S ts at) (t_prim p T us bt) = same_op o p && same_sort S T && same_terms ts us && nat_eq at bt
  same_term (t_if c t u) (t_if d v w) = same_term c d && same_term t v && same_term u w
  same_term (t_app k S ts) (t_app l T us) = nat_eq k l && same_sort S T && same_terms ts us
  same_term (t_let x t u) (t_let y v w) = bytes_eq x y && same_term t v && same_term u w
  same_term _ _ = false

  pub same_terms : Tms → Tms → Bool
  same_terms t_end t_end = true
  same_terms (t_more t ts) (t_more u us) = same_term t u && same_terms ts us
  same_terms _ _ = false

-- whether the term is one of these
abbrev pub is_among : Tm → List Tm → Bool
is_among t [] = false
is_among t (u ∷ us) = if same_term t u then true else is_among t us

-- each term once, in order of first occurrence, after those that were met before
abbrev pub firsts : (met : List Tm) → List Tm → List Tm
firsts met [] = met
firsts met (t ∷ ts) = firsts (if is_among t met then met else met ++ t ∷ []) ts
