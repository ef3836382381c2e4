-- What the steps over a function and over the functions of a program give.
use Rattle.std.specs.Prelude.{ℕ, Bool, ◌&&◌, ◌||◌, not, nat_eq, List, ◌∷◌, map, option_map, Option, Some}
use Rattle.fst_base.specs.Sorts.{Srt, same_sort}
use Rattle.fst_terms.specs.Terms.{Tm, plain_term}
use Rattle.fst_terms.specs.Meaning.{Vr}
use Rattle.fst_program.specs.declared.fun.Fun.{Fun}
use Rattle.fst_program.specs.declared.fun.Param.{Param}
use Rattle.fst_program.specs.Plain.{plain_comp, plain_fun, plain_param}
use Rattle.fst_program.specs.Texts.{Cm, Prm, Fn}
use Rattle.fst_trees.specs.declared.decl.Decl.{Decl}
use Rattle.fst_trees.specs.declared.decl.FunTree.{FunTree}
use Rattle.fst_trees.specs.declared.decl.ParamTree.{ParamTree}
use Rattle.fst_trees.specs.declared.word.Word.{Word}
use Rattle.fst_top.specs.declared.elaborate.functions.Parts as R
use Rattle.fst_top.specs.declared.elaborate.typed.Binding.{Binding}
use Rattle.fst_top.specs.declared.elaborate.scope.Scope as S
use Rattle.fst_top.specs.Elaboration.{Scope, clause_of, fun_decl, fun_of_tree, given_some, is_blank, is_named, is_none, is_pure_name, only_if, param_of, result_name, text_of}

-- ---- parameters

-- a parameter after those of the names met
abbrev pub next_param : (met : List (List ℕ)) → ParamTree Word → Option Prm
next_param met p = given_some (param_of p) λ q. only_if (is_blank q.name || not (is_named q.name met)) (Some q)

abbrev pub first_plain_param : Param × Binding → Prm
first_plain_param pair = plain_param pair.0

abbrev pub plain_params : List Param × S.Scope → List Prm
plain_params pair = map plain_param pair.0

-- ---- functions

-- the result as a variable
abbrev pub result_var : Srt → Vr
result_var S = record { name = result_name; sort = S }

-- the clauses of a function and its text
pub record Parts : Type 0 where
  pub needs : Option Tm
  pub gives : Option Tm
  pub text : Cm

abbrev pub plain_parts : R.Parts → Parts
plain_parts parts = record { needs = option_map plain_term parts.needs; gives = option_map plain_term parts.gives; text = plain_comp parts.text }

-- those of a function whose result has sort T, where xs are its parameters
abbrev pub parts_of : FunTree Word → (T : Srt) → (xs : Scope) → Option Parts
parts_of f T xs =
    given_some (clause_of f.head.needs xs) λ needs.
    given_some (clause_of f.head.gives (result_var T ∷ xs)) λ gives.
    given_some (text_of f.body xs) λ c.
    only_if (same_sort c.sort T) (Some (record { needs = needs; gives = gives; text = c.text }))

-- PURE, without decreases, of unfold depth 1, and in a group of its own
abbrev pub has_built_head : FunTree Word → Bool
has_built_head f = is_pure_name f.head.effect && is_none f.head.measures && nat_eq f.head.«unfold» 1 && not f.joined

-- ---- programs

-- function k after those of the names met
abbrev pub next_fun : (k : ℕ) → (met : List (List ℕ)) → Decl Word → Option Fn
next_fun k met d = given_some (fun_decl d) λ tree. given_some (fun_of_tree k tree) λ f. only_if (not (is_named f.name met)) (Some f)

abbrev pub plain_funs : List Fun → List Fn
plain_funs fs = map plain_fun fs
