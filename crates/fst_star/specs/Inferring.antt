-- The inference as its code has it: scopes and terms are lists with the last variable last.
use Rattle.std.specs.Prelude.{◌≡◌, ℕ, List, [], ◌∷◌, map, Some, slice_get}
use Rattle.fst_base.specs.Sorts.{Srt, s_unit}
use Rattle.fst_terms.specs.Formulas.{sort_of}
use Rattle.fst_terms.specs.Terms.{Tm, plain_term, shift, t_var}
use Rattle.fst_program.specs.declared.comp.Con.{Con}
use Rattle.fst_program.specs.Discipline.{IsDisciplined}
use Rattle.fst_program.specs.Paths.{dm_at, fun_goals, text_sort}
use Rattle.fst_program.specs.Plain.{plain_fun, plain_program}
use Rattle.fst_program.specs.Sorted.{IsSorted}
use Rattle.fst_program.specs.Texts.{Cm, CmArms, Fn, Prog, bind_text, fun_at, if_there, lift_text, result_at, return_text}
use Rattle.fst_scopes.specs.Scopes.{sorts_in}
use Rattle.fst_star.specs.declared.spots.Owner.{Owner}
use Rattle.fst_star.specs.declared.spots.Spot.{Spot}
use Rattle.fst_star.specs.Inference.{infer, infer_arm, infer_fun}
use Rattle.fst_star.specs.Laws.{goals_by}
use Rattle.fst_star.specs.Transformers.{Wt, w_none, w_ways}
use Rattle.fst_star.specs.Translation.{Scope, star, under}

-- the scope of a spot
abbrev pub scope_at : Spot → Scope
scope_at p = record { sorts = sorts_in p.sorts; olds = map plain_term p.olds }

-- the sort of a text's value, where the text's variables stand for terms over these
abbrev pub value_sort : Prog → (Ss : List Srt) → (us : List Tm) → Cm → Srt
value_sort P Ss us c = text_sort P (map (sort_of Ss) us) c

abbrev pub infer_in : Owner → Scope → (us : List Tm) → (s : Tm) → Cm → Wt
infer_in o sc us s c = infer (plain_program o.program.now) (plain_fun o.fun.now) sc us s c

abbrev pub infer_arm_in : Owner → Scope → (us : List Tm) → (s : Tm) → (place : ℕ) → CmArms → Con → (parts : List Tm) → Wt
infer_arm_in o sc us s at arms c parts = infer_arm (plain_program o.program.now) (plain_fun o.fun.now) sc us s at arms c parts

-- the transformer without a result
abbrev pub nothing : Wt
nothing = w_ways w_none

-- the effect that a lift leads from
abbrev pub lift_from : Prog → ℕ → ℕ
lift_from P l = if_there (slice_get P.lifts l) (λ d. d.from) 0

-- the texts of a bind, a lift and a return, with the transformers of their parts; A and B are the value sorts of these
abbrev pub bind_in : Prog → (E : ℕ) → (A B : Srt) → Wt → Wt → Scope → (input : Tm) → Wt
bind_in P E A B f g sc s = star (result_at P E A) (result_at P E B) f g sc (s ∷ []) 0 (dm_at A B (bind_text P E))

abbrev pub lift_in : Prog → (l from : ℕ) → (A : Srt) → Wt → Scope → (input : Tm) → Wt
lift_in P l E A f sc s = star (result_at P E A) s_unit f nothing sc (s ∷ []) 0 (dm_at A A (lift_text P l))

abbrev pub return_in : Prog → (E : ℕ) → (A : Srt) → Scope → (input : Tm) → Wt
return_in P E A sc s = star s_unit s_unit nothing nothing (under A sc) (shift 0 1 s ∷ t_var 0 ∷ []) 0 (dm_at A A (return_text P E))

-- the transformer of function k; one without a result where there is no such function
abbrev pub infer_of : Prog → ℕ → Wt
infer_of P k = if_there (fun_at P k) (λ f. infer_fun P f) nothing

-- of a well-sorted, disciplined program this transformer gives the goals of function k, in order
abbrev pub GivesGoals : Prog → ℕ → Wt → Type 0
GivesGoals P k v = IsSorted P → IsDisciplined P → (f : Fn) → fun_at P k ≡ Some f → goals_by P k f v ≡ fun_goals P k
