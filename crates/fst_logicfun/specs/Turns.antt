-- What a text comes to in one turn of its walk.
use Rattle.std.specs.Prelude.{◌≡◌, if◌then◌else◌, List, [], ◌∷◌, ◌++◌, map, reverse, Option, Some, None, option_map}
use Rattle.std.specs.Option.{option_copied}
use Rattle.fst_base.specs.Sorts.{Srt, plain_sort}
use Rattle.fst_terms.specs.Formulas.{sort_of}
use Rattle.fst_terms.specs.Terms.{Tm, t_unit, plain_term}
use Rattle.fst_program.specs.declared.comp.Arm.{Arm}
use Rattle.fst_program.specs.declared.comp.Comp.{Comp}
use Rattle.fst_program.specs.declared.comp.Con.{Con}
use Rattle.fst_program.specs.declared.definition.DmTerm.{DmTerm}
use Rattle.fst_program.specs.Plain.{plain_comp, plain_dm, plain_program}
use Rattle.fst_program.specs.Texts.{Cm, CmArms, c_end, c_arm, Dm, DmArms, d_end, d_arm, Prog}
use Rattle.fst_program.specs.Paths.{over, dm_at, dm_arms_at, text_sort}
use Rattle.fst_logicfun.specs.Ends.{End, Turn, Taken, Run, at_end, ends, arm_ends, dm_ends, dm_arm_ends}
use Rattle.fst_scopes.specs.Scopes.{terms_for, sorts_in}
use Rattle.fst_logicfun.specs.Ways.{plain_end}
use Rattle.fst_logicfun.specs.declared.ways.At.{At}
use Rattle.fst_logicfun.specs.declared.ways.Header.{Header}
use Rattle.fst_logicfun.specs.declared.ways.Next.{Next}
use Rattle.fst_logicfun.specs.declared.ways.Rest.{Rest}
use Rattle.fst_logicfun.specs.declared.ways.Text as T
use Rattle.fst_logicfun.specs.declared.ways.Text.TheVariants as text
use Rattle.fst_logicfun.specs.declared.ways.Turn as U
use Rattle.fst_logicfun.specs.declared.ways.Turn.TheVariants as turn

-- the arms of a match
abbrev pub arms_in : List (Arm Comp) → CmArms
arms_in [] = c_end
arms_in (arm ∷ more) = c_arm arm.con arm.names (plain_comp arm.body) (arms_in more)

-- the constructor of the first arm
abbrev pub first_con : CmArms → Option Con
first_con c_end = None
first_con (c_arm c xs body more) = Some c

module _ (P : Prog) (Ss : List Srt) where
  -- a computation of a header: one that it doesn't have has no end
  abbrev pub run_of : Option Cm → List Tm → Run P Ss
  run_of None us s hs = []
  run_of (Some c) us s hs = ends P Ss c us s hs

  abbrev pub first_run : Header → Run P Ss
  first_run h = run_of (option_map plain_comp (option_copied h.first)) (terms_for h.scope)

  abbrev pub second_run : Header → Tm → Run P Ss
  second_run h v = run_of (option_map plain_comp (option_copied h.second)) (v ∷ terms_for h.scope)

  -- the ends of a text, with the terms us for its variables
  abbrev pub text_ends : T.Text → (us : List Tm) → List Tm → List End
  text_ends (text.Core c s) us hs = ends P Ss (plain_comp c.now) us (plain_term s) hs
  text_ends (text.Definition d h) us hs = dm_ends P Ss (first_run h) (second_run h) (dm_at (plain_sort h.a) (plain_sort h.b) (plain_dm d.now)) us hs
  text_ends text.Nothing us hs = at_end hs t_unit

  abbrev pub next_ends : Next → List End
  next_ends n = text_ends n.text (terms_for n.scope) (terms_for n.hyps)

  abbrev pub rest_ends : Rest → End → List End
  rest_ends r e = text_ends r.text (terms_for r.above ++ e.result ∷ terms_for r.below) e.hyps

  abbrev pub turn_ends : U.Turn → List End
  turn_ends (turn.Ends es) = map plain_end es
  turn_ends (turn.Ways ns) = over ns next_ends
  turn_ends (turn.Then n r) = over (next_ends n) (rest_ends r)

-- the ends of core text where the walk stands
abbrev pub ends_at : Cm → At → List End
ends_at c at = ends (plain_program at.program.now) (sorts_in at.sorts.now) c (terms_for at.scope.now) (plain_term at.input.now) (terms_for at.hyps.now)

-- the sort of the value of a text where the walk stands, and of one under a variable more
abbrev pub value_sort : Cm → At → Srt
value_sort c at = text_sort (plain_program at.program.now) (map (sort_of (sorts_in at.sorts.now)) (terms_for at.scope.now)) c

abbrev pub next_sort : (first : Srt) → Cm → At → Srt
next_sort S c at = text_sort (plain_program at.program.now) (S ∷ map (sort_of (sorts_in at.sorts.now)) (terms_for at.scope.now)) c

-- a turn that comes to these ends
abbrev pub turns_at : At → U.Turn → List End
turns_at at t = turn_ends (plain_program at.program.now) (sorts_in at.sorts.now) t

-- ---- parts of turns

-- the ends of a text under one condition more
abbrev pub side_at : Cm → Tm → At → List End
side_at c phi at = ends (plain_program at.program.now) (sorts_in at.sorts.now) c (terms_for at.scope.now) (plain_term at.input.now) (phi ∷ terms_for at.hyps.now)

-- the ends of the arm of a constructor
abbrev pub arm_ends_at : CmArms → At → Taken → List End
arm_ends_at arms at c = arm_ends (plain_program at.program.now) (sorts_in at.sorts.now) arms c (terms_for at.scope.now) (plain_term at.input.now)

-- ---- definition text

abbrev pub dm_arms_in : List (Arm DmTerm) → DmArms
dm_arms_in [] = d_end
dm_arms_in (arm ∷ more) = d_arm arm.con arm.names (plain_dm arm.body) (dm_arms_in more)

abbrev pub dm_first_con : DmArms → Option Con
dm_first_con d_end = None
dm_first_con (d_arm c xs d more) = Some c

-- a header with these computations, terms for their variables, and sorts
pub record Heads (h : Header) (first second : Option Cm) (us : List Tm) (A B : Srt) : Type 0 where
  pub first_is : option_map plain_comp (option_copied h.first) ≡ first
  pub second_is : option_map plain_comp (option_copied h.second) ≡ second
  pub scope_is : terms_for h.scope ≡ us
  pub a_is : plain_sort h.a ≡ A
  pub b_is : plain_sort h.b ≡ B

-- the ends of definition text on the terms us and the hypotheses hs, by a header
abbrev pub header_ends : Prog → (Ss : List Srt) → Header → Dm → (us hs : List Tm) → List End
header_ends P Ss h d us hs = dm_ends P Ss (first_run P Ss h) (second_run P Ss h) (dm_at (plain_sort h.a) (plain_sort h.b) d) us hs

-- the ends of definition text by a header
abbrev pub dm_ends_at : Dm → Header → At → List End
dm_ends_at d h at =
    dm_ends (plain_program at.program.now) (sorts_in at.sorts.now) (first_run (plain_program at.program.now) (sorts_in at.sorts.now) h) (second_run (plain_program at.program.now) (sorts_in at.sorts.now) h)
    (dm_at (plain_sort h.a) (plain_sort h.b) d) (terms_for at.scope.now) (terms_for at.hyps.now)

abbrev pub dm_side_at : Dm → Tm → Header → At → List End
dm_side_at d phi h at =
    dm_ends (plain_program at.program.now) (sorts_in at.sorts.now) (first_run (plain_program at.program.now) (sorts_in at.sorts.now) h) (second_run (plain_program at.program.now) (sorts_in at.sorts.now) h)
    (dm_at (plain_sort h.a) (plain_sort h.b) d) (terms_for at.scope.now) (phi ∷ terms_for at.hyps.now)

abbrev pub dm_arm_ends_at : DmArms → Header → At → Taken → List End
dm_arm_ends_at arms h at c =
    dm_arm_ends (plain_program at.program.now) (sorts_in at.sorts.now) (first_run (plain_program at.program.now) (sorts_in at.sorts.now) h) (second_run (plain_program at.program.now) (sorts_in at.sorts.now) h)
    (dm_arms_at (plain_sort h.a) (plain_sort h.b) arms) c (terms_for at.scope.now)

-- the ends of the side that a turn of an `if` takes
abbrev pub dm_turn_at : Dm → Dm → Header → At → Turn → List End
dm_turn_at d e h at turn =
    if turn.first
    then dm_ends (plain_program at.program.now) (sorts_in at.sorts.now) (first_run (plain_program at.program.now) (sorts_in at.sorts.now) h) (second_run (plain_program at.program.now) (sorts_in at.sorts.now) h) (dm_at (plain_sort h.a) (plain_sort h.b) d) (terms_for at.scope.now) turn.hyps
    else dm_ends (plain_program at.program.now) (sorts_in at.sorts.now) (first_run (plain_program at.program.now) (sorts_in at.sorts.now) h) (second_run (plain_program at.program.now) (sorts_in at.sorts.now) h) (dm_at (plain_sort h.a) (plain_sort h.b) e) (terms_for at.scope.now) turn.hyps

-- the ends of an arm's text on the way of its constructor
abbrev pub taken_ends : Cm → At → Taken → List End
taken_ends d at c = ends (plain_program at.program.now) (sorts_in at.sorts.now) d (reverse c.parts ++ terms_for at.scope.now) (plain_term at.input.now) c.hyps

abbrev pub dm_taken_ends : Dm → Header → At → Taken → List End
dm_taken_ends d h at c =
    dm_ends (plain_program at.program.now) (sorts_in at.sorts.now) (first_run (plain_program at.program.now) (sorts_in at.sorts.now) h) (second_run (plain_program at.program.now) (sorts_in at.sorts.now) h)
    (dm_at (plain_sort h.a) (plain_sort h.b) d) (reverse c.parts ++ terms_for at.scope.now) c.hyps
