-- The ends of the ways of a text in which calls stand as applications: the hypotheses of each way and its result. No way has a variable
-- more than the text it began in, so nothing is raised.
use Rattle.std.specs.Prelude.{ℕ, Bool, true, false, if◌then◌else◌, List, [], ◌∷◌, ◌++◌, map, reverse}
use Rattle.fst_base.specs.Sorts.{Srt}
use Rattle.fst_terms.specs.Terms.{Tm, t_bool, t_unit, t_prim, t_app, row, listed}
use Rattle.fst_terms.specs.Formulas.{negation, equation, put, puts, sort_of}
use Rattle.fst_program.specs.declared.comp.Con.{Con}
use Rattle.fst_program.specs.declared.comp.Con.TheVariants as con
use Rattle.fst_program.specs.Texts.{Dm, DmArms, d_ret, d_let, d_if, d_match, d_run_f, d_run_g, d_end, d_arm, Cm, CmArms, c_ret, c_let, c_bind, c_ghost, c_assert, c_if, c_match, c_call, c_reify, c_reflect, c_return, c_lift, c_end, c_arm, Prog, if_there, fun_at, bind_text, return_text, lift_text, result_sort}
use Rattle.fst_program.specs.Paths.{over, op_of, con_of, con_args, selectors, cm_family, dm_family, same_con, dm_at, text_sort}
use Rattle.fst_program.specs.FunctionFacts.{with_input}

-- the end of a way: its hypotheses, the last first, and its result
pub record End : Type 0 where
  pub hyps : List Tm
  pub result : Tm

abbrev pub at_end : List Tm → Tm → List End
at_end hs t = record { hyps = hs; result = t } ∷ []

-- ---- an if and a match

-- a side of an if, and the hypotheses of the way that takes it
pub record Turn : Type 0 where
  pub first : Bool
  pub hyps : List Tm

abbrev pub turns : Tm → List Tm → List Turn
turns (t_bool b) hs = record { first = b; hyps = hs } ∷ []
turns c hs = record { first = true; hyps = c ∷ hs } ∷ record { first = false; hyps = negation c ∷ hs } ∷ []

-- the hypotheses of the way of a constructor, for a scrutinee of sort S
abbrev pub entered : Con → Srt → Tm → List Tm → List Tm
entered con.True S u hs = u ∷ hs
entered con.False S u hs = negation u ∷ hs
entered con.Pair S u hs = hs
entered c S u hs = equation u (t_prim (op_of c) S (row (selectors c S u)) 0) ∷ hs

-- a constructor with the terms of its parts, and the hypotheses of the way that takes it
pub record Taken : Type 0 where
  pub con : Con
  pub parts : List Tm
  pub hyps : List Tm

abbrev pub takings : List Con → (sort : Srt) → Tm → List Tm → List Taken
takings cs S u hs = if_there (con_of u) (λ c. record { con = c; parts = con_args u; hyps = hs } ∷ [])
    (map (λ c. record { con = c; parts = selectors c S u; hyps = entered c S u hs }) cs)

-- ---- the ends, where Ss are the sorts of the variables

module _ (P : Prog) (Ss : List Srt) where
  -- a computation, from its input and the hypotheses that it begins on
  abbrev pub Run : Type 0
  Run = Tm → List Tm → List End

  -- definition text, where f and g are the header's computations
  abbrev mutual
    pub dm_ends : Run → (Tm → Run) → Dm → (us : List Tm) → List Tm → List End
    dm_ends f g (d_ret t) us hs = at_end hs (put us t)
    dm_ends f g (d_let x d1 d2) us hs = over (dm_ends f g d1 us hs) (λ e. dm_ends f g d2 (e.result ∷ us) e.hyps)
    dm_ends f g (d_if t d1 d2) us hs = over (turns (put us t) hs) (λ turn. if turn.first then dm_ends f g d1 us turn.hyps else dm_ends f g d2 us turn.hyps)
    dm_ends f g (d_match t arms) us hs = over (takings (dm_family arms) (sort_of Ss (put us t)) (put us t) hs) (λ c. dm_arm_ends f g arms c us)
    dm_ends f g (d_run_f t) us hs = f (put us t) hs
    dm_ends f g (d_run_g t u) us hs = g (put us t) (put us u) hs

    pub dm_arm_ends : Run → (Tm → Run) → DmArms → Taken → (us : List Tm) → List End
    dm_arm_ends f g d_end c us = []
    dm_arm_ends f g (d_arm c' xs d more) c us = if same_con c' c.con then dm_ends f g d (reverse c.parts ++ us) c.hyps else dm_arm_ends f g more c us

  -- the computations that a header doesn't have
  abbrev pub no_run_f : Run
  no_run_f s hs = []

  abbrev pub no_run_g : Tm → Run
  no_run_g v s hs = []

  -- a call ends at once, in the application
  abbrev pub call_ends : (j : ℕ) → List Tm → Run
  call_ends j ts s hs = if_there (fun_at P j) (λ g. at_end hs (t_app j (result_sort P g.effect g.sort) (row (with_input g.effect ts s)))) []

  -- core text, with the terms us for its variables
  abbrev mutual
    pub ends : Cm → (us : List Tm) → Run
    ends (c_ret t) us s hs = at_end hs (put us t)
    ends (c_let x c1 c2) us s hs = over (ends c1 us t_unit hs) (λ e. ends c2 (e.result ∷ us) s e.hyps)
    ends (c_bind E x c1 c2) us s hs =
        let A = text_sort P (map (sort_of Ss) us) c1 in
        let B = text_sort P (A ∷ map (sort_of Ss) us) c2 in
        dm_ends (λ s1 h. ends c1 us s1 h) (λ v s1 h. ends c2 (v ∷ us) s1 h) (dm_at A B (bind_text P E)) (s ∷ []) hs
    ends (c_ghost x c1 c2) us s hs = over (ends c1 us t_unit hs) (λ e. ends c2 (e.result ∷ us) s e.hyps)
    ends (c_assert phi at c) us s hs = ends c us s (put us phi ∷ hs)
    ends (c_if t c1 c2) us s hs = over (turns (put us t) hs) (λ turn. if turn.first then ends c1 us s turn.hyps else ends c2 us s turn.hyps)
    ends (c_match t at arms) us s hs = over (takings (cm_family arms) (sort_of Ss (put us t)) (put us t) hs) (λ c. arm_ends arms c us s)
    ends (c_call j ts at) us s hs = call_ends j (listed (puts us ts)) s hs
    ends (c_reify E S c t) us s hs = ends c us (put us t) hs
    ends (c_reflect E S x c) us s hs = ends c (s ∷ us) t_unit hs
    ends (c_return E c) us s hs =
        let A = text_sort P (map (sort_of Ss) us) c in
        over (ends c us t_unit hs) (λ e. dm_ends no_run_f no_run_g (dm_at A A (return_text P E)) (s ∷ e.result ∷ []) e.hyps)
    ends (c_lift l c) us s hs =
        let A = text_sort P (map (sort_of Ss) us) c in
        dm_ends (λ s1 h. ends c us s1 h) no_run_g (dm_at A A (lift_text P l)) (s ∷ []) hs

    pub arm_ends : CmArms → Taken → (us : List Tm) → (input : Tm) → List End
    arm_ends c_end c us s = []
    arm_ends (c_arm c' xs body more) c us s = if same_con c' c.con then ends body (reverse c.parts ++ us) s c.hyps else arm_ends more c us s
