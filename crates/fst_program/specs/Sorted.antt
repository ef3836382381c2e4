-- Well-sorted definition text, core text and programs.
use Rattle.std.specs.Prelude.{◌≡◌, ℕ, false, List, [], ◌∷◌, ◌++◌, Option, Some, None, map, reverse, length, slice_get, IsTrue, ⊤}
use Rattle.fst_base.specs.Sorts.{Srt, s_bool, s_int, s_a, s_b, s_opt, s_list, s_pair, s_either, put_sorts, holds_a, holds_b}
use Rattle.fst_base.specs.Values.{Val, Has}
use Rattle.fst_terms.specs.Terms.{Tm}
use Rattle.fst_terms.specs.Sorted.{TmSorted, TmsSorted, is_run, are_run}
use Rattle.fst_program.specs.declared.comp.Con.{Con}
use Rattle.fst_program.specs.declared.comp.Con.TheVariants as con
use Rattle.fst_program.specs.declared.effect.Effect.{Effect}
use Rattle.fst_program.specs.declared.effect.Effect.TheVariants as effect
use Rattle.fst_program.specs.Texts.{Dm, DmArms, d_ret, d_let, d_if, d_match, d_run_f, d_run_g, d_end, d_arm, Cm, CmArms, c_ret, c_let, c_bind, c_ghost, c_assert, c_if, c_match, c_call, c_reify, c_reflect, c_return, c_lift, c_end, c_arm, Prm, EffDef, LftDef, Fn, Prog, if_there, fun_at, effect_at, result_at, result_sort}
use Rattle.fst_program.specs.Paths.{part_sorts}

-- the constructor is one of the sort
abbrev pub ConOf : Con → Srt → Type 0
ConOf con.True s_bool = ⊤
ConOf con.False s_bool = ⊤
ConOf con.Empty (s_opt S) = ⊤
ConOf con.Full (s_opt S) = ⊤
ConOf con.Nil (s_list S) = ⊤
ConOf con.Cons (s_list S) = ⊤
ConOf con.Left (s_either S T) = ⊤
ConOf con.Right (s_either S T) = ⊤
ConOf con.Pair (s_pair S T) = ⊤
ConOf _ _ = ⊥

-- the effect of a place, where it is a user effect; other places are without input
abbrev pub place_of : Effect → Option ℕ
place_of (effect.User E) = Some E
place_of _ = None

-- what the computations of a header take and give: f an input, g a value and an input; each gives a result
pub record FSorts : Type 0 where
  pub input : Srt
  pub result : Srt

pub record GSorts : Type 0 where
  pub value : Srt
  pub input : Srt
  pub result : Srt

module _ (P : Prog) where
  -- the sort of the input that the effect takes
  abbrev pub input_sorts : Effect → List Srt
  input_sorts (effect.User E) = if_there (effect_at P E) (λ d. d.input ∷ []) []
  input_sorts _ = []

  -- an application has the function's arguments, then its input where it takes one, and the sort of its results
  abbrev pub Applies : (k : ℕ) → List Srt → (S : Srt) → Type 0
  Applies k Ss S = if_there (fun_at P k) (λ f. (Ss ≡ map (λ p. p.sort) f.params ++ input_sorts f.effect) × (S ≡ result_sort P f.effect f.sort)) ⊥

  abbrev pub FormSorted : (Ss : List Srt) → Tm → Srt → Type 0
  FormSorted = TmSorted Applies

  -- a term that is run
  abbrev pub RunSorted : (Ss : List Srt) → Tm → Srt → Type 0
  RunSorted Ss t S = FormSorted Ss t S × IsTrue (is_run t)

  -- ---- definition text

  module _ (f : Option FSorts) (g : Option GSorts) where
    -- the text gives a result of the sort R, where Ss are the sorts of its variables
    abbrev mutual
      pub DmSorted : (Ss : List Srt) → Dm → (R : Srt) → Type 0
      DmSorted Ss (d_ret t) R = RunSorted Ss t R
      DmSorted Ss (d_let x d1 d2) R = (S : Srt) × (DmSorted Ss d1 S × DmSorted (S ∷ Ss) d2 R)
      DmSorted Ss (d_if t d1 d2) R = RunSorted Ss t s_bool × DmSorted Ss d1 R × DmSorted Ss d2 R
      DmSorted Ss (d_match t arms) R = (S : Srt) × (RunSorted Ss t S × DmArmsSorted Ss S arms R)
      DmSorted Ss (d_run_f t) R = if_there f (λ h. RunSorted Ss t h.input × (R ≡ h.result)) ⊥
      DmSorted Ss (d_run_g t u) R = if_there g (λ h. RunSorted Ss t h.value × RunSorted Ss u h.input × (R ≡ h.result)) ⊥

      -- each arm has a constructor of the scrutinee's sort S
      pub DmArmsSorted : (Ss : List Srt) → (S : Srt) → DmArms → (R : Srt) → Type 0
      DmArmsSorted Ss S d_end R = ⊤
      DmArmsSorted Ss S (d_arm c xs d more) R = ConOf c S × (length xs ≡ length (part_sorts c S)) × DmSorted (part_sorts c S ++ Ss) d R × DmArmsSorted Ss S more R

  -- the input's sort holds no variable, and the results' sort not b; the return gives a result at a, and the bind one at b, where its
  -- first computation gives results at a, and its second takes a value of a and gives results at b
  pub record EffectSorted (d : EffDef) : Type 0 where
    pub input_without_a : holds_a d.input ≡ false
    pub input_without_b : holds_b d.input ≡ false
    pub result_without_b : holds_b d.result ≡ false
    pub returns : DmSorted None None (d.input ∷ s_a ∷ []) d.ret d.result
    pub binds : DmSorted (Some (record { input = d.input; result = d.result })) (Some (record { value = s_a; input = d.input; result = put_sorts s_b s_b d.result })) (d.input ∷ []) d.bind (put_sorts s_b s_b d.result)

  -- a lift's computation is one of the lower effect, and its text gives a result of the upper one
  abbrev pub LiftSorted : LftDef → Type 0
  LiftSorted l = if_there (effect_at P l.from) (λ lower. if_there (effect_at P l.«to») (λ upper. DmSorted (Some (record { input = lower.input; result = lower.result })) None (upper.input ∷ []) l.text upper.result) ⊥) ⊥

  -- ---- core text

  -- the input has the sort that the effect of the place takes; at other places there is none
  abbrev pub InputHas : (place : Option ℕ) → Val → Type 0
  InputHas None s = ⊤
  InputHas (Some E) s = if_there (effect_at P E) (λ d. Has d.input s) ⊥

  -- a text at a place gives results of this sort, where its values have the sort S
  abbrev pub result_in : (place : Option ℕ) → Srt → Srt
  result_in None S = S
  result_in (Some E) S = result_at P E S

  -- the text's values have the sort S; it stands at a place, and Ss are the sorts of its variables
  abbrev mutual
    pub CmSorted : (Ss : List Srt) → (place : Option ℕ) → Cm → (S : Srt) → Type 0
    CmSorted Ss x (c_ret t) S = (x ≡ None) × RunSorted Ss t S
    CmSorted Ss x (c_let y c1 c2) S = (T : Srt) × (CmSorted Ss None c1 T × CmSorted (T ∷ Ss) x c2 S)
    CmSorted Ss x (c_bind E y c1 c2) S = (x ≡ Some E) × ((T : Srt) × (CmSorted Ss x c1 T × CmSorted (T ∷ Ss) x c2 S))
    CmSorted Ss x (c_ghost y c1 c2) S = (T : Srt) × (CmSorted Ss None c1 T × CmSorted (T ∷ Ss) x c2 S)
    CmSorted Ss x (c_assert phi at c) S = FormSorted Ss phi s_bool × CmSorted Ss x c S
    CmSorted Ss x (c_if t c1 c2) S = RunSorted Ss t s_bool × CmSorted Ss x c1 S × CmSorted Ss x c2 S
    CmSorted Ss x (c_match t at arms) S = (T : Srt) × (RunSorted Ss t T × ArmsSorted Ss x T arms S)
    CmSorted Ss x (c_call j ts at) S = if_there (fun_at P j) (λ f. (x ≡ place_of f.effect) × (S ≡ f.sort) × TmsSorted Applies Ss ts (map (λ p. p.sort) f.params) × IsTrue (are_run ts)) ⊥
    CmSorted Ss x (c_reify E T c t) S = (x ≡ None) × (S ≡ result_at P E T) × CmSorted Ss (Some E) c T × if_there (effect_at P E) (λ d. RunSorted Ss t d.input) ⊥
    CmSorted Ss x (c_reflect E T y c) S = (x ≡ Some E) × (S ≡ T) × if_there (effect_at P E) (λ d. CmSorted (d.input ∷ Ss) None c (result_at P E T)) ⊥
    CmSorted Ss x (c_return E c) S = (x ≡ Some E) × CmSorted Ss None c S
    CmSorted Ss x (c_lift n c) S = if_there (slice_get P.lifts n) (λ l. (x ≡ Some l.«to») × CmSorted Ss (Some l.from) c S) ⊥

    pub ArmsSorted : (Ss : List Srt) → (place : Option ℕ) → (scrutinee : Srt) → CmArms → (S : Srt) → Type 0
    ArmsSorted Ss x T c_end S = ⊤
    ArmsSorted Ss x T (c_arm c ys body more) S = ConOf c T × (length ys ≡ length (part_sorts c T)) × CmSorted (part_sorts c T ++ Ss) x body S × ArmsSorted Ss x T more S

  -- ---- functions

  abbrev pub param_sorts : Fn → List Srt
  param_sorts f = map (λ p. p.sort) f.params

  -- the sorts of the variables of a body, and of a clause: of a function with a user effect a clause has the input too
  abbrev pub body_sorts : Fn → List Srt
  body_sorts f = reverse (param_sorts f)

  abbrev pub clause_sorts : Fn → List Srt
  clause_sorts f = input_sorts f.effect ++ body_sorts f

  abbrev pub GivenSorted : (Ss : List Srt) → Option Tm → Type 0
  GivenSorted Ss None = ⊤
  GivenSorted Ss (Some phi) = FormSorted Ss phi s_bool

  -- each refinement sees the parameters up to its own
  abbrev pub RefinesSorted : (Ss : List Srt) → List Prm → Type 0
  RefinesSorted Ss [] = ⊤
  RefinesSorted Ss (p ∷ ps) = GivenSorted (p.sort ∷ Ss) p.refine × RefinesSorted (p.sort ∷ Ss) ps

  abbrev pub MeasuresSorted : (Ss : List Srt) → List Tm → Type 0
  MeasuresSorted Ss [] = ⊤
  MeasuresSorted Ss (m ∷ ms) = FormSorted Ss m s_int × MeasuresSorted Ss ms

  pub record FunSorted (f : Fn) : Type 0 where
    pub refines : RefinesSorted [] f.params
    pub needs : GivenSorted (clause_sorts f) f.needs
    pub gives : GivenSorted (result_sort P f.effect f.sort ∷ clause_sorts f) f.gives
    pub measures : MeasuresSorted (body_sorts f) f.measures
    pub body : CmSorted (body_sorts f) (place_of f.effect) f.body f.sort

-- every effect, lift and function of the program is well sorted
pub record IsSorted (P : Prog) : Type 0 where
  pub effects : (E : ℕ) (d : EffDef) → effect_at P E ≡ Some d → EffectSorted P d
  pub lifts : (n : ℕ) (l : LftDef) → slice_get P.lifts n ≡ Some l → LiftSorted P l
  pub funs : (k : ℕ) (f : Fn) → fun_at P k ≡ Some f → FunSorted P f
