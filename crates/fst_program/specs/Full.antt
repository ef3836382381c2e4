-- Each match of a program has an arm.
use Rattle.std.specs.Prelude.{◌≡◌, ℕ, Some, slice_get, ⊤}
use Rattle.fst_program.specs.Texts.{Dm, DmArms, d_ret, d_let, d_if, d_match, d_run_f, d_run_g, d_end, d_arm, Cm, CmArms, c_ret, c_let, c_bind, c_ghost, c_assert, c_if, c_match, c_call, c_reify, c_reflect, c_return, c_lift, c_end, c_arm, EffDef, LftDef, Fn, Prog, fun_at, effect_at}

abbrev pub HasArm : CmArms → Type 0
HasArm c_end = ⊥
HasArm (c_arm c xs body more) = ⊤

abbrev pub HasDmArm : DmArms → Type 0
HasDmArm d_end = ⊥
HasDmArm (d_arm c xs d more) = ⊤

-- definition text without an empty match
abbrev mutual
  pub DmFull : Dm → Type 0
  DmFull (d_ret t) = ⊤
  DmFull (d_let x d1 d2) = DmFull d1 × DmFull d2
  DmFull (d_if t d1 d2) = DmFull d1 × DmFull d2
  DmFull (d_match t arms) = HasDmArm arms × DmArmsFull arms
  DmFull (d_run_f t) = ⊤
  DmFull (d_run_g t u) = ⊤

  pub DmArmsFull : DmArms → Type 0
  DmArmsFull d_end = ⊤
  DmArmsFull (d_arm c xs d more) = DmFull d × DmArmsFull more

-- core text without an empty match
abbrev mutual
  pub CmFull : Cm → Type 0
  CmFull (c_ret t) = ⊤
  CmFull (c_let x c1 c2) = CmFull c1 × CmFull c2
  CmFull (c_bind E x c1 c2) = CmFull c1 × CmFull c2
  CmFull (c_ghost x c1 c2) = CmFull c1 × CmFull c2
  CmFull (c_assert phi at c) = CmFull c
  CmFull (c_if t c1 c2) = CmFull c1 × CmFull c2
  CmFull (c_match t at arms) = HasArm arms × ArmsFull arms
  CmFull (c_call j ts at) = ⊤
  CmFull (c_reify E S c t) = CmFull c
  CmFull (c_reflect E S x c) = CmFull c
  CmFull (c_return E c) = CmFull c
  CmFull (c_lift l c) = CmFull c

  pub ArmsFull : CmArms → Type 0
  ArmsFull c_end = ⊤
  ArmsFull (c_arm c xs body more) = CmFull body × ArmsFull more

-- every match of the program has an arm
pub record IsFull (P : Prog) : Type 0 where
  pub returns : (E : ℕ) (d : EffDef) → effect_at P E ≡ Some d → DmFull d.ret
  pub binds : (E : ℕ) (d : EffDef) → effect_at P E ≡ Some d → DmFull d.bind
  pub lifts : (n : ℕ) (l : LftDef) → slice_get P.lifts n ≡ Some l → DmFull l.text
  pub bodies : (k : ℕ) (f : Fn) → fun_at P k ≡ Some f → CmFull f.body
