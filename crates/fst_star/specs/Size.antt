-- The size of transformers, terms and texts, and the bound on the size of what is inferred.
use Rattle.std.specs.Prelude.{◌≡◌, ℕ, suc, ◌+◌, ◌*◌, ◌≤◌, max, List, [], ◌∷◌, Some, slice_get}
use Rattle.fst_terms.specs.Terms.{Tm, Tms, t_prim, t_if, t_app, t_let, t_end, t_more}
use Rattle.fst_program.specs.Texts.{Dm, DmArms, d_ret, d_let, d_if, d_match, d_run_f, d_run_g, d_end, d_arm, Cm, CmArms, c_ret, c_let, c_bind, c_ghost, c_assert, c_if, c_match, c_call, c_reify, c_reflect, c_return, c_lift, c_end, c_arm, EffDef, LftDef, Fn, Prog, effect_at}
use Rattle.fst_star.specs.Transformers.{Wt, Wts, w_post, w_need, w_given, w_fresh, w_ways, w_hole, w_hole_tail, w_then, w_none, w_way}
use Rattle.fst_star.specs.Inference.{infer_fun}

-- the nodes of a transformer; terms inside a node aren't counted
abbrev mutual
  pub wnodes : Wt → ℕ
  wnodes (w_post t) = 1
  wnodes (w_need phi m at w) = suc (wnodes w)
  wnodes (w_given phi w) = suc (wnodes w)
  wnodes (w_fresh x S w) = suc (wnodes w)
  wnodes (w_ways ws) = suc (ws_nodes ws)
  wnodes (w_hole h ts x w) = suc (wnodes w)
  wnodes (w_hole_tail h ts) = 1
  wnodes (w_then w1 x w2) = suc (wnodes w1 + wnodes w2)

  pub ws_nodes : Wts → ℕ
  ws_nodes w_none = 0
  ws_nodes (w_way c phi w more) = wnodes w + ws_nodes more

abbrev mutual
  pub tnodes : Tm → ℕ
  tnodes (t_prim o S ts at) = suc (all_tnodes ts)
  tnodes (t_if c t u) = suc (tnodes c + tnodes t + tnodes u)
  tnodes (t_app k S ts) = suc (all_tnodes ts)
  tnodes (t_let x t u) = suc (tnodes t + tnodes u)
  tnodes _ = 1

  pub all_tnodes : Tms → ℕ
  all_tnodes t_end = 0
  all_tnodes (t_more t ts) = tnodes t + all_tnodes ts

-- the size of a text counts its nodes and those of its terms
abbrev mutual
  pub dm_size : Dm → ℕ
  dm_size (d_ret t) = suc (tnodes t)
  dm_size (d_let x d1 d2) = suc (dm_size d1 + dm_size d2)
  dm_size (d_if t d1 d2) = suc (tnodes t + dm_size d1 + dm_size d2)
  dm_size (d_match t arms) = suc (tnodes t + dm_arms_size arms)
  dm_size (d_run_f t) = suc (tnodes t)
  dm_size (d_run_g t u) = suc (tnodes t + tnodes u)

  pub dm_arms_size : DmArms → ℕ
  dm_arms_size d_end = 0
  dm_arms_size (d_arm c xs d more) = dm_size d + dm_arms_size more

abbrev mutual
  pub cm_size : Cm → ℕ
  cm_size (c_ret t) = suc (tnodes t)
  cm_size (c_let x c1 c2) = suc (cm_size c1 + cm_size c2)
  cm_size (c_bind E x c1 c2) = suc (cm_size c1 + cm_size c2)
  cm_size (c_ghost x c1 c2) = suc (cm_size c1 + cm_size c2)
  cm_size (c_assert phi at c) = suc (tnodes phi + cm_size c)
  cm_size (c_if t c1 c2) = suc (tnodes t + cm_size c1 + cm_size c2)
  cm_size (c_match t at arms) = suc (tnodes t + cm_arms_size arms)
  cm_size (c_call j ts at) = suc (all_tnodes ts)
  cm_size (c_reify E S c t) = suc (cm_size c + tnodes t)
  cm_size (c_reflect E S x c) = suc (cm_size c)
  cm_size (c_return E c) = suc (cm_size c)
  cm_size (c_lift l c) = suc (cm_size c)

  pub cm_arms_size : CmArms → ℕ
  cm_arms_size c_end = 0
  cm_arms_size (c_arm c xs body more) = cm_size body + cm_arms_size more

-- at how many places a text names f, and g
abbrev mutual
  pub names_f : Dm → ℕ
  names_f (d_let x d1 d2) = names_f d1 + names_f d2
  names_f (d_if t d1 d2) = names_f d1 + names_f d2
  names_f (d_match t arms) = arms_name_f arms
  names_f (d_run_f t) = 1
  names_f _ = 0

  pub arms_name_f : DmArms → ℕ
  arms_name_f d_end = 0
  arms_name_f (d_arm c xs d more) = names_f d + arms_name_f more

abbrev mutual
  pub names_g : Dm → ℕ
  names_g (d_let x d1 d2) = names_g d1 + names_g d2
  names_g (d_if t d1 d2) = names_g d1 + names_g d2
  names_g (d_match t arms) = arms_name_g arms
  names_g (d_run_g t u) = 1
  names_g _ = 0

  pub arms_name_g : DmArms → ℕ
  arms_name_g d_end = 0
  arms_name_g (d_arm c xs d more) = names_g d + arms_name_g more

-- the text names neither of them at more than one place
pub record NamesOnce (d : Dm) : Type 0 where
  pub f : names_f d ≤ 1
  pub g : names_g d ≤ 1

-- so does each text of the program
pub record TextsNameOnce (P : Prog) : Type 0 where
  pub returns : (E : ℕ) (d : EffDef) → effect_at P E ≡ Some d → NamesOnce d.ret
  pub binds : (E : ℕ) (d : EffDef) → effect_at P E ≡ Some d → NamesOnce d.bind
  pub lifts : (l : ℕ) (d : LftDef) → slice_get P.lifts l ≡ Some d → NamesOnce d.text

-- the greatest size of a return or a bind of these effects, and of a text of these lifts, or 1
abbrev pub big_effects : List EffDef → ℕ
big_effects [] = 1
big_effects (d ∷ more) = max (max (dm_size d.ret) (dm_size d.bind)) (big_effects more)

abbrev pub big_lifts : List LftDef → ℕ
big_lifts [] = 1
big_lifts (d ∷ more) = max (dm_size d.text) (big_lifts more)

-- the greatest size of a return, bind or lift text of the program, or 1
abbrev pub big : Prog → ℕ
big P = max (big_effects P.effects) (big_lifts P.lifts)

-- what is inferred for a function has at most as many nodes as eight times the size of its body times that of the largest text
abbrev pub InferredAreSmall : Prog → Type 0
InferredAreSmall P = TextsNameOnce P → (f : Fn) → wnodes (infer_fun P f) ≤ 8 * cm_size f.body * big P
