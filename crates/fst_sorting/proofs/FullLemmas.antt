-- Every match of a program has an arm.
use Rattle.std.proofs.Common.{◌≡◌, ℕ, suc, true, false, List, [], ◌∷◌, map, length, slice_get, Option, Some, None, sym, ◌∙◌, subst}
use Rattle.fst_base.specs.Sorts.{Srt}
use Rattle.fst_terms.specs.Terms.{Tms}
use Rattle.fst_program.specs.declared.effect.Effect.{Effect}
use Rattle.fst_program.specs.declared.effect.Effect.TheVariants as effect
use Rattle.fst_program.specs.Texts.{Cm, c_lift}
use Rattle.fst_names.specs.declared.reference.Ref.{Ref}
use Rattle.fst_names.specs.declared.reference.RefKind.{RefKind}
use Rattle.fst_names.specs.declared.reference.RefKind.TheVariants as kind
use Rattle.fst_names.specs.Trees.{WText, WPart, WArms, WDecl, x_let, x_assert, x_if, x_match, x_part, p_block, p_call, p_reify, p_reflect, p_term, x_end, x_arm}
use Rattle.fst_program.specs.Full.{CmFull, ArmsFull, IsFull, HasArm, HasDmArm, DmFull, DmArmsFull}
use Rattle.fst_effects.specs.Known.{Ctx, Known, sort_of}
use Rattle.fst_effects.specs.TextSorts.{part_effect}
use Rattle.fst_effects.specs.Definitions.{run_text, core_dm, core_dm_part, core_dm_arms, effect_sorts, effects_of, lifts_of, core_effect, core_lift, known_in_return, known_in_bind, known_in_lift, return_scope, input_scope, at_b}
use Rattle.fst_sorting.specs.CoreTexts.{lifted, lifted_along, bind_or_let, tail, tail_of, core_text, core_part, core_arms}
use Rattle.fst_sorting.specs.Functions.{core_program, known_in, effect_of, scope_of}
use Rattle.fst_sorting.specs.Written.{has_arm}
use Rattle.fst_sorting.proofs.Scoped.{TextScoped, PartScoped, ArmsScoped, AreScoped}
use Rattle.fst_sorting.proofs.ListLemmas.{get-map, mapped}
use Rattle.fst_sorting.proofs.ProgramLemmas.{fun-from}
use Rattle.fst_effects.specs.Definitions as def

-- ---- each match has an arm

module _ (K : Known) where
  run-full : (k : RefKind) (ts : Tms) → DmFull (run_text k ts)
  run-full kind.RunG ts = tt
  run-full k ts = tt

  dm-arm : (xs : Ctx) (S : Srt) (arms : WArms Ref) (W : Option Srt) → has_arm arms ≡ true → HasDmArm (core_dm_arms K xs S arms W)
  dm-arm xs S x_end W e = cc
  dm-arm xs S (x_arm at con ws c more) W e = tt

  mutual
    pub dm-full : (n : ℕ) (xs : Ctx) (c : WText Ref) (W : Option Srt) → TextScoped K false n c → DmFull (core_dm K xs c W)
    dm-full n xs (x_let true y s p c) W d = cc
    dm-full n xs (x_let false y s p c) W d = (dm-part-full n xs p _ d.0, dm-full (suc n) _ c W d.1)
    dm-full n xs (x_assert f at c) W d = cc
    dm-full n xs (x_if f c e) W d = (dm-full n xs c _ d.1, dm-full n xs e _ d.2)
    dm-full n xs (x_match f at arms) W d = (dm-arm xs _ arms _ d.2, dm-arms-full n xs _ arms _ d.1)
    dm-full n xs (x_part p) W d = dm-part-full n xs p W d

    dm-part-full : (n : ℕ) (xs : Ctx) (p : WPart Ref) (W : Option Srt) → PartScoped K false n p → DmFull (core_dm_part K xs p W)
    dm-part-full n xs (p_block at c) W d = dm-full n xs c W d
    dm-part-full n xs (p_call at r fs) W d = run-full r.kind _
    dm-part-full n xs (p_reify at r s c f) W d = cc
    dm-part-full n xs (p_reflect at r s y c) W d = cc
    dm-part-full n xs (p_term at f) W d = tt

    dm-arms-full : (n : ℕ) (xs : Ctx) (S : Srt) (arms : WArms Ref) (W : Option Srt) → ArmsScoped K false n arms → DmArmsFull (core_dm_arms K xs S arms W)
    dm-arms-full n xs S x_end W d = tt
    dm-arms-full n xs S (x_arm at con ws c more) W d = (dm-full _ _ c W d.1, dm-arms-full n xs S more W d.2)

-- ---- core text has no empty match

module _ (K : Known) where
  core-arm : (x : Effect) (xs : Ctx) (S : Srt) (arms : WArms Ref) (W : Option Srt) → has_arm arms ≡ true → HasArm (core_arms K x xs S arms W)
  core-arm x xs S x_end W e = cc
  core-arm x xs S (x_arm at con ws c more) W e = tt

  lifted-full : (ls : List ℕ) (c : Cm) → CmFull c → CmFull (lifted K ls c)
  lifted-full [] c h = h
  lifted-full (l ∷ ls) c h = lifted-full ls (c_lift l c) h

  along-full : (o : Option (List ℕ)) (c : Cm) → CmFull c → CmFull (lifted_along K o c)
  along-full None c h = h
  along-full (Some ls) c h = lifted-full ls c h

  bind-full : (x e : Effect) (y : List ℕ) (c1 c2 : Cm) → CmFull c1 → CmFull c2 → CmFull (bind_or_let K x e y c1 c2)
  bind-full (effect.User E) (effect.User D) y c1 c2 h k = (along-full (K.path D E) c1 h, k)
  bind-full x e y c1 c2 h k = (h, k)

  tail-full : (x e : Effect) (c : Cm) → CmFull c → CmFull (tail K x e c)
  tail-full (effect.User E) (effect.User D) c h = along-full (K.path D E) c h
  tail-full x e c h = h

  tail-of-full : (x : Effect) (q : WPart Ref) (c : Cm) → CmFull c → CmFull (tail_of K x q c)
  tail-of-full x (p_block at d) c h = h
  tail-of-full x (p_call at f fs) c h = tail-full x _ c h
  tail-of-full x (p_reify at f s d g) c h = tail-full x _ c h
  tail-of-full x (p_reflect at f s y d) c h = tail-full x _ c h
  tail-of-full x (p_term at f) c h = tail-full x effect.Pure c h

  mutual
    pub text-full : (x : Effect) (n : ℕ) (xs : Ctx) (c : WText Ref) (W : Option Srt) → TextScoped K true n c → CmFull (core_text K x xs c W)
    text-full x n xs (x_let true y s p c) W d = (part-full effect.Ghost n xs p _ d.1, text-full x (suc n) _ c W d.2)
    text-full x n xs (x_let false y s p c) W d = bind-full x (part_effect K x p) y.text _ _ (part-full x n xs p _ d.0) (text-full x (suc n) _ c W d.1)
    text-full x n xs (x_assert f at c) W d = text-full x n xs c W d.2
    text-full x n xs (x_if f c e) W d = (text-full x n xs c _ d.1, text-full x n xs e _ d.2)
    text-full x n xs (x_match f at arms) W d = (core-arm x xs _ arms _ d.2, arms-full x n xs _ arms _ d.1)
    text-full x n xs (x_part p) W d = tail-of-full x p _ (part-full x n xs p W d)

    part-full : (x : Effect) (n : ℕ) (xs : Ctx) (p : WPart Ref) (W : Option Srt) → PartScoped K true n p → CmFull (core_part K x xs p W)
    part-full x n xs (p_block at c) W d = text-full x n xs c W d
    part-full x n xs (p_call at r fs) W d = tt
    part-full x n xs (p_reify at r s c f) W d = text-full (effect.User r.index) n xs c _ d.2
    part-full x n xs (p_reflect at r s y c) W d = text-full _ (suc n) _ c _ d.2
    part-full x n xs (p_term at f) W d = tt

    arms-full : (x : Effect) (n : ℕ) (xs : Ctx) (S : Srt) (arms : WArms Ref) (W : Option Srt) → ArmsScoped K true n arms → ArmsFull (core_arms K x xs S arms W)
    arms-full x n xs S x_end W d = tt
    arms-full x n xs S (x_arm at con ws c more) W d = (text-full x _ _ c W d.1, arms-full x n xs S more W d.2)

pub program-full : (ds : List (WDecl Ref)) → AreScoped ds → IsFull (core_program ds)
program-full ds s = record {
  returns = λ E d e.
      let w = mapped core_effect (slice_get (effects_of ds) E) d (sym (get-map core_effect (effects_of ds) E) ∙ e) in
      subst (λ d. DmFull d.ret) (sym w.1.1) (let q = effect_sorts w.0 in dm-full known_in_return (length (return_scope q)) (return_scope q) w.0.ret (Some q.result) (s.effects E w.0 w.1.0).ret);
  binds = λ E d e.
      let w = mapped core_effect (slice_get (effects_of ds) E) d (sym (get-map core_effect (effects_of ds) E) ∙ e) in
      subst (λ d. DmFull d.bind) (sym w.1.1) (let q = effect_sorts w.0 in dm-full (known_in_bind q) (length (input_scope q)) (input_scope q) w.0.bind (Some (at_b q.result)) (s.effects E w.0 w.1.0).bind);
  lifts = λ n l e.
      let Es = map effect_sorts (effects_of ds) in
      let w = mapped (core_lift Es) (slice_get (lifts_of ds) n) l (sym (get-map (core_lift Es) (lifts_of ds) n) ∙ e) in
      subst (λ l. DmFull l.text) (sym w.1.1) (dm-full (known_in_lift (def.effect_at Es w.0.from)) (length (input_scope (def.effect_at Es w.0.«to»))) (input_scope (def.effect_at Es w.0.«to»)) w.0.text (Some (def.effect_at Es w.0.«to»).result) (s.lifts n w.0 w.1.0).text);
  bodies = λ k f e.
      let w = fun-from ds k f e in
      subst (λ f. CmFull f.body) (sym w.1.1) (text-full (known_in ds) (effect_of w.0.tree.effect) (length (scope_of w.0.tree.params)) (scope_of w.0.tree.params) w.0.tree.body (Some (sort_of w.0.tree.sort)) (s.funs k w.0 w.1.0).body);
}
