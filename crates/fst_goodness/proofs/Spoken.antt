-- The assertions of core text apply functions of groups before its own.
use Rattle.std.proofs.Common.{◌≡◌, ◌<◌, ◌⊎◌, inl, inr, ℕ, Some, IsTrue, ap, subst}
use Rattle.std.specs.Prelude.{⊤}
use Rattle.fst_program.specs.Texts.{Cm, CmArms, c_ret, c_let, c_bind, c_ghost, c_assert, c_if, c_match, c_call, c_reify, c_reflect, c_return, c_lift, c_end, c_arm, Fn, Prog, if_there, fun_at, is_total}
use Rattle.fst_program.specs.declared.effect.Effect.{Effect}
use Rattle.fst_program.specs.declared.effect.Effect.TheVariants as effect
use Rattle.fst_program.proofs.ThereLemmas.{there, same-there}
use Rattle.fst_program.specs.Groups.{TmEarlier, CmGrouped, ArmsGrouped}

abbrev mutual
  pub CmSpeaks : Prog → (group : ℕ) → Cm → Type 0
  CmSpeaks P n (c_ret t) = ⊤
  CmSpeaks P n (c_let x c1 c2) = CmSpeaks P n c1 × CmSpeaks P n c2
  CmSpeaks P n (c_bind E x c1 c2) = CmSpeaks P n c1 × CmSpeaks P n c2
  CmSpeaks P n (c_ghost x c1 c2) = CmSpeaks P n c1 × CmSpeaks P n c2
  CmSpeaks P n (c_assert phi at c) = TmEarlier P n phi × CmSpeaks P n c
  CmSpeaks P n (c_if t c1 c2) = CmSpeaks P n c1 × CmSpeaks P n c2
  CmSpeaks P n (c_match t at arms) = ArmsSpeak P n arms
  CmSpeaks P n (c_call j ts at) = ⊤
  CmSpeaks P n (c_reify E S c t) = CmSpeaks P n c
  CmSpeaks P n (c_reflect E S x c) = CmSpeaks P n c
  CmSpeaks P n (c_return E c) = CmSpeaks P n c
  CmSpeaks P n (c_lift l c) = CmSpeaks P n c

  pub ArmsSpeak : Prog → (group : ℕ) → CmArms → Type 0
  ArmsSpeak P n c_end = ⊤
  ArmsSpeak P n (c_arm c xs body more) = CmSpeaks P n body × ArmsSpeak P n more

module _ (P : Prog) (f : Fn) where
  mutual
    pub spoken : (c : Cm) → CmGrouped P f c → CmSpeaks P f.group c
    spoken (c_ret t) h = tt
    spoken (c_let x c1 c2) h = (spoken c1 h.0, spoken c2 h.1)
    spoken (c_bind E x c1 c2) h = (spoken c1 h.0, spoken c2 h.1)
    spoken (c_ghost x c1 c2) h = (spoken c1 h.0, spoken c2 h.1)
    spoken (c_assert phi at c) h = (h.0, spoken c h.1)
    spoken (c_if t c1 c2) h = (spoken c1 h.0, spoken c2 h.1)
    spoken (c_match t at arms) h = spoken-arms arms h
    spoken (c_call j ts at) h = tt
    spoken (c_reify E S c t) h = spoken c h
    spoken (c_reflect E S x c) h = spoken c h
    spoken (c_return E c) h = spoken c h
    spoken (c_lift l c) h = spoken c h

    spoken-arms : (arms : CmArms) → ArmsGrouped P f arms → ArmsSpeak P f.group arms
    spoken-arms c_end h = tt
    spoken-arms (c_arm c xs body more) h = (spoken body h.0, spoken-arms more h.1)

-- what a formula of group n applies stands in an earlier group, and is without DIV
pub applied-earlier : (P : Prog) (n k : ℕ) (f : Fn) → fun_at P k ≡ Some f → if_there (fun_at P k) (λ f. (f.group < n) × ((f.effect ≡ effect.Pure) ⊎ (f.effect ≡ effect.Ghost))) ⊥ → (f.group < n) × IsTrue (is_total P f.effect)
applied-earlier P n k f q h =
    let g = there (fun_at P k) _ h in
    subst (λ g. (g.group < n) × IsTrue (is_total P g.effect)) (same-there (fun_at P k) g.0 f g.1.0 q) (g.1.1.0, total g.0.effect g.1.1.1)
  where
    total : (x : Effect) → (x ≡ effect.Pure) ⊎ (x ≡ effect.Ghost) → IsTrue (is_total P x)
    total x (inl e) = ap (is_total P) e
    total x (inr e) = ap (is_total P) e
