-- Sizes of texts: sorts put in keep them; each text of a program is at most the greatest one.
use Rattle.std.proofs.Common.{◌≡◌, ℕ, zero, suc, ◌+◌, ◌*◌, ◌≤◌, List, [], ◌∷◌, Option, Some, None, slice_get, refl, ap, ap₂, subst, arith}
use Rattle.fst_base.specs.Sorts.{Srt}
use Rattle.fst_terms.specs.Terms.{Tm, Tms, t_var, t_int, t_bool, t_unit, t_prim, t_if, t_app, t_let, t_end, t_more}
use Rattle.fst_terms.specs.Formulas.{term_at, terms_at}
use Rattle.fst_program.specs.Texts.{Dm, DmArms, d_ret, d_let, d_if, d_match, d_run_f, d_run_g, d_end, d_arm, EffDef, LftDef, Prog, if_there, effect_at, bind_text, return_text, lift_text}
use Rattle.fst_program.specs.Paths.{dm_at, dm_arms_at}
use Rattle.fst_star.specs.Size.{tnodes, all_tnodes, dm_size, dm_arms_size, names_f, arms_name_f, names_g, arms_name_g, NamesOnce, TextsNameOnce, big_effects, big_lifts, big}

module _ (A B : Srt) where
  mutual
    tnodes-at : (t : Tm) → tnodes (term_at A B t) ≡ tnodes t
    tnodes-at (t_var i) = refl
    tnodes-at (t_int n) = refl
    tnodes-at (t_bool b) = refl
    tnodes-at t_unit = refl
    tnodes-at (t_prim o S ts at) = ap suc (all-tnodes-at ts)
    tnodes-at (t_if c t u) = ap suc (ap₂ ◌+◌ (ap₂ ◌+◌ (tnodes-at c) (tnodes-at t)) (tnodes-at u))
    tnodes-at (t_app k S ts) = ap suc (all-tnodes-at ts)
    tnodes-at (t_let x t u) = ap suc (ap₂ ◌+◌ (tnodes-at t) (tnodes-at u))

    all-tnodes-at : (ts : Tms) → all_tnodes (terms_at A B ts) ≡ all_tnodes ts
    all-tnodes-at t_end = refl
    all-tnodes-at (t_more t ts) = ap₂ ◌+◌ (tnodes-at t) (all-tnodes-at ts)

  mutual
    pub dm-size-at : (d : Dm) → dm_size (dm_at A B d) ≡ dm_size d
    dm-size-at (d_ret t) = ap suc (tnodes-at t)
    dm-size-at (d_let x d1 d2) = ap suc (ap₂ ◌+◌ (dm-size-at d1) (dm-size-at d2))
    dm-size-at (d_if t d1 d2) = ap suc (ap₂ ◌+◌ (ap₂ ◌+◌ (tnodes-at t) (dm-size-at d1)) (dm-size-at d2))
    dm-size-at (d_match t arms) = ap suc (ap₂ ◌+◌ (tnodes-at t) (dm-arms-size-at arms))
    dm-size-at (d_run_f t) = ap suc (tnodes-at t)
    dm-size-at (d_run_g t u) = ap suc (ap₂ ◌+◌ (tnodes-at t) (tnodes-at u))

    dm-arms-size-at : (arms : DmArms) → dm_arms_size (dm_arms_at A B arms) ≡ dm_arms_size arms
    dm-arms-size-at d_end = refl
    dm-arms-size-at (d_arm c xs d more) = ap₂ ◌+◌ (dm-size-at d) (dm-arms-size-at more)

  mutual
    pub names-f-at : (d : Dm) → names_f (dm_at A B d) ≡ names_f d
    names-f-at (d_ret t) = refl
    names-f-at (d_let x d1 d2) = ap₂ ◌+◌ (names-f-at d1) (names-f-at d2)
    names-f-at (d_if t d1 d2) = ap₂ ◌+◌ (names-f-at d1) (names-f-at d2)
    names-f-at (d_match t arms) = arms-name-f-at arms
    names-f-at (d_run_f t) = refl
    names-f-at (d_run_g t u) = refl

    arms-name-f-at : (arms : DmArms) → arms_name_f (dm_arms_at A B arms) ≡ arms_name_f arms
    arms-name-f-at d_end = refl
    arms-name-f-at (d_arm c xs d more) = ap₂ ◌+◌ (names-f-at d) (arms-name-f-at more)

  mutual
    pub names-g-at : (d : Dm) → names_g (dm_at A B d) ≡ names_g d
    names-g-at (d_ret t) = refl
    names-g-at (d_let x d1 d2) = ap₂ ◌+◌ (names-g-at d1) (names-g-at d2)
    names-g-at (d_if t d1 d2) = ap₂ ◌+◌ (names-g-at d1) (names-g-at d2)
    names-g-at (d_match t arms) = arms-name-g-at arms
    names-g-at (d_run_f t) = refl
    names-g-at (d_run_g t u) = refl

    arms-name-g-at : (arms : DmArms) → arms_name_g (dm_arms_at A B arms) ≡ arms_name_g arms
    arms-name-g-at d_end = refl
    arms-name-g-at (d_arm c xs d more) = ap₂ ◌+◌ (names-g-at d) (arms-name-g-at more)

-- ---- the texts of a program

-- a text that names f and g at most once each, and whose translation has at most 7 nodes for each of K besides those of f and g
pub record IsSmall (K : ℕ) (d : Dm) : Type 0 where
  pub once : NamesOnce d
  pub size : 3 * dm_size d + names_f d + names_g d ≤ 7 * K

small-by : (K : ℕ) (d : Dm) → 1 ≤ K → dm_size d ≤ K → NamesOnce d → IsSmall K d
small-by K d h k once = record { once = once; size = let f = once.f in let g = once.g in go once.f once.g }
  where
    go : names_f d ≤ 1 → names_g d ≤ 1 → 3 * dm_size d + names_f d + names_g d ≤ 7 * K
    go f g = omega arith

small-unit : (K : ℕ) → 1 ≤ K → IsSmall K (d_ret t_unit)
small-unit K h = record { once = record { f = omega arith; g = omega arith }; size = omega arith }

effects-big : (ds : List EffDef) → 1 ≤ big_effects ds
effects-big [] = omega arith
effects-big (d ∷ more) = let h = effects-big more in omega arith

pub big-least : (P : Prog) → 1 ≤ big P
big-least P = let h = effects-big P.effects in omega arith

return-big : (ds : List EffDef) (E : ℕ) (d : EffDef) → slice_get ds E ≡ Some d → dm_size d.ret ≤ big_effects ds
return-big [] E d q = cc
return-big (x ∷ more) zero d q = let h : x ≡ d = cc in subst (λ y. dm_size y.ret ≤ big_effects (x ∷ more)) h (omega arith)
return-big (x ∷ more) (suc E) d q = let h = return-big more E d q in omega arith

bind-big : (ds : List EffDef) (E : ℕ) (d : EffDef) → slice_get ds E ≡ Some d → dm_size d.bind ≤ big_effects ds
bind-big [] E d q = cc
bind-big (x ∷ more) zero d q = let h : x ≡ d = cc in subst (λ y. dm_size y.bind ≤ big_effects (x ∷ more)) h (omega arith)
bind-big (x ∷ more) (suc E) d q = let h = bind-big more E d q in omega arith

lift-big : (ds : List LftDef) (l : ℕ) (d : LftDef) → slice_get ds l ≡ Some d → dm_size d.text ≤ big_lifts ds
lift-big [] l d q = cc
lift-big (x ∷ more) zero d q = let h : x ≡ d = cc in subst (λ y. dm_size y.text ≤ big_lifts (x ∷ more)) h (omega arith)
lift-big (x ∷ more) (suc l) d q = let h = lift-big more l d q in omega arith

module _ (P : Prog) (once : TextsNameOnce P) where
  pub bind-small : (E : ℕ) → IsSmall (big P) (bind_text P E)
  bind-small E = go (effect_at P E) (λ d q. small-by (big P) d.bind (big-least P) (let h = bind-big P.effects E d q in omega arith) (once.binds E d q))
    where
      go : (m : Option EffDef) → ((d : EffDef) → m ≡ Some d → IsSmall (big P) d.bind) → IsSmall (big P) (if_there m (λ d. d.bind) (d_ret t_unit))
      go None h = small-unit (big P) (big-least P)
      go (Some d) h = h d refl

  pub return-small : (E : ℕ) → IsSmall (big P) (return_text P E)
  return-small E = go (effect_at P E) (λ d q. small-by (big P) d.ret (big-least P) (let h = return-big P.effects E d q in omega arith) (once.returns E d q))
    where
      go : (m : Option EffDef) → ((d : EffDef) → m ≡ Some d → IsSmall (big P) d.ret) → IsSmall (big P) (if_there m (λ d. d.ret) (d_ret t_unit))
      go None h = small-unit (big P) (big-least P)
      go (Some d) h = h d refl

  pub lift-small : (l : ℕ) → IsSmall (big P) (lift_text P l)
  lift-small l = go (slice_get P.lifts l) (λ d q. small-by (big P) d.text (big-least P) (let h = lift-big P.lifts l d q in omega arith) (once.lifts l d q))
    where
      go : (m : Option LftDef) → ((d : LftDef) → m ≡ Some d → IsSmall (big P) d.text) → IsSmall (big P) (if_there m (λ d. d.text) (d_ret t_unit))
      go None h = small-unit (big P) (big-least P)
      go (Some d) h = h d refl
