-- What the induction on a run asks of core text besides sorts, and that a disciplined program keeps it: the effects of places say which
-- text has to end, and the effect of each part says that it does.
use Rattle.std.proofs.Common.{◌≡◌, ◌≤◌, ◌⊎◌, inl, inr, ℕ, Bool, true, false, List, slice_get, Option, Some, None, IsTrue, refl, sym, ap, ◌∙◌, subst}
use Rattle.std.specs.Prelude.{⊤}
use Rattle.fst_base.specs.Sorts.{Srt}
use Rattle.fst_program.specs.declared.effect.Effect.{Effect}
use Rattle.fst_program.specs.declared.effect.Effect.TheVariants as effect
use Rattle.fst_program.specs.Texts.{Cm, CmArms, c_ret, c_let, c_bind, c_ghost, c_assert, c_if, c_match, c_call, c_reify, c_reflect, c_return, c_lift, c_end, c_arm, EffDef, LftDef, Fn, Prog, if_there, fun_at, effect_at, group_of, is_ghost, is_pure, is_total, result_at}
use Rattle.fst_program.specs.Erasure.{Scope}
use Rattle.fst_program.specs.Sorted.{place_of, CmSorted, ArmsSorted, body_sorts, IsSorted}
use Rattle.fst_program.specs.Full.{DmFull, HasArm, CmFull, ArmsFull}
use Rattle.fst_program.specs.Places.{StandsAt, base_place, CmPlaced, ArmsPlaced}
use Rattle.fst_program.specs.Groups.{CmGrouped, ArmsGrouped}
use Rattle.fst_program.specs.Discipline.{body_scope, IsDisciplined}
use Rattle.fst_program.proofs.ThereLemmas.{there, same-there}

-- the function is without DIV
abbrev pub total_fun : Prog → ℕ → Bool
total_fun P j = if_there (fun_at P j) (λ g. is_total P g.effect) false

-- no match of the text is empty; it calls functions of groups up to the given one alone, where it has to end those without DIV, and its
-- ghost parts have to end
abbrev mutual
  pub CmKept : Prog → (group : ℕ) → (total : Bool) → Cm → Type 0
  CmKept P g total (c_ret t) = ⊤
  CmKept P g total (c_let x c1 c2) = CmKept P g total c1 × CmKept P g total c2
  CmKept P g total (c_bind E x c1 c2) = CmKept P g total c1 × CmKept P g total c2
  CmKept P g total (c_ghost x c1 c2) = CmKept P g true c1 × CmKept P g total c2
  CmKept P g total (c_assert phi at c) = CmKept P g total c
  CmKept P g total (c_if t c1 c2) = CmKept P g total c1 × CmKept P g total c2
  CmKept P g total (c_match t at arms) = HasArm arms × ArmsKept P g total arms
  CmKept P g total (c_call j ts at) = (total ≡ true → IsTrue (total_fun P j)) × (group_of P j ≤ g)
  CmKept P g total (c_reify E S c t) = CmKept P g total c
  CmKept P g total (c_reflect E S x c) = CmKept P g total c
  CmKept P g total (c_return E c) = CmKept P g total c
  CmKept P g total (c_lift l c) = CmKept P g total c

  pub ArmsKept : Prog → (group : ℕ) → (total : Bool) → CmArms → Type 0
  ArmsKept P g total c_end = ⊤
  ArmsKept P g total (c_arm c xs body more) = CmKept P g total body × ArmsKept P g total more

pub record IsKept (P : Prog) : Type 0 where
  pub returns : (E : ℕ) (d : EffDef) → effect_at P E ≡ Some d → DmFull d.ret
  pub binds : (E : ℕ) (d : EffDef) → effect_at P E ≡ Some d → DmFull d.bind
  pub lifts : (n : ℕ) (l : LftDef) → slice_get P.lifts n ≡ Some l → DmFull l.text
  pub bodies : (k : ℕ) (f : Fn) → fun_at P k ≡ Some f → CmKept P f.group (is_total P f.effect) f.body

-- ---- a disciplined program keeps this

user-place : (x : Effect) (E : ℕ) → place_of x ≡ Some E → x ≡ effect.User E
user-place effect.Pure E e = cc
user-place effect.Ghost E e = cc
user-place effect.Div E e = cc
user-place (effect.User D) E e = let p : D ≡ E = cc in ap effect.User p

module _ (P : Prog) (disciplined : IsDisciplined P) where
  -- the base of an effect that isn't there is DIV
  base-two : (E : ℕ) → (base_place P (effect.User E) ≡ effect.Pure) ⊎ (base_place P (effect.User E) ≡ effect.Div)
  base-two E = go (effect_at P E) (λ d e. disciplined.bases E d e)
    where
      go : (o : Option EffDef) → ((d : EffDef) → o ≡ Some d → (d.base ≡ effect.Pure) ⊎ (d.base ≡ effect.Div)) → (if_there o (λ d. d.base) effect.Div ≡ effect.Pure) ⊎ (if_there o (λ d. d.base) effect.Div ≡ effect.Div)
      go None h = inr refl
      go (Some d) h = h d refl

  base-placed : (x : Effect) → place_of (base_place P x) ≡ None
  base-placed effect.Pure = refl
  base-placed effect.Ghost = refl
  base-placed effect.Div = refl
  base-placed (effect.User E) = go (base-two E)
    where
      go : (base_place P (effect.User E) ≡ effect.Pure) ⊎ (base_place P (effect.User E) ≡ effect.Div) → place_of (base_place P (effect.User E)) ≡ None
      go (inl p) = ap place_of p
      go (inr p) = ap place_of p

  -- a user effect is total where its base is
  total-base : (E : ℕ) → is_total P (effect.User E) ≡ is_total P (base_place P (effect.User E))
  total-base E = go (effect_at P E) ∙ two (base-two E)
    where
      go : (o : Option EffDef) → if_there o (λ d. is_pure d.base) false ≡ is_pure (if_there o (λ d. d.base) effect.Div)
      go None = refl
      go (Some d) = refl

      two : (base_place P (effect.User E) ≡ effect.Pure) ⊎ (base_place P (effect.User E) ≡ effect.Div) → is_pure (base_place P (effect.User E)) ≡ is_total P (base_place P (effect.User E))
      two (inl p) = ap is_pure p ∙ sym (ap (is_total P) p)
      two (inr p) = ap is_pure p ∙ sym (ap (is_total P) p)

  base-total : (x : Effect) → is_total P x ≡ is_total P (base_place P x)
  base-total effect.Pure = refl
  base-total effect.Ghost = refl
  base-total effect.Div = refl
  base-total (effect.User E) = total-base E

  -- a part that stands at a total place is total
  stands-total : (part place : Effect) → StandsAt part place → is_total P place ≡ true → is_total P part ≡ true
  stands-total effect.Pure x s h = refl
  stands-total effect.Ghost x s h = refl
  stands-total effect.Div effect.Div s h = h
  stands-total effect.Div effect.Pure s h = absurd s
  stands-total effect.Div effect.Ghost s h = absurd s
  stands-total effect.Div (effect.User E) s h = absurd s
  stands-total (effect.User D) (effect.User E) s h = ap (λ n. is_total P (effect.User n)) s ∙ h
  stands-total (effect.User D) effect.Pure s h = absurd s
  stands-total (effect.User D) effect.Ghost s h = absurd s
  stands-total (effect.User D) effect.Div s h = absurd s

  -- the lower effect of a lift is total where the upper one is
  lift-total : (n : ℕ) (l : LftDef) → slice_get P.lifts n ≡ Some l → is_total P (effect.User l.«to») ≡ true → is_total P (effect.User l.from) ≡ true
  lift-total n l q h = go (base-two l.from)
    where
      go : (base_place P (effect.User l.from) ≡ effect.Pure) ⊎ (base_place P (effect.User l.from) ≡ effect.Div) → is_total P (effect.User l.from) ≡ true
      go (inl p) = total-base l.from ∙ ap (is_total P) p
      go (inr p) = let r : is_total P (effect.User l.«to») ≡ false = total-base l.«to» ∙ ap (is_total P) (disciplined.lifts n l q p) in cc

  module _ (f : Fn) where
    mutual
      -- text at a place that is total where the text has to end
      text-kept : (c : Cm) (gh : Bool) (hs : Scope) (Ss : List Srt) (x : Effect) (p : Option ℕ) (S : Srt) (total : Bool) → (total ≡ true → is_total P x ≡ true) → place_of x ≡ p
          → CmSorted P Ss p c S → CmPlaced P gh hs x c → CmGrouped P f c → CmFull c → CmKept P f.group total c
      text-kept (c_ret t) gh hs Ss x p S total h e s k o u = tt
      text-kept (c_let y c1 c2) gh hs Ss x p S total h e s k o u = (
        text-kept c1 gh hs Ss (base_place P x) None s.0 total (λ t. sym (base-total x) ∙ h t) (base-placed x) s.1.0 k.0 o.0 u.0,
        text-kept c2 gh _ _ x p S total h e s.1.1 k.1 o.1 u.1,
      )
      text-kept (c_bind E y c1 c2) gh hs Ss x p S total h e s k o u = (text-kept c1 gh hs Ss x p s.1.0 total h e s.1.1.0 k.0 o.0 u.0, text-kept c2 gh _ _ x p S total h e s.1.1.1 k.1 o.1 u.1)
      text-kept (c_ghost y c1 c2) gh hs Ss x p S total h e s k o u = (text-kept c1 true hs Ss effect.Ghost None s.0 true (λ t. refl) refl s.1.0 k.0 o.0 u.0, text-kept c2 gh _ _ x p S total h e s.1.1 k.1 o.1 u.1)
      text-kept (c_assert phi at c) gh hs Ss x p S total h e s k o u = text-kept c gh hs Ss x p S total h e s.1 k o.1 u
      text-kept (c_if t c1 c2) gh hs Ss x p S total h e s k o u = (text-kept c1 gh hs Ss x p S total h e s.1 k.1 o.0 u.0, text-kept c2 gh hs Ss x p S total h e s.2 k.2 o.1 u.1)
      text-kept (c_match t at arms) gh hs Ss x p S total h e s k o u = (u.0, arms-kept arms gh hs Ss x p s.0 S total h e s.1.1 k.1 o u.1)
      text-kept (c_call j ts at) gh hs Ss x p S total h e s k o u =
          let g = there (fun_at P j) _ k in
          let m = there (fun_at P j) _ o in (
            λ t. subst (λ o. IsTrue (if_there o (λ g. is_total P g.effect) false)) (sym g.1.0) (stands-total g.0.effect x g.1.1.0 (h t)),
            subst (λ o. if_there o (λ g. g.group) 0 ≤ f.group) (sym m.1.0) m.1.1.0,
          )
      text-kept (c_reify E T c t) gh hs Ss x p S total h e s k o u =
          text-kept c gh hs Ss (effect.User E) (Some E) T total (λ t. total-base E ∙ stands-total (base_place P (effect.User E)) x k.0 (h t)) refl s.2 k.2 o u
      text-kept (c_reflect E T y c) gh hs Ss x p S total h e s k o u =
          let d = there (effect_at P E) _ s.2 in
          let user = user-place x E (e ∙ s.0) in
          text-kept c gh _ _ (base_place P (effect.User E)) None (result_at P E T) total (λ t. sym (total-base E) ∙ ap (is_total P) (sym user) ∙ h t) (base-placed (effect.User E)) d.1.1 k o u
      text-kept (c_return E c) gh hs Ss x p S total h e s k o u = text-kept c gh hs Ss (base_place P x) None S total (λ t. sym (base-total x) ∙ h t) (base-placed x) s.1 k o u
      text-kept (c_lift n c) gh hs Ss x p S total h e s k o u =
          let l = there (slice_get P.lifts n) _ s in
          let m = there (slice_get P.lifts n) _ k in
          let same = same-there (slice_get P.lifts n) m.0 l.0 m.1.0 l.1.0 in
          let user = user-place x l.0.«to» (e ∙ l.1.1.0) in
          text-kept c gh hs Ss (effect.User l.0.from) (Some l.0.from) S total (λ t. lift-total n l.0 l.1.0 (ap (is_total P) (sym user) ∙ h t)) refl l.1.1.1 (subst (λ l. CmPlaced P gh hs (effect.User l.from) c) same m.1.1) o u

      arms-kept : (arms : CmArms) (gh : Bool) (hs : Scope) (Ss : List Srt) (x : Effect) (p : Option ℕ) (T S : Srt) (total : Bool) → (total ≡ true → is_total P x ≡ true) → place_of x ≡ p
          → ArmsSorted P Ss p T arms S → ArmsPlaced P gh hs x arms → ArmsGrouped P f arms → ArmsFull arms → ArmsKept P f.group total arms
      arms-kept c_end gh hs Ss x p T S total h e s k o u = tt
      arms-kept (c_arm c ys body more) gh hs Ss x p T S total h e s k o u = (text-kept body gh _ _ x p S total h e s.2 k.0 o.0 u.0, arms-kept more gh hs Ss x p T S total h e s.3 k.1 o.1 u.1)

pub disciplined-kept : (P : Prog) → IsSorted P → IsDisciplined P → IsKept P
disciplined-kept P sorted disciplined = record {
  returns = disciplined.full.returns;
  binds = disciplined.full.binds;
  lifts = disciplined.full.lifts;
  bodies = λ k f q. let own = disciplined.funs k f q in
      text-kept P disciplined f f.body (is_ghost f.effect) (body_scope f) (body_sorts P f) f.effect (place_of f.effect) f.sort (is_total P f.effect) (λ t. t) refl (sorted.funs k f q).body own.places own.calls (disciplined.full.bodies k f q);
}
