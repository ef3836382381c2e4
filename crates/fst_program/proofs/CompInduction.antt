-- Induction over core text; its plain tree tells the text.
use Rattle.std.proofs.Common.{ℕ, List, [], ◌∷◌, ◌≡◌, refl, sym, ap, ap₂, ◌∙◌, subst, map, All}
use Rattle.std.proofs.lemmas.List.Elements.{All-nil, All-cons, All-head, All-tail}
use Rattle.fst_base.specs.declared.place.Pos.{Pos}
use Rattle.fst_base.specs.declared.sort.Sort.{Sort}
use Rattle.fst_base.proofs.SortLemmas.{sort_of_plain, sort-back}
use Rattle.fst_terms.specs.declared.term.Term.{Term}
use Rattle.fst_terms.proofs.TermInduction.{term_of_plain, terms_of_plain, term-back, terms-back}
use Rattle.fst_program.specs.declared.comp.Arm.{Arm}
use Rattle.fst_program.specs.declared.comp.Comp.{Comp, roll-Comp, map-Comp, ind-Comp}
use Rattle.fst_program.specs.declared.comp.Comp.TheVariants as V
use Rattle.fst_program.specs.declared.comp.Comp.TheOpen as CF
use Rattle.fst_program.specs.declared.comp.Comp.TheOpen.{Comp-F}
use Rattle.fst_program.specs.Texts.{Cm, CmArms, c_ret, c_let, c_bind, c_ghost, c_assert, c_if, c_match, c_call, c_reify, c_reflect, c_return, c_lift, c_end, c_arm}
use Rattle.fst_program.specs.Plain.{plain_comp}
use Rattle.fst_program.proofs.PlainLemmas.{plain_arms, plain-comp-Ret, plain-comp-Let, plain-comp-Bind, plain-comp-GhostLet, plain-comp-Assert, plain-comp-If, plain-comp-Match, plain-comp-Call, plain-comp-Reify, plain-comp-Reflect, plain-comp-Return, plain-comp-Lift}

module _ (P : Comp → Type 0) where
  -- P holds for the text of the arm
  abbrev pub AtArm : Arm Comp → Type 0
  AtArm arm = P arm.body

  -- what an induction over core text has to show
  pub record CompSteps : Type 0 where
    pub at_ret : (t : Term) → P (V.Ret t)
    pub at_let : (x : List ℕ) (a b : Comp) → P a → P b → P (V.Let x a b)
    pub at_bind : (E : ℕ) (x : List ℕ) (a b : Comp) → P a → P b → P (V.Bind E x a b)
    pub at_ghost : (x : List ℕ) (a b : Comp) → P a → P b → P (V.GhostLet x a b)
    pub at_assert : (phi : Term) (p : Pos) (a : Comp) → P a → P (V.Assert phi p a)
    pub at_if : (t : Term) (a b : Comp) → P a → P b → P (V.If t a b)
    pub at_match : (t : Term) (p : Pos) (arms : List (Arm Comp)) → All AtArm arms → P (V.Match t p arms)
    pub at_call : (j : ℕ) (ts : List Term) (p : Pos) → P (V.Call j ts p)
    pub at_reify : (E : ℕ) (S : Sort) (a : Comp) (t : Term) → P a → P (V.Reify E S a t)
    pub at_reflect : (E : ℕ) (S : Sort) (x : List ℕ) (a : Comp) → P a → P (V.Reflect E S x a)
    pub at_return : (E : ℕ) (a : Comp) → P a → P (V.Return E a)
    pub at_lift : (l : ℕ) (a : Comp) → P a → P (V.Lift l a)

  -- a part that P holds for
  abbrev Known : Type 0
  Known = (c : Comp) × P c

  abbrev known_arm : Arm Known → Arm Comp
  known_arm arm = record { con = arm.con; names = arm.names; body = arm.body.0 }

  all_known : (arms : List (Arm Known)) → All AtArm (map known_arm arms)
  all_known [] = All-nil AtArm
  all_known (arm ∷ arms) = All-cons AtArm (known_arm arm) _ arm.body.1 (all_known arms)

  step : CompSteps → (y : Comp-F Known) → P (roll-Comp (map-Comp Known Comp (λ c. c.0) y))
  step s (CF.Ret t) = subst P (sym (V.rolls-Ret t)) (s.at_ret t)
  step s (CF.Let x a b) = subst P (sym (V.rolls-Let x a.0 b.0)) (s.at_let x a.0 b.0 a.1 b.1)
  step s (CF.Bind E x a b) = subst P (sym (V.rolls-Bind E x a.0 b.0)) (s.at_bind E x a.0 b.0 a.1 b.1)
  step s (CF.GhostLet x a b) = subst P (sym (V.rolls-GhostLet x a.0 b.0)) (s.at_ghost x a.0 b.0 a.1 b.1)
  step s (CF.Assert phi p a) = subst P (sym (V.rolls-Assert phi p a.0)) (s.at_assert phi p a.0 a.1)
  step s (CF.If t a b) = subst P (sym (V.rolls-If t a.0 b.0)) (s.at_if t a.0 b.0 a.1 b.1)
  step s (CF.Match t p arms) = subst P (sym (V.rolls-Match t p _)) (s.at_match t p _ (all_known arms))
  step s (CF.Call j ts p) = subst P (sym (V.rolls-Call j ts p)) (s.at_call j ts p)
  step s (CF.Reify E S a t) = subst P (sym (V.rolls-Reify E S a.0 t)) (s.at_reify E S a.0 t a.1)
  step s (CF.Reflect E S x a) = subst P (sym (V.rolls-Reflect E S x a.0)) (s.at_reflect E S x a.0 a.1)
  step s (CF.Return E a) = subst P (sym (V.rolls-Return E a.0)) (s.at_return E a.0 a.1)
  step s (CF.Lift l a) = subst P (sym (V.rolls-Lift l a.0)) (s.at_lift l a.0 a.1)

  pub comp_by_parts : CompSteps → (c : Comp) → P c
  comp_by_parts s = ind-Comp P (λ x y is. subst (λ z. P (roll-Comp z)) is (step s y))

-- the text of a plain tree
abbrev mutual
  pub comp_of_plain : Cm → Comp
  comp_of_plain (c_ret t) = V.Ret (term_of_plain t)
  comp_of_plain (c_let x a b) = V.Let x (comp_of_plain a) (comp_of_plain b)
  comp_of_plain (c_bind E x a b) = V.Bind E x (comp_of_plain a) (comp_of_plain b)
  comp_of_plain (c_ghost x a b) = V.GhostLet x (comp_of_plain a) (comp_of_plain b)
  comp_of_plain (c_assert phi at a) = V.Assert (term_of_plain phi) (record { at = at }) (comp_of_plain a)
  comp_of_plain (c_if t a b) = V.If (term_of_plain t) (comp_of_plain a) (comp_of_plain b)
  comp_of_plain (c_match t at arms) = V.Match (term_of_plain t) (record { at = at }) (arms_of_plain arms)
  comp_of_plain (c_call j ts at) = V.Call j (terms_of_plain ts) (record { at = at })
  comp_of_plain (c_reify E S a t) = V.Reify E (sort_of_plain S) (comp_of_plain a) (term_of_plain t)
  comp_of_plain (c_reflect E S x a) = V.Reflect E (sort_of_plain S) x (comp_of_plain a)
  comp_of_plain (c_return E a) = V.Return E (comp_of_plain a)
  comp_of_plain (c_lift l a) = V.Lift l (comp_of_plain a)

  pub arms_of_plain : CmArms → List (Arm Comp)
  arms_of_plain c_end = []
  arms_of_plain (c_arm con xs a more) = (record { con = con; names = xs; body = comp_of_plain a }) ∷ arms_of_plain more

abbrev Back : Comp → Type 0
Back c = comp_of_plain (plain_comp c) ≡ c

abbrev arm_with : Arm Comp → Comp → Arm Comp
arm_with arm c = record { con = arm.con; names = arm.names; body = c }

arms-back : (arms : List (Arm Comp)) → All (AtArm Back) arms → arms_of_plain (plain_arms arms) ≡ arms
arms-back [] h = refl
arms-back (arm ∷ arms) h = ap₂ ◌∷◌ (ap (arm_with arm) (All-head (AtArm Back) arm arms h)) (arms-back arms (All-tail (AtArm Back) arm arms h))

pub comp-back : (c : Comp) → comp_of_plain (plain_comp c) ≡ c
comp-back = comp_by_parts Back (record {
  at_ret = λ t. ap comp_of_plain (plain-comp-Ret t) ∙ ap V.Ret (term-back t);
  at_let = λ x a b p q. ap comp_of_plain (plain-comp-Let x a b) ∙ ap₂ (V.Let x) p q;
  at_bind = λ E x a b p q. ap comp_of_plain (plain-comp-Bind E x a b) ∙ ap₂ (V.Bind E x) p q;
  at_ghost = λ x a b p q. ap comp_of_plain (plain-comp-GhostLet x a b) ∙ ap₂ (V.GhostLet x) p q;
  at_assert = λ phi at a p. ap comp_of_plain (plain-comp-Assert phi at a) ∙ ap₂ (λ t c. V.Assert t at c) (term-back phi) p;
  at_if = λ t a b p q. ap comp_of_plain (plain-comp-If t a b) ∙ ap (λ t. V.If t _ _) (term-back t) ∙ ap₂ (V.If t) p q;
  at_match = λ t at arms h. ap comp_of_plain (plain-comp-Match t at arms) ∙ ap₂ (λ t arms. V.Match t at arms) (term-back t) (arms-back arms h);
  at_call = λ j ts at. ap comp_of_plain (plain-comp-Call j ts at) ∙ ap (λ ts. V.Call j ts at) (terms-back ts);
  at_reify = λ E S a t p. ap comp_of_plain (plain-comp-Reify E S a t) ∙ ap (λ S. V.Reify E S _ _) (sort-back S) ∙ ap₂ (V.Reify E S) p (term-back t);
  at_reflect = λ E S x a p. ap comp_of_plain (plain-comp-Reflect E S x a) ∙ ap₂ (λ S c. V.Reflect E S x c) (sort-back S) p;
  at_return = λ E a p. ap comp_of_plain (plain-comp-Return E a) ∙ ap (V.Return E) p;
  at_lift = λ l a p. ap comp_of_plain (plain-comp-Lift l a) ∙ ap (V.Lift l) p;
})

-- two texts with one plain tree are equal
pub comp-injective : (c d : Comp) → plain_comp c ≡ plain_comp d → c ≡ d
comp-injective c d e = sym (comp-back c) ∙ ap comp_of_plain e ∙ comp-back d
