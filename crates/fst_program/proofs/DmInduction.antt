-- Induction over definition text; its plain tree tells the text.
use Rattle.std.proofs.Common.{ℕ, List, [], ◌∷◌, ◌≡◌, refl, sym, ap, ap₂, ◌∙◌, subst, map, All}
use Rattle.std.proofs.lemmas.List.Elements.{All-nil, All-cons, All-head, All-tail}
use Rattle.fst_terms.specs.declared.term.Term.{Term}
use Rattle.fst_terms.proofs.TermInduction.{term_of_plain, term-back}
use Rattle.fst_program.specs.declared.comp.Arm.{Arm}
use Rattle.fst_program.specs.declared.definition.DmTerm.{DmTerm, roll-DmTerm, map-DmTerm, ind-DmTerm}
use Rattle.fst_program.specs.declared.definition.DmTerm.TheVariants as V
use Rattle.fst_program.specs.declared.definition.DmTerm.TheOpen as DF
use Rattle.fst_program.specs.declared.definition.DmTerm.TheOpen.{DmTerm-F}
use Rattle.fst_program.specs.Texts.{Dm, DmArms, d_ret, d_let, d_if, d_match, d_run_f, d_run_g, d_end, d_arm}
use Rattle.fst_program.specs.Plain.{plain_dm}
use Rattle.fst_program.proofs.PlainLemmas.{plain_dm_arms, plain-dm-Ret, plain-dm-Let, plain-dm-If, plain-dm-Match, plain-dm-RunF, plain-dm-RunG}

module _ (P : DmTerm → Type 0) where
  -- P holds for the text of the arm
  abbrev pub AtArm : Arm DmTerm → Type 0
  AtArm arm = P arm.body

  -- what an induction over definition text has to show
  pub record DmSteps : Type 0 where
    pub at_ret : (t : Term) → P (V.Ret t)
    pub at_let : (x : List ℕ) (a b : DmTerm) → P a → P b → P (V.Let x a b)
    pub at_if : (t : Term) (a b : DmTerm) → P a → P b → P (V.If t a b)
    pub at_match : (t : Term) (arms : List (Arm DmTerm)) → All AtArm arms → P (V.Match t arms)
    pub at_run_f : (t : Term) → P (V.RunF t)
    pub at_run_g : (t u : Term) → P (V.RunG t u)

  -- a part that P holds for
  abbrev Known : Type 0
  Known = (d : DmTerm) × P d

  abbrev known_arm : Arm Known → Arm DmTerm
  known_arm arm = record { con = arm.con; names = arm.names; body = arm.body.0 }

  all_known : (arms : List (Arm Known)) → All AtArm (map known_arm arms)
  all_known [] = All-nil AtArm
  all_known (arm ∷ arms) = All-cons AtArm (known_arm arm) _ arm.body.1 (all_known arms)

  step : DmSteps → (y : DmTerm-F Known) → P (roll-DmTerm (map-DmTerm Known DmTerm (λ d. d.0) y))
  step s (DF.Ret t) = subst P (sym (V.rolls-Ret t)) (s.at_ret t)
  step s (DF.Let x a b) = subst P (sym (V.rolls-Let x a.0 b.0)) (s.at_let x a.0 b.0 a.1 b.1)
  step s (DF.If t a b) = subst P (sym (V.rolls-If t a.0 b.0)) (s.at_if t a.0 b.0 a.1 b.1)
  step s (DF.Match t arms) = subst P (sym (V.rolls-Match t _)) (s.at_match t _ (all_known arms))
  step s (DF.RunF t) = subst P (sym (V.rolls-RunF t)) (s.at_run_f t)
  step s (DF.RunG t u) = subst P (sym (V.rolls-RunG t u)) (s.at_run_g t u)

  pub dm_by_parts : DmSteps → (d : DmTerm) → P d
  dm_by_parts s = ind-DmTerm P (λ x y is. subst (λ z. P (roll-DmTerm z)) is (step s y))

-- the text of a plain tree
abbrev mutual
  pub dm_of_plain : Dm → DmTerm
  dm_of_plain (d_ret t) = V.Ret (term_of_plain t)
  dm_of_plain (d_let x a b) = V.Let x (dm_of_plain a) (dm_of_plain b)
  dm_of_plain (d_if t a b) = V.If (term_of_plain t) (dm_of_plain a) (dm_of_plain b)
  dm_of_plain (d_match t arms) = V.Match (term_of_plain t) (dm_arms_of_plain arms)
  dm_of_plain (d_run_f t) = V.RunF (term_of_plain t)
  dm_of_plain (d_run_g t u) = V.RunG (term_of_plain t) (term_of_plain u)

  pub dm_arms_of_plain : DmArms → List (Arm DmTerm)
  dm_arms_of_plain d_end = []
  dm_arms_of_plain (d_arm con xs a more) = (record { con = con; names = xs; body = dm_of_plain a }) ∷ dm_arms_of_plain more

abbrev Back : DmTerm → Type 0
Back d = dm_of_plain (plain_dm d) ≡ d

abbrev arm_with : Arm DmTerm → DmTerm → Arm DmTerm
arm_with arm d = record { con = arm.con; names = arm.names; body = d }

arms-back : (arms : List (Arm DmTerm)) → All (AtArm Back) arms → dm_arms_of_plain (plain_dm_arms arms) ≡ arms
arms-back [] h = refl
arms-back (arm ∷ arms) h = ap₂ ◌∷◌ (ap (arm_with arm) (All-head (AtArm Back) arm arms h)) (arms-back arms (All-tail (AtArm Back) arm arms h))

pub dm-back : (d : DmTerm) → dm_of_plain (plain_dm d) ≡ d
dm-back = dm_by_parts Back (record {
  at_ret = λ t. ap dm_of_plain (plain-dm-Ret t) ∙ ap V.Ret (term-back t);
  at_let = λ x a b p q. ap dm_of_plain (plain-dm-Let x a b) ∙ ap₂ (V.Let x) p q;
  at_if = λ t a b p q. ap dm_of_plain (plain-dm-If t a b) ∙ ap (λ t. V.If t _ _) (term-back t) ∙ ap₂ (V.If t) p q;
  at_match = λ t arms h. ap dm_of_plain (plain-dm-Match t arms) ∙ ap₂ V.Match (term-back t) (arms-back arms h);
  at_run_f = λ t. ap dm_of_plain (plain-dm-RunF t) ∙ ap V.RunF (term-back t);
  at_run_g = λ t u. ap dm_of_plain (plain-dm-RunG t u) ∙ ap₂ V.RunG (term-back t) (term-back u);
})

-- two texts with one plain tree are equal
pub dm-injective : (d e : DmTerm) → plain_dm d ≡ plain_dm e → d ≡ e
dm-injective d e same = sym (dm-back d) ∙ ap dm_of_plain same ∙ dm-back e
