-- The goal at the end of a way and the goals of an `if`, from what the code holds.
use Rattle.std.proofs.Common.{◌≡◌, ℕ, List, [], ◌∷◌, map, refl, sym, ap, ap₂, ◌∙◌, ◌++◌, false, append_assoc}
use Rattle.std.proofs.lemmas.List.{reverse-reverse}
use Rattle.fst_program.specs.declared.comp.Comp.{Comp}
use Rattle.fst_program.specs.declared.comp.Comp.TheVariants as V
use Rattle.fst_program.specs.declared.fun.Fun.{Fun}
use Rattle.fst_program.specs.declared.fun.Param.{Param}
use Rattle.fst_program.specs.declared.goal.Choice.{Choice}
use Rattle.fst_program.specs.declared.goal.Choice.TheVariants as choice
use Rattle.fst_program.specs.declared.goal.SiteKind.TheVariants as kind
use Rattle.fst_program.specs.Paths.{Gl, plain_goal}
use Rattle.fst_program.specs.Plain.{plain_comp, plain_fun, plain_param}
use Rattle.fst_program.specs.Texts.{c_if}
use Rattle.fst_program.proofs.PlainLemmas.{plain-comp-If}
use Rattle.fst_terms.specs.Formulas.{negation, put}
use Rattle.fst_terms.specs.declared.sequent.Var.{Var}
use Rattle.fst_terms.specs.declared.term.Term.{Term}
use Rattle.fst_terms.specs.Meaning.{Vr, plain_var}
use Rattle.fst_terms.specs.Terms.{Tm, t_bool, plain_term}
use Rattle.fst_top.specs.declared.goals.way.Way.{Way}
use Rattle.fst_top.specs.Built.{var_of}
use Rattle.fst_top.specs.Goals.{State, end_goal, ends, is_literal, sides_of, supposed}
use Rattle.fst_top.specs.Ways.{state_of}

abbrev made : ℕ → ℕ → List Choice → List Vr → List Tm → Tm → Gl
made k at cs vs hs phi = record { kind = kind.Ensures; fun = k; place = at; choices = cs; sequent = record { vars = vs; hyps = hs; goal = phi } }

same-goal : (k at : ℕ) (cs cs' : List Choice) (vs vs' : List Vr) (hs hs' : List Tm) (phi phi' : Tm) → cs ≡ cs' → vs ≡ vs' → hs ≡ hs' → phi ≡ phi' → made k at cs vs hs phi ≡ made k at cs' vs' hs' phi'
same-goal k at cs cs' vs vs' hs hs' phi phi' p q r s = ap₂ (λ cs vs. made k at cs vs hs phi) p q ∙ ap₂ (made k at cs' vs') r s

vars-twice : (ps : List Param) → map (λ (p : Param). var_of (plain_param p)) ps ≡ map var_of (map plain_param ps)
vars-twice [] = refl
vars-twice (p ∷ ps) = ap (λ xs. var_of (plain_param p) ∷ xs) (vars-twice ps)

pub goal-made : (k : ℕ) (f : Fun) (way : Way) (choices choices' : List Choice) (vars : List Var) (params : List Param) (hyps hyps' : List Term) (goal : Term) (phi : Tm)
    → choices ≡ choices' → choices' ≡ way.choices → map plain_var vars ≡ map (λ (p : Param). var_of (plain_param p)) params → params ≡ f.params → hyps ≡ hyps' → hyps' ≡ way.hyps → plain_term goal ≡ phi
    → plain_goal (record { site = record { kind = kind.Ensures; fun = k; at = f.at; choices = choices }; sequent = record { vars = vars; hyps = hyps; goal = goal } }) ≡ end_goal k (plain_fun f) (state_of way) phi
goal-made k f way choices choices' vars params hyps hyps' goal phi a b c d e g h =
    same-goal k f.at.at _ _ _ _ _ _ _ _
    (a ∙ b ∙ sym (reverse-reverse way.choices))
    (c ∙ ap (map (λ (p : Param). var_of (plain_param p))) d ∙ vars-twice f.params)
    (ap (map plain_term) (e ∙ g) ∙ sym (reverse-reverse (map plain_term way.hyps)))
    h

-- ---- the sides of an if

sides-open : (u : Tm) (s : State) (left right : State → List Gl) → is_literal u ≡ false → sides_of u s left right ≡ left (supposed u choice.Then s) ++ right (supposed (negation u) choice.Else s)
sides-open (t_bool b) s left right e = cc
sides-open u s left right e = refl

pub ends-open : (k : State → Tm → List Gl) (text on-left on-right left right : Comp) (test formula : Term) (s s1 s2 : State) (g0 g1 g2 : List Gl)
    → text ≡ V.If test on-left on-right → left ≡ on-left → right ≡ on-right
    → (plain_term formula ≡ put s.terms (plain_term test)) × (is_literal (put s.terms (plain_term test)) ≡ false)
    → s1 ≡ supposed (plain_term formula) choice.Then s → s2 ≡ supposed (negation (plain_term formula)) choice.Else s
    → g1 ≡ g0 ++ ends k (plain_comp left) s1 → g2 ≡ g1 ++ ends k (plain_comp right) s2
    → g2 ≡ g0 ++ ends k (plain_comp text) s
ends-open k text on-left on-right left right test formula s s1 s2 g0 g1 g2 e l r asks p q a b =
    let u = put s.terms (plain_term test) in
    let plain : plain_comp text ≡ c_if (plain_term test) (plain_comp left) (plain_comp right) = ap plain_comp e ∙ plain-comp-If test on-left on-right ∙ ap₂ (λ c d. c_if (plain_term test) (plain_comp c) (plain_comp d)) (sym l) (sym r) in
    let both : ends k (plain_comp text) s ≡ ends k (plain_comp left) s1 ++ ends k (plain_comp right) s2 =
    ap (λ c. ends k c s) plain ∙ sides-open u s (λ s1. ends k (plain_comp left) s1) (λ s1. ends k (plain_comp right) s1) asks.1
    ∙ ap₂ (λ s1 s2. ends k (plain_comp left) s1 ++ ends k (plain_comp right) s2) (ap (λ v. supposed v choice.Then s) (sym asks.0) ∙ sym p) (ap (λ v. supposed (negation v) choice.Else s) (sym asks.0) ∙ sym q) in
    b ∙ ap (λ g. g ++ ends k (plain_comp right) s2) a ∙ append_assoc g0 (ends k (plain_comp left) s1) (ends k (plain_comp right) s2) ∙ ap (λ g. g0 ++ g) (sym both)
