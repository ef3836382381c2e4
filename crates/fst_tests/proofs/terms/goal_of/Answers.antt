use Rattle.std.proofs.Common.{◌≡◌, List, [], ◌∷◌, refl, sym, ap, ◌∙◌, subst}
use Rattle.std.proofs.lemmas.Result.{IfOk-weaker}
use Rattle.fst_base.specs.declared.op.Op.TheVariants as op
use Rattle.fst_base.specs.Sorts.{Srt, s_unit, s_bool}
use Rattle.fst_terms.specs.Terms.{t_var, t_prim, t_if, t_end, t_more, plain_term}
use Rattle.fst_terms.specs.Propositional.{SortPropositional, TmPropositional}
use Rattle.fst_terms.specs.declared.term.Term.{Term}
use Rattle.fst_terms.specs.declared.term.Term.TheVariants as T
use Rattle.fst_terms.proofs.PlainLemmas.{plain-term-Var, plain-term-Unit}
use Rattle.fst_terms.proofs.PrepareLemmas.{given}
use Rattle.fst_tests.proofs.terms.goal_of.Goals as goal

abbrev sorts : List Srt
sorts = s_unit ∷ s_bool ∷ s_bool ∷ []

-- an equation of terms of one sort
equation : (t u e : Term) (U : Srt) → SortPropositional U → TmPropositional sorts (plain_term t) U → TmPropositional sorts (plain_term u) U → plain_term e ≡ t_prim op.Eq s_bool (t_more (plain_term t) (t_more (plain_term u) t_end)) 7 → TmPropositional sorts (plain_term e) s_bool
equation t u e U p h k q = subst (λ v. TmPropositional sorts v s_bool) (sym q) (refl, refl, (U, (p, h, k)))

units : (e : Term) → plain_term e ≡ t_prim op.Eq s_bool (t_more (plain_term (T.Var 0)) (t_more (plain_term T.Unit) t_end)) 7 → TmPropositional sorts (plain_term e) s_bool
units e = equation (T.Var 0) T.Unit e s_unit tt (rw (plain-term-Var 0) refl) (rw plain-term-Unit refl)

pub returns-in-Bools : goal.returns-in-Bools
returns-in-Bools c = IfOk-weaker c.an_equation.result _ _ (λ e. equation (T.Var 2) (T.Var 1) e s_bool tt (rw (plain-term-Var 2) refl) (rw (plain-term-Var 1) refl)) c.an_equation.ensures

pub returns-in-Units : goal.returns-in-Units
returns-in-Units c = IfOk-weaker c.an_equation-in-Units.result _ _ units c.an_equation-in-Units.ensures

pub returns-in_ok-units-in-Nested-2 : goal.returns-in_ok-units-in-Nested-2
returns-in_ok-units-in-Nested-2 c =
    let both = c.in_ok-units-in-Nested-2.ensures.ok in
    let chosen = given (λ t. plain_term t ≡ t_if (t_var 1) (t_var 2) (t_var 1)) c.choice-in-Nested.result c.in_ok-units-in-Nested-2.choice c.choice-in-Nested.ensures both.1 in
    IfOk-weaker c.an_equation-in-Nested-2.result _ _
    (λ e. equation c.in_ok-units-in-Nested-2.units c.in_ok-units-in-Nested-2.choice e s_bool tt (units c.in_ok-units-in-Nested-2.units (ap plain_term both.0 ∙ c.in_ok-units-in-Nested.ensures)) (subst (λ v. TmPropositional sorts v s_bool) (sym chosen) (refl, refl, refl, refl)))
    c.an_equation-in-Nested-2.ensures
