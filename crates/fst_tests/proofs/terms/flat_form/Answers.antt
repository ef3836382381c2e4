use Rattle.std.proofs.Common.{◌≡◌, List, [], ◌∷◌, map, sym, ap, ◌∙◌, subst}
use Rattle.fst_base.specs.Sorts.{Srt, s_unit, s_bool}
use Rattle.fst_terms.specs.Terms.{plain_term}
use Rattle.fst_terms.specs.Meaning.{plain_var}
use Rattle.fst_terms.specs.Flats.{sorts_of_vars}
use Rattle.fst_terms.specs.Propositional.{TmPropositional, FormulasPropositional, VarsPropositional}
use Rattle.fst_terms.proofs.PrepareLemmas.{given}
use Rattle.fst_tests.proofs.terms.flat_form.Goals as goal

pub prepare-requires-clause-sequent : goal.prepare-requires-clause-sequent
prepare-requires-clause-sequent c =
    let vars = c.in_ok-vars-2.ensures.ok.0 in
    let sorts : List Srt = sorts_of_vars (map plain_var c.in_ok-vars-2.vars) in
    let same : sorts ≡ s_unit ∷ s_bool ∷ s_bool ∷ [] = ap (λ xs. sorts_of_vars (map plain_var xs)) vars ∙ c.in_ok-vars.ensures.sorts in
    let propositional = given (λ t. TmPropositional (s_unit ∷ s_bool ∷ s_bool ∷ []) (plain_term t) s_bool) c.goal_of.result c.in_ok-vars-2.goal c.goal_of.ensures c.in_ok-vars-2.ensures.ok.1 in
    record {
      vars = subst (λ xs. VarsPropositional (map plain_var xs)) (sym vars) c.in_ok-vars.ensures.propositional;
      hyps = subst (λ ts. FormulasPropositional sorts (map plain_term ts)) (sym c.new.ensures) tt;
      goal = subst (λ Ss. TmPropositional Ss (plain_term c.in_ok-vars-2.goal) s_bool) (sym same) propositional;
    }
