use Rattle.std.proofs.Common.{◌∙◌, ap₂, add-zero, refl}
use Rattle.std.proofs.lemmas.Result.{IfOk-weaker}
use Rattle.fst_terms.specs.Terms.{plain_term, subst}
use Rattle.fst_terms.proofs.IndexLemmas.{shift-zero}
use Rattle.fst_terms.proofs.substitution.subst.Goals as goal

pub returns : goal.returns
returns c = IfOk-weaker c.put.result _ _ (λ made h. h 0 refl ∙ ap₂ (λ i u. subst i u (plain_term c.args.term.now)) (add-zero c.args.at) (shift-zero 0 (plain_term c.args.by.now))) c.put.ensures
