use Rattle.std.proofs.Common.{ap, sym, ◌∙◌}
use Rattle.std.proofs.lemmas.Result.{IfOk-weaker}
use Rattle.fst_base.specs.Sorts.{plain_sort}
use Rattle.fst_terms.specs.Skeletons.{turned}
use Rattle.fst_terms.specs.Terms.{plain_term}
use Rattle.fst_shapes.proofs.ArgumentLemmas.{turned-other}
use Rattle.fst_shapes.proofs.turning.turned_equation.Goals as goal

pub returns-else-args-eq2 : goal.returns-else-args-eq2
returns-else-args-eq2 c =
    IfOk-weaker c.copy.result _ _
    (λ made e. ap plain_term e ∙ c.requires ∙ turned-other (plain_sort c.args.sort.now) c.args.args.now c.args.at.at c.if-args-eq2.false ∙ ap turned (sym c.requires))
    c.copy.ensures
