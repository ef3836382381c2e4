use Rattle.std.proofs.Common.{◌∙◌, ap, sym}
use Rattle.fst_terms.specs.Preparing.{equation_at}
use Rattle.fst_terms.proofs.AtomLemmas.{sort-of-index}
use Rattle.fst_terms.proofs.atoms.equation_of_variable.Goals as goal

pub returns-then-index-vars : goal.returns-then-index-vars
returns-then-index-vars c =
    c.equation_at.ensures
    ∙ ap equation_at (sym (sort-of-index c.args.vars.now c.args.index c.index-vars-vars.result c.if-index-vars.true))
