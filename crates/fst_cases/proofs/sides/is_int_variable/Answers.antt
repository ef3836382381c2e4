use Rattle.std.proofs.Common.{◌∙◌, ap, sym}
use Rattle.fst_terms.specs.DataFacts.{is_int}
use Rattle.fst_terms.proofs.AtomLemmas.{sort-of-index}
use Rattle.fst_cases.proofs.sides.is_int_variable.Goals as goal

pub returns-then-index-vars : goal.returns-then-index-vars
returns-then-index-vars c =
    c.is_int.ensures
    ∙ ap is_int (sym (sort-of-index c.args.vars.now c.args.index c.index-vars-vars.result c.if-index-vars.true))
