use Rattle.fst_flats.specs.Preparing.{sorts_in}
use Rattle.fst_flats.proofs.StepLemmas.{names-from}
use Rattle.fst_flats.proofs.forms.names_of.Goals as goal

pub returns : goal.returns
returns c =
    names-from (sorts_in c.args.sorts.now) c.args.forms.now.hyps _ c.args.forms.now.facts _ c.args.forms.now.goal _ _ _ _ _ c.new-names.ensures c.as_slice.ensures c.in_ok-name_formulas.ensures
    c.get.ensures c.in_ok-name_formula.ensures c.as_slice-2.ensures c.in_ok-name_formulas-2.ensures
