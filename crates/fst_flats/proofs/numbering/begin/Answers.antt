use Rattle.fst_flats.specs.Preparing.{sorts_in}
use Rattle.fst_flats.proofs.StepLemmas.{begun-from}
use Rattle.fst_flats.proofs.numbering.begin.Goals as goal

pub returns : goal.returns
returns c =
    begun-from (sorts_in c.args.sorts.now) c.args.forms.now.hyps _ c.args.forms.now.facts _ c.args.forms.now.goal _ _ _ _ _ _ _ _ c.new-atoms.ensures c.as_slice.ensures c.in_ok-collect_all.ensures
    c.get.ensures c.in_ok-collect.ensures c.as_slice-2.ensures c.in_ok-collect_all-2.ensures c.as_slice-3.ensures c.new-terms.ensures c.in_ok-add_all_parts.ensures
