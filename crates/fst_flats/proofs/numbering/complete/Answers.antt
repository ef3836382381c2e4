use Rattle.std.proofs.lemmas.Result.{on_ok_weaker}
use Rattle.fst_flats.specs.Preparing.{sorts_in}
use Rattle.fst_flats.proofs.StepLemmas.{completed-from}
use Rattle.fst_flats.proofs.numbering.complete.Goals as goal

pub returns : goal.returns
returns c =
    on_ok_weaker c.add_literals.result
    (completed-from (sorts_in c.args.sorts.now) c.args.terms.now _ _ _ _ _ c.as_slice.ensures c.in_ok-pairs.ensures c.as_slice-2.ensures c.in_ok-add_all_parts.ensures)
    c.add_literals.ensures
