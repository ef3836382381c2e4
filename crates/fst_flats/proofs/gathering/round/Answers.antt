use Rattle.std.proofs.Common.{map}
use Rattle.std.proofs.lemmas.Result.{on_ok_weaker}
use Rattle.fst_base.specs.Sorts.{plain_sort}
use Rattle.fst_flats.specs.Preparing.{sorts_in}
use Rattle.fst_flats.proofs.GatherLemmas.{on_ok_both, round-from}
use Rattle.fst_flats.proofs.gathering.round.Goals as goal

pub returns : goal.returns
returns c =
    on_ok_weaker c.gather.result
    (round-from (sorts_in c.args.sorts.now) (map plain_sort c.args.lens.now) c.args.atoms.now c.args.terms.now c.args.facts.now _ _ _ _ _ _ _ c.args.used c.len-known.result c.len-known.ensures
    c.as_slice.ensures c.after.ensures c.in_ok-add_facts.ensures c.as_slice-2.ensures c.after-2.ensures)
    (on_ok_both _ _ c.gather.result c.gather.ensures.atoms c.gather.ensures.terms)
