use Rattle.fst_flats.proofs.ArgumentLemmas.{same-plain-sort}
use Rattle.fst_flats.proofs.arrangements.same_sort.Goals as goal

pub returns : goal.returns
returns c = same-plain-sort c.args.left.now c.args.right.now c.same.result c.same.ensures
