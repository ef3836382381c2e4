use Rattle.fst_terms.proofs.FirstsLemmas.{same-plain}
use Rattle.fst_flats.proofs.arrangements.same_term.Goals as goal

pub returns : goal.returns
returns c = same-plain c.args.left.now c.args.right.now c.same.result c.same.ensures
