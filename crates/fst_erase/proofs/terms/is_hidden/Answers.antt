use Rattle.fst_erase.proofs.PartLemmas.{hides-at}
use Rattle.fst_erase.proofs.terms.is_hidden.Goals as goal

pub returns-in-Some : goal.returns-in-Some
returns-in-Some c = hides-at c.args.params.now c.args.at c.in-Some.param.now c.in-Some.ensures.lookup.3.0 c.in-Some.ensures.lookup.1
