use Rattle.fst_base.proofs.SortLemmas.{sort-injective}
use Rattle.fst_terms.proofs.laws.plain_sorts_lose_nothing.Goals as goal

pub returns : goal.returns
returns c = sort-injective c.args.a.now c.args.b.now
