use Rattle.fst_base.proofs.ValueLemmas.{value-injective}
use Rattle.fst_terms.proofs.laws.plain_values_lose_nothing.Goals as goal

pub returns : goal.returns
returns c = value-injective c.args.a.now c.args.b.now
