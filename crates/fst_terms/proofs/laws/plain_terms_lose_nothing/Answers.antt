use Rattle.fst_terms.proofs.TermInduction.{term-injective}
use Rattle.fst_terms.proofs.laws.plain_terms_lose_nothing.Goals as goal

pub returns : goal.returns
returns c = term-injective c.args.a.now c.args.b.now
