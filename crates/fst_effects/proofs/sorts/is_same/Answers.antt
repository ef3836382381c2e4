use Rattle.fst_names.proofs.ScopeLemmas.{agree}
use Rattle.fst_effects.proofs.PlainLemmas.{same-plain}
use Rattle.fst_effects.proofs.sorts.is_same.Goals as goal

pub returns : goal.returns
returns c = agree _ _ c.same.ensures (same-plain c.args.first.now c.args.second.now)
