use Rattle.fst_prims.proofs.RangeLemmas.{default-narrow}
use Rattle.fst_prims.proofs.copies.default_value.Goals as goal

pub returns-clause-narrow : goal.returns-clause-narrow
returns-clause-narrow c = default-narrow _
