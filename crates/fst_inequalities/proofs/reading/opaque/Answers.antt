use Rattle.fst_inequalities.proofs.FormLemmas.{unknown-of}
use Rattle.fst_inequalities.proofs.reading.opaque.Goals as goal

pub returns : goal.returns
returns c = unknown-of _ _ c.unknown.result c.unknown.ensures c.requires.opaque
