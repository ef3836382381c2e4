use Rattle.fst_prims.proofs.RangeLemmas.{no_number-narrow}
use Rattle.fst_prims.proofs.copies.copied.Goals as goal

pub returns-in_default : goal.returns-in_default
returns-in_default c = record { value = c.copy.ensures; narrow = no_number-narrow _ c.in_default.not-Int }
