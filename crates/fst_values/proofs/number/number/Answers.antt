use Rattle.fst_values.proofs.NumberLemmas.{numeral-digits}
use Rattle.fst_values.proofs.number.number.Goals as goal

pub magnitude-requires : goal.magnitude-requires
magnitude-requires c = numeral-digits _ c.requires
