use Rattle.fst_program.specs.Plain.{plain_program}
use Rattle.fst_erasure.proofs.ErasedSorts.{erased-sorted}
use Rattle.fst_erasure.proofs.laws.erased_sorted.Goals as goal

pub returns : goal.returns
returns c = erased-sorted (plain_program c.args.program.now)
