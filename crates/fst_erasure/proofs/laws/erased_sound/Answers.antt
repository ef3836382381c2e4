use Rattle.fst_program.specs.Plain.{plain_program}
use Rattle.fst_erasure.proofs.ErasedSound.{erased-sound}
use Rattle.fst_erasure.proofs.laws.erased_sound.Goals as goal

pub returns : goal.returns
returns c = erased-sound (plain_program c.args.program.now)
