use Rattle.fst_program.specs.Plain.{plain_program}
use Rattle.fst_erasure.proofs.ErasureLemmas.{erasure-keeps}
use Rattle.fst_erasure.proofs.laws.erasure_keeps.Goals as goal

pub returns : goal.returns
returns c = erasure-keeps (plain_program c.args.program.now)
