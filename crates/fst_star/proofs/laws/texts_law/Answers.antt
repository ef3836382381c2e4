use Rattle.fst_program.specs.Plain.{plain_program}
use Rattle.fst_star.proofs.TextLawLemmas.{texts-fit}
use Rattle.fst_star.proofs.laws.texts_law.Goals as goal

pub returns : goal.returns
returns c = texts-fit (plain_program c.args.program.now)
