use Rattle.fst_program.specs.Plain.{plain_program}
use Rattle.fst_star.proofs.LawLemmas.{valid-safe}
use Rattle.fst_star.proofs.laws.safe_law.Goals as goal

pub returns : goal.returns
returns c = valid-safe (plain_program c.args.program.now)
