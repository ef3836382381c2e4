use Rattle.fst_program.specs.Plain.{plain_program}
use Rattle.fst_star.proofs.TextLawLemmas.{star-is-exact}
use Rattle.fst_star.proofs.laws.star_law.Goals as goal

pub returns : goal.returns
returns c = star-is-exact (plain_program c.args.program.now)
