use Rattle.fst_program.specs.Plain.{plain_program}
use Rattle.fst_star.proofs.LawLemmas.{equal-paths}
use Rattle.fst_star.proofs.laws.paths_law.Goals as goal

pub returns : goal.returns
returns c = equal-paths (plain_program c.args.program.now)
