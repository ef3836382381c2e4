use Rattle.std.proofs.Common.{subst}
use Rattle.fst_program.specs.Plain.{plain_program}
use Rattle.fst_program.proofs.WideLemmas.{Narrow, ev_narrow}
use Rattle.fst_program.proofs.laws.unbounded_law.Goals as goal

pub returns : goal.returns
returns c = λ M F G e s t q. subst Narrow q (ev_narrow M (plain_program c.args.program.now) F G e s t)
