use Rattle.std.proofs.Common.{subst}
use Rattle.fst_program.specs.Plain.{plain_program}
use Rattle.fst_program.specs.Sorted.{result_in}
use Rattle.fst_program.proofs.SortedLemmas.{OutcomeHas}
use Rattle.fst_program.proofs.SortedRunLemmas.{ev-has}
use Rattle.fst_program.proofs.laws.sort_law.Goals as goal

pub returns : goal.returns
returns c = λ sorted M F G b Ss x t S e s v left h k i q.
    let P = plain_program c.args.program.now in
    subst (OutcomeHas (result_in P x S)) q (ev-has P sorted M F G b Ss x t S e s h k i)
