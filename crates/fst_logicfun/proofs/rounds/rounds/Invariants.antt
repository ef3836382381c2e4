use Rattle.std.proofs.Common.{◌-◌, ◌≤◌, map}
use Rattle.fst_logicfun.specs.Rounds.{each_of}
use Rattle.fst_program.specs.Plain.{plain_program}
use Rattle.fst_terms.specs.Formulas.{vars_from}
use Rattle.fst_terms.specs.Terms.{plain_term}
use Rattle.fst_logicfun.proofs.RoundLemmas.{Turned}
use Rattle.fst_logicfun.proofs.rounds.rounds.Given as goal

abbrev pub invariant-loop-turn : goal.invariant-loop-turn
invariant-loop-turn l = l.turn ≤ l.count × Turned (vars_from 0 l.n) (each_of (plain_program l.program) l.which) (map plain_term l.formulas) l.applications l.facts l.used l.turn

abbrev pub decreases-loop-turn : goal.decreases-loop-turn
decreases-loop-turn l = l.count - l.turn
