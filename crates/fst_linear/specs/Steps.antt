-- The steps of the code as plain steps, and the rows that they make.
use Rattle.std.specs.Prelude.{List, map}
use Rattle.fst_linear.specs.Refutations.{Stp}
use Rattle.fst_linear.specs.declared.answer.Step.{Step}

abbrev pub plain_step : Step → Stp
plain_step s = record { p = s.p; i = s.i; q = s.q; j = s.j }

abbrev pub plain_steps : List Step → List Stp
plain_steps = map plain_step
