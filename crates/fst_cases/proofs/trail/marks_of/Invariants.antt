use Rattle.std.proofs.Common.{◌≡◌, take}
use Rattle.fst_cases.specs.Trails.{marks_in}
use Rattle.fst_cases.proofs.trail.marks_of.Given as goal

abbrev pub invariant-loop-step : goal.invariant-loop-step
invariant-loop-step l = l.marks ≡ marks_in (take l.step-index l.trail)
