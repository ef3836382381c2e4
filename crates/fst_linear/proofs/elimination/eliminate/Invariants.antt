use Rattle.std.proofs.Common.{◌≤◌, ◌-◌, ◌^◌}
use Rattle.fst_linear.specs.Derivations.{Derives, given_rows, made_rows, made_steps}
use Rattle.fst_linear.specs.Living.{Lives}
use Rattle.fst_linear.specs.Lifts.{Lifts}
use Rattle.fst_linear.proofs.elimination.eliminate.Given as goal

abbrev pub invariant-loop-unknown : goal.invariant-loop-unknown
invariant-loop-unknown l = record {
  derives : Derives (given_rows l.given) (made_rows l.made.items) (made_steps l.made.items);
  lives : Lives l.given l.made.items l.from l.live.items;
  lifts : Lifts l.given l.made.items l.live.items;
  bound : l.from ≤ 2 ^ 32;
}

abbrev pub decreases-loop-unknown : goal.decreases-loop-unknown
decreases-loop-unknown l = 2 ^ 32 - l.from
