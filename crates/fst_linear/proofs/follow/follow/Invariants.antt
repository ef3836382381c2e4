use Rattle.fst_linear.specs.Derivations.{Derives, given_rows, made_rows, made_steps}
use Rattle.fst_linear.specs.Following.{Follows}
use Rattle.fst_linear.proofs.follow.follow.Given as goal

abbrev pub invariant-loop-i : goal.invariant-loop-i
invariant-loop-i l = record {
  derives : Derives (given_rows l.given) (made_rows l.made.items) (made_steps l.made.items);
  follows : Follows l.given l.made.items l.sum;
}
