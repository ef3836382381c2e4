use Rattle.fst_linear.specs.Derivations.{Derives, given_rows, made_rows, made_steps}
use Rattle.fst_linear.specs.Living.{Grows, Sweeps}
use Rattle.fst_linear.proofs.sweep.sweep.Given as goal

abbrev pub invariant-loop-j : goal.invariant-loop-j
invariant-loop-j l = record {
  derives : Derives (given_rows l.given) (made_rows l.made.items) (made_steps l.made.items);
  grows : Grows l.given l.fn.made.items l.made.items;
  sweeps : Sweeps l.given l.made.items l.unknown l.i l.downs l.j-index l.fn.after.items l.after.items;
}
