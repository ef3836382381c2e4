use Rattle.fst_linear.specs.Derivations.{Derives, given_rows, made_rows, made_steps}
use Rattle.fst_linear.specs.Living.{Grows, SweepsAll}
use Rattle.fst_linear.proofs.sweep.sweep_all.Given as goal

abbrev pub invariant-loop-i : goal.invariant-loop-i
invariant-loop-i l = record {
  derives : Derives (given_rows l.given) (made_rows l.made.items) (made_steps l.made.items);
  grows : Grows l.given l.fn.made.items l.made.items;
  sweeps : SweepsAll l.given l.made.items l.unknown l.ups l.i-index l.downs l.fn.after.items l.after.items;
}
