use Rattle.std.proofs.Common.{◌≡◌, length, map, take}
use Rattle.fst_program.specs.Plain.{plain_effect, plain_lift}
use Rattle.fst_lattice.proofs.LatticeLemmas.{Added}
use Rattle.fst_lattice.proofs.building.lattice.Given as goal

abbrev pub invariant-loop-number : goal.invariant-loop-number
invariant-loop-number l = record {
  added : Added (map plain_effect l.effects) (take l.number (map plain_lift l.lifts)) l.rows;
  count : l.count ≡ length (map plain_effect l.effects);
}
