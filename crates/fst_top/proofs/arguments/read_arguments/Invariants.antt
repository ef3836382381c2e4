use Rattle.std.proofs.Common.{map, length}
use Rattle.fst_base.specs.Values.{plain_value}
use Rattle.fst_program.specs.Plain.{plain_param}
use Rattle.fst_top.proofs.ArgumentLemmas.{Follows}
use Rattle.fst_top.proofs.arguments.read_arguments.Given as goal

abbrev pub invariant-parameters : goal.invariant-parameters
invariant-parameters l = record {
  follows : Follows (map plain_param l.params) l.words (map plain_param l.left) l.rest (map plain_value l.values);
}

abbrev pub decreases-parameters : goal.decreases-parameters
decreases-parameters l = length l.left
