use Rattle.std.proofs.Common.{◌≡◌, ◌≤◌, ◌^◌, ◌+◌, take}
use Rattle.fst_syntax.specs.Trees.{magnitude}
use Rattle.fst_term_reader.proofs.reader.magnitude.Given as goal

abbrev pub invariant-loop-digit : goal.invariant-loop-digit
invariant-loop-digit l = record { is : l.number ≡ magnitude (take l.digit-index l.digits); bounded : l.number ≤ 2 ^ 127 + 1 }
