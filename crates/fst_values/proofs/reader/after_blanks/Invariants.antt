use Rattle.std.proofs.Common.{◌≡◌, length}
use Rattle.fst_values.specs.Tokens.{skip}
use Rattle.fst_values.proofs.reader.after_blanks.Given as goal

abbrev pub invariant-loop-rest : goal.invariant-loop-rest
invariant-loop-rest l = skip l.rest ≡ skip l.fn.bytes

abbrev pub decreases-loop-rest : goal.decreases-loop-rest
decreases-loop-rest l = length l.rest
