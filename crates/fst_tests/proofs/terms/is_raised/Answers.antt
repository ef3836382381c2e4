use Rattle.std.proofs.Common.{arith}
use Rattle.fst_tests.proofs.terms.is_raised.Goals as goal

pub shift-requires : goal.shift-requires
shift-requires c = rw c.requires ((λ above. omega arith), ((λ above. omega arith), (λ above. omega arith), tt))
