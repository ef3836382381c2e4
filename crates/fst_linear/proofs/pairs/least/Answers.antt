use Rattle.std.proofs.Common.{ap}
use Rattle.std.proofs.Common.{◌/◌}
use Rattle.fst_terms.proofs.GcdLemmas.{gcd-only}
use Rattle.fst_linear.proofs.PairLemmas.{gcd-positive}
use Rattle.fst_linear.proofs.pairs.least.Goals as goal

pub nonzero_div-result : goal.nonzero_div-result
nonzero_div-result c = gcd-positive c.args.m c.args.n c.gcd.result c.gcd.ensures c.requires

pub returns : goal.returns
returns c = ap (λ g. c.args.n / g) (gcd-only c.args.m c.args.n c.gcd.result c.gcd.ensures)
