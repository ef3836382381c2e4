use Rattle.std.proofs.Common.{ap, arith}
use Rattle.fst_terms.specs.Indices.{lets}
use Rattle.fst_terms.proofs.PlainLemmas.{plain-term-Var}
use Rattle.fst_tests.proofs.terms.is_replaced.Goals as goal

pub subst-requires : goal.subst-requires
subst-requires c =
    let one = ap lets c.requires in
    rw (plain-term-Var 4) (λ above. omega (arith, one))
