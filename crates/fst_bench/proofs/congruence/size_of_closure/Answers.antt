use Rattle.std.proofs.Common.{subst}
use Rattle.fst_congruence.specs.Steps.{SidesWithin}
use Rattle.fst_bench.proofs.congruence.size_of_closure.Goals as goal

pub close_table-requires-clause-sides : goal.close_table-requires-clause-sides
close_table-requires-clause-sides c = subst (λ n. SidesWithin c.args.equations.now n) c.len-count.ensures (c.are_equations.ensures.sides c.if-not-are_equations.false)

pub close_table-requires-clause-given : goal.close_table-requires-clause-given
close_table-requires-clause-given c = c.are_equations.ensures.given c.if-not-are_equations.false
