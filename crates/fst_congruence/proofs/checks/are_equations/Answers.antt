use Rattle.std.proofs.Common.{sym}
use Rattle.std.specs.Prelude.{Contains}
use Rattle.fst_congruence.proofs.checks.are_equations.Goals as goal

pub returns-then-not-is_equation-clause-exact : goal.returns-then-not-is_equation-clause-exact
returns-then-not-is_equation-clause-exact c = λ sides given.
    let there : Contains c.args.equations.now c.index-equations-at.result = (c.loop-at.at, c.loop-at-test.true, sym c.index-equations-at.is) in
    let s = sides c.index-equations-at.result there in
    c.if-not-is_equation.ensures.1 (s.0, s.1, given c.index-equations-at.result there)
