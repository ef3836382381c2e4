use Rattle.std.proofs.Common.{List, length, refl, sym, subst}
use Rattle.fst_congruence.specs.declared.equation.Equation.{Equation}
use Rattle.fst_congruence.specs.declared.node.Node.{Node}
use Rattle.fst_congruence.specs.Closures.{IsClosure}
use Rattle.fst_congruence.specs.Steps.{SidesWithin}
use Rattle.fst_congruence.proofs.ClosureLemmas.{closure-exact, closure-made}
use Rattle.fst_congruence.proofs.closing.close_table.Goals as goal

pub settle-requires-clause-sides : goal.settle-requires-clause-sides
settle-requires-clause-sides c = subst (λ (ns : List Node). SidesWithin c.args.equations.now (length ns)) (sym c.as_slice.ensures) c.requires.sides

pub invariant_of-result : goal.invariant_of-result
invariant_of-result c = subst (λ (es : List Equation). IsClosure c.args.nodes es c.settle.new.classes) (sym c.in_ok-equations.ensures)
    (closure-made c.as_slice.result.now c.args.nodes c.args.equations.now c.in_ok-classes.classes c.settle.new.classes c.as_slice.ensures c.requires.given c.in_ok-settle.ensures.0 c.in_ok-settle.ensures.1 c.in_ok-classes.ensures.2 c.in_ok-settle.ensures.2)

pub returns : goal.returns
returns c =
    let made = closure-made c.as_slice.result.now c.args.nodes c.args.equations.now c.in_ok-classes.classes c.settle.new.classes c.as_slice.ensures c.requires.given c.in_ok-settle.ensures.0 c.in_ok-settle.ensures.1 c.in_ok-classes.ensures.2 c.in_ok-settle.ensures.2 in
    (refl, c.in_ok-equations.ensures, made.fits.count, closure-exact c.args.nodes c.args.equations.now c.settle.new.classes made.fits made.valid made.closed)
