use Rattle.fst_congruence.specs.Lines.{grown_none}
use Rattle.fst_congruence.proofs.LogLemmas.{grown-grown}
use Rattle.fst_congruence.proofs.StepLemmas.{not-still, fits-step}
use Rattle.fst_congruence.proofs.closing.settle.Goals as goal

pub loop-again-init : goal.loop-again-init
loop-again-init c = record { fits = c.requires.fits; grown = grown_none; closed = λ e. not-still e }

pub loop-again-preserved : goal.loop-again-preserved
loop-again-preserved c = record {
  fits = fits-step c.args.nodes.now c.args.equations.now c.loop-again.classes c.pass.new.classes c.in_ok-again.again c.in_ok-again.ensures.0 c.loop-again.invariant.fits;
  grown = grown-grown c.args.nodes.now c.args.equations.now c.args.classes.now.log c.loop-again.classes.log c.pass.new.classes.log c.loop-again.invariant.grown c.in_ok-again.ensures.0.grown;
  closed = c.in_ok-again.ensures.1;
}
