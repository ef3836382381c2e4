use Rattle.std.proofs.Common.{[], arith}
use Rattle.fst_congruence.specs.Steps.{PartClosed}
use Rattle.fst_congruence.proofs.StepLemmas.{step-none, step-step, found-more}
use Rattle.fst_congruence.proofs.joining.join_parts.Goals as goal

pub loop-at-init : goal.loop-at-init
loop-at-init c = record { step = step-none _ _ _ c.requires.fits.sound; found = λ e k lt. absurd (omega (arith, lt)) }

pub loop-at-preserved : goal.loop-at-preserved
loop-at-preserved c = record {
  step = step-step c.args.nodes.now [] c.args.classes.now c.loop-at.classes c.join_part.new.classes c.loop-at.joined c.in_ok-joined.field-0 c.loop-at.invariant.step c.in_ok-joined.ensures.0;
  found = found-more (λ labels k. PartClosed c.args.nodes.now labels c.args.left c.args.right k) c.loop-at.classes.labels _ c.loop-at.at c.loop-at.joined c.in_ok-joined.field-0 c.in_ok-joined.ensures.0.still c.loop-at.invariant.found c.in_ok-joined.ensures.1;
}
