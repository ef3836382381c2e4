use Rattle.std.proofs.Common.{◌<◌, ◌+◌, [], sym, subst, arith}
use Rattle.fst_congruence.specs.Classes.{PartsClosed}
use Rattle.fst_congruence.specs.Steps.{Swept, parts_key}
use Rattle.fst_congruence.proofs.StepLemmas.{step-none, step-step, either-false}
use Rattle.fst_congruence.proofs.SweepLemmas.{no-terms, swept-none, swept-more, parts-swept, one-more}
use Rattle.fst_congruence.proofs.sweeps.sweep_parts.Goals as goal

pub loop-term-init : goal.loop-term-init
loop-term-init c = record {
  step = step-none _ _ _ c.requires.sound;
  terms = no-terms _ c.new-firsts.result c.new-firsts.ensures;
  swept = λ e. swept-none _ _ c.new-firsts.result _ c.new-firsts.ensures (λ i lt. omega (arith, lt));
}

pub loop-term-preserved : goal.loop-term-preserved
loop-term-preserved c = record {
  step = step-step c.args.nodes.now [] c.args.classes.now c.loop-term.classes c.meet_parts.new.classes c.loop-term.joined c.in_ok-joined.field-0 c.loop-term.invariant.step c.in_ok-joined.ensures.0;
  terms = c.in_ok-joined.ensures.1;
  swept = λ e. swept-more (parts_key c.args.nodes.now c.meet_parts.new.classes.labels) (PartsClosed c.args.nodes.now c.meet_parts.new.classes.labels) c.loop-term.firsts c.meet_parts.new.firsts (λ i. i < c.loop-term.term) (λ i. i < c.loop-term.term + 1) c.loop-term.term
      (subst (λ ls. Swept (parts_key c.args.nodes.now ls) (PartsClosed c.args.nodes.now ls) c.loop-term.firsts (λ i. i < c.loop-term.term)) (sym (c.in_ok-joined.ensures.0.still (either-false c.loop-term.joined c.in_ok-joined.field-0 e).1)) (c.loop-term.invariant.swept (either-false c.loop-term.joined c.in_ok-joined.field-0 e).0))
      (c.in_ok-joined.ensures.2 (either-false c.loop-term.joined c.in_ok-joined.field-0 e).1) (λ i lt. one-more i c.loop-term.term lt);
}

pub returns : goal.returns
returns c = (
  c.loop-term.invariant.step,
  λ e. parts-swept c.args.nodes.now c.loop-term.classes.labels c.loop-term.firsts (λ i. i < c.loop-term.term) c.requires.table.arities c.loop-term.invariant.terms (c.loop-term.invariant.swept e)
      (λ i lt. (let end = c.loop-term-test.false in omega (arith, lt, end))),
)
