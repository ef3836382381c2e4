use Rattle.std.proofs.Common.{◌<◌, ◌≤◌, ◌+◌, ◌-◌, ℕ, [], length, sym, subst, arith}
use Rattle.fst_congruence.specs.Classes.{ArgsClosed}
use Rattle.fst_congruence.specs.Steps.{Swept, args_key}
use Rattle.fst_congruence.proofs.StepLemmas.{step-none, step-step, either-false}
use Rattle.fst_congruence.proofs.SweepLemmas.{no-terms, swept-none, swept-more, args-swept, one-more-back}
use Rattle.fst_congruence.proofs.sweeps.sweep_args.Goals as goal

pub loop-done-init : goal.loop-done-init
loop-done-init c = record {
  step = step-none _ _ _ c.requires.sound;
  terms = no-terms _ c.new-firsts.result c.new-firsts.ensures;
  swept = λ e. swept-none _ _ c.new-firsts.result _ c.new-firsts.ensures (λ i h. (let lt = h.0 in let le = h.1 in omega (arith, lt, le)));
}

pub loop-done-preserved : goal.loop-done-preserved
loop-done-preserved c =
    let n : ℕ = length c.args.nodes.now in
    record {
      step = step-step c.args.nodes.now [] c.args.classes.now c.loop-done.classes c.meet_args.new.classes c.loop-done.joined c.in_ok-joined.field-0 c.loop-done.invariant.step c.in_ok-joined.ensures.0;
      terms = c.in_ok-joined.ensures.1;
      swept = λ e. swept-more (args_key c.args.nodes.now c.meet_args.new.classes.labels) (ArgsClosed c.args.nodes.now c.meet_args.new.classes.labels) c.loop-done.firsts c.meet_args.new.firsts (λ i. (i < n) × (n ≤ i + c.loop-done.done)) (λ i. (i < n) × (n ≤ i + (c.loop-done.done + 1))) (n - 1 - c.loop-done.done)
          (subst (λ ls. Swept (args_key c.args.nodes.now ls) (ArgsClosed c.args.nodes.now ls) c.loop-done.firsts (λ i. (i < n) × (n ≤ i + c.loop-done.done))) (sym (c.in_ok-joined.ensures.0.still (either-false c.loop-done.joined c.in_ok-joined.field-0 e).1)) (c.loop-done.invariant.swept (either-false c.loop-done.joined c.in_ok-joined.field-0 e).0))
          (c.in_ok-joined.ensures.2 (either-false c.loop-done.joined c.in_ok-joined.field-0 e).1) (λ i h. one-more-back i n c.loop-done.done h.0 h.1);
    }

pub returns : goal.returns
returns c =
    let n : ℕ = length c.args.nodes.now in (
      c.loop-done.invariant.step,
      λ e. args-swept c.args.nodes.now c.loop-done.classes.labels c.loop-done.firsts (λ i. (i < n) × (n ≤ i + c.loop-done.done)) c.loop-done.invariant.terms (c.loop-done.invariant.swept e) (λ i lt. (lt, (let end = c.loop-done-test.false in omega (arith, lt, end)))),
    )
