use Rattle.std.proofs.Common.{◌≡◌, ap, sym, subst, length, get_or, arith}
use Rattle.fst_congruence.specs.Classes.{label_at}
use Rattle.fst_congruence.specs.Lines.{SliceReasons}
use Rattle.fst_congruence.proofs.ClassLemmas.{slice-reasons-none, slice-reasons-more, sound-after, after-none, after-after}
use Rattle.fst_congruence.proofs.classes.Classes.reasons.Goals as goal

pub loop-at-init : goal.loop-at-init
loop-at-init c = record { sound = c.requires.sound; done = slice-reasons-none _ _ _ _ c.new-reasons.ensures; after = after-none _ }

pub reason-requires-clause-left : goal.reason-requires-clause-left
reason-requires-clause-left c = let below = c.requires.left c.loop-at.at c.loop-at-test.true in let size = ap length c.loop-at.invariant.after.labels in omega (arith, below, size)

pub reason-requires-clause-right : goal.reason-requires-clause-right
reason-requires-clause-right c = let below = c.requires.right c.loop-at.at c.loop-at-test.true in let size = ap length c.loop-at.invariant.after.labels in omega (arith, below, size)

pub reason-requires-clause-same : goal.reason-requires-clause-same
reason-requires-clause-same c = subst (λ ls. label_at ls (get_or c.args.lefts.now c.loop-at.at 0) ≡ label_at ls (get_or c.args.rights.now c.loop-at.at 0)) (sym c.loop-at.invariant.after.labels) (c.requires.same c.loop-at.at c.loop-at-test.true)

pub loop-at-preserved : goal.loop-at-preserved
loop-at-preserved c = rw c.in_ok-push.ensures.ok (record {
  sound = sound-after c.loop-at.self c.reason.new.self c.in_ok-line.ensures.1 c.loop-at.invariant.sound;
  done = slice-reasons-more c.loop-at.self.log c.reason.new.self.log _ _ _ _ _ c.loop-at.invariant.done c.in_ok-line.ensures.1.grown c.in_ok-line.ensures.0;
  after = after-after c.args.self.now c.loop-at.self c.reason.new.self c.loop-at.invariant.after c.in_ok-line.ensures.1;
})

pub returns : goal.returns
returns c = (
  subst (λ n. SliceReasons c.loop-at.self.log c.args.lefts.now c.args.rights.now n c.loop-at.reasons) (let le = c.loop-at.auto.at-end in let test = c.loop-at-test.false in omega (arith, le, test)) c.loop-at.invariant.done,
  c.loop-at.invariant.after,
)
