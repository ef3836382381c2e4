use Rattle.std.proofs.Common.{[], Option, length, sym, ap, ◌∙◌, ◌++◌}
use Rattle.fst_cases.specs.declared.known.Known.{Known}
use Rattle.std.proofs.lemmas.List.{append-nil}
use Rattle.fst_cases.specs.Cited.{put_known}
use Rattle.fst_cases.proofs.CitedLemmas.{core-more}
use Rattle.fst_cases.proofs.cores.core_of.Goals as goal
use Rattle.fst_cases.proofs.cores.core_of.Goals.{in-Some+in_ok-push, in_default}

pub loop-done-preserved : goal.loop-done-preserved
loop-done-preserved c = elim c.match-branch-2.branch [
  | in-Some+in_ok-push w ↦ core-more c.args.wants.now c.args.marks.now _ c.loop-done.core c.match-branch-2.core (length c.args.marks.now) c.loop-done.done c.in_ok-known.field-0 c.loop-done-test.true c.loop-done.invariant c.in_ok-known.ensures
      (w.core-is ∙ w.in_ok-push.ensures.ok ∙ sym (ap (λ (o : Option Known). c.loop-done.core ++ put_known o []) w.in-Some.is))
  | in_default w ↦ core-more c.args.wants.now c.args.marks.now _ c.loop-done.core c.match-branch-2.core (length c.args.marks.now) c.loop-done.done c.in_ok-known.field-0 c.loop-done-test.true c.loop-done.invariant c.in_ok-known.ensures
      (w.core-is ∙ sym (append-nil c.loop-done.core) ∙ sym (ap (λ (o : Option Known). c.loop-done.core ++ put_known o []) w.in_default.is))
]
