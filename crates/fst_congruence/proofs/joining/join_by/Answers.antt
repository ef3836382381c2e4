use Rattle.std.proofs.lemmas.Result.{on_ok_weaker}
use Rattle.fst_congruence.proofs.LogLemmas.{note-grown}
use Rattle.fst_congruence.proofs.StepLemmas.{step-joined}
use Rattle.fst_congruence.proofs.joining.join_by.Goals as goal

pub returns : goal.returns
returns c = λ ns es h. on_ok_weaker c.join.result
    (λ j. step-joined ns es c.args.classes.now c.join.new.self c.note.new.log (note-grown ns es c.args.classes.now.log (record { left = c.args.left; right = c.args.right; by = c.args.by }) c.note.new.log c.in_ok-line.line c.in_ok-line.ensures h) j)
    c.join.ensures
