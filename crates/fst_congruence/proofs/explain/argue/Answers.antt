use Rattle.std.proofs.Common.{List, [], subst}
use Rattle.fst_congruence.specs.declared.node.Node.{Node}
use Rattle.fst_congruence.specs.Lines.{At, Valid}
use Rattle.fst_congruence.proofs.LogLemmas.{grown-grown, grown-more, reason-none, reason-line}
use Rattle.fst_congruence.proofs.ClosureLemmas.{taken}
use Rattle.fst_congruence.proofs.explain.argue.Goals as goal
use Rattle.fst_congruence.proofs.explain.argue.Goals.{then-line-eq0+in_ok-last, else-line-eq0}

pub returns : goal.returns
returns c = λ es given v.
    (let ns : List Node = c.args.nodes.now in
    let begun : Valid ns es c.in_ok-log.field-0.log = c.in_ok-log.ensures.valid ns es given v in
    let valid : Valid ns es c.straight.new.log = grown-grown ns es [] c.in_ok-log.field-0.log c.straight.new.log begun (grown-grown ns es c.in_ok-log.field-0.log c.chain.new.log c.straight.new.log (c.in_ok-whole.ensures.1.by ns es) (c.in_ok-line.ensures.1.by ns es)) in
    let final : Valid ns es c.if-line-eq0.log × At c.if-line-eq0.log c.if-line-eq0.last c.args.left c.args.right = elim c.if-line-eq0.branch [
      | then-line-eq0+in_ok-last w ↦ rw (w.log-is, w.last-is) (
        grown-grown ns es [] c.straight.new.log _ valid (grown-more ns es c.straight.new.log _ w.in_ok-last.ensures.1),
        subst (λ y. At w.itself.new.log w.in_ok-last.last c.args.left y) (reason-none c.straight.new.log _ _ _ c.in_ok-line.ensures.0 w.if-line-eq0.true) w.in_ok-last.ensures.0,
      )
      | else-line-eq0 w ↦ rw (w.log-is, w.last-is) (valid, reason-line c.straight.new.log _ _ _ c.in_ok-line.ensures.0 w.if-line-eq0.false)
    ] in
    taken ns es c.if-line-eq0.log c.truncate.new.self c.if-line-eq0.last c.args.left c.args.right c.truncate.ensures final.0 final.1)
