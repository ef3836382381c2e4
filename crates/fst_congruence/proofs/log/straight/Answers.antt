use Rattle.std.proofs.Common.{inl, inr}
use Rattle.std.proofs.lemmas.Result.{IfOk-weaker}
use Rattle.fst_cert.specs.declared.line.Line.TheVariants as line
use Rattle.fst_congruence.proofs.LogLemmas.{noted, flipped, because-straight, because-line, extends-none, not-false, not-true, note-above}
use Rattle.fst_congruence.proofs.log.straight.Goals as goal
use Rattle.fst_congruence.proofs.log.straight.Goals.{then-why-eq0-via-then-why-eq0, then-why-eq0-via-else-why-eq0+then-not-why}

pub returns-then-why-eq0 : goal.returns-then-why-eq0
returns-then-why-eq0 c = (
  because-straight c.args.log.now c.args.why c.args.left c.args.right c.requires (elim c.then-why-eq0.branch [
    | then-why-eq0-via-then-why-eq0 w ↦ inl w.if-why-eq0.true
    | then-why-eq0-via-else-why-eq0+then-not-why w ↦ inr (not-true c.args.why.turned w.if-not-why.true)
  ]),
  extends-none _,
  λ e. e,
)

pub returns : goal.returns
returns c = IfOk-weaker c.note.result _ _
    (λ n h. (let made = noted c.args.log.now (record { left = c.args.left; right = c.args.right; by = line.Flip c.args.why.line }) c.note.new.log n h
    (λ ns es. flipped ns es c.args.log.now c.args.why.line c.args.left c.args.right
    (because-line c.args.log.now c.args.why c.args.left c.args.right _ c.requires c.if-why-eq0.false (not-false c.args.why.turned c.if-not-why.false))) in
    (made.0, made.1, λ e. absurd (note-above c.args.log.now _ c.note.new.log n h e))))
    c.note.ensures
