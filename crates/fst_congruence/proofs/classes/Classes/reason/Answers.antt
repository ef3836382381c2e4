use Rattle.std.proofs.Common.{inl, refl}
use Rattle.std.proofs.lemmas.Result.{IfOk-weaker}
use Rattle.fst_congruence.proofs.LogLemmas.{reason-strict}
use Rattle.fst_congruence.proofs.ClassLemmas.{after-none, after-log, after-after}
use Rattle.fst_congruence.proofs.classes.Classes.reason.Goals as goal

pub returns-then-left-right : goal.returns-then-left-right
returns-then-left-right c = (inl (refl, c.if-left-right.true), after-none _)

pub returns : goal.returns
returns c = IfOk-weaker c.straight.result _ _
    (λ line h. (reason-strict c.straight.new.log line c.args.left c.args.right h.0 c.if-left-right.false, after-after c.args.self.now c.why.new.self _ c.in_ok-why.ensures.1 (after-log c.why.new.self c.straight.new.log h.1)))
    c.straight.ensures
