use Rattle.std.proofs.Common.{◌+◌, map, Ok, sym, ap, subst, arith}
use Rattle.std.proofs.lemmas.List.{take-map}
use Rattle.std.proofs.lemmas.Bool.Decides.{nat_tests}
use Rattle.fst_syntax.specs.Tokens.{token_of}
use Rattle.fst_syntax.specs.Program.{FaultAt, Begins}
use Rattle.fst_reader.proofs.Refusals.{fault_answers, limit_answers, limit_alone}
use Rattle.fst_reader.proofs.whole.up_to.Goals as goal

pub returns-then-at-limit : goal.returns-then-at-limit
returns-then-at-limit c = λ end r.
    let w = c.in-Ok-Some.ensures.fault c.in-Ok-Some.at (ap Ok c.in-Ok-Some.field-0-is) in
    let t = c.if-at-limit.true in
    fault_answers (map token_of c.args.tokens.now) w.0 end c.args.limit c.in-Ok-Some.at
    (subst (λ us. FaultAt us w.0) (sym (take-map token_of (c.args.limit.index + 1) c.args.tokens.now)) w.1.0) w.1.1 (grind (arith, nat_tests))

pub returns-else-at-limit : goal.returns-else-at-limit
returns-else-at-limit c = λ end r.
    let w = c.in-Ok-Some.ensures.fault c.in-Ok-Some.at (ap Ok c.in-Ok-Some.field-0-is) in
    let t = c.if-at-limit.false in
    limit_answers (map token_of c.args.tokens.now) w.0 end c.args.limit c.in-Ok-Some.at
    (subst (λ us. FaultAt us w.0) (sym (take-map token_of (c.args.limit.index + 1) c.args.tokens.now)) w.1.0) w.1.1 (grind (arith, nat_tests))

pub returns-in-Ok-None : goal.returns-in-Ok-None
returns-in-Ok-None c = λ end r.
    limit_alone (map token_of c.args.tokens.now) end c.args.limit r c.requires.passed
    (subst Begins (sym (take-map token_of (c.args.limit.index + 1) c.args.tokens.now)) (c.in-Ok-None.ensures.begun (ap Ok c.in-Ok-None.field-0-is)))
