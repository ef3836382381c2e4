use Rattle.std.proofs.Common.{arith}
use Rattle.fst_terms.proofs.PlainLemmas.{plain-term-Var}
use Rattle.fst_star.proofs.StartingLemmas.{vars-more, vars-all}
use Rattle.fst_star.proofs.starting.vars_from.Goals as goal

pub loop-at-preserved : goal.loop-at-preserved
loop-at-preserved c =
    let under = c.loop-at-test.true in
    let end = c.in_ok-end.ensures in
    vars-more c.loop-at.made c.push.new.self _ c.in_ok-end.end c.loop-at.at (omega (arith, under, end)) c.in_ok-push.ensures.ok (plain-term-Var _) c.loop-at.invariant

pub returns : goal.returns
returns c =
    let within = c.loop-at.auto.at-end in
    let end = c.loop-at-test.false in
    vars-all c.loop-at.made c.args.from c.args.count c.in_ok-end.end c.loop-at.at c.in_ok-end.ensures (omega (arith, within, end)) c.loop-at.invariant
