use Rattle.std.proofs.Common.{subst, sym}
use Rattle.fst_cert.specs.declared.line.Line.TheVariants as line
use Rattle.fst_congruence.specs.Lines.{Because}
use Rattle.fst_congruence.proofs.LogLemmas.{noted, chained, because-none, because-line, because-extends, because-plain, reason-extends, extends-none, extends-extends}
use Rattle.fst_congruence.proofs.log.chain.Goals as goal

pub returns-then-first-eq0 : goal.returns-then-first-eq0
returns-then-first-eq0 c =
    (subst (λ x. Because c.args.log.now c.args.second x c.args.right) (sym (because-none c.args.log.now _ _ _ c.requires.first c.if-first-eq0.true)) c.requires.second, extends-none _)

pub returns-then-second-eq0 : goal.returns-then-second-eq0
returns-then-second-eq0 c =
    (subst (λ y. Because c.args.log.now c.args.first c.args.left y) (because-none c.args.log.now _ _ _ c.requires.second c.if-second-eq0.true) c.requires.first, extends-none _)

pub chain_turned-requires-clause-first : goal.chain_turned-requires-clause-first
chain_turned-requires-clause-first c = because-line c.args.log.now c.args.first c.args.left c.args.middle _ c.requires.first c.if-first-eq0.false c.if-first.true

pub chain_turned-requires-clause-second : goal.chain_turned-requires-clause-second
chain_turned-requires-clause-second c = because-line c.args.log.now c.args.second c.args.middle c.args.right _ c.requires.second c.if-second-eq0.false c.if-second.true

pub straight-requires-2 : goal.straight-requires-2
straight-requires-2 c = because-extends c.args.log.now _ c.in_ok-front.ensures.1 _ _ _ c.requires.second

pub returns : goal.returns
returns c =
    let made = noted c.straight-2.new.log (record { left = c.args.left; right = c.args.right; by = line.Chain c.in_ok-front.front c.in_ok-back.back }) c.note.new.log c.in_ok-line.line c.in_ok-line.ensures
    (λ ns es. chained ns es c.straight-2.new.log _ _ c.args.left c.args.middle c.args.right
    (reason-extends c.straight.new.log c.straight-2.new.log c.in_ok-back.ensures.1 _ _ _ c.in_ok-front.ensures.0) c.in_ok-back.ensures.0
    (λ e. c.if-first-eq0.false (c.in_ok-front.ensures.2 e)) (λ e. c.if-second-eq0.false (c.in_ok-back.ensures.2 e))) in
    (because-plain c.note.new.log _ c.args.left c.args.right made.0, extends-extends _ c.straight.new.log _ c.in_ok-front.ensures.1 (extends-extends _ c.straight-2.new.log _ c.in_ok-back.ensures.1 made.1))
