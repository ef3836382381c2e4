use Rattle.std.proofs.Common.{ℕ, ◌∷◌, ◌++◌, [], List, sym, ap, ◌∙◌}
use Rattle.fst_cert.specs.declared.line.Line.{Line}
use Rattle.fst_cases.proofs.WritingLemmas.{lighter, top-there, writing-begun, writing-end, writing-split, writing-order, split-lighter, order-lighter, written-whole}
use Rattle.fst_cases.proofs.writing.write.Goals as goal

pub loop-at-init : goal.loop-at-init
loop-at-init c = writing-begun c.args.arena.now c.args.root c.requires.0 _ _ c.requires.1 c.new-written.ensures (c.in_ok-push.ensures.ok ∙ ap (λ (is : List ℕ). is ++ c.args.root ∷ []) c.new-todo.ensures)

pub rule_of-requires : goal.rule_of-requires
rule_of-requires c = top-there c.args.arena.now c.args.root c.loop-at.written c.loop-at.todo c.pop.new.self c.in-Some.at c.loop-at.invariant c.in-Some.ensures

pub loop-at-smaller-in-Continue-branch-2 : goal.loop-at-smaller-in-Continue-branch-2
loop-at-smaller-in-Continue-branch-2 c = lighter c.loop-at.todo c.pop.new.self c.in-Some.at c.in-Some.ensures

pub loop-at-preserved-in-Continue-branch-2 : goal.loop-at-preserved-in-Continue-branch-2
loop-at-preserved-in-Continue-branch-2 c =
    let is = sym c.rule_of.ensures ∙ c.in-Ends.is in
    writing-end c.args.arena.now c.args.root c.loop-at.written c.loop-at.todo c.pop.new.self c.in-Some.at c.loop-at.invariant c.in-Some.ensures _ _ is
    (c.in_ok-append-in-Ends.ensures ∙ ap (λ (ls : List Line). c.loop-at.written ++ ls) c.as_slice.ensures)

pub loop-at-smaller-in-Continue-branch-3 : goal.loop-at-smaller-in-Continue-branch-3
loop-at-smaller-in-Continue-branch-3 c =
    let is = sym c.rule_of.ensures ∙ c.in-Split.is in
    split-lighter c.args.arena.now c.args.root c.loop-at.written c.loop-at.todo c.pop.new.self c.in-Some.at c.loop-at.invariant c.in-Some.ensures _ _ _ _ is c.in_ok-branch-in-Split.ensures.1

pub loop-at-preserved-in-Continue-branch-3 : goal.loop-at-preserved-in-Continue-branch-3
loop-at-preserved-in-Continue-branch-3 c =
    let is = sym c.rule_of.ensures ∙ c.in-Split.is in
    writing-split c.args.arena.now c.args.root c.loop-at.written c.loop-at.todo c.pop.new.self c.in-Some.at c.loop-at.invariant c.in-Some.ensures _ _ _ _ _ is c.in_ok-branch-in-Split.ensures.0 c.in_ok-branch-in-Split.ensures.1

pub loop-at-smaller : goal.loop-at-smaller
loop-at-smaller c =
    let is = sym c.rule_of.ensures ∙ c.in-Order.is in
    order-lighter c.args.arena.now c.args.root c.loop-at.written c.loop-at.todo c.pop.new.self c.in-Some.at c.loop-at.invariant c.in-Some.ensures _ _ _ _ is c.in_ok-branch-in-Order.ensures.1

pub loop-at-preserved : goal.loop-at-preserved
loop-at-preserved c =
    let is = sym c.rule_of.ensures ∙ c.in-Order.is in
    writing-order c.args.arena.now c.args.root c.loop-at.written c.loop-at.todo c.pop.new.self c.in-Some.at c.loop-at.invariant c.in-Some.ensures _ _ _ _ _ is c.in_ok-branch-in-Order.ensures.0 c.in_ok-branch-in-Order.ensures.1

pub returns : goal.returns
returns c = written-whole c.args.arena.now c.args.root c.loop-at.written c.loop-at.todo c.loop-at.invariant c.in_default.ensures.0
