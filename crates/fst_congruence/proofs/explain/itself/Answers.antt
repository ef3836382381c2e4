use Rattle.std.proofs.Common.{[], length, sym, ap, ◌∙◌}
use Rattle.std.proofs.lemmas.Result.{IfOk-weaker}
use Rattle.fst_congruence.specs.declared.node.Node.{Node}
use Rattle.fst_congruence.proofs.LogLemmas.{note-at, note-grown}
use Rattle.fst_congruence.proofs.StepLemmas.{node-is, arity-is, itself-holds}
use Rattle.fst_congruence.proofs.explain.itself.Goals as goal

pub returns : goal.returns
returns c =
    let node = node-is c.args.nodes.now c.args.term c.index-nodes-term.result c.index-nodes-term.is c.requires.within in
    let count = c.in_ok-reasons.ensures.0 ∙ c.len.ensures ∙ ap (λ (n : Node). length n.args) (sym c.index-nodes-term.is) ∙ sym (arity-is c.args.nodes.now c.args.term c.index-nodes-term.result node) in
    let holds = itself-holds c.args.nodes.now c.args.log.now c.args.term c.in_ok-reasons.reasons c.requires.within c.requires.some count c.in_ok-reasons.ensures.1 in
    IfOk-weaker c.note.result _ _ (λ n h. (note-at c.args.log.now _ c.note.new.log n h, note-grown c.args.nodes.now [] c.args.log.now _ c.note.new.log n h holds)) c.note.ensures
