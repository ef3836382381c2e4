use Rattle.std.proofs.Common.{sym, ap, ◌∙◌}
use Rattle.std.proofs.lemmas.Result.{IfOk-weaker}
use Rattle.fst_congruence.specs.declared.node.Node.{Node}
use Rattle.fst_congruence.proofs.GuessLemmas.{place-kind, guessed-kind}
use Rattle.fst_congruence.proofs.numbered.kind_of.Goals as goal

pub returns-then-not-is_applied : goal.returns-then-not-is_applied
returns-then-not-is_applied c = λ d. IfOk-weaker c.place.result _ _
    (λ n e. place-kind c.args.terms.now c.args.at n c.index-terms-at.result c.requires.at c.index-terms-at.is c.requires.once e (c.is_applied.ensures c.if-not-is_applied.true) d)
    c.place.ensures

pub returns-then-same_head : goal.returns-then-same_head
returns-then-same_head c = λ d. ap (λ (n : Node). n.kind) (sym c.index-nodes-likely.is) ∙ guessed-kind c.args.terms.now c.args.nodes.now c.args.at c.guess-likely.result c.index-nodes-likely.result c.index-terms-at.result c.index-terms-likely.result c.requires.at c.requires.nodes c.if-likely-gt0.true c.if-likely-nodes.true
    c.index-nodes-likely.is c.index-terms-at.is c.index-terms-likely.is (sym c.same_head.ensures ∙ c.if-same_head.true) d
