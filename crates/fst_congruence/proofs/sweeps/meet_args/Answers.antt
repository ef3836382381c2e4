use Rattle.std.proofs.Common.{◌∷◌, length, map, refl, sym, ap, subst, ◌∙◌}
use Rattle.std.proofs.lemmas.Result.{IfOk-weaker}
use Rattle.fst_congruence.specs.declared.node.Node.{Node}
use Rattle.fst_congruence.specs.Classes.{label_at}
use Rattle.fst_congruence.specs.Firsts.{FirstIs}
use Rattle.fst_congruence.proofs.StepLemmas.{node-is, args-are, args-within}
use Rattle.fst_congruence.proofs.SweepLemmas.{terms-more}
use Rattle.fst_congruence.proofs.sweeps.meet_args.Goals as goal

pub key_of_args-requires : goal.key_of_args-requires
key_of_args-requires c =
    let node = node-is c.args.nodes.now c.args.term c.index-nodes-term.result c.index-nodes-term.is c.requires.term in
    args-within c.args.nodes.now c.args.term _ _ (args-are c.args.nodes.now c.args.term _ _ node refl) c.requires.fits.table.within c.requires.term (ap length c.as_slice.ensures ∙ c.requires.fits.count)

pub returns : goal.returns
returns c =
    let node = node-is c.args.nodes.now c.args.term c.index-nodes-term.result c.index-nodes-term.is c.requires.term in
    IfOk-weaker c.join_by_args.result _ _
    (λ joined h. (
      h.0,
      terms-more (length c.args.nodes.now) c.args.firsts.now c.first.new.self c.in_ok-key.key.items c.args.term c.in_ok-first.first c.requires.firsts c.requires.term c.in_ok-first.ensures,
      λ e. record {
        first = c.in_ok-first.first;
        is = subst (λ k. FirstIs c.args.firsts.now c.first.new.self k c.args.term c.in_ok-first.first)
            (c.in_ok-key.ensures ∙ ap (λ ls. c.index-nodes-term.result.kind ∷ map (label_at ls) c.index-nodes-term.result.args) (c.as_slice.ensures ∙ sym (h.0.still e)) ∙ ap (λ (n : Node). n.kind ∷ map (label_at c.join_by_args.new.classes.labels) n.args) (sym node)) c.in_ok-first.ensures;
        closed = h.1 e;
      },
    ))
    c.join_by_args.ensures
