use Rattle.std.proofs.Common.{List, get_or, ap, sym, subst}
use Rattle.std.proofs.lemmas.Result.{IfOk-weaker}
use Rattle.fst_congruence.specs.Classes.{label_at, why_at}
use Rattle.fst_congruence.specs.Lines.{Because}
use Rattle.fst_congruence.specs.declared.why.Why.{Why}
use Rattle.fst_congruence.proofs.LogLemmas.{because-extends, because-back, extends-extends}
use Rattle.fst_congruence.proofs.ClassLemmas.{after-log}
use Rattle.fst_congruence.proofs.classes.Classes.link.Goals as goal

pub chain-requires-2-clause-first : goal.chain-requires-2-clause-first
chain-requires-2-clause-first c =
    let stands : Because c.args.self.now.log (why_at c.as_slice-3.result.now c.args.left) c.args.left (get_or c.as_slice.result.now c.args.left 0) =
    subst (λ (ws : List Why). Because c.args.self.now.log (why_at ws c.args.left) c.args.left (get_or c.as_slice.result.now c.args.left 0)) (sym c.as_slice-3.ensures)
    (subst (λ ls. Because c.args.self.now.log (why_at c.args.self.now.whys c.args.left) c.args.left (get_or ls c.args.left 0)) (sym c.as_slice.ensures) (c.requires.sound.labelled.reasons c.args.left c.requires.left)) in
    because-back c.chain.new.log (why_at c.as_slice-3.result.now c.args.left) _ _ _ c.back-up.ensures (because-extends c.args.self.now.log c.chain.new.log c.in_ok-rest.ensures.1 _ _ _ stands)

pub returns : goal.returns
returns c = IfOk-weaker c.chain-2.result _ _
    (λ link h. (
      subst (λ l. Because c.chain-2.new.log link l (label_at c.args.self.now.labels c.args.right)) (ap (λ ls. get_or ls c.args.left 0) c.as_slice.ensures)
          (subst (λ l. Because c.chain-2.new.log link (get_or c.as_slice.result.now c.args.left 0) l) (ap (λ ls. get_or ls c.args.right 0) c.as_slice-2.ensures) h.0),
      after-log c.args.self.now c.chain-2.new.log (extends-extends c.args.self.now.log c.chain.new.log _ c.in_ok-rest.ensures.1 h.1),
    ))
    c.chain-2.ensures
