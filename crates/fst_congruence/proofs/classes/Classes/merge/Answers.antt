use Rattle.std.proofs.Common.{◌≡◌, slice_set, ◌<◌, ◌++◌, ◌∷◌, [], get_or, length, ap, sym, subst, ◌∙◌}
use Rattle.std.proofs.lemmas.Result.{on_ok_weaker}
use Rattle.fst_congruence.specs.Classes.{label_at, under}
use Rattle.fst_congruence.proofs.ClassLemmas.{sound-after, class-merged, class-below, joins-after}
use Rattle.fst_congruence.proofs.classes.Classes.merge.Goals as goal

pub relabel-requires-clause-labelled : goal.relabel-requires-clause-labelled
relabel-requires-clause-labelled c = (sound-after c.args.self.now c.link.new.self c.in_ok-link.ensures.1 c.requires.sound).labelled

pub relabel-requires-clause-terms : goal.relabel-requires-clause-terms
relabel-requires-clause-terms c =
    let sound = sound-after c.args.self.now c.link.new.self c.in_ok-link.ensures.1 c.requires.sound in
    let is_terms = c.as_slice-3.ensures ∙ c.in_ok-push.ensures.ok ∙ ap (λ ts. ts ++ get_or c.as_slice.result.now c.args.left 0 ∷ []) c.take-terms.ensures.0 in
    let below = subst (λ ls. c.args.left < length ls) (sym c.in_ok-link.ensures.1.labels) c.requires.left in
    class-below c.link.new.self _ (get_or c.as_slice.result.now c.args.left 0) c.args.left sound below (ap (λ ls. label_at ls c.args.left) (c.in_ok-link.ensures.1.labels ∙ sym c.as_slice.ensures)) is_terms

pub returns : goal.returns
returns c =
    let sound = sound-after c.args.self.now c.link.new.self c.in_ok-link.ensures.1 c.requires.sound in
    let is_terms = c.as_slice-3.ensures ∙ c.in_ok-push.ensures.ok ∙ ap (λ ts. ts ++ get_or c.as_slice.result.now c.args.left 0 ∷ []) c.take-terms.ensures.0 in
    let p = subst (λ ls. c.args.left < length ls) (sym c.in_ok-link.ensures.1.labels) c.requires.left in
    let q = subst (λ ls. c.args.right < length ls) (sym c.in_ok-link.ensures.1.labels) c.requires.right in
    let is_from = ap (λ ls. label_at ls c.args.left) (c.in_ok-link.ensures.1.labels ∙ sym c.as_slice.ensures) in
    let is_to = ap (λ ls. label_at ls c.args.right) (c.in_ok-link.ensures.1.labels ∙ sym c.as_slice-2.ensures) in
    let differ : get_or c.as_slice.result.now c.args.left 0 ≡ get_or c.as_slice-2.result.now c.args.right 0 → ⊥ = λ e. c.requires.differ (ap (λ ls. label_at ls c.args.left) (sym c.as_slice.ensures) ∙ e ∙ ap (λ ls. label_at ls c.args.right) c.as_slice-2.ensures) in
    on_ok_weaker c.append.result
    (λ is. joins-after c.args.self.now c.link.new.self _ c.in_ok-link.ensures.1
    (class-merged c.link.new.self c.relabel.new.self.labels c.relabel.new.self.whys c.relabel.new.self.log c.relabel.new.self.members c.append.new.self c.as_slice-3.result.now c.args.left c.args.right (get_or c.as_slice.result.now c.args.left 0) (get_or c.as_slice-2.result.now c.args.right 0)
    sound p q is_from is_to differ is_terms c.in_ok-relabel.ensures.0 (c.in_ok-relabel.ensures.2 ∙ c.take-terms.ensures.1) (is ∙ ap (λ ts. slice_set c.relabel.new.self.members (get_or c.as_slice-2.result.now c.args.right 0) (under c.relabel.new.self.members (get_or c.as_slice-2.result.now c.args.right 0) ++ ts)) (sym c.as_slice-3.ensures)) c.in_ok-relabel.ensures.1))
    c.append.ensures
