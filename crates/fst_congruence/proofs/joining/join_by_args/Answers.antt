use Rattle.std.proofs.Common.{◌≡◌, [], length, ap, sym, subst, ◌∙◌}
use Rattle.std.proofs.lemmas.Bool.{false≢true}
use Rattle.fst_congruence.specs.Classes.{label_at, ArgsLabelled}
use Rattle.fst_congruence.proofs.ClassLemmas.{sound-after}
use Rattle.fst_congruence.proofs.StepLemmas.{node-is, kind-is, kind-some, count-is, alike-from, args-are, args-within, args-within-other, step-none, step-after, not-still, args-holds, labelled-args}
use Rattle.fst_congruence.proofs.joining.join_by_args.Goals as goal
use Rattle.fst_congruence.proofs.joining.join_by_args.Goals.{then-first-eq0-via-then-first-eq0, then-first-eq0-via-else-first-eq0+then-first-second, then-first-eq0-via-else-first-eq0+else-first-second+then-len, then-labels-left-via-then-labels-left, then-labels-left-via-else-labels-left+then-not-same_labels}

pub returns-then-first-eq0 : goal.returns-then-first-eq0
returns-then-first-eq0 c =
    let first = node-is c.args.nodes.now c.args.left c.index-nodes-left.result c.index-nodes-left.is c.requires.left in
    let second = node-is c.args.nodes.now c.args.right c.index-nodes-right.result c.index-nodes-right.is c.requires.right in (
      step-none _ _ _ c.requires.fits.sound,
      λ e a. elim c.then-first-eq0.branch [
        | then-first-eq0-via-then-first-eq0 w ↦ absurd (kind-some c.args.nodes.now c.args.left c.args.right _ first a w.if-first-eq0.true)
        | then-first-eq0-via-else-first-eq0+then-first-second w ↦ absurd (w.if-first-second.true (kind-is c.args.nodes.now c.args.left c.args.right _ _ first second a))
        | then-first-eq0-via-else-first-eq0+else-first-second+then-len w ↦ absurd (w.if-len.true (w.len.ensures ∙ count-is c.args.nodes.now c.args.left c.args.right _ _ first second a ∙ sym w.len-else-first-second.ensures))
      ],
    )

pub same_labels-requires-clause-left : goal.same_labels-requires-clause-left
same_labels-requires-clause-left c =
    let first = node-is c.args.nodes.now c.args.left c.index-nodes-left.result c.index-nodes-left.is c.requires.left in
    args-within c.args.nodes.now c.args.left _ _ (args-are c.args.nodes.now c.args.left _ _ first c.as_slice-lefts.ensures) c.requires.fits.table.within c.requires.left (ap length c.as_slice-labels.ensures ∙ c.requires.fits.count)

pub same_labels-requires-clause-right : goal.same_labels-requires-clause-right
same_labels-requires-clause-right c =
    let second = node-is c.args.nodes.now c.args.right c.index-nodes-right.result c.index-nodes-right.is c.requires.right in
    args-within-other c.args.nodes.now c.args.right _ c.as_slice-lefts.result.now _ (args-are c.args.nodes.now c.args.right _ _ second c.as_slice-rights.ensures) c.requires.fits.table.within c.requires.right (ap length c.as_slice-labels.ensures ∙ c.requires.fits.count)
    (ap length c.as_slice-lefts.ensures ∙ sym c.len.ensures ∙ c.if-len.false ∙ c.len-else-first-second.ensures ∙ sym (ap length c.as_slice-rights.ensures))

pub returns-then-labels-left : goal.returns-then-labels-left
returns-then-labels-left c =
    let first = node-is c.args.nodes.now c.args.left c.index-nodes-left.result c.index-nodes-left.is c.requires.left in
    let second = node-is c.args.nodes.now c.args.right c.index-nodes-right.result c.index-nodes-right.is c.requires.right in
    elim c.then-labels-left.branch [
      | then-labels-left-via-then-labels-left w ↦ rw w.classes-is (step-none _ _ _ c.requires.fits.sound, λ e a h. subst (λ ls. label_at ls c.args.left ≡ label_at ls c.args.right) c.as_slice-labels.ensures w.if-labels-left.true)
      | then-labels-left-via-else-labels-left+then-not-same_labels w ↦ rw w.classes-is (
        step-none _ _ _ c.requires.fits.sound,
        λ e a h. absurd (false≢true (w.if-not-same_labels.ensures.1
            (labelled-args c.args.nodes.now c.as_slice-labels.result.now c.args.left c.args.right _ _ (args-are c.args.nodes.now c.args.left _ _ first c.as_slice-lefts.ensures) (args-are c.args.nodes.now c.args.right _ _ second c.as_slice-rights.ensures)
            (subst (λ ls. ArgsLabelled c.args.nodes.now ls c.args.left c.args.right) (sym c.as_slice-labels.ensures) h)))),
      )
    ]

pub reasons-requires-clause-left : goal.reasons-requires-clause-left
reasons-requires-clause-left c =
    let first = node-is c.args.nodes.now c.args.left c.index-nodes-left.result c.index-nodes-left.is c.requires.left in
    args-within c.args.nodes.now c.args.left _ _ (args-are c.args.nodes.now c.args.left _ _ first c.as_slice-lefts.ensures) c.requires.fits.table.within c.requires.left c.requires.fits.count

pub reasons-requires-clause-right : goal.reasons-requires-clause-right
reasons-requires-clause-right c =
    let second = node-is c.args.nodes.now c.args.right c.index-nodes-right.result c.index-nodes-right.is c.requires.right in
    args-within-other c.args.nodes.now c.args.right _ c.as_slice-lefts.result.now _ (args-are c.args.nodes.now c.args.right _ _ second c.as_slice-rights.ensures) c.requires.fits.table.within c.requires.right c.requires.fits.count
    (ap length c.as_slice-lefts.ensures ∙ sym c.len.ensures ∙ c.if-len.false ∙ c.len-else-first-second.ensures ∙ sym (ap length c.as_slice-rights.ensures))

pub join_by-requires-clause-sound : goal.join_by-requires-clause-sound
join_by-requires-clause-sound c = sound-after c.args.classes.now c.reasons.new.self c.in_ok-lines.ensures.1 c.requires.fits.sound

pub returns : goal.returns
returns c =
    let first = node-is c.args.nodes.now c.args.left c.index-nodes-left.result c.index-nodes-left.is c.requires.left in
    let second = node-is c.args.nodes.now c.args.right c.index-nodes-right.result c.index-nodes-right.is c.requires.right in
    let alike = alike-from c.args.nodes.now c.args.left c.args.right _ _ first second c.requires.left c.requires.right c.if-first-eq0.false c.if-first-second.false (sym c.len.ensures ∙ c.if-len.false ∙ c.len-else-first-second.ensures) in
    let holds = args-holds c.args.nodes.now c.reasons.new.self.log c.args.left c.args.right _ _ c.in_ok-lines.lines alike (args-are c.args.nodes.now c.args.left _ _ first c.as_slice-lefts.ensures) (args-are c.args.nodes.now c.args.right _ _ second c.as_slice-rights.ensures) c.in_ok-lines.ensures.0 in
    (step-after c.args.nodes.now [] c.args.classes.now c.reasons.new.self c.join_by.new.classes _ c.in_ok-lines.ensures.1 (c.in_ok-join_by.ensures c.args.nodes.now [] holds), λ e. not-still e)
