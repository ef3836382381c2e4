use Rattle.std.proofs.Common.{◌≡◌, [], get_or, ap, sym, subst, ◌∙◌, arith}
use Rattle.fst_cert.specs.declared.line.Line.TheVariants as line
use Rattle.fst_congruence.specs.Lines.{Holds}
use Rattle.fst_congruence.specs.Classes.{label_at}
use Rattle.fst_congruence.proofs.LogLemmas.{strict-differs}
use Rattle.fst_congruence.proofs.ClassLemmas.{sound-after}
use Rattle.fst_congruence.proofs.StepLemmas.{node-is, args-are, part-is, constructor-is, constructors-same, step-none, step-after, not-still, part-holds, different}
use Rattle.fst_congruence.proofs.joining.join_part.Goals as goal
use Rattle.fst_congruence.proofs.joining.join_part.Goals.{then-labels-left-via-then-labels-left, then-labels-left-via-else-labels-left+then-first-eq0, then-labels-left-via-else-labels-left+else-first-eq0+then-first-second}

pub returns-then-labels-left : goal.returns-then-labels-left
returns-then-labels-left c =
    let first = constructor-is c.args.nodes.now c.args.left _ (node-is c.args.nodes.now c.args.left c.index-nodes-left.result c.index-nodes-left.is c.requires.left) in
    let second = constructor-is c.args.nodes.now c.args.right _ (node-is c.args.nodes.now c.args.right c.index-nodes-right.result c.index-nodes-right.is c.requires.right) in
    elim c.then-labels-left.branch [
      | then-labels-left-via-then-labels-left w ↦ rw w.classes-is (step-none _ _ _ c.requires.fits.sound, λ e same constructor. absurd (w.if-labels-left.true (subst (λ ls. label_at ls c.args.left ≡ label_at ls c.args.right) (sym c.as_slice-labels.ensures) same)))
      | then-labels-left-via-else-labels-left+then-first-eq0 w ↦ rw w.classes-is (step-none _ _ _ c.requires.fits.sound, λ e same constructor. absurd (let some = constructor.some in let none = first ∙ w.if-first-eq0.true in omega (arith, some, none)))
      | then-labels-left-via-else-labels-left+else-first-eq0+then-first-second w ↦ rw w.classes-is (step-none _ _ _ c.requires.fits.sound, λ e same constructor. absurd (w.if-first-second.true (sym first ∙ constructor.same ∙ second)))
    ]

pub returns-then-labels-x : goal.returns-then-labels-x
returns-then-labels-x c =
    let first = node-is c.args.nodes.now c.args.left c.index-nodes-left.result c.index-nodes-left.is c.requires.left in
    let second = node-is c.args.nodes.now c.args.right c.index-nodes-right.result c.index-nodes-right.is c.requires.right in
    let x = part-is c.args.nodes.now c.args.left c.args.at _ (args-are c.args.nodes.now c.args.left _ _ first c.as_slice.ensures) in
    let y = part-is c.args.nodes.now c.args.right c.args.at _ (args-are c.args.nodes.now c.args.right _ _ second c.as_slice-2.ensures) in
    let same = subst (λ ls. label_at ls (get_or c.as_slice.result.now c.args.at 0) ≡ label_at ls (get_or c.as_slice-2.result.now c.args.at 0)) c.as_slice-labels.ensures c.if-labels-x.true in
    (step-none _ _ _ c.requires.fits.sound, λ e joined constructor. ap (label_at c.args.classes.now.labels) x ∙ same ∙ sym (ap (label_at c.args.classes.now.labels) y))

pub join_by-requires-clause-sound : goal.join_by-requires-clause-sound
join_by-requires-clause-sound c = sound-after c.args.classes.now c.reason.new.self c.in_ok-whole.ensures.1 c.requires.fits.sound

pub returns : goal.returns
returns c =
    let first = node-is c.args.nodes.now c.args.left c.index-nodes-left.result c.index-nodes-left.is c.requires.left in
    let second = node-is c.args.nodes.now c.args.right c.index-nodes-right.result c.index-nodes-right.is c.requires.right in
    let x = part-is c.args.nodes.now c.args.left c.args.at _ (args-are c.args.nodes.now c.args.left _ _ first c.as_slice.ensures) in
    let y = part-is c.args.nodes.now c.args.right c.args.at _ (args-are c.args.nodes.now c.args.right _ _ second c.as_slice-2.ensures) in
    let whole = strict-differs c.reason.new.self.log c.in_ok-whole.whole c.args.left c.args.right c.in_ok-whole.ensures.0 (different c.args.nodes.now c.as_slice-labels.result.now c.args.left c.args.right c.args.at _ _ x y c.if-labels-x.false) in
    let constructor = constructors-same c.args.nodes.now c.args.left c.args.right _ _ first second c.if-first-eq0.false c.if-first-second.false in
    let holds = subst (λ p. Holds c.args.nodes.now [] c.reason.new.self.log (record { left = get_or c.as_slice.result.now c.args.at 0; right = get_or c.as_slice-2.result.now c.args.at 0; by = line.Part c.in_ok-whole.whole p })) (sym c.in_ok-place.ensures)
    (part-holds c.args.nodes.now c.reason.new.self.log c.args.left c.args.right c.args.at _ _ c.in_ok-whole.whole whole constructor c.requires.first c.requires.second x y) in
    (step-after c.args.nodes.now [] c.args.classes.now c.reason.new.self c.join_by.new.classes _ c.in_ok-whole.ensures.1 (c.in_ok-join_by.ensures c.args.nodes.now [] holds), λ e. not-still e)
