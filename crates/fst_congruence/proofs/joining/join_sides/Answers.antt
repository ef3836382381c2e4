use Rattle.std.proofs.Common.{◌≡◌, inl, sym, subst}
use Rattle.std.specs.Prelude.{Contains}
use Rattle.fst_cert.specs.declared.line.Line.{Line}
use Rattle.fst_congruence.specs.Classes.{label_at}
use Rattle.fst_congruence.proofs.StepLemmas.{step-none, not-still}
use Rattle.fst_congruence.proofs.joining.join_sides.Goals as goal

pub returns-then-labels-equation : goal.returns-then-labels-equation
returns-then-labels-equation c = λ ns es h. (step-none _ _ _ c.requires.sound, λ e. subst (λ ls. label_at ls c.args.equation.now.left ≡ label_at ls c.args.equation.now.right) c.as_slice-labels.ensures c.if-labels-equation.true)

pub returns : goal.returns
returns c = λ ns es h.
    (let held : Contains es (record { left = c.args.equation.now.left; right = c.args.equation.now.right; by = c.in_ok-by.by }) =
    subst (λ (l : Line). Contains es (record { left = c.args.equation.now.left; right = c.args.equation.now.right; by = l })) (sym c.in_ok-by.ensures) h in
    (c.in_ok-join_by.ensures ns es (inl held), λ e. not-still e))
