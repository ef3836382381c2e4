use Rattle.std.proofs.Common.{ℕ, List, get_or, ap, sym, subst}
use Rattle.fst_congruence.specs.declared.equation.Equation.{Equation}
use Rattle.fst_congruence.specs.declared.extract.Needed.{Needed}
use Rattle.fst_congruence.specs.declared.why.Why.{Why}
use Rattle.fst_congruence.specs.Classes.{label_at, why_at}
use Rattle.fst_congruence.specs.Extracts.{Keeps}
use Rattle.fst_congruence.specs.Lines.{Because}
use Rattle.fst_congruence.proofs.ExtractLemmas.{because-kept}
use Rattle.fst_congruence.proofs.explain.needed.Goals as goal

pub returns : goal.returns
returns c =
    let up : Why = why_at c.as_slice.result.now c.args.left in
    let down : Why = why_at c.as_slice-2.result.now c.args.right in
    let first : Because c.args.classes.now.log up c.args.left (label_at c.args.classes.now.labels c.args.left) =
    subst (λ (ws : List Why). Because c.args.classes.now.log (why_at ws c.args.left) c.args.left (label_at c.args.classes.now.labels c.args.left)) (sym c.as_slice.ensures) (c.requires.sound.labelled.reasons c.args.left c.requires.left) in
    let second : Because c.args.classes.now.log down c.args.right (label_at c.args.classes.now.labels c.args.right) =
    subst (λ (ws : List Why). Because c.args.classes.now.log (why_at ws c.args.right) c.args.right (label_at c.args.classes.now.labels c.args.right)) (sym c.as_slice-2.ensures) (c.requires.sound.labelled.reasons c.args.right c.requires.right) in
    let kept : Needed = c.in_ok-log.field-0 in
    let keeps : Keeps c.args.classes.now.log kept up.line down.line = subst (λ (l : List Equation). Keeps l kept up.line down.line) c.as_slice-3.ensures c.in_ok-log.ensures in
    record {
      first = because-kept c.args.classes.now.log kept up _ _ _ keeps.none keeps.first_moved (ap (λ (ns : List ℕ). record { line = get_or ns up.line 0; turned = up.turned }) c.as_slice-4.ensures) first;
      second = because-kept c.args.classes.now.log kept down _ _ _ keeps.none keeps.second_moved (ap (λ (ns : List ℕ). record { line = get_or ns down.line 0; turned = down.turned }) c.as_slice-5.ensures) second;
      valid = keeps.valid;
    }
