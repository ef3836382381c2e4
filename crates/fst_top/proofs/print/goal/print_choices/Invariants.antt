use Rattle.std.proofs.Common.{◌≡◌, ◌++◌, drop}
use Rattle.fst_top.specs.Printed.{choices_text}
use Rattle.fst_top.proofs.print.goal.print_choices.Given as goal

abbrev pub invariant-loop-choice : goal.invariant-loop-choice
invariant-loop-choice l = l.out ++ choices_text (drop l.choice-index l.choices) ≡ l.fn.out ++ choices_text l.choices
