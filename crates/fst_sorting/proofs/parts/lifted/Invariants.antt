use Rattle.std.proofs.Common.{◌≡◌, drop}
use Rattle.fst_program.specs.Plain.{plain_comp}
use Rattle.fst_sorting.specs.CoreTexts.{lifted}
use Rattle.fst_sorting.specs.Sites.{known_at}
use Rattle.fst_sorting.proofs.parts.lifted.Given as goal

abbrev pub invariant-loop-lift : goal.invariant-loop-lift
invariant-loop-lift l = lifted (known_at l.known) (drop l.lift-index l.lifts) (plain_comp l.text) ≡ lifted (known_at l.known) l.lifts (plain_comp l.initial.text)
