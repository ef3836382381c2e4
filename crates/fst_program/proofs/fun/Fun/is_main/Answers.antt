use Rattle.std.proofs.Common.{sym, ap, ◌∙◌, not}
use Rattle.fst_program.proofs.EntryLemmas.{is_main-shown}
use Rattle.fst_program.proofs.fun.Fun.is_main.Goals as goal
use Rattle.fst_program.proofs.fun.Fun.is_main.Goals.{then-has_name, else-has_name}

pub returns-then-not-is_ghost : goal.returns-then-not-is_ghost
returns-then-not-is_ghost c = elim c.if-has_name.branch [
  | then-has_name w ↦ c.shows_all.ensures ∙ sym (is_main-shown c.args.self.now (sym c.has_name.ensures ∙ w.if-has_name.true) (ap not (sym w.is_ghost.ensures) ∙ sym w.value-is ∙ c.if-not-is_ghost.true))
  | else-has_name w ↦ cc
]
