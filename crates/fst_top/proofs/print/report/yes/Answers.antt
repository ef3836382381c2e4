use Rattle.fst_program.specs.Plain.{plain_program}
use Rattle.fst_top.proofs.PrintLemmas.{on-ok, yes-text}
use Rattle.fst_top.proofs.print.report.yes.Goals as goal

pub returns : goal.returns
returns c = on-ok c.print_count-2.result
    (yes-text (plain_program c.args.program.now) _ _ _ _ c.number_of_funs.result c.args.goals c.number_of_funs.ensures.number c.requires.goals c.in_ok-extend_from_slice.ensures.ok c.in_ok-print_count.ensures)
    c.print_count-2.ensures
