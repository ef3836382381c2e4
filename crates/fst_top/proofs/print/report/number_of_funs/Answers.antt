use Rattle.std.proofs.Common.{◌≡◌, Some, sym, ◌∙◌}
use Rattle.std.proofs.lemmas.List.{length-map}
use Rattle.fst_program.specs.Plain.{plain_fun}
use Rattle.fst_top.proofs.print.report.number_of_funs.Goals as goal

pub returns-clause-number : goal.returns-clause-number
returns-clause-number c = c.len.ensures ∙ sym (length-map c.args.program.now.funs (λ f. Some (plain_fun f)))
