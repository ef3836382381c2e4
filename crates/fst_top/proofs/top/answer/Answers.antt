use Rattle.std.proofs.Common.{rules, ◌≡◌, Some, IfOk, subst}
use Rattle.fst_outside.specs.Outside.{Rose}
use Rattle.fst_top.specs.Answers.{run, command_of}
use Rattle.fst_top.specs.Outcomes.{Given}
use Rattle.fst_top.specs.Promises.{given_by}
use Rattle.fst_top.specs.Statuses.{number_of}
use Rattle.fst_top.proofs.top.answer.Goals as goal

pub returns-in-Some-Run-clause-given : goal.returns-in-Some-Run-clause-given
returns-in-Some-Run-clause-given g c =
    let same : Some (run c.in-Some-Run.file.now c.in-Some-Run.fuel c.in-Some-Run.arguments.now) ≡ command_of c.args.words.now = search rules in
    subst (λ x. IfOk c.run_file.result (λ a. Given x (given_by (g.S.Shelf.told c.args.shelf.now) (g.S.Shelf.bytes_read c.run_file.new.shelf)) (Rose (g.S.Shelf.faults c.args.shelf.now) (g.S.Shelf.faults c.run_file.new.shelf)) (number_of a.status) a.text)) same c.run_file.ensures.given
