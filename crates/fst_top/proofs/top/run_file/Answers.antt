use Rattle.std.proofs.Common.{rules, ◌≡◌, subst}
use Rattle.fst_outside.specs.Outside.{Rose}
use Rattle.fst_top.specs.Answering.{IsRunAnswer}
use Rattle.fst_top.specs.Promises.{given_by}
use Rattle.fst_top.specs.Statuses.{number_of}
use Rattle.fst_top.proofs.GivenLemmas.{run-given}
use Rattle.fst_top.proofs.RunningLemmas.{if-ok}
use Rattle.fst_top.proofs.top.run_file.Goals as goal

pub returns-in-Ok-clause-given : goal.returns-in-Ok-clause-given
returns-in-Ok-clause-given g c =
    let given = given_by (g.S.Shelf.told c.args.shelf.now) (g.S.Shelf.bytes_read c.fetch.new.self) in
    let same : c.as_slice.result.now ≡ given c.args.file.now = search rules in
    if-ok c.run.result _ _ (λ a h. run-given c.args.file.now c.args.fuel c.args.arguments.now given (Rose (g.S.Shelf.faults c.args.shelf.now) (g.S.Shelf.faults c.fetch.new.self)) (number_of a.status) a.text
    (subst (λ text. IsRunAnswer text c.args.fuel c.args.arguments.now a) same h)) c.run.ensures
