use Rattle.std.proofs.Common.{rules, ◌∙◌, ap}
use Rattle.fst_program.specs.Plain.{plain_program}
use Rattle.fst_top.proofs.JoinLemmas.{few-funs}
use Rattle.fst_top.proofs.ProgramBuilt.{program-built}
use Rattle.fst_top.proofs.reading.elaborate.Goals as goal

pub returns-in-Ok : goal.returns-in-Ok
returns-in-Ok c = (
  record { decls = c.args.decls.now; program = c.requires.program; first = search rules },
  program-built c.as_slice.result.now (plain_program c.in-Ok.program) c.in-Ok.ensures,
  few-funs c.as_slice.result.now c.in-Ok.program c.in-Ok.ensures,
)
