use Rattle.std.proofs.Common.{ap, ◌∙◌}
use Rattle.fst_program.specs.Plain.{plain_program}
use Rattle.fst_star.specs.Plain.{plain_wp}
use Rattle.fst_star.proofs.InferringLemmas.{gives-goals}
use Rattle.fst_star.proofs.inference.infer.Goals as goal

pub returns-clause-goals : goal.returns-clause-goals
returns-clause-goals c = gives-goals (plain_program c.args.program.now) c.args.fun _ (ap plain_wp c.into_inner.ensures ∙ c.in_ok-made.ensures)
