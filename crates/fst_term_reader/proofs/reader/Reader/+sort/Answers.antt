use Rattle.std.proofs.Common.{rules, arith}
use Rattle.std.proofs.lemmas.Grind.{common_steps}
use Rattle.fst_syntax.specs.Productions as n
use Rattle.fst_syntax.proofs.Opens.{opens}
use Rattle.fst_term_reader.proofs.reader.Reader.+sort.Goals as goal

pub sat-returns-in_err-sort-in_default : goal.sat-returns-in_err-sort-in_default
sat-returns-in_err-sort-in_default t c = record { reads = rw (opens n.sat) (first_of (search rules, grind (arith, common_steps))); shorter = search rules }
