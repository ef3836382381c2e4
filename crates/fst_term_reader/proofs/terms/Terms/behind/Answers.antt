use Rattle.std.proofs.Common.{rules, arith}
use Rattle.std.proofs.lemmas.Grind.{common_steps}
use Rattle.fst_syntax.proofs.Following.{none_follows}
use Rattle.fst_term_reader.proofs.terms.Terms.behind.Goals as goal

pub returns-else-at_operator-clause-reads : goal.returns-else-at_operator-clause-reads
returns-else-at_operator-clause-reads g c = none_follows c.args.self.now.formula c.args.first c.args.reader.now (first_of (search rules, grind (arith, common_steps)))
