use Rattle.std.proofs.Common.{rules, arith}
use Rattle.std.proofs.lemmas.Grind.{common_steps}
use Rattle.fst_syntax.proofs.Enclosed.{inner_of_term}
use Rattle.fst_term_reader.proofs.terms.Terms.inner.Goals as goal

pub returns-in_err-tree-2-clause-reads : goal.returns-in_err-tree-2-clause-reads
returns-in_err-tree-2-clause-reads g c = rw (inner_of_term c.args.self.now.formula c.args.at c.args.reader.now c.if-self.false) (first_of (search rules, grind (arith, common_steps)))

pub returns-in_ok-tree-2-clause-reads : goal.returns-in_ok-tree-2-clause-reads
returns-in_ok-tree-2-clause-reads g c = rw (inner_of_term c.args.self.now.formula c.args.at c.args.reader.now c.if-self.false) (first_of (search rules, grind (arith, common_steps)))
