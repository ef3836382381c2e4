use Rattle.std.proofs.Common.{rules, arith}
use Rattle.std.proofs.lemmas.Grind.{common_steps}
use Rattle.fst_syntax.proofs.Enclosed.{named_of_term}
use Rattle.fst_term_reader.proofs.terms.Terms.named.Goals as goal

pub returns-in_err-name-clause-reads : goal.returns-in_err-name-clause-reads
returns-in_err-name-clause-reads g c = rw (named_of_term c.args.self.now.formula c.args.reader.now c.if-self.false) (first_of (search rules, grind (arith, common_steps)))

pub returns-in_ok-name-clause-reads : goal.returns-in_ok-name-clause-reads
returns-in_ok-name-clause-reads g c = rw (named_of_term c.args.self.now.formula c.args.reader.now c.if-self.false) (first_of (search rules, grind (arith, common_steps)))
