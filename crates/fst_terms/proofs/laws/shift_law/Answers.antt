use Rattle.fst_terms.specs.Terms.{plain_term}
use Rattle.fst_terms.proofs.TermLemmas.{shift_law}
use Rattle.fst_terms.proofs.laws.shift_law.Goals as goal

pub returns : goal.returns
returns c = λ M e vs. shift_law M c.args.from (plain_term c.args.term.now) e vs
