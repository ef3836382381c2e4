use Rattle.fst_cert.proofs.RuleLemmas.{rules-law}
use Rattle.fst_cert.proofs.laws.rules_law.Goals as goal

pub returns : goal.returns
returns c = rules-law
