use Rattle.std.proofs.Common.{suc, arith}
use Rattle.fst_program.specs.Plain.{plain_program}
use Rattle.fst_program.proofs.MeaningLemmas.{unique}
use Rattle.fst_program.proofs.laws.one_meaning_law.Goals as goal

pub returns : goal.returns
returns c = λ ok M N m n k vs. unique (plain_program c.args.program.now) ok M N m n (suc k) k (omega arith) vs
