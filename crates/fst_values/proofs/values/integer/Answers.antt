use Rattle.std.proofs.Common.{rules}
use Rattle.fst_values.proofs.IntegerLemmas.{integer_wide}
use Rattle.fst_values.proofs.values.integer.Goals as goal

pub returns-in-None : goal.returns-in-None
returns-in-None c = integer_wide c.args.reader.now _ _ _ _ c.take-is_negative.ensures.found c.take-is_negative.ensures.rest c.word-digits.ensures.word c.word-digits.ensures.rest (search rules) (search rules)
