use Rattle.std.proofs.Common.{arith}
use Rattle.fst_text.proofs.CharacterLemmas.{decoded-within}
use Rattle.fst_text.proofs.character.Class.char_len.Goals as goal

pub returns-in-Some-clause-within : goal.returns-in-Some-clause-within
returns-in-Some-clause-within c = omega (arith, decoded-within c.args.bytes.now)
