use Rattle.std.proofs.Common.{arith}
use Rattle.std.proofs.lemmas.Str.Parse.{digit_at}
use Rattle.fst_values.proofs.NumberLemmas.{digit_more, digit_more-le}
use Rattle.fst_values.proofs.number.magnitude.Goals as goal

pub with_digit-requires : goal.with_digit-requires
with_digit-requires c = digit_at _ _ c.requires c.loop-digit-test.true

pub returns-in_default : goal.returns-in_default
returns-in_default c = λ h. c.in_default.ensures (omega (arith, digit_more-le _ _ c.requires c.loop-digit-test.true, c.loop-digit.invariant.0))

pub loop-digit-preserved : goal.loop-digit-preserved
loop-digit-preserved c = (omega (arith, digit_more _ _ c.requires c.loop-digit-test.true, c.loop-digit.invariant.0, c.in-Some.ensures), omega (arith, c.in-Some.ensures))
