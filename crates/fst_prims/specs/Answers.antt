-- What a row answers.
use Rattle.std.specs.Prelude.{List, Result, Err, ◌≡◌, ◌↔◌, IsTrue, IfOk}
use Rattle.fst_base.specs.Sorts.{Srt}
use Rattle.fst_base.specs.Values.{Val, plain_value}
use Rattle.fst_base.specs.Primitives.{prim, is_wide, divides_by_zero}
use Rattle.fst_base.specs.declared.op.Op.{Op}
use Rattle.fst_base.specs.declared.value.Value.{Value}
use Rattle.fst_prims.specs.declared.fault.PrimFault.{PrimFault}
use Rattle.fst_prims.specs.declared.fault.PrimFault.TheVariants.{PastRange, ZeroDivisor}

-- the answer is the primitive's meaning on these arguments, where S is the sort of its result;
-- past range exactly where that is a number outside 128 bits, a zero divisor exactly at a division by 0
pub record Answers (o : Op) (S : Srt) (vs : List Val) (answer : Result Value PrimFault) : Type 0 where
  pub value : IfOk answer (λ v. plain_value v ≡ prim o S vs)
  pub past : (answer ≡ Err PastRange) ↔ IsTrue (is_wide (prim o S vs))
  pub zero : (answer ≡ Err ZeroDivisor) ↔ IsTrue (divides_by_zero o vs)
