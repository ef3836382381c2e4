-- Arguments of a primitive.
use Rattle.std.specs.Prelude.{List}
use Rattle.fst_base.specs.Rows.{Fits}
use Rattle.fst_base.specs.Sorts.{Srt}
use Rattle.fst_base.specs.Values.{Val, HasSorts}
use Rattle.fst_base.specs.declared.op.Op.{Op}

-- the values have sorts that fit the row of the primitive, where S is the sort of its result
pub record AreArguments (o : Op) (vs : List Val) (S : Srt) : Type 0 where
  pub sorts : List Srt
  pub have : HasSorts sorts vs
  pub fit : Fits o sorts S
