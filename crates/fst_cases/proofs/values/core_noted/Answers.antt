use Rattle.std.proofs.Common.{arith}
use Rattle.std.proofs.lemmas.Result.{IfOk-weaker}
use Rattle.fst_cases.specs.Reading.{plain_shape}
use Rattle.fst_cases.proofs.ValueLemmas.{core-shows}
use Rattle.fst_cases.proofs.values.core_noted.Goals as goal

pub returns : goal.returns
returns c =
    IfOk-weaker c.core_of.result _ _
    (λ core e. core-shows c.args.marks.now c.want.new.wants core (plain_shape c.args.shape.now) (let a = c.want.auto.wants in let r = c.requires in omega (arith, a, r)) e c.want.ensures.shows)
    c.core_of.ensures
