use Rattle.std.proofs.Common.{rules}
use Rattle.fst_base.specs.Sorts.{s_unit, s_int}
use Rattle.fst_base.specs.declared.op.Op.TheVariants as op
use Rattle.fst_base.specs.declared.sort.Sort as D
use Rattle.fst_base.specs.declared.value.Value as W
use Rattle.fst_tests.proofs.Made.{made}
use Rattle.fst_tests.proofs.primitives.the_default.Goals as goal

pub both_ways-requires : goal.both_ways-requires
both_ways-requires c = made op.The s_int s_unit _ _ (search (rules, D.the_lemmas)) (search (rules, W.the_lemmas), tt)
