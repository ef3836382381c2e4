use Rattle.std.proofs.Common.{rules}
use Rattle.fst_base.specs.Sorts.{s_a, s_unit}
use Rattle.fst_base.specs.declared.op.Op.TheVariants as op
use Rattle.fst_base.specs.declared.sort.Sort as D
use Rattle.fst_tests.proofs.Made.{made, any_list}
use Rattle.fst_tests.proofs.primitives.head.Goals as goal

pub both_ways-requires : goal.both_ways-requires
both_ways-requires c = made op.Hd s_a s_unit _ _ (search (rules, D.the_lemmas)) (any_list _, tt)
