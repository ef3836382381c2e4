use Rattle.std.proofs.Common.{rules}
use Rattle.fst_base.specs.Sorts.{s_a}
use Rattle.fst_base.specs.declared.op.Op.TheVariants as op
use Rattle.fst_base.specs.declared.sort.Sort as D
use Rattle.fst_tests.proofs.Made.{made}
use Rattle.fst_tests.proofs.primitives.inr.Goals as goal

pub both_ways-requires : goal.both_ways-requires
both_ways-requires c = made op.Inr s_a s_a _ _ (search (rules, D.the_lemmas)) (tt, tt)
