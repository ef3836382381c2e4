use Rattle.std.proofs.Common.{rules}
use Rattle.fst_base.specs.Sorts.{s_a, s_either}
use Rattle.fst_base.specs.declared.op.Op.TheVariants as op
use Rattle.fst_base.specs.declared.sort.Sort as D
use Rattle.fst_base.specs.Values.{v_inl}
use Rattle.fst_base.proofs.ValueLemmas.{plain-value-Left}
use Rattle.fst_tests.proofs.Made.{made, has_along}
use Rattle.fst_tests.proofs.primitives.left.Goals as goal

pub both_ways-requires : goal.both_ways-requires
both_ways-requires c = made op.Outl s_a s_a _ _ (search (rules, D.the_lemmas)) (has_along (s_either s_a s_a) _ (v_inl _) (plain-value-Left _) tt, tt)
