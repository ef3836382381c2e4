use Rattle.std.proofs.Common.{rules}
use Rattle.fst_base.specs.Sorts.{s_a, s_pair}
use Rattle.fst_base.specs.declared.op.Op.TheVariants as op
use Rattle.fst_base.specs.declared.sort.Sort as D
use Rattle.fst_base.specs.Values.{v_pair}
use Rattle.fst_base.proofs.ValueLemmas.{plain-value-Pair}
use Rattle.fst_tests.proofs.Made.{made, has_along}
use Rattle.fst_tests.proofs.primitives.first_part.Goals as goal

pub both_ways-requires : goal.both_ways-requires
both_ways-requires c = made op.Fst s_a s_a _ _ (search (rules, D.the_lemmas)) (has_along (s_pair s_a s_a) _ (v_pair _ _) (plain-value-Pair _ _) (tt, tt), tt)
