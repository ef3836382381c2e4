use Rattle.fst_tests.proofs.Made.{to_number, to_truth}
use Rattle.fst_tests.proofs.primitives.on_numbers.Goals as goal

pub both_ways-requires : goal.both_ways-requires
both_ways-requires c = to_number _ _ _ c.in-Add.is

pub both_ways-requires-in-Le : goal.both_ways-requires-in-Le
both_ways-requires-in-Le c = to_truth _ _ _ c.in-Le.is
