use Rattle.std.proofs.Common.{◌≡◌, take}
use Rattle.fst_sorting.specs.Functions.{calls_unmeasured}
use Rattle.fst_sorting.specs.Listed.{all_placed, arms_call, placed_in}
use Rattle.fst_sorting.proofs.measures.+loose.Given as goal

abbrev pub invariant-arms_call-loop-index : goal.invariant-arms_call-loop-index
invariant-arms_call-loop-index l = l.found ≡ arms_call (calls_unmeasured (all_placed l.funs) (placed_in l.own)) (take l.index l.arms)
