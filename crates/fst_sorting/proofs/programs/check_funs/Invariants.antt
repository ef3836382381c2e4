use Rattle.std.proofs.Common.{◌≡◌, take}
use Rattle.fst_sorting.specs.Listed.{all_placed, funs_break}
use Rattle.fst_sorting.specs.Sites.{known_at}
use Rattle.fst_sorting.proofs.programs.check_funs.Given as goal

abbrev pub invariant-loop-index : goal.invariant-loop-index
invariant-loop-index l = l.found ≡ funs_break (known_at l.known) (all_placed l.funs) (all_placed (take l.index l.funs))
