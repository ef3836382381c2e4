use Rattle.std.proofs.Common.{◌+◌, ◌-◌, ◌*◌, length}
use Rattle.fst_top.proofs.branches.+search.Given as goal

-- an atom more is marked with each call of `search` from `search_with`
abbrev pub decreases-search : goal.decreases-search
decreases-search l = 2 * (length l.flat.now.atoms - length l.marks.now) + 1

abbrev pub decreases-search_with : goal.decreases-search_with
decreases-search_with l = 2 * (length l.flat.now.atoms - length l.marks.now)
