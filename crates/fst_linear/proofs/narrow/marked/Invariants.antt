use Rattle.std.specs.List.{All, Contains}
use Rattle.fst_linear.proofs.narrow.marked.Given as goal

abbrev pub invariant-loop-k : goal.invariant-loop-k
invariant-loop-k l = All (Contains l.live) l.places.items
