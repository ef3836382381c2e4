use Rattle.std.proofs.Common.{◌≡◌, ℕ, length, IfOk}
use Rattle.fst_terms.specs.Terms.{Tm}
use Rattle.fst_terms.specs.Skeletons.{Skl}
use Rattle.fst_shapes.specs.Shapes.{Shapes, before_end, shaped}
use Rattle.fst_shapes.proofs.reading.before.Given as goal

abbrev pub invariant-loop-head : goal.invariant-loop-head
invariant-loop-head l = (n : Tm → ℕ) (k : Skl) → Shapes n l.initial.all k → IfOk l.all (λ made. before_end l.heads made ≡ before_end l.initial.heads (shaped n k))

abbrev pub decreases-loop-head : goal.decreases-loop-head
decreases-loop-head l = length l.heads
