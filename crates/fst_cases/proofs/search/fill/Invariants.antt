use Rattle.std.proofs.Common.{◌≤◌, ◌-◌, length}
use Rattle.fst_terms.specs.Flats.{plain_flat}
use Rattle.fst_cases.specs.Trails.{Trail, branches, marks_in}
use Rattle.fst_cases.proofs.search.fill.Given as goal

abbrev pub invariant-loop-trail : goal.invariant-loop-trail
invariant-loop-trail l = record {
  trail_stands : Trail (plain_flat l.flat) l.arena l.trail;
  fewer : branches (length (plain_flat l.flat).atoms) (marks_in l.trail) ≤ branches (length (plain_flat l.flat).atoms) (marks_in l.initial.trail);
}

abbrev pub decreases-loop-trail : goal.decreases-loop-trail
decreases-loop-trail l = length l.flat.atoms - length l.trail
