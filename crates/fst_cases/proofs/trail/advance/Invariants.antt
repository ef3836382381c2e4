use Rattle.std.proofs.Common.{◌≡◌, ◌++◌, List, length}
use Rattle.fst_terms.specs.Flats.{plain_flat}
use Rattle.fst_cases.specs.declared.trail.Step.{Step}
use Rattle.fst_cases.specs.Arenas.{Grows}
use Rattle.fst_cases.specs.Trails.{RefutesAt, Trail, marks_in}
use Rattle.fst_cases.proofs.trail.advance.Given as goal

abbrev pub invariant-loop-last : goal.invariant-loop-last
invariant-loop-last l = record {
  grown : Grows l.initial.arena l.arena;
  trail : Trail (plain_flat l.flat) l.arena l.trail;
  node : RefutesAt (plain_flat l.flat) l.arena (marks_in l.trail) l.refuted;
  rest : List Step;
  first : l.initial.trail ≡ l.trail ++ rest;
}

abbrev pub decreases-loop-last : goal.decreases-loop-last
decreases-loop-last l = length l.trail
