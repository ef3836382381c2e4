use Rattle.std.proofs.Common.{◌≡◌, ◌++◌, map, take}
use Rattle.fst_star.specs.Met.{after_ends, met_on_ways, plain_event, plain_trail}
use Rattle.fst_star.specs.Plain.{plain_ways, plain_wp}
use Rattle.fst_scopes.specs.Scopes.{terms_for}
use Rattle.fst_star.proofs.gathering.+gather.Given as goal

abbrev pub invariant-gather_ways-loop-way : goal.invariant-gather_ways-loop-way
invariant-gather_ways-loop-way l = map plain_event l.met ≡ map plain_event l.initial.met ++ met_on_ways (plain_ways (take l.way-index l.ways)) (terms_for l.terms) (plain_trail l.trail)

abbrev pub invariant-gather_after-loop-event : goal.invariant-gather_after-loop-event
invariant-gather_after-loop-event l = map plain_event l.met ≡ map plain_event l.initial.met ++ after_ends (plain_wp l.rest) (terms_for l.terms) l.count (map plain_event (take l.event-index l.first))
