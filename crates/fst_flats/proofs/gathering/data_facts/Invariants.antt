use Rattle.std.proofs.Common.{◌-◌, ◌≤◌, List, map}
use Rattle.fst_base.specs.Sorts.{plain_sort}
use Rattle.fst_flats.specs.Preparing.{sorts_in}
use Rattle.fst_flats.specs.Rounds.{Begun}
use Rattle.fst_flats.proofs.GatherLemmas.{Turned}
use Rattle.fst_terms.specs.Terms.{Tm, plain_term}
use Rattle.fst_flats.proofs.gathering.data_facts.Given as goal

abbrev pub invariant-loop-turn : goal.invariant-loop-turn
invariant-loop-turn l =
    l.turn ≤ 6
    × ((phis : List Tm) → Begun (sorts_in l.sorts) phis (map plain_term l.initial.atoms) (map plain_term l.initial.terms)
    → Turned (sorts_in l.sorts) (map plain_sort l.lens) phis l.atoms l.terms l.facts l.used l.turn)

abbrev pub decreases-loop-turn : goal.decreases-loop-turn
decreases-loop-turn l = 6 - l.turn
