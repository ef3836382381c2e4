-- What the ways and the tests of a walk stand for.
use Rattle.std.specs.Prelude.{◌≡◌, false, map, reverse}
use Rattle.fst_terms.specs.Terms.{Tm, t_bool, plain_term}
use Rattle.fst_top.specs.declared.goals.way.Test.{Test}
use Rattle.fst_top.specs.declared.goals.way.Test.TheVariants as test
use Rattle.fst_top.specs.declared.goals.way.Way.{Way}
use Rattle.fst_top.specs.Goals.{State, is_literal}

abbrev pub state_of : Way → State
state_of way = record { terms = reverse (map plain_term way.terms); hyps = reverse (map plain_term way.hyps); choices = reverse way.choices }

-- the test asks this formula: a literal has its one answer
abbrev pub Asks : Test → Tm → Type 0
Asks (test.Literal b) t = t ≡ t_bool b
Asks (test.Open u) t = (plain_term u ≡ t) × (is_literal t ≡ false)
