-- What stands between two rounds of facts: us are the terms for the variables, `each` gives the facts of an application.
use Rattle.std.specs.Prelude.{◌≡◌, ℕ, List, ◌++◌, map, reverse, take, flat_map}
use Rattle.fst_terms.specs.Terms.{Tm}
use Rattle.fst_terms.specs.Cleared.{cleared}
use Rattle.fst_terms.specs.Meaning.{plain_var}
use Rattle.fst_program.specs.FunctionFacts.{applications, of_application, posted, unfolded}
use Rattle.fst_program.specs.Texts.{Fn, Prog}
use Rattle.fst_logicfun.specs.declared.ways.Which as W
use Rattle.fst_logicfun.specs.declared.ways.Which.TheVariants as which

-- the facts of the next round
abbrev pub next : (us : List Tm) → (each : Tm → List Tm) → (formulas facts : List Tm) → List Tm
next us each phis facts = map (cleared us) (flat_map each (applications (phis ++ facts)))

-- the facts are those of the first `used` applications, and the applications are those in the formulas and the facts
pub record Gathered (us : List Tm) (each : Tm → List Tm) (phis apps facts : List Tm) (used : ℕ) : Type 0 where
  pub apps_are : apps ≡ applications (phis ++ facts)
  pub facts_are : facts ≡ map (cleared us) (flat_map each (take used apps))

-- after a round on these facts
pub record Moved (us : List Tm) (each : Tm → List Tm) (phis old : List Tm) (count : ℕ) (apps facts : List Tm) : Type 0 where
  pub gathered : Gathered us each phis apps facts count
  pub next : facts ≡ next us each phis old

-- the facts that are wanted of an application
abbrev pub facts_by : Prog → W.Which → Tm → Fn → List Tm → Tm → List Tm
facts_by P which.Postconditions = posted
facts_by P (which.Unfoldings vars) = unfolded P (reverse (map plain_var vars.now))

abbrev pub each_of : Prog → W.Which → Tm → List Tm
each_of P w = of_application P (facts_by P w)
