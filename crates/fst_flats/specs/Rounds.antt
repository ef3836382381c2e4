-- What stands between two rounds of data facts.
use Rattle.std.specs.Prelude.{◌≡◌, ℕ, List, [], ◌++◌, take, flat_map}
use Rattle.fst_base.specs.Sorts.{Srt}
use Rattle.fst_terms.specs.Terms.{Tm}
use Rattle.fst_terms.specs.Same.{firsts}
use Rattle.fst_terms.specs.Skeletons.{atoms_of}
use Rattle.fst_terms.specs.DataFacts.{facts_at, next_facts, subterms}

-- the atoms of these formulas, and their subterms
pub record Begun (Ss : List Srt) (phis atoms terms : List Tm) : Type 0 where
  pub atoms_are : atoms ≡ atoms_of Ss phis
  pub terms_are : terms ≡ subterms atoms

-- the facts are those of the first `used` subterms, and the atoms are those of the formulas and the facts
pub record Gathered (Ss lens : List Srt) (phis atoms terms facts : List Tm) (used : ℕ) : Type 0 where
  pub begun : Begun Ss (phis ++ facts) atoms terms
  pub facts_are : facts ≡ firsts [] (flat_map (facts_at Ss lens) (take used terms))

-- after a round on these facts
pub record Moved (Ss lens : List Srt) (phis old : List Tm) (count : ℕ) (atoms terms facts : List Tm) : Type 0 where
  pub gathered : Gathered Ss lens phis atoms terms facts count
  pub next : facts ≡ next_facts Ss lens phis old
