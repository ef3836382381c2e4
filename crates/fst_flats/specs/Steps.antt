-- The steps of preparing a sequent.
use Rattle.std.specs.Prelude.{List, ◌++◌, flat_map, length, map}
use Rattle.fst_base.specs.Sorts.{Srt}
use Rattle.fst_flats.specs.declared.forms.Forms.{Forms}
use Rattle.fst_flats.specs.declared.numbering.Numbering.{Numbering}
use Rattle.fst_terms.specs.Terms.{Tm, plain_term}
use Rattle.fst_terms.specs.Meaning.{plain_var}
use Rattle.fst_terms.specs.DataFacts.{arrangements, data_facts, subterms}
use Rattle.fst_terms.specs.FlatForms.{Fms, add_arrangements, add_data_facts, component_pair, number_all}
use Rattle.fst_terms.specs.Flats.{Flt, literals}
use Rattle.fst_terms.specs.Same.{firsts}
use Rattle.fst_terms.specs.Skeletons.{atoms_of}

-- the formulas on the way to a flat form
abbrev pub plain_forms : Forms → Fms
plain_forms m = record { vars = map plain_var m.vars; hyps = map plain_term m.hyps; goal = plain_term m.goal; facts = map plain_term m.facts }

-- the data facts of these formulas, and the arrangements of their subterms
abbrev pub added_facts : (Ss : List Srt) → (formulas : List Tm) → List Tm
added_facts Ss phis = data_facts Ss phis ++ arrangements Ss (subterms (atoms_of Ss (phis ++ data_facts Ss phis)))

-- these terms, the pairs of components of theirs with their parts, and the literals true, false and ()
abbrev pub completed : (Ss : List Srt) → List Tm → List Tm
completed Ss us = firsts us (flat_map (component_pair Ss) us ++ literals)

-- the flat form of these parts
abbrev pub assembled : Forms → Numbering → Flt
assembled m n =
    record {
      vars = map plain_var m.vars;
      formulas = map plain_term m.hyps ++ map plain_term m.facts ++ map plain_term n.facts;
      hyps = length m.hyps;
      goal = plain_term m.goal;
      terms = map plain_term n.terms;
      atoms = map plain_term n.atoms;
    }

-- the flat form of formulas with names: with data facts and arrangements, and numbered
unfoldable pub finished : Fms → Flt
finished m = number_all (add_arrangements (add_data_facts m))
