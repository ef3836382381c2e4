use Rattle.std.proofs.Common.{map, flat_map}
use Rattle.std.proofs.lemmas.Result.{on_ok_weaker}
use Rattle.fst_flats.specs.Preparing.{sorts_in}
use Rattle.fst_flats.specs.Relations.{atoms_of_formula}
use Rattle.fst_terms.specs.Terms.{plain_term}
use Rattle.fst_flats.proofs.GatherLemmas.{gather-by}
use Rattle.fst_flats.proofs.gathering.gather.Goals as goal

pub returns-clause-terms : goal.returns-clause-terms
returns-clause-terms c =
    on_ok_weaker c.add_all_parts.result
    (gather-by (sorts_in c.args.sorts.now) c.args.atoms.now _ _ _ c.len-count.result (flat_map (atoms_of_formula (sorts_in c.args.sorts.now)) (map plain_term c.args.formulas.now)) _ _
    c.in_ok-collect_all.ensures c.len-count.ensures c.as_slice.ensures c.after.ensures)
    c.add_all_parts.ensures
