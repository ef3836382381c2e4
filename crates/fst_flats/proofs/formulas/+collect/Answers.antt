use Rattle.std.proofs.Common.{map, ap, ◌∙◌}
use Rattle.std.proofs.lemmas.Result.{on_ok_weaker}
use Rattle.fst_flats.specs.Preparing.{sorts_in}
use Rattle.fst_flats.specs.Relations.{atoms_of_formula}
use Rattle.fst_terms.specs.Skeletons.{first_atoms}
use Rattle.fst_terms.specs.Terms.{plain_term}
use Rattle.fst_flats.proofs.FoldLemmas.{first_atoms-more}
use Rattle.fst_flats.proofs.RelationLemmas.{if-by, same-by}
use Rattle.fst_flats.proofs.formulas.+collect.Goals as goal

pub collect-returns-then-branch : goal.collect-returns-then-branch
collect-returns-then-branch t c = on_ok_weaker c.collect_all.result (same-by (sorts_in c.args.sorts.now) _ _ _ _ _ _ _ _ _ _ c.in-Prim.is c.as_slice.ensures c.as_slice-then-branch.ensures c.in_ok-is_same-in-Prim.ensures c.if-branch.true) c.collect_all.ensures

pub collect-returns-in_ok-collect-in-If-2 : goal.collect-returns-in_ok-collect-in-If-2
collect-returns-in_ok-collect-in-If-2 t c =
    on_ok_weaker c.collect-in-If-2.result
    (if-by (sorts_in c.args.sorts.now) _ _ _ _ _ _ _ _ _ _ _ c.in-If.is c.get.ensures c.get-in-If.ensures c.get-in-If-2.ensures c.in_ok-collect-in-If.ensures c.in_ok-collect-in-If-2.ensures)
    c.collect-in-If-2.ensures

pub collect_all-loop-term-preserved : goal.collect_all-loop-term-preserved
collect_all-loop-term-preserved t c =
    first_atoms-more (atoms_of_formula (sorts_in c.args.sorts.now)) _ _ _ c.args.terms.now c.loop-term.term-index c.term-item.result c.loop-term-test.true c.loop-term.invariant
    (c.in_ok-collect.ensures ∙ ap (λ t. first_atoms (map plain_term c.loop-term.atoms) (atoms_of_formula (sorts_in c.args.sorts.now) (plain_term t))) c.term-item.is)
