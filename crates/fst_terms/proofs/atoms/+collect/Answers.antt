use Rattle.std.proofs.Common.{ℕ, ◌∙◌, List, map, ap, sym, arith, rules}
use Rattle.std.proofs.lemmas.Result.{on_ok_weaker}
use Rattle.fst_base.specs.Sorts.{Srt}
use Rattle.fst_terms.specs.Flats.{atoms_in, all_atoms_in, sorts_of_vars}
use Rattle.fst_terms.specs.Indices.{lets}
use Rattle.fst_terms.specs.Meaning.{plain_var}
use Rattle.fst_terms.specs.Same.{firsts}
use Rattle.fst_terms.specs.Terms.{plain_term}
use Rattle.fst_terms.specs.declared.term.Term as D
use Rattle.fst_terms.specs.declared.term.Term.{Term}
use Rattle.fst_terms.proofs.AtomLemmas.{atoms-If, atoms-Bools, atoms-more}
use Rattle.fst_terms.proofs.RowLemmas.{lets_of-at}
use Rattle.fst_terms.proofs.atoms.+collect.Goals as goal

abbrev lets_in : Term → ℕ
lets_in t = lets (plain_term t)

pub collect-returns-in_ok-collect-in-If-2 : goal.collect-returns-in_ok-collect-in-If-2
collect-returns-in_ok-collect-in-If-2 t c = on_ok_weaker c.collect-in-If-2.result
    (atoms-If (sorts_of_vars (map plain_var c.args.vars.now)) _ _ _ _ _ _ _ _ _ _ _ c.in-If.is c.get.ensures c.get-in-If.ensures c.get-in-If-2.ensures c.in_ok-collect-in-If.ensures c.in_ok-collect-in-If-2.ensures)
    c.collect-in-If-2.ensures

pub collect-returns-in-Bools : goal.collect-returns-in-Bools
collect-returns-in-Bools t c =
    let Ss : List Srt = sorts_of_vars (map plain_var c.args.vars.now) in
    on_ok_weaker c.collect_all.result
    (λ e. e ∙ ap (firsts (map plain_term c.args.atoms.now)) (ap (λ ts. all_atoms_in Ss (map plain_term ts)) (c.as_slice-in-Bools.ensures ∙ sym c.as_slice.ensures) ∙ sym (atoms-Bools Ss _ _ _ _ _ _ c.in-Prim.is c.as_slice.ensures _ c.operator_form.ensures c.in-Bools.is)))
    c.collect_all.ensures

pub collect_all-collect-requires : goal.collect_all-collect-requires
collect_all-collect-requires t c =
    let within = lets_of-at c.args.terms.now c.loop-term.term-index c.term-item.result c.loop-term-test.true in
    (search (rules, D.the_lemmas), omega (arith, within, ap lets_in c.term-item.is))

pub collect_all-loop-term-preserved : goal.collect_all-loop-term-preserved
collect_all-loop-term-preserved t c =
    let Ss : List Srt = sorts_of_vars (map plain_var c.args.vars.now) in
    atoms-more Ss _ _ _ c.args.terms.now c.loop-term.term-index c.term-item.result c.loop-term-test.true c.loop-term.invariant
    (c.in_ok-collect.ensures ∙ ap (λ t. firsts (map plain_term c.loop-term.atoms) (atoms_in Ss (plain_term t))) c.term-item.is)
