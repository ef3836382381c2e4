use Rattle.std.proofs.Common.{◌≡◌, true, map, ap, sym, ◌∙◌, ◌++◌}
use Rattle.std.proofs.lemmas.Result.{on_ok_weaker}
use Rattle.fst_base.specs.Sorts.{plain_sort}
use Rattle.fst_shapes.specs.Preparing.{sorts_in}
use Rattle.fst_terms.specs.Formulas.{sort_of}
use Rattle.fst_terms.specs.Terms.{plain_term}
use Rattle.fst_cases.specs.Always.{is_pair, is_unit}
use Rattle.fst_cases.proofs.AlwaysLemmas.{term-get, pair-here, unit-here, none-here}
use Rattle.fst_cases.proofs.always.put_by.Goals as goal

pub returns-then-is_pair : goal.returns-then-is_pair
returns-then-is_pair c =
    let Ss = sorts_in c.args.sorts.now in
    let same = ap (sort_of Ss) (sym (term-get c.args.terms.now c.args.at c.index-terms-at.result c.index-terms-at.is c.requires.at)) ∙ sym c.in_ok-sort.ensures ∙ ap plain_sort (sym c.get.ensures) in
    on_ok_weaker c.put_pair.result
    (λ e. e ∙ ap (λ es. c.args.equations.now ++ es) (pair-here Ss (map plain_term c.args.terms.now) c.args.at (ap is_pair same ∙ sym c.is_pair.ensures ∙ c.if-is_pair.true)))
    c.put_pair.ensures

pub returns-then-is_unit : goal.returns-then-is_unit
returns-then-is_unit c =
    let Ss = sorts_in c.args.sorts.now in
    let same = ap (sort_of Ss) (sym (term-get c.args.terms.now c.args.at c.index-terms-at.result c.index-terms-at.is c.requires.at)) ∙ sym c.in_ok-sort.ensures ∙ ap plain_sort (sym c.get-2.ensures) in
    on_ok_weaker c.put_unit.result
    (λ e. e ∙ ap (λ es. c.args.equations.now ++ es) (unit-here Ss (map plain_term c.args.terms.now) c.args.at (ap is_unit same ∙ sym c.is_unit.ensures ∙ c.if-is_unit.true)))
    c.put_unit.ensures

pub returns : goal.returns
returns c =
    let Ss = sorts_in c.args.sorts.now in
    let term = ap (sort_of Ss) (sym (term-get c.args.terms.now c.args.at c.index-terms-at.result c.index-terms-at.is c.requires.at)) ∙ sym c.in_ok-sort.ensures in
    none-here Ss (map plain_term c.args.terms.now) c.args.at c.args.equations.now (ap is_pair (term ∙ ap plain_sort (sym c.get.ensures)) ∙ sym c.is_pair.ensures ∙ c.if-is_pair.false)
    (ap is_unit (term ∙ ap plain_sort (sym c.get-2.ensures)) ∙ sym c.is_unit.ensures ∙ c.if-is_unit.false)
