use Rattle.std.proofs.Common.{◌≡◌, ℕ, ◌≤◌, ◌∙◌, true, false, if◌then◌else◌, map, ap, sym, arith}
use Rattle.fst_terms.specs.Flats.{plain_flat, reads}
use Rattle.fst_terms.specs.Indices.{lets, lets_of}
use Rattle.fst_terms.specs.Searching.{is_value, some_false}
use Rattle.fst_terms.specs.Terms.{plain_term, plain_terms}
use Rattle.fst_terms.specs.declared.term.Term.{Term}
use Rattle.fst_terms.proofs.RowLemmas.{lets_of-at}
use Rattle.fst_terms.proofs.SearchLemmas.{some_false-at, some_false-next, formulas-no-lets, goal-no-lets}
use Rattle.fst_top.proofs.branches.is_closed.Goals as goal

abbrev lets_in : Term → ℕ
lets_in t = lets (plain_term t)

pub read-requires : goal.read-requires
read-requires c =
    let items = c.as_slice-formula-items.result.now in
    let within : lets_in c.formula-item.result ≤ lets_of (plain_terms items) = let i = lets_of-at items c.loop-formula.formula-index c.formula-item.result c.loop-formula-test.true in omega (arith, i, ap lets_in c.formula-item.is) in
    let none : lets_of (plain_terms items) ≡ 0 = ap (λ ts. lets_of (plain_terms ts)) c.as_slice-formula-items.ensures ∙ formulas-no-lets (plain_flat c.args.flat.now) c.requires in
    let zero : lets_in c.formula-item.result ≡ 0 = omega arith in
    zero

pub read-requires-2 : goal.read-requires-2
read-requires-2 c = goal-no-lets (plain_flat c.args.flat.now) c.requires

pub returns-then-is_value : goal.returns-then-is_value
returns-then-is_value c =
    let f = plain_flat c.args.flat.now in
    let ms = c.args.marks.now in
    let value = c.is_value.ensures ∙ ap (is_value false) (c.read.ensures ∙ ap (λ t. reads f ms (plain_term t)) c.formula-item.is) in
    let there = some_false-at f ms c.as_slice-formula-items.result.now c.loop-formula.formula-index c.formula-item.result c.loop-formula-test.true (sym value ∙ c.if-is_value.true) in
    sym (ap (λ b. if b then true else is_value true (reads f ms f.goal)) (ap (λ ts. some_false f ms (map plain_term ts)) (sym c.as_slice-formula-items.ensures) ∙ there))

pub loop-formula-preserved : goal.loop-formula-preserved
loop-formula-preserved c =
    let f = plain_flat c.args.flat.now in
    let ms = c.args.marks.now in
    let value = c.is_value.ensures ∙ ap (is_value false) (c.read.ensures ∙ ap (λ t. reads f ms (plain_term t)) c.formula-item.is) in
    some_false-next f ms c.as_slice-formula-items.result.now c.loop-formula.formula-index c.formula-item.result c.loop-formula-test.true c.loop-formula.invariant (sym value ∙ c.if-is_value.false)
