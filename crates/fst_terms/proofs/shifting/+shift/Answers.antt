use Rattle.std.proofs.Common.{◌+◌, ◌^◌, ◌<◌, ◌≤◌, suc, ◌∙◌, ap, sym, subst, arith, rules}
use Rattle.std.proofs.lemmas.Result.{IfOk-weaker}
use Rattle.fst_terms.specs.Terms.{plain_term}
use Rattle.fst_terms.specs.Indices.{Raisable}
use Rattle.fst_terms.specs.declared.term.Term as D
use Rattle.fst_terms.specs.declared.term.Term.{Term}
use Rattle.fst_terms.proofs.IndexLemmas.{shift-none}
use Rattle.fst_terms.proofs.RowLemmas.{AreRaisable-at}
use Rattle.fst_terms.proofs.PartLemmas.{shift-Prim-by, shift-App-by}
use Rattle.fst_terms.proofs.shifting.+shift.Goals as goal

pub shift-returns-in_ok-copy-in-Prim : goal.shift-returns-in_ok-copy-in-Prim
shift-returns-in_ok-copy-in-Prim t c = shift-Prim-by _ _ _ _ _ _ _ _ _ _ c.in-Prim.is c.in_ok-copy-in-Prim.ensures c.as_slice.ensures c.in_ok-args-in-Prim.ensures

pub shift-returns-in_ok-copy-in-App : goal.shift-returns-in_ok-copy-in-App
shift-returns-in_ok-copy-in-App t c = shift-App-by _ _ _ _ _ _ _ _ _ c.in-App.is c.in_ok-copy-in-App.ensures c.as_slice-in-App.ensures c.in_ok-args-in-App.ensures

pub shift_all-shift-requires : goal.shift_all-shift-requires
shift_all-shift-requires t c =
    let P : Term → Type 0 = λ t. Raisable c.args.from c.args.by (plain_term t) in
    (search (rules, D.the_lemmas), subst P (sym c.term-item.is) (AreRaisable-at c.args.from c.args.by c.args.terms.now c.loop-term.term-index c.term-item.result c.loop-term-test.true c.requires))

pub shift_under-returns-in-None : goal.shift_under-returns-in-None
shift_under-returns-in-None t c =
    let no : c.args.from + 1 < 2 ^ 32 → ⊥ = λ h. c.in-None.ensures h in
    let past : 2 ^ 32 ≤ suc c.args.from = omega arith in
    IfOk-weaker c.copy.result _ _ (λ raised e. ap plain_term e ∙ sym (shift-none (suc c.args.from) c.args.by (plain_term c.args.term.now) past c.requires)) c.copy.ensures
