use Rattle.std.proofs.Common.{ℕ, ◌∙◌, ap, arith, refl, rules}
use Rattle.fst_terms.specs.Indices.{lets}
use Rattle.fst_terms.specs.Terms.{plain_term}
use Rattle.fst_terms.specs.Flats.{cleared}
use Rattle.fst_terms.specs.declared.term.Term as D
use Rattle.fst_terms.specs.declared.term.Term.{Term}
use Rattle.fst_terms.proofs.PartLemmas.{clear-Prim-by, clear-App-by}
use Rattle.fst_terms.proofs.PrepareLemmas.{cleared-more}
use Rattle.fst_terms.proofs.RowLemmas.{lets_of-at}
use Rattle.fst_terms.proofs.clearing.+clear.Goals as goal

abbrev lets_in : Term → ℕ
lets_in t = lets (plain_term t)

pub clear-returns-in_ok-copy-in-Prim : goal.clear-returns-in_ok-copy-in-Prim
clear-returns-in_ok-copy-in-Prim t c = λ n. clear-Prim-by n _ _ _ _ _ _ _ (record { at = 0 }) _ c.in-Prim.is c.in_ok-copy-in-Prim.ensures c.as_slice.ensures (c.in_ok-args-in-Prim.ensures n) refl

pub clear-returns-in_ok-copy-in-App : goal.clear-returns-in_ok-copy-in-App
clear-returns-in_ok-copy-in-App t c = λ n. clear-App-by n _ _ _ _ _ _ _ c.in-App.is c.in_ok-copy-in-App.ensures c.as_slice-in-App.ensures (c.in_ok-args-in-App.ensures n)

pub clear_all-clear-requires : goal.clear_all-clear-requires
clear_all-clear-requires t c =
    let within = lets_of-at c.args.terms.now c.loop-term.term-index c.term-item.result c.loop-term-test.true in
    (search (rules, D.the_lemmas), omega (arith, within, ap lets_in c.term-item.is))

pub clear_all-loop-term-preserved : goal.clear_all-loop-term-preserved
clear_all-loop-term-preserved t c = λ n.
    let one = c.in_ok-clear.ensures n ∙ ap (λ t. cleared n (plain_term t)) c.term-item.is in
    cleared-more n _ _ _ c.args.terms.now c.loop-term.term-index c.term-item.result c.loop-term-test.true (c.loop-term.invariant n) one c.in_ok-push.ensures.ok
