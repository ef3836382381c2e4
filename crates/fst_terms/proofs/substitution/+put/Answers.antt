use Rattle.std.proofs.Common.{ℕ, ◌+◌, ◌∙◌, suc, ap, arith, rules}
use Rattle.fst_terms.specs.Terms.{plain_term, subst, shift}
use Rattle.fst_terms.specs.Indices.{lets}
use Rattle.fst_terms.specs.declared.term.Term.{Term}
use Rattle.fst_terms.specs.declared.term.Term as D
use Rattle.fst_terms.proofs.IndexLemmas.{Raisable-less}
use Rattle.fst_terms.proofs.RowLemmas.{lets_of-at}
use Rattle.fst_terms.proofs.PartLemmas.{lets-If, lets-Let, Stands-suc, subst-Prim-by, subst-App-by, subst-Let-by}
use Rattle.fst_terms.proofs.substitution.+put.Goals as goal

abbrev lets_in : Term → ℕ
lets_in t = lets (plain_term t)

pub put-put-requires : goal.put-put-requires
put-put-requires t c = (search (rules, D.the_lemmas), Raisable-less 0 _ _ _ (omega (arith, lets-If _ _ _ _ c.in-If.is, ap lets_in c.get.ensures)) c.requires)

pub put-put-requires-in-If : goal.put-put-requires-in-If
put-put-requires-in-If t c = (search (rules, D.the_lemmas), Raisable-less 0 _ _ _ (omega (arith, lets-If _ _ _ _ c.in-If.is, ap lets_in c.get-in-If.ensures)) c.requires)

pub put-put-requires-in-If-2 : goal.put-put-requires-in-If-2
put-put-requires-in-If-2 t c = (search (rules, D.the_lemmas), Raisable-less 0 _ _ _ (omega (arith, lets-If _ _ _ _ c.in-If.is, ap lets_in c.get-in-If-2.ensures)) c.requires)

pub put-put-requires-in-Let : goal.put-put-requires-in-Let
put-put-requires-in-Let t c = (search (rules, D.the_lemmas), Raisable-less 0 _ _ _ (omega (arith, lets-Let _ _ _ _ c.in-Let.is, ap lets_in c.get-in-Let.ensures)) c.requires)

pub put-put-requires-in-Let-2 : goal.put-put-requires-in-Let-2
put-put-requires-in-Let-2 t c = (search (rules, D.the_lemmas), Raisable-less 0 _ _ _ (omega (arith, c.saturating_add-inner.ensures, lets-Let _ _ _ _ c.in-Let.is, ap lets_in c.get-in-Let-2.ensures)) c.requires)

pub put-returns-in_ok-copy-in-Prim : goal.put-returns-in_ok-copy-in-Prim
put-returns-in_ok-copy-in-Prim t c = λ depth s. subst-Prim-by _ _ _ _ _ _ _ _ _ _ c.in-Prim.is c.in_ok-copy-in-Prim.ensures c.as_slice.ensures (c.in_ok-args-in-Prim.ensures depth s)

pub put-returns-in_ok-copy-in-App : goal.put-returns-in_ok-copy-in-App
put-returns-in_ok-copy-in-App t c = λ depth s. subst-App-by _ _ _ _ _ _ _ _ _ c.in-App.is c.in_ok-copy-in-App.ensures c.as_slice-in-App.ensures (c.in_ok-args-in-App.ensures depth s)

pub put-returns-in_ok-rest-in-Let : goal.put-returns-in_ok-rest-in-Let
put-returns-in_ok-rest-in-Let t c = λ depth s.
    let by = plain_term c.args.by.now in
    let bound = c.in_ok-put-in-Let.ensures depth s in
    let rest = c.in_ok-put-in-Let-2.ensures (suc depth) (Stands-suc _ _ _ s c.saturating_add-inner.ensures) in
    subst-Let-by c.args.at depth by _ _ _ _ _ _ _ c.in-Let.is c.in_ok-name-in-Let.ensures
    (ap plain_term c.in_ok-bound-in-Let.ensures ∙ bound ∙ ap (λ t. subst (c.args.at + depth) (shift 0 depth by) (plain_term t)) c.get-in-Let.ensures)
    (ap plain_term c.in_ok-rest-in-Let.ensures ∙ rest ∙ ap (λ t. subst (c.args.at + suc depth) (shift 0 (suc depth) by) (plain_term t)) c.get-in-Let-2.ensures)

pub put_all-put-requires : goal.put_all-put-requires
put_all-put-requires t c =
    let within = lets_of-at c.args.terms.now c.loop-term.term-index c.term-item.result c.loop-term-test.true in
    (search (rules, D.the_lemmas), Raisable-less 0 _ _ _ (omega (arith, within, ap lets_in c.term-item.is)) c.requires)
