use Rattle.std.proofs.Common.{◌≡◌, ◌+◌, sym, ap, ◌∙◌, arith}
use Rattle.std.proofs.lemmas.Result.{IfOk-weaker}
use Rattle.fst_terms.specs.declared.term.Term.{Term}
use Rattle.fst_terms.specs.Terms.{plain_term}
use Rattle.fst_congruence.specs.Numbered.{same_head}
use Rattle.fst_congruence.proofs.NumberedLemmas.{place-found, place-none, none-more}
use Rattle.fst_congruence.proofs.numbered.first_kind.Goals as goal

pub returns-then-same_head : goal.returns-then-same_head
returns-then-same_head c = IfOk-weaker c.place.result _ _
    (λ n e. e ∙ (let turned : c.loop-at.at + 1 ≡ 1 + c.loop-at.at = omega arith in turned)
    ∙ sym (place-found (same_head (plain_term c.args.term.now)) 1 c.args.terms.now c.loop-at.at c.index-terms-at.result c.loop-at-test.true c.loop-at.invariant
    (ap (λ (t : Term). same_head (plain_term c.args.term.now) (plain_term t)) (sym c.index-terms-at.is) ∙ sym c.same_head.ensures ∙ c.if-same_head.true)))
    c.place.ensures

pub loop-at-preserved : goal.loop-at-preserved
loop-at-preserved c = none-more (same_head (plain_term c.args.term.now)) c.args.terms.now c.loop-at.at c.index-terms-at.result c.index-terms-at.is c.loop-at-test.true c.loop-at.invariant (sym c.same_head.ensures ∙ c.if-same_head.false)

pub returns : goal.returns
returns c = sym (place-none (same_head (plain_term c.args.term.now)) 1 c.args.terms.now (λ m lt e. c.loop-at.invariant m (omega (arith, lt)) e))
