use Rattle.std.proofs.Common.{sym, ap, ◌∙◌, arith}
use Rattle.std.proofs.lemmas.Result.{IfOk-weaker}
use Rattle.fst_terms.specs.declared.term.Term.{Term}
use Rattle.fst_terms.specs.Terms.{plain_term}
use Rattle.fst_shapes.specs.Shapes.{is_either}
use Rattle.fst_shapes.proofs.ShapeLemmas.{first-found, first-none, none-more}
use Rattle.fst_shapes.proofs.shapes.first_either.Goals as goal

pub returns-then-is_either : goal.returns-then-is_either
returns-then-is_either c =
    IfOk-weaker c.count.result _ _
    (λ n e. e ∙ sym (first-found (is_either (plain_term c.args.term.now) (plain_term c.args.other.now)) c.args.atoms.now c.loop-at.at c.index-atoms-at.result c.loop-at-test.true c.loop-at.invariant
    (ap (λ (t : Term). is_either (plain_term c.args.term.now) (plain_term c.args.other.now) (plain_term t)) (sym c.index-atoms-at.is) ∙ sym c.is_either.ensures ∙ c.if-is_either.true)))
    c.count.ensures

pub loop-at-preserved : goal.loop-at-preserved
loop-at-preserved c =
    none-more (is_either (plain_term c.args.term.now) (plain_term c.args.other.now)) c.args.atoms.now c.loop-at.at c.index-atoms-at.result c.index-atoms-at.is c.loop-at-test.true c.loop-at.invariant (sym c.is_either.ensures ∙ c.if-is_either.false)

pub returns : goal.returns
returns c = sym (first-none (is_either (plain_term c.args.term.now) (plain_term c.args.other.now)) c.args.atoms.now (λ m lt e. c.loop-at.invariant m (omega (arith, lt)) e))
