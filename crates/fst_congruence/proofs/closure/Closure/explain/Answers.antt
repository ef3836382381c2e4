use Rattle.std.proofs.Common.{List, IfOk, map, sym, ap, subst, ◌∙◌}
use Rattle.std.proofs.lemmas.Result.{IfOk-weaker}
use Rattle.fst_congruence.specs.declared.equation.Equation.{Equation}
use Rattle.fst_congruence.specs.declared.node.Node.{Node}
use Rattle.fst_congruence.specs.Lines.{Valid}
use Rattle.fst_congruence.specs.Closures.{ClosureView, GivenLines, Explains}
use Rattle.fst_congruence.proofs.ExtractLemmas.{earlier-lines}
use Rattle.fst_congruence.proofs.GivenLemmas.{explains-gives}
use Rattle.fst_congruence.proofs.closure.Closure.explain.Goals as goal

pub argue-requires-clause-earlier : goal.argue-requires-clause-earlier
argue-requires-clause-earlier c = earlier-lines c.self.inside.nodes c.self.inside.equations c.self.inside.classes.log c.self.invariant.given c.self.invariant.valid

pub returns-clause-numbers : goal.returns-clause-numbers
returns-clause-numbers c =
    let es : List Equation = c.self.inside.equations in
    let whole = c.in_ok-whole.ensures es c.self.invariant.given (subst (λ (ms : List Node). Valid ms es c.self.inside.classes.log) (sym c.as_slice.ensures) c.self.invariant.valid) in
    subst (λ (v : ClosureView). IfOk c.lines.result (λ lines. Explains v.nodes v.equations lines c.args.left c.args.right)) c.self.view_is
    (IfOk-weaker c.lines.result _ _
    (λ lines e. record {
      log = c.in_ok-whole.whole;
      valid = subst (λ (ms : List Node). Valid ms es c.in_ok-whole.whole) c.as_slice.ensures whole.0;
      by = ap (λ (l : List Equation). map (λ (f : Equation). f.by) l) (sym c.as_slice-2.ensures) ∙ e;
      last = whole.1;
    })
    c.lines.ensures)

pub returns-clause-terms : goal.returns-clause-terms
returns-clause-terms c = λ f look is complete gives. IfOk-weaker c.lines.result _ _
    (λ lines h. explains-gives f look complete c.args.self.now.nodes c.args.self.now.equations lines c.args.left c.args.right (subst (λ (v : ClosureView). GivenLines v.equations) c.self.view_is c.self.invariant.given) h is gives)
    (returns-clause-numbers c)
