use Rattle.std.proofs.Common.{List, length, map, ap, subst, ◌∙◌, arith}
use Rattle.std.specs.Prelude.{Contains}
use Rattle.fst_terms.specs.Terms.{plain_term}
use Rattle.fst_congruence.specs.declared.equation.Equation.{Equation}
use Rattle.fst_congruence.specs.declared.node.Node.{Node}
use Rattle.fst_congruence.proofs.NumberedLemmas.{nodes-count}
use Rattle.fst_congruence.proofs.closing.close.Goals as goal

pub close_table-requires-clause-sides : goal.close_table-requires-clause-sides
close_table-requires-clause-sides c = λ e h.
    (let count = ap (λ (ns : List Node). length ns) c.in_ok-nodes.ensures.is ∙ nodes-count (map plain_term c.args.flat.now.terms) in
    let within = c.requires.sides e (subst (λ (es : List Equation). Contains es e) c.as_slice.ensures h) in
    (omega (arith, count, within.0), omega (arith, count, within.1)))

pub close_table-requires-clause-given : goal.close_table-requires-clause-given
close_table-requires-clause-given c = λ e h. c.requires.given e (subst (λ (es : List Equation). Contains es e) c.as_slice.ensures h)
