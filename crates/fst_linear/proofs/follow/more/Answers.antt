use Rattle.std.proofs.Common.{◌+◌, ◌-◌, length, ap, ◌∙◌, subst, arith}
use Rattle.fst_terms.specs.Rows.{IsBelow}
use Rattle.fst_linear.specs.Derivations.{at}
use Rattle.fst_linear.proofs.PairLemmas.{longer, last-refutes}
use Rattle.fst_linear.proofs.follow.more.Goals as goal

pub returns-then-is_below-clause-follows : goal.returns-then-is_below-clause-follows
returns-then-is_below-clause-follows c =
    let given = c.args.given.now in
    let made = c.add.new.made.items in
    let k = length given + c.len.result - 1 in
    let more = longer c.args.made.now.items made _ c.in-Ok.ensures.ok in
    let row = c.row_at-row.ensures ∙ ap (λ m. at given m k) c.as_slice.ensures.value in
    last-refutes given made k c.add.ensures.derives (omega (arith, more)) (omega arith) (subst IsBelow row (c.is_below.ensures.yes c.if-is_below.true))
