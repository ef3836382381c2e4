use Rattle.std.proofs.Common.{sym}
use Rattle.fst_shapes.specs.Preparing.{sorts_in}
use Rattle.fst_terms.specs.Terms.{plain_term}
use Rattle.fst_shapes.proofs.ArgumentLemmas.{relation-other, relation-two}
use Rattle.fst_shapes.proofs.ShapeLemmas.{shapes-as}
use Rattle.fst_shapes.proofs.reading.relation.Goals as goal

pub returns-then-args-eq2 : goal.returns-then-args-eq2
returns-then-args-eq2 c =
    shapes-as _ c.relation_two.result _ _
    (relation-two (sorts_in c.args.sorts.now) c.args.op c.args.args.now _ _ (plain_term c.args.term.now) c.if-args-eq2.true c.index-args-0.is c.index-args-1.is)
    c.relation_two.ensures

pub returns : goal.returns
returns c =
    shapes-as _ c.atom.result _ _ (relation-other (sorts_in c.args.sorts.now) c.args.op c.args.args.now (plain_term c.args.term.now) c.if-args-eq2.false) c.atom.ensures
