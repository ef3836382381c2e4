use Rattle.fst_shapes.specs.Preparing.{sorts_in}
use Rattle.fst_shapes.proofs.ArgumentLemmas.{bools-other, bools-two}
use Rattle.fst_shapes.proofs.relations.are_bools.Goals as goal

pub returns-then-args-ne2 : goal.returns-then-args-ne2
returns-then-args-ne2 c = bools-other (sorts_in c.args.sorts.now) c.args.args.now c.if-args-ne2.true

pub returns : goal.returns
returns c = bools-two (sorts_in c.args.sorts.now) c.args.args.now _ _ c.if-args-ne2.false c.index-args-0.is c.in_ok-is_data_term.ensures
