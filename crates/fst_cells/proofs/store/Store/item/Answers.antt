use Rattle.fst_cells.proofs.ValueLemmas.{cons-item}
use Rattle.fst_cells.proofs.store.Store.item.Goals as goal

pub returns-clause-item : goal.returns-clause-item
returns-clause-item c = λ v k. cons-item c.args.self.now c.in-Some-Cons.field-0 v c.in-Some-Cons.item c.in-Some-Cons.rest c.in-Some-Cons.field-0-is (c.in-Some-Cons.ensures.value v k)
