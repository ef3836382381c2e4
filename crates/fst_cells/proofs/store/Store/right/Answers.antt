use Rattle.fst_base.specs.Values.{v_inr}
use Rattle.fst_cells.proofs.MakeLemmas.{right-node}
use Rattle.fst_cells.proofs.store.Store.right.Goals as goal

pub returns-clause-cell : goal.returns-clause-cell
returns-clause-cell c = λ v k. c.add.ensures.cell (v_inr v) (right-node c.args.self.now c.args.part v k)
