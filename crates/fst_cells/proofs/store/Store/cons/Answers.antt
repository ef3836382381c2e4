use Rattle.fst_base.specs.Values.{v_cons}
use Rattle.fst_cells.proofs.MakeLemmas.{cons-node}
use Rattle.fst_cells.proofs.store.Store.cons.Goals as goal

pub returns-clause-cell : goal.returns-clause-cell
returns-clause-cell c = λ v w k l. c.add.ensures.cell (v_cons v w) (cons-node c.args.self.now c.args.first c.args.rest v w k l)
