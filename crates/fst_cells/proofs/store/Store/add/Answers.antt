use Rattle.std.proofs.Common.{sym, subst}
use Rattle.fst_cells.specs.Trees.{ValueAt}
use Rattle.fst_cells.specs.declared.store.Store.{Store}
use Rattle.fst_cells.proofs.TreeLemmas.{add-kept, add-there}
use Rattle.fst_cells.proofs.store.Store.add.Goals as goal

pub returns-clause-cell : goal.returns-clause-cell
returns-clause-cell c = λ v k.
    let m = c.args.self.now in
    let m' : Store = record { nodes = c.push.new.self } in
    subst (λ at. ValueAt m' at v) (sym c.len-at.ensures) (add-there m m' c.args.node v c.in_ok-push.ensures.ok k)

pub returns-clause-kept : goal.returns-clause-kept
returns-clause-kept c = add-kept c.args.self.now (record { nodes = c.push.new.self }) c.args.node c.in_ok-push.ensures.ok
