use Rattle.fst_base.specs.Primitives.{first, second}
use Rattle.fst_cells.proofs.TreeLemmas.{value-kept, given-kept}
use Rattle.fst_cells.proofs.store.Store.two.Goals as goal

pub returns-clause-cells : goal.returns-clause-cells
returns-clause-cells c = λ vs k.
    let m = c.args.self.now in
    let m1 = c.given.new.self in (
      value-kept m1 c.given-2.new.self c.in_ok-first.first (first vs) c.in_ok-second.ensures.kept (c.in_ok-first.ensures.cell (first vs) k.0),
      c.in_ok-second.ensures.cell (second vs) (given-kept m m1 c.args.args.second (second vs) c.in_ok-first.ensures.kept k.1),
    )
