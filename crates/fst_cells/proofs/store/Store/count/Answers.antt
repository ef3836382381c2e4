use Rattle.std.proofs.Common.{arith}
use Rattle.fst_cells.proofs.store.Store.count.Goals as goal

pub items-preserved : goal.items-preserved
items-preserved c = (
  omega (arith, c.items.invariant.0, c.in-Some.ensures.below),
  λ v k.
      let h = c.items.invariant.1 v k in
      let r = c.in-Some.ensures.rest h.0 h.1.0 in
      (r.0, (r.1.0, omega (arith, h.1.1, r.1.1))),
)

pub returns : goal.returns
returns c = λ v k.
    let h = c.items.invariant.1 v k in
    omega (arith, h.1.1, c.in_default.ensures.rest h.0 h.1.0)
