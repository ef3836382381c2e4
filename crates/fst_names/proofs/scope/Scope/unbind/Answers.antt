use Rattle.std.proofs.Common.{◌-◌, ◌+◌, arith}
use Rattle.fst_names.proofs.WordLemmas.{unbind-step}
use Rattle.fst_names.proofs.scope.Scope.unbind.Goals as goal

pub loop-index-preserved : goal.loop-index-preserved
loop-index-preserved c = λ ws xs long is.
    let k = c.args.count - c.loop-index._index in
    let m = c.args.count - (c.loop-index._index + 1) in
    let t = c.loop-index-test.true in
    unbind-step ws xs _ _ k m (omega (arith, t)) (omega (arith, long)) (c.loop-index.invariant ws xs long is) c.pop.ensures
