use Rattle.std.proofs.Common.{◌∙◌, ap}
use Rattle.std.proofs.lemmas.Result.{IfOk-weaker}
use Rattle.fst_base.specs.Sorts.{plain_sort}
use Rattle.fst_scopes.specs.Scopes.{sorts_in}
use Rattle.fst_star.proofs.TranslatingLemmas.{sorted-arm}
use Rattle.fst_star.proofs.translating.+dm_sort.Goals as goal

pub arms_sort-returns-in-loop-arm : goal.arms_sort-returns-in-loop-arm
arms_sort-returns-in-loop-arm t c = IfOk-weaker c.dm_sort.result _ _
    (λ made e. sorted-arm (plain_sort c.args.bodies.now.first_sort) (plain_sort c.args.bodies.now.second_sort) (sorts_in c.args.sorts.now) (plain_sort c.args.sort.now)
    c.args.arms.now c.loop-arm.arm-index c.arm-item.result (sorts_in c.as_slice.result.now) (plain_sort made) c.loop-arm-test.true c.arm-item.is c.loop-arm.invariant
    (ap sorts_in c.as_slice.ensures ∙ c.in_ok-inner.ensures) e) c.dm_sort.ensures
