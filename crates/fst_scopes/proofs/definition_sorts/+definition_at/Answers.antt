use Rattle.std.proofs.Common.{refl, ◌∙◌}
use Rattle.fst_base.specs.Sorts.{plain_sort}
use Rattle.fst_terms.proofs.PrepareLemmas.{given}
use Rattle.fst_scopes.proofs.PuttingLemmas.{arms-at-more}
use Rattle.fst_scopes.proofs.definition_sorts.+definition_at.Goals as goal

pub arms_at-loop-arm-preserved : goal.arms_at-loop-arm-preserved
arms_at-loop-arm-preserved t c =
    let ok = c.in_ok-names.ensures.ok in
    arms-at-more (plain_sort c.args.a.now) (plain_sort c.args.b.now) c.loop-arm.made c.push.new.self c.args.arms.now c.loop-arm.arm-index c.arm-item.result _
    c.loop-arm-test.true c.arm-item.is c.loop-arm.invariant c.in_ok-push.ensures.ok refl (given _ c.copy_names-names.result _ c.copy_names-names.ensures ok.0 ∙ c.as_slice.ensures) (given _ c.definition_at.result _ c.definition_at.ensures ok.1)
