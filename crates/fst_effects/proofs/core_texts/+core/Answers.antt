use Rattle.std.proofs.lemmas.Result.{IfOk-weaker}
use Rattle.fst_effects.specs.Scopes.{scope_in, sort_at}
use Rattle.fst_effects.proofs.PlainLemmas.{plain-sort-Bool}
use Rattle.fst_effects.proofs.CoreTextLemmas.{core-If, match-core, ok-value, ok-kept}
use Rattle.fst_effects.proofs.core_texts.+core.Goals as goal

pub core_dm-returns-in_ok-own-in-If-clause-text : goal.core_dm-returns-in_ok-own-in-If-clause-text
core_dm-returns-in_ok-own-in-If-clause-text t c =
    let e = core-If c.args.runs.now (scope_in c.args.context.now) c.in-If.test c.in-If.left c.in-If.right (sort_at c.args.want) in
    let h = c.in-If.is in let own = c.in_ok-own-in-If.ensures.sort in let own_scope = c.in_ok-own-in-If.ensures.scope in
    let given = c.as_given.ensures in let side = c.or_else-side.ensures in
    let first = c.get-in-If.ensures in let second = c.get-in-If-2.ensures in let sort = plain-sort-Bool in
    IfOk-weaker c.made_if.result _ _ (λ x k.
    let q = k.1.1.1 in let made = q.3 in
    let test = ok-value _ c.core_term-test.result k.0 q.0 c.core_term-test.ensures.term in
    let test_scope = ok-kept _ c.core_term-test.result k.0 q.0 c.core_term-test.ensures.scope in
    let left = ok-value _ c.core_dm-left.result k.1.0 q.1 c.core_dm-left.ensures.text in
    let left_scope = ok-kept _ c.core_dm-left.result k.1.0 q.1 c.core_dm-left.ensures.scope in
    let right = ok-value _ c.core_dm-right.result k.1.1.0 q.2 c.core_dm-right.ensures.text in cc) c.made_if.ensures

pub core_match-returns-clause-text : goal.core_match-returns-clause-text
core_match-returns-clause-text t c =
    let e = match-core c.args.runs.now (scope_in c.args.context.now) c.args.form.now c.args.arms.now (sort_at c.args.want) in
    let x = ok-value _ c.sort_or_unit.result c.in_ok-sort.sort c.in_ok-sort.ensures c.sort_or_unit.ensures in
    let is_unit = x.1.1 in let get = c.get.ensures in
    let given = ok-value _ c.given.result x.0 x.1.0 c.given.ensures.sort in let given_scope = ok-kept _ c.given.result x.0 x.1.0 c.given.ensures.scope in
    IfOk-weaker c.made_match.result _ _ (λ y k.
    let q = k.1.1 in let made = q.2 in
    let form = ok-value _ c.core_term-form.result k.0 q.0 c.core_term-form.ensures.term in
    let form_scope = ok-kept _ c.core_term-form.result k.0 q.0 c.core_term-form.ensures.scope in
    let arms = ok-value _ c.core_arms-arms.result k.1.0 q.1 c.core_arms-arms.ensures.arms in cc) c.made_match.ensures
