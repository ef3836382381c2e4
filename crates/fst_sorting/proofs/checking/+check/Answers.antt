use Rattle.fst_effects.specs.Scopes.{scope_in, sort_at}
use Rattle.fst_sorting.specs.Sites.{known_at}
use Rattle.fst_sorting.proofs.CheckLemmas.{ghost-answer, let-answer}
use Rattle.fst_sorting.proofs.checking.+check.Goals as goal

pub check_body-returns-in-Let-clause-broken : goal.check_body-returns-in-Let-clause-broken
check_body-returns-in-Let-clause-broken t c =
    let-answer (known_at c.args.known) c.args.site.effect c.args.site.is_ghost (scope_in c.args.context.now) _ c.in-Let.note c.in-Let.part c.in-Let.rest c.get.result.now (sort_at c.args.want) c.check_bound-bound.result
    c.in-Let.field-0 c.args.tree.now c.check_rest.result c.in-Let.is c.get.ensures c.check_bound-bound.ensures.sort c.check_bound-bound.ensures.broken c.check_bound-bound.ensures.scope c.check_rest.ensures.broken

pub check_body-returns-in-GhostLet-clause-broken : goal.check_body-returns-in-GhostLet-clause-broken
check_body-returns-in-GhostLet-clause-broken t c =
    ghost-answer (known_at c.args.known) c.args.site.effect c.args.site.is_ghost (scope_in c.args.context.now) _ c.in-GhostLet.note c.in-GhostLet.part c.in-GhostLet.rest c.get-in-GhostLet.result.now (sort_at c.args.want) c.check_bound-bound-in-GhostLet.result
    c.in-GhostLet.field-0 c.args.tree.now c.check_rest-in-GhostLet.result c.in-GhostLet.is c.get-in-GhostLet.ensures c.check_bound-bound-in-GhostLet.ensures.sort c.check_bound-bound-in-GhostLet.ensures.broken c.check_bound-bound-in-GhostLet.ensures.scope c.check_rest-in-GhostLet.ensures.broken
