use Rattle.fst_effects.specs.Scopes.{scope_in, sort_at}
use Rattle.fst_sorting.specs.Sites.{known_at}
use Rattle.fst_sorting.proofs.CoreLemmas.{call-answer}
use Rattle.fst_sorting.proofs.building.+core.Goals as goal

pub core_part-returns-in_ok-args-in-Call-clause-text : goal.core_part-returns-in_ok-args-in-Call-clause-text
core_part-returns-in_ok-args-in-Call-clause-text t c =
    call-answer (known_at c.args.known) c.args.place (scope_in c.args.context.now) c.args.part.now.at c.args.part.now.node c.in-Call.name c.in-Call.args _ c.in_ok-args-in-Call.args (sort_at c.args.want) c.made.result
    c.in-Call.is c.as_slice.ensures c.in_ok-args-in-Call.ensures.terms c.made.ensures
