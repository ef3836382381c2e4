use Rattle.fst_effects.specs.Scopes.{scope_in, wants_in}
use Rattle.fst_effects.proofs.CoreTextLemmas.{arg-there}
use Rattle.fst_effects.proofs.core_texts.core_arg.Goals as goal

pub returns-in_ok-term-clause-term : goal.returns-in_ok-term-clause-term
returns-in_ok-term-clause-term c =
    let e = c.in_ok-term.ensures.term in let w = c.want_of-want.ensures in
    let a = arg-there (scope_in c.args.context.now) c.args.args.now (wants_in c.args.wants) c.args.index c.index-args-index.result c.index-args-index.is c.if-index-args.true in cc
