use Rattle.fst_terms.specs.Terms.{plain_term}
use Rattle.fst_shapes.proofs.ArgumentLemmas.{argument-at, argument-past}
use Rattle.fst_shapes.proofs.arguments.argument.Goals as goal

pub returns-then-at-args : goal.returns-then-at-args
returns-then-at-args c = argument-at c.arguments-args.result.now _ c.args.at _ _ (plain_term c.args.other.now) c.arguments-args.ensures c.if-at-args.true c.index-args-at.is

pub returns-else-at-args : goal.returns-else-at-args
returns-else-at-args c = argument-past c.arguments-args.result.now _ c.args.at (plain_term c.args.other.now) c.arguments-args.ensures c.if-at-args.false
