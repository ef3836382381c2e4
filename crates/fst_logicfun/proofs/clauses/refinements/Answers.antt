use Rattle.std.proofs.Common.{◌+◌, refl, arith}
use Rattle.fst_terms.specs.declared.term.Term.TheVariants as T
use Rattle.fst_logicfun.proofs.ClauseLemmas.{refined-next, refined-past, refined-done, grown}
use Rattle.fst_logicfun.proofs.clauses.refinements.Goals as goal

pub returns-then-at-args : goal.returns-then-at-args
returns-then-at-args c = refined-done _ _ _ (refined-past c.args.params.now c.args.args.now c.loop-at.at (omega arith)) c.loop-at.invariant

pub loop-at-preserved : goal.loop-at-preserved
loop-at-preserved c =
    grown _ _ _ _ _ _ c.in_ok-add_given.ensures
    (refined-next c.args.params.now c.args.args.now c.front.result.now c.loop-at.at (c.loop-at.at + 1) c.index-params-at.result T.Unit (omega arith) (omega arith) c.index-params-at.is refl c.front.ensures)
    c.loop-at.invariant
