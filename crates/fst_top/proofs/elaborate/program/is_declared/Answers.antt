use Rattle.std.proofs.Common.{◌∙◌, sym, refl}
use Rattle.std.proofs.lemmas.Bool.{false≢true}
use Rattle.std.proofs.lemmas.Option.{slice_get_read}
use Rattle.fst_program.specs.declared.fun.Fun.{Fun}
use Rattle.fst_top.proofs.NamedLemmas.{named-here, named-later}
use Rattle.fst_top.proofs.elaborate.program.is_declared.Goals as goal

pub returns-then-same : goal.returns-then-same
returns-then-same c = sym (c.loop-fun.invariant ∙ named-here (λ (f : Fun). f.name) c.args.name.now c.args.funs.now c.loop-fun.fun-index _ (slice_get_read _ _ _ _ refl c.loop-fun-test.true c.fun-item.is) (c.same.ensures.0 c.if-same.true))

pub loop-fun-preserved : goal.loop-fun-preserved
loop-fun-preserved c = c.loop-fun.invariant ∙ named-later (λ (f : Fun). f.name) c.args.name.now c.args.funs.now c.loop-fun.fun-index _ (slice_get_read _ _ _ _ refl c.loop-fun-test.true c.fun-item.is) (λ e. false≢true (sym c.if-same.false ∙ c.same.ensures.1 e))
