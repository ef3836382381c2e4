use Rattle.std.proofs.Common.{◌∙◌, sym, refl}
use Rattle.std.proofs.lemmas.Bool.{false≢true}
use Rattle.std.proofs.lemmas.Option.{slice_get_read}
use Rattle.fst_program.specs.declared.fun.Param.{Param}
use Rattle.fst_top.proofs.NamedLemmas.{named-here, named-later}
use Rattle.fst_top.proofs.elaborate.heads.is_taken.Goals as goal

pub returns-then-same : goal.returns-then-same
returns-then-same c = sym (c.loop-param.invariant ∙ named-here (λ (p : Param). p.name) c.args.name.now c.args.params.now c.loop-param.param-index _ (slice_get_read _ _ _ _ refl c.loop-param-test.true c.param-item.is) (c.same.ensures.0 c.if-same.true))

pub loop-param-preserved : goal.loop-param-preserved
loop-param-preserved c = c.loop-param.invariant ∙ named-later (λ (p : Param). p.name) c.args.name.now c.args.params.now c.loop-param.param-index _ (slice_get_read _ _ _ _ refl c.loop-param-test.true c.param-item.is) (λ e. false≢true (sym c.if-same.false ∙ c.same.ensures.1 e))
