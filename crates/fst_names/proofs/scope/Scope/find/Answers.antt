use Rattle.std.proofs.Common.{arith, ◌∙◌, sym}
use Rattle.fst_names.proofs.ScopeLemmas.{step-here, step-there}
use Rattle.fst_names.proofs.scope.Scope.find.Goals as goal

pub loop-index-preserved : goal.loop-index-preserved
loop-index-preserved c = step-there c.args.self.now.names.items _ c.loop-index.index _ c.args.name.now (omega (arith, c.len-count.ensures, c.args.self.now.names.ok.0)) c.loop-index-test.true c.index-bound.ensures (sym c.is_text.ensures ∙ c.if-is_text.false) c.loop-index.invariant

pub returns-then-is_text : goal.returns-then-is_text
returns-then-is_text c = sym (step-here c.args.self.now.names.items _ c.loop-index.index _ c.args.name.now (omega (arith, c.len-count.ensures, c.args.self.now.names.ok.0)) c.loop-index-test.true c.index-bound.ensures (sym c.is_text.ensures ∙ c.if-is_text.true) c.loop-index.invariant)
