use Rattle.std.proofs.Common.{subst}
use Rattle.fst_cells.specs.Trees.{IsGiven}
use Rattle.fst_cells.proofs.MakeLemmas.{there-none, there-some}
use Rattle.fst_cells.proofs.store.Store.input_node.Goals as goal

pub returns-in_default-get-clause-value : goal.returns-in_default-get-clause-value
returns-in_default-get-clause-value c = λ v k. absurd (c.in_default-get.ensures.value v (subst (λ i. IsGiven c.args.self.now i v) c.in-Some.is k))

pub returns-clause-value : goal.returns-clause-value
returns-clause-value c = λ v k. c.in-Some-get.ensures.value v (subst (λ i. IsGiven c.args.self.now i v) c.in-Some.is k)

pub returns-in_default-get-clause-there : goal.returns-in_default-get-clause-there
returns-in_default-get-clause-there c = λ a n p q. there-none c.args.self.now c.args.input c.in-Some.cell a n c.in-Some.is p q c.in_default-get.ensures.is

pub returns-clause-there : goal.returns-clause-there
returns-clause-there c = λ a n p q. there-some c.args.self.now c.args.input c.in-Some.cell a c.in-Some-get.node n c.in-Some.is p q c.in-Some-get.ensures.is
