use Rattle.std.proofs.Common.{◌≡◌, drop, Some, refl, subst, arith}
use Rattle.fst_terms.specs.Meaning.{lookup}
use Rattle.fst_machine.specs.Memories.{IsCell}
use Rattle.fst_machine.proofs.MemoryLemmas.{look-step, look-cell}
use Rattle.fst_machine.proofs.memory.Memory.look.Goals as goal

pub loop-variable-preserved : goal.loop-variable-preserved
loop-variable-preserved c = λ e k. look-step c.args.self.now (Some c.in_ok-chain.field-0) c.in_ok-chain.field-0 c.loop-variable._variable e refl (c.in_ok-chain.ensures (drop c.loop-variable._variable e) (c.loop-variable.invariant e k))

pub returns : goal.returns
returns c = λ e k.
    let n : c.loop-variable._variable ≡ c.args.index = omega (arith, c.loop-variable-test.false, c.loop-variable.auto._variable-end) in
    subst (λ i. IsCell c.args.self.now c.in_ok-top.field-0.cell (lookup e i)) n (look-cell c.args.self.now (Some c.in_ok-top.field-0) c.in_ok-top.field-0 c.loop-variable._variable e refl (c.in_ok-top.ensures (drop c.loop-variable._variable e) (c.loop-variable.invariant e k)))
