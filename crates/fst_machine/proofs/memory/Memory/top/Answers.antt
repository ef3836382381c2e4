use Rattle.std.proofs.Common.{◌∙◌, arith}
use Rattle.fst_machine.proofs.MemoryLemmas.{top-none, top-link}
use Rattle.fst_machine.proofs.memory.Memory.top.Goals as goal

pub returns-then-chain-eq0 : goal.returns-then-chain-eq0
returns-then-chain-eq0 c = λ e k. top-none c.args.self.now c.args.chain.links e (omega (arith, c.if-chain-eq0.true)) k

pub returns : goal.returns
returns c = λ e k. top-link c.args.self.now c.args.chain.links c.copied.result e (omega (arith, c.if-chain-eq0.false)) (c.copied.ensures ∙ c.get.ensures.value) k
