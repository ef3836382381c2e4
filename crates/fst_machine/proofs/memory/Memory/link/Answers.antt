use Rattle.std.proofs.Common.{◌≡◌, ◌∷◌, [], suc, length, refl, subst, sym, ap, arith}
use Rattle.std.proofs.lemmas.List.{length-append}
use Rattle.fst_machine.specs.Memories.{ChainAt}
use Rattle.fst_machine.specs.declared.memory.Link.{Link}
use Rattle.fst_machine.specs.declared.memory.Memory.{Memory}
use Rattle.fst_machine.proofs.MemoryLemmas.{link-kept, link-there}
use Rattle.fst_machine.proofs.memory.Memory.link.Goals as goal

pub returns-clause-chain : goal.returns-clause-chain
returns-clause-chain c = λ v e h k.
    let m = c.args.self.now in
    let m' : Memory = record { store = m.store; links = c.push.new.self } in
    let l : Link = record { cell = c.args.cell; rest = c.args.rest } in
    let long : c.len.result ≡ suc (length m.links) = omega (arith, c.len.ensures, ap length c.in_ok-push.ensures.ok, length-append m.links (l ∷ [])) in
    subst (λ n. ChainAt m' n (v ∷ e)) (sym long) (link-there m m' l v e refl c.in_ok-push.ensures.ok h k)

pub returns-clause-kept : goal.returns-clause-kept
returns-clause-kept c =
    let m = c.args.self.now in
    let m' : Memory = record { store = m.store; links = c.push.new.self } in
    link-kept m m' (record { cell = c.args.cell; rest = c.args.rest }) refl c.in_ok-push.ensures.ok
