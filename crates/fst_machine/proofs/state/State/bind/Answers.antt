use Rattle.std.proofs.Common.{refl, []}
use Rattle.fst_code.specs.Plain.{plain_code}
use Rattle.fst_program.specs.Plain.{plain_dm}
use Rattle.fst_machine.specs.declared.state.State.{State}
use Rattle.fst_machine.specs.declared.state.Header.TheVariants as header
use Rattle.fst_machine.specs.declared.state.Task.TheVariants as task
use Rattle.fst_machine.proofs.MemoryLemmas.{chain-kept, kept-then}
use Rattle.fst_machine.proofs.StateLemmas.{frames-kept, given-linked, bind-there, bind-is}
use Rattle.fst_machine.proofs.state.State.bind.Goals as goal

pub returns : goal.returns
returns c = λ e s fs k i gs.
    let P = plain_code c.args.code.now in
    let m = c.args.self.now.memory in
    let m1 = c.given.new.self in
    let m2 = c.link.new.self in
    let n1 = c.in_ok-given.ensures.kept in
    let kept = kept-then m m1 m2 n1 c.in_ok-inner.ensures.kept in
    let st : State = record { memory = m2; task = task.Definition c.in-Some.bind c.in_ok-inner.inner (header.Bind c.args.first c.args.second c.args.env); frames = c.args.self.now.frames } in (
      (
        bind-is P c.args.effect (plain_dm c.in-Some.bind.now) c.in-Some.ensures,
        given-linked m m1 m2 c.in_ok-given.given c.empty.result c.in_ok-inner.inner c.args.input s [] n1 c.in_ok-given.ensures.cell c.in_ok-inner.ensures.chain i c.empty.ensures,
        (refl, refl, chain-kept m m2 c.args.env e kept k),
      ),
      frames-kept m m2 _ fs kept gs,
    )

pub unreachable-requires : goal.unreachable-requires
unreachable-requires c = bind-there (plain_code c.args.code.now) c.args.effect c.requires.there c.in_default.ensures
