use Rattle.std.proofs.Common.{subst}
use Rattle.fst_machine.specs.declared.state.State.{State}
use Rattle.fst_machine.specs.declared.state.Header.TheVariants as header
use Rattle.fst_machine.specs.declared.state.Task.TheVariants as task
use Rattle.fst_machine.specs.States.{FrameIs}
use Rattle.fst_machine.proofs.MemoryLemmas.{kept-then}
use Rattle.fst_machine.proofs.StateLemmas.{give-turn, let-given, def-given, return-given}
use Rattle.fst_machine.proofs.state.State.give.Goals.{in-Let+in_ok-link-in-Let, in-Definition+in_ok-link-in-Definition, in-Return+in_ok-env-in-Return+in_ok-input-in-Return+in_ok-link-in-Return}
use Rattle.fst_machine.proofs.state.State.give.Goals as goal

pub returns : goal.returns
returns c = λ v fs k gs. elim c.match-frame.branch [
  | in-Let+in_ok-link-in-Let w ↦
      let s = c.args.self.now in
      let t : State = record { memory = w.link.new.self; task = task.Text w.in-Let.text w.in_ok-link-in-Let.field-0 w.in-Let.input; frames = c.pop.new.self } in
      rw (w.self-is, w.self2-is) (give-turn t s.memory s.frames c.in-Some.frame fs v c.in-Some.ensures w.in_ok-link-in-Let.ensures.kept
      (λ p h. let-given s.memory t.memory w.in-Let.text w.in-Let.env w.in_ok-link-in-Let.field-0 w.in-Let.input c.args.cell v w.in_ok-link-in-Let.ensures.kept w.in_ok-link-in-Let.ensures.chain k p (subst (λ f. FrameIs s.memory f p) w.in-Let.is h)) gs)
  | in-Definition+in_ok-link-in-Definition w ↦
      let s = c.args.self.now in
      let t : State = record { memory = w.link-in-Definition.new.self; task = task.Definition w.in-Definition.text w.in_ok-link-in-Definition.field-0 w.in-Definition.header; frames = c.pop.new.self } in
      rw (w.self-is, w.self2-is) (give-turn t s.memory s.frames c.in-Some.frame fs v c.in-Some.ensures w.in_ok-link-in-Definition.ensures.kept
      (λ p h. def-given s.memory t.memory w.in-Definition.text w.in-Definition.env w.in_ok-link-in-Definition.field-0 w.in-Definition.header c.args.cell v w.in_ok-link-in-Definition.ensures.kept w.in_ok-link-in-Definition.ensures.chain k p (subst (λ f. FrameIs s.memory f p) w.in-Definition.is h)) gs)
  | in-Return+in_ok-env-in-Return+in_ok-input-in-Return+in_ok-link-in-Return w ↦
      let s = c.args.self.now in
      let m1 = w.link-in-Return.new.self in
      let m2 = w.given.new.self in
      let n = w.in_ok-env-in-Return.ensures.kept in
      let n1 = w.in_ok-input-in-Return.ensures.kept in
      let n2 = w.in_ok-link-in-Return.ensures.kept in
      let t : State = record { memory = w.link-in-Return-2.new.self; task = task.Definition w.in-Return.text w.in_ok-link-in-Return.field-0 header.None; frames = c.pop.new.self } in
      rw (w.self-is, w.self2-is) (give-turn t s.memory s.frames c.in-Some.frame fs v c.in-Some.ensures (kept-then s.memory m1 t.memory n (kept-then m1 m2 t.memory n1 n2))
      (λ p h. return-given s.memory m1 m2 t.memory w.in-Return.text w.empty.result w.in_ok-env-in-Return.env w.in_ok-link-in-Return.field-0 w.in-Return.input c.args.cell w.in_ok-input-in-Return.input v n n1 n2 w.empty.ensures
      w.in_ok-env-in-Return.ensures.chain w.in_ok-input-in-Return.ensures.cell w.in_ok-link-in-Return.ensures.chain k p (subst (λ f. FrameIs s.memory f p) w.in-Return.is h)) gs)
]
