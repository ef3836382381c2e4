use Rattle.std.proofs.Common.{refl, Some, subst}
use Rattle.fst_machine.specs.declared.state.State.{State}
use Rattle.fst_machine.specs.declared.state.Task.TheVariants as task
use Rattle.fst_machine.specs.States.{HeaderIs}
use Rattle.fst_machine.proofs.StateLemmas.{g-given}
use Rattle.fst_machine.proofs.state.State.run_g.Goals as goal

pub returns-in_ok-env-in-Bind : goal.returns-in_ok-env-in-Bind
returns-in_ok-env-in-Bind c = λ h v s fs k n i gs.
    let m = c.args.self.now.memory in
    let t : State = record { memory = c.link.new.self; task = task.Text c.in-Bind.text c.in_ok-env-in-Bind.env (Some c.args.input); frames = c.args.self.now.frames } in
    g-given t m c.in-Bind.text c.in-Bind.field-0 c.in-Bind.env c.in_ok-env-in-Bind.env c.args.cell c.args.input h v s fs c.in_ok-env-in-Bind.ensures.kept c.in_ok-env-in-Bind.ensures.chain
    (subst (λ x. HeaderIs m x h) c.in-Bind.is k) n i gs refl
