use Rattle.fst_code.specs.Plain.{plain_code}
use Rattle.fst_machine.proofs.RunLemmas.{turned-def}
use Rattle.fst_machine.proofs.state.State.turn.Goals as goal

pub returns-in-Definition : goal.returns-in-Definition
returns-in-Definition c = turned-def (plain_code c.args.code.now) c.args.self.now c.definition.new.self c.definition.result c.in-Definition.text c.in-Definition.env c.in-Definition.header c.in-Definition.is (c.definition.ensures (plain_code c.args.code.now))
