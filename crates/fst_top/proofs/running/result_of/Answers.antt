use Rattle.std.proofs.Common.{map, ap}
use Rattle.fst_base.specs.Values.{plain_value}
use Rattle.fst_code.specs.Plain.{plain_code}
use Rattle.fst_machine.specs.CodeRuns.{input_value}
use Rattle.fst_top.proofs.RunLemmas.{first-there, never-wide, never-stuck}
use Rattle.fst_top.proofs.running.result_of.Goals as goal

pub unreachable-requires : goal.unreachable-requires
unreachable-requires c = let same = c.in_ok-machine.ensures in never-wide (plain_code c.args.code.now) (plain_code c.in_ok-machine.machine.code.now) c.args.main c.in_ok-machine.machine.main c.args.fuel (map plain_value c.args.values.now) (map plain_value c.in_ok-machine.machine.args) (input_value c.in_ok-machine.machine.input) c.requires.first (ap plain_code same.0) same.1 (ap (map plain_value) same.2) (ap input_value same.3) c.in-PastRange.ensures.answer

pub unreachable-requires-in-Stuck : goal.unreachable-requires-in-Stuck
unreachable-requires-in-Stuck c = let same = c.in_ok-machine.ensures in never-stuck (plain_code c.args.code.now) (plain_code c.in_ok-machine.machine.code.now) c.args.main c.in_ok-machine.machine.main c.args.fuel (map plain_value c.args.values.now) (map plain_value c.in_ok-machine.machine.args) (input_value c.in_ok-machine.machine.input) c.in-Stuck.field-0.at c.requires.first (ap plain_code same.0) same.1 (ap (map plain_value) same.2) (ap input_value same.3) c.in-Stuck.ensures.answer

pub new-requires : goal.new-requires
new-requires c = (c.requires.sound, first-there (plain_code c.args.code.now) c.args.main c.requires.first)
