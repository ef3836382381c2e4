-- The commands as the code has them.
use Rattle.fst_top.specs.declared.words.Command.{Command}
use Rattle.fst_top.specs.declared.words.Command.TheVariants as command
use Rattle.fst_top.specs.Answers as a

abbrev pub plain_command : Command → a.Command
plain_command command.Help = a.help
plain_command command.Version = a.version
plain_command (command.Check file) = a.check file.now
plain_command (command.Run file fuel words) = a.run file.now fuel words.now
plain_command command.BadFuel = a.bad_fuel
