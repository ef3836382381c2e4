-- The exit statuses.
use Rattle.std.specs.Prelude.{ℕ}
use Rattle.fst_top.specs.declared.status.Status.{Status}
use Rattle.fst_top.specs.declared.status.Status.TheVariants as status

abbrev pub number_of : Status → ℕ
number_of status.Done = 0
number_of status.NotProved = 1
number_of status.Refused = 2
number_of status.BadWords = 3
number_of status.OutOfFuel = 4
number_of status.ReadFault = 7
number_of status.WriteFault = 8
number_of status.NoMemory = 10
