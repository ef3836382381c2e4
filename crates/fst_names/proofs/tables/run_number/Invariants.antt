use Rattle.std.proofs.Common.{◌≡◌, drop}
use Rattle.fst_names.specs.Names.{number_from, number_of, runs_of}
use Rattle.fst_names.proofs.tables.run_number.Given as goal

abbrev pub invariant-loop-index : goal.invariant-loop-index
invariant-loop-index l = number_of l.word.text (runs_of l.header) ≡ number_from l.index l.word.text (drop l.index (runs_of l.header))
