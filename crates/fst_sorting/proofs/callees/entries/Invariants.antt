use Rattle.std.proofs.Common.{◌≡◌, map, take}
use Rattle.fst_effects.specs.Scopes.{entry_of}
use Rattle.fst_sorting.specs.Listed.{entries_of}
use Rattle.fst_sorting.proofs.callees.entries.Given as goal

abbrev pub invariant-loop-param : goal.invariant-loop-param
invariant-loop-param l = map entry_of l.entries ≡ entries_of (take l.param-index l.params)
