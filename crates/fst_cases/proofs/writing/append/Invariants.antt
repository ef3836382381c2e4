use Rattle.std.proofs.Common.{◌≡◌, ◌++◌, take}
use Rattle.fst_cases.proofs.writing.append.Given as goal

abbrev pub invariant-loop-line : goal.invariant-loop-line
invariant-loop-line l = l.written ≡ l.initial.written ++ take l.line-index l.lines
