use Rattle.std.proofs.Common.{◌≡◌, ◌≤◌, length}
use Rattle.fst_syntax.specs.Productions as n
use Rattle.fst_syntax.specs.Reading.{reads, behind}
use Rattle.fst_reader.proofs.decls.program.Given as goal

abbrev pub invariant-decls : goal.invariant-decls
invariant-decls l = record {
  so_far : (reads n.program l.fn.reader) ≡ behind l.decls (reads n.program l.reader);
  no_longer : length l.reader ≤ length l.fn.reader;
}

abbrev pub decreases-decls : goal.decreases-decls
decreases-decls l = length l.reader
