use Rattle.std.proofs.Common.{◌≡◌, ◌≤◌, length}
use Rattle.fst_syntax.specs.Productions as n
use Rattle.fst_syntax.specs.Reading.{reads, behind}
use Rattle.fst_reader.proofs.heads.params.Given as goal

abbrev pub invariant-params : goal.invariant-params
invariant-params l = record {
  so_far : (reads n.params l.fn.reader) ≡ behind l.params (reads n.params l.reader);
  no_longer : length l.reader ≤ length l.fn.reader;
}

abbrev pub decreases-params : goal.decreases-params
decreases-params l = length l.reader
