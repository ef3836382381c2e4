use Rattle.std.proofs.Common.{◌≡◌, ◌≤◌, [], ◌∷◌, length}
use Rattle.fst_syntax.specs.Productions as n
use Rattle.fst_syntax.specs.Reading.{reads, behind}
use Rattle.fst_reader.proofs.heads.measures_more.Given as goal

abbrev pub invariant-measures : goal.invariant-measures
invariant-measures l = record {
  so_far : behind (l.fn.first ∷ []) (reads (n.measures_more 3) l.fn.reader) ≡ behind l.measures (reads (n.measures_more l.more) l.reader);
  no_longer : length l.reader ≤ length l.fn.reader;
}

abbrev pub decreases-measures : goal.decreases-measures
decreases-measures l = l.more
