use Rattle.std.proofs.Common.{◌≡◌, ◌≤◌, length}
use Rattle.fst_syntax.specs.Productions as n
use Rattle.fst_syntax.specs.Reading.{reads, applied}
use Rattle.fst_term_reader.proofs.terms.Terms.conj_more.Given as goal

abbrev pub invariant-operators : goal.invariant-operators
invariant-operators g l = record {
  so_far : applied l.fn.left (reads (n.conj_more l.self.formula) l.fn.reader) ≡ applied l.tree (reads (n.conj_more l.self.formula) l.reader);
  no_longer : length l.reader ≤ length l.fn.reader;
}

abbrev pub decreases-operators : goal.decreases-operators
decreases-operators g l = length l.reader
