use Rattle.std.proofs.Common.{◌≡◌, ◌≤◌, [], ◌∷◌, length}
use Rattle.fst_syntax.specs.Productions.{terms_more}
use Rattle.fst_syntax.specs.Reading.{reads, behind}
use Rattle.fst_term_reader.proofs.terms.Terms.terms_more.Given as goal

abbrev pub invariant-loop-mark : goal.invariant-loop-mark
invariant-loop-mark g l = record {
  so_far : behind (l.fn.first ∷ []) (reads (terms_more l.fn.separator l.self.formula) l.fn.reader) ≡ behind l.terms (reads (terms_more l.fn.separator l.self.formula) l.reader);
  no_longer : length l.reader ≤ length l.fn.reader;
}

abbrev pub decreases-loop-mark : goal.decreases-loop-mark
decreases-loop-mark g l = length l.reader
