use Rattle.std.proofs.Common.{◌≡◌, ◌≤◌, [], ◌∷◌, length}
use Rattle.fst_syntax.specs.Reading.{behind}
use Rattle.fst_reader.proofs.texts.Texts.arms_more.Given as goal

abbrev pub invariant-arms : goal.invariant-arms
invariant-arms g l = record {
  so_far : (behind (l.fn.first ∷ []) (g.T.Text.kind.arms_more l.fn.reader)) ≡ behind l.arms (g.T.Text.kind.arms_more l.reader);
  no_longer : length l.reader ≤ length l.fn.reader;
}

abbrev pub decreases-arms : goal.decreases-arms
decreases-arms g l = length l.reader
