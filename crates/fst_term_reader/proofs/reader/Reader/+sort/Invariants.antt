use Rattle.std.proofs.Common.{◌+◌, ◌*◌, length}
use Rattle.fst_term_reader.proofs.reader.Reader.+sort.Given as goal

abbrev pub decreases-item : goal.decreases-item
decreases-item l = 8 * length l.self.now

abbrev pub decreases-either : goal.decreases-either
decreases-either l = 8 * length l.self.now + 1

abbrev pub decreases-sat : goal.decreases-sat
decreases-sat l = 8 * length l.self.now + 2

abbrev pub decreases-boxed_sat : goal.decreases-boxed_sat
decreases-boxed_sat l = 8 * length l.self.now + 3

abbrev pub decreases-sort_more : goal.decreases-sort_more
decreases-sort_more l = 8 * length l.self.now + 4

abbrev pub decreases-sort : goal.decreases-sort
decreases-sort l = 8 * length l.self.now + 3
