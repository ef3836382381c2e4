use Rattle.std.proofs.Common.{◌+◌, ◌*◌, length}
use Rattle.fst_term_reader.proofs.terms.Terms.+un.Given as goal

abbrev pub decreases-un : goal.decreases-un
decreases-un g l = 2 * length l.reader.now + 1

abbrev pub decreases-other : goal.decreases-other
decreases-other g l = 2 * length l.reader.now

abbrev pub decreases-negated : goal.decreases-negated
decreases-negated g l = 2 * length l.reader.now
