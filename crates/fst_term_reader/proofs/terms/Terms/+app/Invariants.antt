use Rattle.std.proofs.Common.{◌+◌, ◌*◌, length}
use Rattle.fst_term_reader.proofs.terms.Terms.+app.Given as goal

abbrev pub decreases-app : goal.decreases-app
decreases-app g l = 3 * length l.reader.now + 2

abbrev pub decreases-solid : goal.decreases-solid
decreases-solid g l = 3 * length l.reader.now + 1

abbrev pub decreases-prefix : goal.decreases-prefix
decreases-prefix g l = 3 * length l.reader.now
