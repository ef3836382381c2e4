use Rattle.std.proofs.Common.{◌+◌, ◌*◌, length}
use Rattle.fst_term_reader.proofs.terms.Terms.+con.Given as goal

abbrev pub decreases-con : goal.decreases-con
decreases-con g l = 2 * length l.reader.now + 1

abbrev pub decreases-con_more : goal.decreases-con_more
decreases-con_more g l = 2 * length l.reader.now + 2
