use Rattle.fst_star.proofs.DecidingLemmas.{same-con-by}
use Rattle.fst_star.proofs.deciding.same_con.Goals as goal

pub returns : goal.returns
returns c = same-con-by c.args.a c.args.b _ c.eq.ensures
