use Rattle.fst_top.proofs.PrintLemmas.{same-name-is}
use Rattle.fst_top.proofs.print.branch.same_name.Goals as goal

pub returns : goal.returns
returns c = same-name-is _ _ _ c.same.ensures
