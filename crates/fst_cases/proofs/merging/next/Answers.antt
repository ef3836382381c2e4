use Rattle.fst_cases.proofs.KnownLemmas.{first-alone, second-alone}
use Rattle.fst_cases.proofs.merging.next.Goals as goal

pub returns-in-len1-up-right : goal.returns-in-len1-up-right
returns-in-len1-up-right c = second-alone c.args.left.now c.args.right.now _ c.in-empty.len_below c.in-len1-up-right.len_at_least

pub returns-in-empty-right-2 : goal.returns-in-empty-right-2
returns-in-empty-right-2 c = first-alone c.args.left.now c.args.right.now _ c.in-len1-up.len_at_least c.in-empty-right-2.len_below
