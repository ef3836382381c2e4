use Rattle.std.proofs.Common.{rules}
use Rattle.fst_rows.proofs.DivisorLemmas.{parts-push}
use Rattle.fst_rows.proofs.sums.parts.Goals as goal

pub loop-coef-preserved : goal.loop-coef-preserved
loop-coef-preserved c = search (rules, parts-push)
