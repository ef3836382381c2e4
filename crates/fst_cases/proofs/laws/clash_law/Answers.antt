use Rattle.std.proofs.Common.{[]}
use Rattle.fst_cases.proofs.RefutationRules.{refuted-close}
use Rattle.fst_cases.proofs.ClashLemmas.{closes-differ, closes-unequal}
use Rattle.fst_cases.proofs.laws.clash_law.Goals as goal

pub returns : goal.returns
returns c = λ f ended n core ls. record {
  differ = λ t u g d. refuted-close f ended n core ls [] _ (closes-differ f core ls t u g d);
  unequal = λ a t m h e d g. refuted-close f ended n core ls [] _ (closes-unequal f core a t m ls h e d g);
}
