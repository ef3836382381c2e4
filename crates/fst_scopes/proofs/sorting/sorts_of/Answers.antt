use Rattle.std.proofs.lemmas.Result.{IfOk-weaker}
use Rattle.fst_scopes.specs.Scopes.{sorts_in}
use Rattle.fst_scopes.proofs.SortingLemmas.{sorts-turned}
use Rattle.fst_scopes.proofs.sorting.sorts_of.Goals as goal

pub returns : goal.returns
returns c = IfOk-weaker c.each_sort.result _ _ (λ made e. sorts-turned (sorts_in c.args.sorts.now) made c.args.terms.now e) c.each_sort.ensures
