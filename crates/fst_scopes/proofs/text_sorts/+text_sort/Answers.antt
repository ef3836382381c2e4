use Rattle.std.proofs.lemmas.Result.{IfOk-weaker}
use Rattle.fst_base.specs.Sorts.{plain_sort}
use Rattle.fst_program.specs.Plain.{plain_program}
use Rattle.fst_scopes.specs.Scopes.{sorts_in}
use Rattle.fst_scopes.proofs.TextLemmas.{match-sort-by}
use Rattle.fst_scopes.proofs.text_sorts.+text_sort.Goals as goal

pub text_sort-returns-in-Match : goal.text_sort-returns-in-Match
text_sort-returns-in-Match t c =
    IfOk-weaker c.match_sort.result _ _ (λ made e. match-sort-by (plain_program c.args.program.now) (sorts_in c.args.sorts.now) _ _ _ _ c.args.text.now (plain_sort made) c.in-Match.is c.as_slice.ensures e) c.match_sort.ensures
