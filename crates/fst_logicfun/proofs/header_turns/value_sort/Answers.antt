use Rattle.std.proofs.lemmas.Result.{IfOk-weaker}
use Rattle.fst_base.specs.Sorts.{plain_sort}
use Rattle.fst_program.specs.Plain.{plain_comp}
use Rattle.fst_logicfun.proofs.HeaderLemmas.{value-sort-by}
use Rattle.fst_logicfun.proofs.header_turns.value_sort.Goals as goal

pub returns : goal.returns
returns c =
    IfOk-weaker c.text_sort.result _ _ (λ made e. value-sort-by c.args.at.now (plain_comp c.args.text.now) _ _ (plain_sort made) c.in_ok-sorts.ensures c.as_slice.ensures e) c.text_sort.ensures
