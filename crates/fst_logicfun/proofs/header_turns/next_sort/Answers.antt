use Rattle.std.proofs.lemmas.Result.{IfOk-weaker}
use Rattle.fst_base.specs.Sorts.{plain_sort}
use Rattle.fst_program.specs.Plain.{plain_comp}
use Rattle.fst_logicfun.proofs.HeaderLemmas.{next-sort-by}
use Rattle.fst_logicfun.proofs.header_turns.next_sort.Goals as goal

pub returns : goal.returns
returns c =
    IfOk-weaker c.text_sort.result _ _
    (λ made e. next-sort-by c.args.at.now (plain_sort c.args.first.now) (plain_comp c.args.text.now) _ _ _ _ (plain_sort made) c.in_ok-outer.ensures c.as_slice.ensures c.in_ok-sorts.ensures c.as_slice-2.ensures e)
    c.text_sort.ensures
