use Rattle.std.proofs.lemmas.Result.{on_ok_weaker}
use Rattle.fst_terms.proofs.PrepareLemmas.{numbered-by}
use Rattle.fst_terms.proofs.preparing.number.Goals as goal

pub returns : goal.returns
returns c = on_ok_weaker c.append_copies.result
    (numbered-by c.args.flat.now c.args.extra.now _ _ _ _ _ _ _ _ _ c.as_slice-vars.ensures c.as_slice.ensures c.as_slice-2.ensures c.in_ok-collect_all.ensures c.in_ok-collect.ensures c.in_ok-collect_all-2.ensures c.in_ok-add_all_parts.ensures c.in_ok-add_literals.ensures)
    c.append_copies.ensures
