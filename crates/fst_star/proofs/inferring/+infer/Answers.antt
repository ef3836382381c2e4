use Rattle.std.proofs.Common.{map}
use Rattle.std.proofs.lemmas.Result.{IfOk-weaker}
use Rattle.fst_terms.proofs.PrepareLemmas.{given}
use Rattle.fst_terms.specs.Terms.{plain_term}
use Rattle.fst_program.specs.Plain.{plain_fun, plain_program}
use Rattle.fst_star.specs.Plain.{plain_ways, plain_wp}
use Rattle.fst_star.proofs.InferringLemmas.{match-by}
use Rattle.fst_star.proofs.inferring.+infer.Goals as goal

pub infer_at-returns-in_ok-put-in-Match : goal.infer_at-returns-in_ok-put-in-Match
infer_at-returns-in_ok-put-in-Match t c =
    let owner = c.args.owner.now in
    let spot = c.args.spot.now in
    IfOk-weaker c.chosen-in-Match.result _ _
    (λ made h. match-by (plain_program owner.program.now) (plain_fun owner.fun.now) spot.sorts (map plain_term spot.olds) spot.terms (plain_term spot.input) _ _ _ c.args.text.now _ _ _ _ _ _ _ (plain_ways h.0) (plain_wp made)
    c.in-Match.is c.as_slice-arms.ensures c.as_slice-terms.ensures c.as_slice.ensures c.in_ok-put-in-Match.ensures.term c.in_ok-put-in-Match.ensures.sort c.get-in-Match.ensures c.get-in-Match-2.ensures
    (given _ c.infer_ways-list.result _ c.infer_ways-list.ensures h.1.0) h.1.1)
    c.chosen-in-Match.ensures
