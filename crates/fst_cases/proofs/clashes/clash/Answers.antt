use Rattle.std.proofs.Common.{◌≡◌, None, rules}
use Rattle.std.proofs.lemmas.Result.{IfOk-weaker}
use Rattle.fst_cases.proofs.ApartLemmas.{may-clash}
use Rattle.fst_cases.proofs.clashes.clash.Goals as goal

pub returns : goal.returns
returns c =
    let unequal : c.in_ok-unequal.unequal ≡ None = search rules in
    let truths : c.in_ok-truths.truths ≡ None = search rules in
    λ f roles is.
    IfOk-weaker c.refute_makers-2.result _ _
    (λ found h. may-clash f c.args.marks.now c.args.closure.now is c.args.roles.now roles c.in_ok-unequal.unequal c.in_ok-truths.truths found unequal truths (c.in_ok-unequal.ensures f roles is) (c.in_ok-truths.ensures f is) h)
    (c.refute_makers-2.ensures f is)
