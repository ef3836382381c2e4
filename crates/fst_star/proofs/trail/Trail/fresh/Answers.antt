use Rattle.std.proofs.Common.{◌∙◌, ◌++◌, ◌∷◌, [], ap}
use Rattle.fst_terms.proofs.PrepareLemmas.{given}
use Rattle.fst_star.proofs.TrailLemmas.{fresh-made}
use Rattle.fst_star.proofs.trail.Trail.fresh.Goals as goal

pub returns : goal.returns
returns c =
    let ok = c.in_ok-name.ensures.ok in
    fresh-made c.args.self.now c.push.new.self c.as_slice-2.result.now c.in_ok-hyps.hyps c.as_slice.result.now c.in_ok-choices.choices c.args.name.now c.in_ok-name.name c.args.sort.now c.in_ok-name.sort
    (c.in_ok-push.ensures.ok ∙ ap (λ vs. vs ++ record { name = c.in_ok-name.name; sort = c.in_ok-name.sort } ∷ []) (c.in_ok-vars.ensures ∙ c.as_slice-3.ensures))
    (given _ c.copy.result _ c.copy.ensures ok.0) (given _ c.copy-2.result _ c.copy-2.ensures ok.1) c.in_ok-hyps.ensures c.as_slice-2.ensures c.in_ok-choices.ensures c.as_slice.ensures
