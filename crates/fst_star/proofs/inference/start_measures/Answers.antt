use Rattle.std.proofs.Common.{map, ap, ◌∙◌}
use Rattle.std.proofs.lemmas.Result.{IfOk-weaker}
use Rattle.fst_program.specs.Paths.{measures_at}
use Rattle.fst_program.specs.Plain.{plain_fun}
use Rattle.fst_terms.specs.Terms.{plain_term}
use Rattle.fst_star.proofs.InferringLemmas.{started-measures}
use Rattle.fst_star.proofs.inference.start_measures.Goals as goal

pub returns : goal.returns
returns c =
    IfOk-weaker c.measures_at.result _ _
    (λ made e. started-measures (plain_fun c.args.fun.now) c.in_ok-terms.terms made c.in_ok-terms.ensures (e ∙ ap (λ ts. measures_at (plain_fun c.args.fun.now) (map plain_term ts)) c.as_slice.ensures))
    c.measures_at.ensures
