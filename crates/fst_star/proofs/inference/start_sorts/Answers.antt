use Rattle.std.proofs.Common.{map, ap, ◌∙◌}
use Rattle.std.proofs.lemmas.Result.{IfOk-weaker}
use Rattle.fst_program.specs.Plain.{plain_fun, plain_program}
use Rattle.fst_terms.specs.Meaning.{Vr, plain_var}
use Rattle.fst_star.proofs.InferringLemmas.{started-sorts}
use Rattle.fst_star.proofs.inference.start_sorts.Goals as goal

pub returns : goal.returns
returns c =
    IfOk-weaker c.var_sorts.result _ _
    (λ made e. started-sorts (plain_program c.args.program.now) (plain_fun c.args.fun.now) c.in_ok-vars.vars made c.in_ok-vars.ensures
    (e ∙ ap (λ vs. map (λ (x : Vr). x.sort) (map plain_var vs)) c.as_slice.ensures)) c.var_sorts.ensures
