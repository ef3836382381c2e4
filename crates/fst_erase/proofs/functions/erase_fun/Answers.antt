use Rattle.std.proofs.Common.{◌∙◌, map, ap}
use Rattle.fst_program.specs.Plain.{plain_param, plain_program}
use Rattle.fst_erase.specs.Parts.{shown_params}
use Rattle.fst_erase.proofs.PartLemmas.{ok-of, fun-made}
use Rattle.fst_erase.proofs.functions.erase_fun.Goals as goal

pub returns : goal.returns
returns c =
    let ok = c.in_ok-name.ensures.ok in
    let head = ok-of c.pair-head.result _ _ ok.0 c.pair-head.ensures.ok in
    let text = ok-of c.pair-text.result _ _ ok.1 c.pair-text.ensures.ok in
    fun-made (plain_program c.args.program.now) c.args.fun.now _ _ _ _ (ok-of c.copy.result _ _ head.0 c.copy.ensures)
    (ok-of c.erase_params.result _ _ head.1 c.erase_params.ensures ∙ ap (λ ps. shown_params (map plain_param ps)) c.as_slice.ensures)
    (ok-of c.copy-2.result _ _ text.0 c.copy-2.ensures) (ok-of c.erase_body.result _ _ text.1 c.erase_body.ensures)
