use Rattle.std.proofs.Common.{◌∙◌, sym, subst, IsTrue}
use Rattle.fst_code.specs.Sound.{is_sound}
use Rattle.fst_program.specs.Plain.{plain_program}
use Rattle.fst_erasure.proofs.ErasedSound.{erased-sound}
use Rattle.fst_erase.proofs.PartLemmas.{ok-of, code-made}
use Rattle.fst_erase.proofs.functions.erase.Goals as goal

pub returns-clause-erased : goal.returns-clause-erased
returns-clause-erased c =
    let ok = c.in_ok-effects.ensures.ok in
    let front = ok-of c.pair-front.result _ _ ok.0 c.pair-front.ensures.ok in
    code-made c.args.program.now _ _ _ (ok-of c.copy_effects.result _ _ front.0 c.copy_effects.ensures ∙ c.as_slice.ensures) (ok-of c.copy_lifts.result _ _ front.1 c.copy_lifts.ensures ∙ c.as_slice-2.ensures)
    (ok-of c.erase_funs.result _ _ ok.1 c.erase_funs.ensures)

pub returns-clause-sound : goal.returns-clause-sound
returns-clause-sound c = λ sorted disciplined.
    let ok = c.in_ok-effects.ensures.ok in
    let front = ok-of c.pair-front.result _ _ ok.0 c.pair-front.ensures.ok in
    let made = code-made c.args.program.now _ _ _ (ok-of c.copy_effects.result _ _ front.0 c.copy_effects.ensures ∙ c.as_slice.ensures) (ok-of c.copy_lifts.result _ _ front.1 c.copy_lifts.ensures ∙ c.as_slice-2.ensures)
    (ok-of c.erase_funs.result _ _ ok.1 c.erase_funs.ensures) in
    subst (λ P. IsTrue (is_sound P)) (sym made) (erased-sound (plain_program c.args.program.now) sorted disciplined)
