use Rattle.std.proofs.Common.{◌≡◌, subst, IfOk}
use Rattle.fst_program.specs.Erasure.{erased_text}
use Rattle.fst_program.specs.Plain.{plain_comp, plain_program}
use Rattle.fst_erase.proofs.PartLemmas.{ok-of, match-erased}
use Rattle.fst_erase.proofs.ScopeLemmas.{pushed-names}
use Rattle.fst_erase.proofs.texts.+erase.Goals as goal

pub erase_text-returns-in_ok-term-in-Match-clause-erased : goal.erase_text-returns-in_ok-term-in-Match-clause-erased
erase_text-returns-in_ok-term-in-Match-clause-erased t c =
    let ok = c.in_ok-term-in-Match.ensures.ok in
    match-erased (plain_program c.args.program.now) c.args.scope.now c.erase_term-term.new.scope c.args.text.now c.in-Match.term _ c.in-Match.at c.in-Match.arms c.as_slice.result.now _ c.in-Match.is c.as_slice.ensures c.erase_term-term.ensures.scope
    (ok-of c.erase_term-term.result _ _ ok.0 c.erase_term-term.ensures.erased) (ok-of c.erase_arms.result _ _ ok.1 c.erase_arms.ensures.erased)

pub erase_pushed-returns-clause-erased : goal.erase_pushed-returns-clause-erased
erase_pushed-returns-clause-erased t c =
    subst (λ s. IfOk c.erase_text.result (λ made. plain_comp made ≡ erased_text (plain_program c.args.program.now) s (plain_comp c.args.text.now))) (pushed-names c.args.names.now c.args.scope.now c.push_shown.new.scope c.in_ok-push_shown.ensures.ok) c.erase_text.ensures.erased
