use Rattle.std.proofs.Common.{ℕ, List, ◌++◌, ◌∷◌, [], ap, subst, ◌∙◌, arith}
use Rattle.fst_congruence.proofs.ExtractLemmas.{with_line, copied-none, copied-line, copied-left}
use Rattle.fst_congruence.specs.declared.equation.Equation.{Equation}
use Rattle.fst_congruence.specs.Extracts.{renumbered, Copied}
use Rattle.fst_congruence.proofs.extract.copy_wanted.Goals as goal
use Rattle.fst_congruence.proofs.extract.copy_wanted.Goals.{then-wanted-at+in_ok-by+in_ok-number, else-wanted-at}

pub loop-at-init : goal.loop-at-init
loop-at-init c = copied-none _ _ _ _ (c.in_ok-push.ensures.ok ∙ ap (λ (l : List ℕ). l ++ 0 ∷ []) c.new-numbers.ensures) c.new-new.ensures

pub loop-at-preserved : goal.loop-at-preserved
loop-at-preserved c = rw c.in_ok-push-2.ensures.ok (elim c.if-wanted-at.branch [
  | then-wanted-at+in_ok-by+in_ok-number w ↦ rw (w.new-is, w.number-is)
      (copied-line c.args.log.now c.loop-at.new _ c.args.wanted.now c.loop-at.numbers c.loop-at.at _ w.index-log-at.result w.in_ok-by.by c.loop-at-test.true c.requires.earlier c.requires.closed w.if-wanted-at.true c.loop-at.invariant
      (w.in_ok-by.ensures ∙ ap (λ (ns : List ℕ). renumbered ns w.index-log-at.result.by) w.as_slice.ensures ∙ ap (λ (f : Equation). renumbered c.loop-at.numbers f.by) w.index-log-at.is) (w.in_ok-number.ensures.0 ∙ ap (λ (f : Equation). c.loop-at.new ++ with_line f w.in_ok-by.by ∷ []) w.index-log-at.is, w.in_ok-number.ensures.1))
  | else-wanted-at w ↦ rw (w.new-is, w.number-is) (copied-left _ _ _ _ _ c.loop-at.invariant w.if-wanted-at.false)
])

pub returns : goal.returns
returns c = subst (λ n. Copied c.args.log.now c.loop-at.new c.args.wanted.now c.loop-at.numbers n) (let le = c.loop-at.auto.at-end in let end = c.loop-at-test.false in omega (arith, le, end)) c.loop-at.invariant
