-- Group by group: valid goals make functions good, and good functions may make later goals valid. So facts on applied functions may be used
-- without a circle, as formulas apply functions of earlier groups alone.
use Rattle.std.proofs.Common.{◌≡◌, ℕ, zero, suc, ◌<◌, ◌++◌, length, Option, Some, None, refl, sym, subst, arith, ⊎_elim, List, [], ◌∷◌}
use Rattle.std.proofs.lemmas.Bool.{cases_lt}
use Rattle.fst_terms.specs.Meaning.{Meaning}
use Rattle.fst_program.specs.Texts.{Fn, Prog, if_there, fun_at}
use Rattle.fst_program.specs.Good.{Good}
use Rattle.fst_program.specs.Applications.{IsMeaning}
use Rattle.fst_program.specs.Paths.{Gl, fun_walk, goal_site, ensures_site, fun_goals, goals_from, goals_of, GoalsValid}
use Rattle.fst_program.specs.Sorted.{IsSorted}
use Rattle.fst_program.specs.Discipline.{IsDisciplined}
use Rattle.fst_goodness.specs.Goodness.{StepLaw}
use Rattle.fst_goodness.proofs.Settling.{group-law, good-law}

valid-both : (M : Meaning) (gs hs : List Gl) → GoalsValid M gs → GoalsValid M hs → GoalsValid M (gs ++ hs)
valid-both M [] hs h k = k
valid-both M (g ∷ gs) hs h k = (h.0, valid-both M gs hs h.1 k)

module _ (P : Prog) (M : Meaning) (valid : (k : ℕ) (f : Fn) → fun_at P k ≡ Some f → GoalsValid M (fun_goals P k)) where
  each-valid : (k : ℕ) → GoalsValid M (fun_goals P k)
  each-valid k = go (fun_at P k) refl
    where
      go : (o : Option Fn) → fun_at P k ≡ o → GoalsValid M (if_there (fun_at P k) (λ f. fun_walk P f Gl (goal_site k) (ensures_site P k f)) [])
      go None q = subst (λ o. GoalsValid M (if_there o (λ f. fun_walk P f Gl (goal_site k) (ensures_site P k f)) [])) (sym q) tt
      go (Some f) q = valid k f q

  from-valid : (n k : ℕ) → GoalsValid M (goals_from P k n)
  from-valid zero k = tt
  from-valid (suc n) k = valid-both M (fun_goals P k) (goals_from P (suc k) n) (each-valid k) (from-valid n (suc k))

module _ (P : Prog) (sorted : IsSorted P) (disciplined : IsDisciplined P) (M : Meaning) (means : IsMeaning P M)
    (step : (n : ℕ) → ((k : ℕ) (f : Fn) → fun_at P k ≡ Some f → f.group < n → Good P M f) → (k : ℕ) (f : Fn) → fun_at P k ≡ Some f → f.group ≡ n → GoalsValid M (fun_goals P k)) where
  good-below : (n : ℕ) → ((k : ℕ) (f : Fn) → fun_at P k ≡ Some f → f.group < n → GoalsValid M (fun_goals P k)) → (k : ℕ) (f : Fn) → fun_at P k ≡ Some f → f.group < n → Good P M f
  good-below zero valid k f q lt = absurd (omega arith)
  good-below (suc n) valid k f q lt = group-law P sorted disciplined M means n (λ j g r le. valid j g r (omega arith)) k f q (omega arith)

  valid-below : (n : ℕ) (k : ℕ) (f : Fn) → fun_at P k ≡ Some f → f.group < n → GoalsValid M (fun_goals P k)
  valid-below zero k f q lt = absurd (omega arith)
  valid-below (suc n) k f q lt = ⊎_elim (λ less. valid-below n k f q less) (λ le. step n (good-below n (valid-below n)) k f q (omega (arith, le, lt))) (cases_lt f.group n)

  all-valid : GoalsValid M (goals_of P)
  all-valid = from-valid P M (λ k f q. valid-below (suc f.group) k f q (omega arith)) (length P.funs) 0

pub step-law : (P : Prog) → StepLaw P
step-law P sorted disciplined M means step =
    let valid = all-valid P sorted disciplined M means step in
    (valid, good-law P sorted disciplined M means valid)
