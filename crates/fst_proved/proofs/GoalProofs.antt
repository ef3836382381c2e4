-- Where the flat form of each goal of a program has a proof, every function is good: goals of a group rest on good functions of earlier
-- groups.
use Rattle.std.proofs.Common.{ℕ, false, List, [], ◌∷◌, sym, subst}
use Rattle.fst_program.specs.Texts.{Fn, Prog}
use Rattle.fst_program.specs.Paths.{Gl, fun_goals, goal_site, GoalsValid}
use Rattle.fst_terms.specs.Sentences.{KeepsSorts, IsSequent}
use Rattle.fst_goodness.specs.FunctionSentences.{GoodBelow, AppliesBelow}
use Rattle.fst_proved.specs.ProvedGoals.{AllProved, AllTrueFlats, AllFlat, ProvedGoalsLaw, TrueFlatsLaw}
use Rattle.fst_goodness.proofs.FormedDefinitions.{Each}
use Rattle.fst_goodness.proofs.GoalSequents.{goals-formed}
use Rattle.fst_proved.proofs.ProofShown.{flat-shows}
use Rattle.fst_cert.proofs.ProofTruths.{proofs-prove}
use Rattle.fst_goodness.proofs.AppliedFacts.{below-keeps}
use Rattle.fst_program.specs.FunctionFacts.{flat_in}
use Rattle.fst_goodness.proofs.Steps.{step-law}

abbrev Formed : Prog → ℕ → (k : ℕ) → List Gl → Type 0
Formed P n k gs = Each false P (AppliesBelow P n) Gl (goal_site k) (λ g. IsSequent (AppliesBelow P n) g.sequent []) gs

-- what is known of true flat forms, or of proofs, for all goals of each function
pub true-flats-law : (P : Prog) → TrueFlatsLaw P
true-flats-law P sorted disciplined M means known =
    step-law P sorted disciplined M means
    (λ n good k f q is.
    let below = subst (GoodBelow P M) (sym is) good in
    let formed = goals-formed P sorted disciplined k f q in
    valid k f below (fun_goals P k) formed (known k f q (below-keeps P sorted M means f.group) (flats k f below (fun_goals P k) formed)))
  where
    flats : (k : ℕ) (f : Fn) → GoodBelow P M f.group → (gs : List Gl) → Formed P f.group k gs → AllFlat P f.group k gs
    flats k f good [] h = tt
    flats k f good (g ∷ gs) h = ((flat-shows P sorted disciplined M means f.group good k g.sequent h.0).flat, flats k f good gs h.1)

    valid : (k : ℕ) (f : Fn) → GoodBelow P M f.group → (gs : List Gl) → Formed P f.group k gs → AllTrueFlats P M f.group k gs → GoalsValid M gs
    valid k f good [] h a = tt
    valid k f good (g ∷ gs) h a = ((flat-shows P sorted disciplined M means f.group good k g.sequent h.0).shows a.0, valid k f good gs h.1 a.1)

pub proved-goals-law : (P : Prog) → ProvedGoalsLaw P
proved-goals-law P sorted disciplined M means proved =
    true-flats-law P sorted disciplined M means (λ k f q keeps flats. go k f keeps (fun_goals P k) flats (proved k f q))
  where
    go : (k : ℕ) (f : Fn) → KeepsSorts (AppliesBelow P f.group) M → (gs : List Gl) → AllFlat P f.group k gs → AllProved P k gs → AllTrueFlats P M f.group k gs
    go k f keeps [] h a = tt
    go k f keeps (g ∷ gs) h a = (proofs-prove (AppliesBelow P f.group) M keeps (flat_in P k g.sequent) h.0 a.0.0 a.0.1, go k f keeps gs h.1 a.1)
