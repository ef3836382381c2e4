-- Functions without DIV end: by induction on groups, and within a group on measures, which the decrease goals make smaller from call to
-- call. Ghost parts end for the same reason, so allowances for them can be found.
use Rattle.std.proofs.Common.{◌≡◌, ℕ, zero, suc, ◌+◌, ◌-◌, ◌≤◌, ◌<◌, true, false, not, ◌&&◌, nat_lt, List, [], ◌∷◌, map, reverse, length, Some, IsTrue, refl, sym, ap, ap₂, ◌∙◌, subst, arith, ⊎_elim, Option, None, slice_get}
use Rattle.std.proofs.lemmas.Bool.{cases_lt}
use Rattle.fst_base.specs.Values.{Val, v_unit, HasSorts}
use Rattle.fst_terms.specs.Terms.{Tm}
use Rattle.fst_terms.specs.Meaning.{Env, Meaning, value}
use Rattle.fst_program.specs.declared.effect.Effect.{Effect}
use Rattle.fst_program.specs.declared.effect.Effect.TheVariants as effect
use Rattle.fst_program.specs.Texts.{Cm, Fn, Prog, if_there, fun_at, is_total, is_ghost}
use Rattle.fst_program.specs.Runs.{Outcome, Done, Stuck, hide, Calls, Ghosts, text, calls, ghost_run, input_to, ev}
use Rattle.fst_program.specs.Good.{Pre}
use Rattle.fst_program.specs.Applications.{split, IsMeaning}
use Rattle.fst_program.specs.Paths.{Gl, equates, goal_site, fun_goals, GoalsValid}
use Rattle.fst_program.specs.Sorted.{place_of, InputHas, param_sorts, IsSorted}
use Rattle.fst_goodness.proofs.Kept.{IsKept, CmKept}
use Rattle.fst_goodness.proofs.Families.{Level, Ends, GhostEnds, ends-rules}
use Rattle.fst_goodness.proofs.Clauses.{Floors, Descends, measures_of}
use Rattle.fst_goodness.proofs.CallGoals.{Returned, calls-ok}
use Rattle.fst_goodness.proofs.Measures.{Low, low, all-low}
use Rattle.fst_goodness.proofs.Bodies.{begin, own-measures, Met, body-ok}

length-measures : (M : Meaning) (vs : List Val) (ms : List Tm) → length (map (λ m. value M m (reverse vs)) ms) ≡ length ms
length-measures M vs [] = refl
length-measures M vs (m ∷ ms) = ap suc (length-measures M vs ms)

-- as many measures as any function of the program has, at least
most : List (Option Fn) → ℕ
most [] = 0
most (None ∷ fs) = most fs
most (Some f ∷ fs) = length f.measures + most fs

few-measures : (fs : List (Option Fn)) (k : ℕ) (f : Fn) → if_there (slice_get fs k) (λ f. f) None ≡ Some f → length f.measures ≤ most fs
unfolding most
few-measures [] k f q = cc
few-measures (None ∷ fs) zero f q = cc
few-measures (Some g ∷ fs) zero f q = let same : g ≡ f = cc in subst (λ x. length x.measures ≤ length g.measures + most fs) same (omega arith)
few-measures (None ∷ fs) (suc k) f q = few-measures fs k f q
few-measures (Some g ∷ fs) (suc k) f q = let le = few-measures fs k f q in omega arith

-- an application of a function without input has its arguments alone
plain-split : (g f : Fn) (x : Effect) (vs : List Val) (s : Val) → elim x [ effect.Pure ↦ nat_lt g.group f.group | effect.Ghost ↦ nat_lt g.group f.group | _ ↦ false ] ≡ true → ((split x vs).0 ≡ vs) × ((split x vs).1 ≡ input_to x s)
plain-split g f effect.Pure vs s h = (refl, refl)
plain-split g f effect.Ghost vs s h = (refl, refl)
plain-split g f effect.Div vs s h = cc
plain-split g f (effect.User E) vs s h = cc

module _ (P : Prog) (sorted : IsSorted P) (kept : IsKept P) (M : Meaning) (means : IsMeaning P M) (bound : ℕ) (valid : (k : ℕ) (f : Fn) → fun_at P k ≡ Some f → f.group ≤ bound → GoalsValid M (fun_goals P k)) where
  abbrev pub ghosts-at : Level → Ghosts
  ghosts-at i = ghost_run M P i.allowance

  abbrev pub calls-at : Level → Calls
  calls-at i = calls M P (ghost_run M P i.allowance) i.open_calls false

  abbrev pub body-at : Fn → List Val → Val → Level → ℕ → Outcome
  body-at f vs s i F = text M P (ghosts-at i) (calls-at i) false f.body (reverse vs) (input_to f.effect s) F

  -- an equation with the application holds of the result of any run of the body without bound
  pub run-means : (k : ℕ) (f : Fn) (j : ℕ) (g : Fn) (vs : List Val) (s v : Val) (F G left : ℕ) → fun_at P j ≡ Some g → ev M P F G false (reverse vs) (input_to g.effect s) g.body ≡ Done v left → equates P f Gl (goal_site k) g ≡ true → M j vs ≡ v
  run-means k f j g vs s v F G left q done h =
      let two = plain-split g f g.effect vs s h in
      means.ran j g vs v F G left q (ap₂ (λ ws x. ev M P F G false (reverse ws) x g.body) two.0 two.1 ∙ done)

  -- a call takes its body's units
  call-from-body : (j : ℕ) (g : Fn) (vs : List Val) (s : Val) (Q : Val → Type 0) → fun_at P j ≡ Some g → Ends Q (body-at g vs s) → Ends Q (λ i F. calls-at i j vs s F)
  call-from-body j g vs s Q q x = record {
    enough = suc x.enough;
    result = x.result;
    left = suc x.left;
    meets = x.meets;
    done = λ i d le le1. go i.allowance i.open_calls d (omega arith) le1;
  }
    where
      go : (G n d : ℕ) → x.enough ≤ G → suc x.enough ≤ n → calls M P (ghost_run M P G) n false j vs s (suc x.enough + d) ≡ Done x.result (suc x.left + d)
      go G zero d le le1 = absurd (omega arith)
      go G (suc n) d le le1 =
          let e1 : suc x.enough + d ≡ x.enough + suc d = omega arith in
          let e2 : x.left + suc d ≡ suc x.left + d = omega arith in
          ap (λ o. if_there o (λ f. let b1 = false && not (is_ghost f.effect) in text M P (ghost_run M P G) (calls M P (ghost_run M P G) n b1) b1 f.body (reverse vs) (input_to f.effect s) (suc x.enough + d)) (Stuck zero)) q
          ∙ ap (body-at g vs s (record { allowance = G; open_calls = n })) e1 ∙ x.done (record { allowance = G; open_calls = n }) (suc d) le (omega arith) ∙ ap (Done x.result) e2

  pub returned : (k : ℕ) (f : Fn) (j : ℕ) (g : Fn) (vs : List Val) (s : Val) → fun_at P j ≡ Some g → Ends (Met P M g vs s) (body-at g vs s) → Ends (Returned P sorted kept M k f j g vs s) (λ i F. calls-at i j vs s F)
  returned k f j g vs s q x = call-from-body j g vs s (Returned P sorted kept M k f j g vs s) q
      (record {
        enough = x.enough;
        result = x.result;
        left = x.left;
        meets = record {
          ensures = x.meets.ensures;
          has = x.meets.has;
          equals = λ h. let z : x.enough + 0 ≡ x.enough = omega arith in
              run-means k f j g vs s x.result x.enough x.enough (x.left + 0) q (ap (body-at g vs s (record { allowance = x.enough; open_calls = x.enough })) (sym z) ∙ x.done (record { allowance = x.enough; open_calls = x.enough }) 0 (omega arith) (omega arith)) h;
        };
        done = x.done;
      })

  -- a ghost part ends where its text does
  pub ghost-from-text : (Q : Val → Type 0) (c : Cm) (e : Env) → Ends Q (λ i F. text M P (ghosts-at i) (calls-at i) false c e v_unit F) → GhostEnds Q (λ i. ghosts-at i c e)
  ghost-from-text Q c e x = record { enough = suc x.enough; result = x.result; meets = x.meets; done = λ i le le1. go i.allowance le }
    where
      go : (G : ℕ) → suc x.enough ≤ G → ghost_run M P G c e ≡ Done x.result zero
      go zero le = absurd (omega arith)
      go (suc G) le =
          let e1 : suc G ≡ x.enough + (suc G - x.enough) = omega arith in
          ap hide (ap (λ F. text M P (ghost_run M P G) (calls M P (ghost_run M P G) (suc G) false) false c e v_unit F) e1 ∙ x.done (record { allowance = G; open_calls = suc G }) (suc G - x.enough) (omega arith) (omega arith))

  -- the body of function k, f ends on these arguments
  abbrev pub EndsOn : Fn → List Val → Val → Type 0
  EndsOn f vs s = Ends (Met P M f vs s) (body-at f vs s)

  -- total text ends where the total functions that it calls do
  body-ends : (k : ℕ) (f : Fn) (q : fun_at P k ≡ Some f) → f.group ≤ bound → IsTrue (is_total P f.effect) → (vs : List Val) (s : Val) (have : HasSorts (param_sorts P f) vs) (input : InputHas P (place_of f.effect) s) (pre : Pre M f vs s)
      → ((j : ℕ) (g : Fn) → fun_at P j ≡ Some g → IsTrue (is_total P g.effect) → g.group ≤ f.group → (ws : List Val) (t : Val) → HasSorts (param_sorts P g) ws → InputHas P (place_of g.effect) t → Pre M g ws t → (g.group ≡ f.group → Floors (measures_of M g ws) × Descends (measures_of M g ws) (measures_of M f vs)) → EndsOn g ws t)
      → EndsOn f vs s
  body-ends k f q inside total vs s have input pre callees =
      body-ok P sorted kept M k f q vs s have input pre Level false Ends GhostEnds ends-rules ghosts-at calls-at true
      (subst (λ b. CmKept P f.group b f.body) total (kept.bodies k f q)) (valid k f q inside)
      (calls-ok P sorted kept M k f (begin P sorted kept M k f q vs s have input pre) (measures_of M f vs) (own-measures P sorted kept M k f q vs s have input pre) Level false Ends GhostEnds ends-rules ghosts-at calls-at true f.group
      (λ j g r t below ws x h i p down. returned k f j g ws x r (callees j g r (t refl) below ws x h i p (down total))))
      (λ c Ss T us w e ev rest h a fit v x. ghost-from-text _ c ev (x refl))

  in-group : (n : ℕ) → n ≤ bound → ((k : ℕ) (f : Fn) → fun_at P k ≡ Some f → IsTrue (is_total P f.effect) → f.group < n → (vs : List Val) (s : Val) → HasSorts (param_sorts P f) vs → InputHas P (place_of f.effect) s → Pre M f vs s → EndsOn f vs s)
      → (ms : List Val) → Low (most P.funs) ms → (k : ℕ) (f : Fn) → fun_at P k ≡ Some f → IsTrue (is_total P f.effect) → f.group ≡ n → (vs : List Val) (s : Val) → HasSorts (param_sorts P f) vs → InputHas P (place_of f.effect) s → Pre M f vs s → measures_of M f vs ≡ ms → EndsOn f vs s
  in-group n inside earlier ms (low h) k f q total group vs s have input pre is =
      body-ends k f q (omega (arith, inside, group)) total vs s have input pre
      (λ j g r t below ws x hv ip pr down. ⊎_elim
      (λ lt. earlier j g r t lt ws x hv ip pr)
      (λ le. let same : g.group ≡ n = omega (arith, below, group, le) in
      let d = down (same ∙ sym group) in
      in-group n inside earlier (measures_of M g ws) (h (measures_of M g ws) (let len = length-measures M ws g.measures in let few = few-measures P.funs j g r in subst (λ m. m ≤ most P.funs) (sym len) few) d.0 (subst (λ x. Descends (measures_of M g ws) x) is d.1)) j g r t same ws x hv ip pr refl)
      (cases_lt g.group n))

  -- every total function ends
  pub all-end : (n : ℕ) (k : ℕ) (f : Fn) → fun_at P k ≡ Some f → IsTrue (is_total P f.effect) → f.group < n → n ≤ suc bound → (vs : List Val) (s : Val) → HasSorts (param_sorts P f) vs → InputHas P (place_of f.effect) s → Pre M f vs s → EndsOn f vs s
  all-end zero k f q total lt inside vs s have input pre = absurd (omega arith)
  all-end (suc n) k f q total lt inside vs s have input pre = ⊎_elim
      (λ less. all-end n k f q total less (omega arith) vs s have input pre)
      (λ le. in-group n (omega arith) (λ k f q total lt. all-end n k f q total lt (omega arith)) (measures_of M f vs) (all-low (most P.funs) (measures_of M f vs) (let len = length-measures M vs f.measures in let few = few-measures P.funs k f q in subst (λ m. m ≤ most P.funs) (sym len) few)) k f q total (omega (arith, le, lt)) vs s have input pre refl)
      (cases_lt f.group n)
