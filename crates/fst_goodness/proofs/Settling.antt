-- Every function settles, DIV ones too, by induction on open calls, as ghost parts end; so every function is good. With fuel F no more
-- than F calls are open, so calls past that bound may count as out of fuel.
use Rattle.std.proofs.Common.{◌≡◌, ℕ, zero, suc, ◌+◌, ◌≤◌, ◌<◌, Bool, true, false, not, ◌&&◌, if◌then◌else◌, nat_lt, List, [], ◌∷◌, map, reverse, length, slice_get, Option, Some, None, refl, sym, ap, ◌∙◌, subst, arith, ⊎_elim, inl, inr}
use Rattle.std.proofs.lemmas.Bool.{cases_lt, lt-ltb, ltb-false}
use Rattle.fst_base.specs.Values.{Val, v_unit, HasSorts}
use Rattle.fst_terms.specs.Terms.{t_unit}
use Rattle.fst_terms.specs.Meaning.{Env, Meaning}
use Rattle.fst_program.specs.declared.effect.Effect.{Effect}
use Rattle.fst_program.specs.declared.effect.Effect.TheVariants as effect
use Rattle.fst_program.specs.Texts.{Prm, Cm, Fn, Prog, if_there, fun_at, is_total, is_ghost}
use Rattle.fst_program.specs.Runs.{Outcome, Done, Out, Wide, Stuck, GhostOut, Calls, text, calls, ghost_run, input_to, ev}
use Rattle.fst_program.specs.Good.{HaveAll, HasInput, Pre, Post, IsFine, IsOver, Good}
use Rattle.fst_program.specs.Applications.{IsMeaning}
use Rattle.fst_program.specs.Laws.{Limited}
use Rattle.fst_program.specs.Paths.{Gl, start, call_walk, goal_site, fun_goals, goals_from, goals_of, GoalsValid}
use Rattle.fst_program.specs.Sorted.{place_of, InputHas, param_sorts, IsSorted}
use Rattle.fst_program.proofs.BoundLemmas.{ev_limited}
use Rattle.fst_program.proofs.LevelLemmas.{Same, text_same, calls_same, run_same}
use Rattle.fst_goodness.proofs.Kept.{IsKept, disciplined-kept}
use Rattle.fst_goodness.specs.Goodness.{GroupLaw, GoodLaw}
use Rattle.fst_goodness.proofs.Families.{Level, Ends, GhostEnds, ends-rules, SettlesOn, AllSettle, GhostSettles, settle-rules, fine-weaken}
use Rattle.fst_program.proofs.Ways.{valid-left, valid-right, Reaches}
use Rattle.fst_goodness.proofs.CoreText.{GhostsOk, text-ok}
use Rattle.fst_goodness.proofs.Clauses.{measures_of}
use Rattle.fst_goodness.proofs.CallGoals.{Returned, calls-ok}
use Rattle.fst_goodness.proofs.Bodies.{begin, own-measures, Met, body-ok}
use Rattle.fst_goodness.proofs.Ending.{ghosts-at, calls-at, body-at, run-means, ghost-from-text, returned, all-end}

-- calls that have less fuel than their bound; others are out of fuel
abbrev clip : (n l : ℕ) → Outcome → Outcome
clip n l o = if nat_lt l n then o else Out

module _ (P : Prog) (sorted : IsSorted P) (kept : IsKept P) (M : Meaning) (means : IsMeaning P M) (bound : ℕ) (valid : (k : ℕ) (f : Fn) → fun_at P k ≡ Some f → f.group ≤ bound → GoalsValid M (fun_goals P k)) where
  abbrev clipped : (n : ℕ) → (b : Bool) → (G : ℕ) → Calls
  clipped n b G j vs s l = clip n l (calls M P (ghost_run M P G) n b j vs s l)

  -- with no more fuel than the bound, clipped calls change nothing
  clip-same : (n : ℕ) (b : Bool) (G : ℕ) (c : Cm) (e : Env) (s : Val) (F : ℕ) → F ≤ n → text M P (ghost_run M P G) (clipped n b G) b c e s F ≡ text M P (ghost_run M P G) (calls M P (ghost_run M P G) n b) b c e s F
  clip-same n b G c e s F le = (text_same M P (ghost_run M P G) n (clipped n b G) (calls M P (ghost_run M P G) n b)
      (λ j vs s l lt. let x = calls_same M P (ghost_run M P G) n n b j vs s l lt lt in subst (λ y. Same l (if y then calls M P (ghost_run M P G) n b j vs s l else Out) (calls M P (ghost_run M P G) n b j vs s l)) (sym (lt-ltb l n lt)) x)
      b c e s F le).0

  abbrev SettlesAt : (n : ℕ) → (b : Bool) → Fn → List Val → Val → ℕ → Type 0
  SettlesAt n b f vs s F = SettlesOn (Met P M f vs s) (λ G. text M P (ghost_run M P G) (calls M P (ghost_run M P G) n b) b f.body (reverse vs) (input_to f.effect s) F)

  -- every function settles with fuel up to the bound on open calls
  abbrev AllSettleTo : ℕ → Type 0
  AllSettleTo n = (b : Bool) (k : ℕ) (f : Fn) → fun_at P k ≡ Some f → f.group ≤ bound → (vs : List Val) (s : Val) → HasSorts (param_sorts P f) vs → InputHas P (place_of f.effect) s → Pre M f vs s → (F : ℕ) → F ≤ n → SettlesAt n b f vs s F

  abbrev CallsSettle : ℕ → Type 0
  CallsSettle n = (b : Bool) (k : ℕ) (f : Fn) (j : ℕ) (g : Fn) → fun_at P j ≡ Some g → g.group ≤ bound → (vs : List Val) (s : Val) → HasSorts (param_sorts P g) vs → InputHas P (place_of g.effect) s → Pre M g vs s → AllSettle (Returned P sorted kept M k f j g vs s) (λ G l. clipped n b G j vs s l)

  -- ghost parts of any function settle
  ghosts-settle : (k : ℕ) (f : Fn) (q : fun_at P k ≡ Some f) → f.group ≤ bound → (vs : List Val) (s : Val) (have : HasSorts (param_sorts P f) vs) (input : InputHas P (place_of f.effect) s) (pre : Pre M f vs s) (b : Bool) (call : ℕ → Calls)
      → GhostsOk P sorted kept M k ℕ b AllSettle GhostSettles (settle-rules b) (start P f) (begin P sorted kept M k f q vs s have input pre) (λ G. ghost_run M P G) call (call_walk P f Gl (goal_site k)) (is_total P f.effect) f.group
  ghosts-settle k f q inside vs s have input pre b call c Ss T us w e ev rest h a fit v x =
      let e0 = begin P sorted kept M k f q vs s have input pre in
      let ended = text-ok P sorted kept M k Level false Ends GhostEnds ends-rules (start P f) e0 (ghosts-at P sorted kept M means bound valid) (calls-at P sorted kept M means bound valid) (call_walk P f Gl (goal_site k)) true f.group
      (calls-ok P sorted kept M k f e0 (measures_of M f vs) (own-measures P sorted kept M k f q vs s have input pre) Level false Ends GhostEnds ends-rules (ghosts-at P sorted kept M means bound valid) (calls-at P sorted kept M means bound valid) true f.group
      (λ j g r t below ws x hv ip pr down. returned P sorted kept M means bound valid k f j g ws x r (all-end P sorted kept M means bound valid (suc g.group) j g r (t refl) (omega arith) (omega arith) ws x hv ip pr)))
      (λ c Ss T us w e ev rest h a fit v x. ghost-from-text P sorted kept M means bound valid _ c ev (x refl))
      c Ss None T us t_unit w e ev v_unit rest h a fit v in
      let g = ghost-from-text P sorted kept M means bound valid (Reaches P M w e T rest) c ev ended in
      record { from = g.enough; result = g.result; meets = g.meets; same = λ G le. g.done (record { allowance = G; open_calls = G }) le le }

  settle-step : (n : ℕ) → CallsSettle n → AllSettleTo n
  settle-step n calls-settle b k f q inside vs s have input pre F le =
      let x = body-ok P sorted kept M k f q vs s have input pre ℕ b AllSettle GhostSettles (settle-rules b) (λ G. ghost_run M P G) (λ G. clipped n b G) (is_total P f.effect)
      (kept.bodies k f q) (valid k f q inside)
      (calls-ok P sorted kept M k f (begin P sorted kept M k f q vs s have input pre) (measures_of M f vs) (own-measures P sorted kept M k f q vs s have input pre) ℕ b AllSettle GhostSettles (settle-rules b) (λ G. ghost_run M P G) (λ G. clipped n b G) (is_total P f.effect) f.group
      (λ j g r t below ws y hv ip pr down. calls-settle b k f j g r (omega arith) ws y hv ip pr))
      (ghosts-settle k f q inside vs s have input pre b (λ G. clipped n b G)) F in
      record { from = x.from; outcome = x.outcome; fine = x.fine; same = λ G l. sym (clip-same n b G f.body (reverse vs) (input_to f.effect s) F le) ∙ x.same G l }

  -- a result of a bounded run is that of the unbounded one
  unbounded : (b : Bool) (F G : ℕ) (e : Env) (s : Val) (c : Cm) (v : Val) (left : ℕ) → ev M P F G b e s c ≡ Done v left → ev M P F G false e s c ≡ Done v left
  unbounded false F G e s c v left q = q
  unbounded true F G e s c v left q = go (ev_limited M P F G e s c)
    where
      go : Limited (ev M P F G true e s c) (ev M P F G false e s c) → ev M P F G false e s c ≡ Done v left
      go (inl p) = let bad : Done v left ≡ Wide = sym q ∙ p in cc
      go (inr p) = sym p ∙ q

  settled-returned : (n : ℕ) (b : Bool) (k : ℕ) (f : Fn) (j : ℕ) (g : Fn) (vs : List Val) (s : Val) (l : ℕ) → fun_at P j ≡ Some g → l ≤ n → SettlesAt n b g vs s l → SettlesOn (Returned P sorted kept M k f j g vs s) (λ G. text M P (ghost_run M P G) (calls M P (ghost_run M P G) n b) b g.body (reverse vs) (input_to g.effect s) l)
  settled-returned n b k f j g vs s l q le x = record { from = x.from; outcome = x.outcome; fine = go x.outcome x.fine (x.same x.from (omega arith)); same = x.same }
    where
      go : (o : Outcome) → IsFine (Met P M g vs s) o → text M P (ghost_run M P x.from) (calls M P (ghost_run M P x.from) n b) b g.body (reverse vs) (input_to g.effect s) l ≡ o → IsFine (Returned P sorted kept M k f j g vs s) o
      go (Done v left) m p = record {
        ensures = m.ensures;
        has = m.has;
        equals = λ h. run-means P sorted kept M means bound valid k f j g vs s v l x.from left q
            (unbounded b l x.from (reverse vs) (input_to g.effect s) g.body v left (sym ((run_same M P (ghost_run M P x.from) n l b g.body (reverse vs) (input_to g.effect s) l le (omega arith)).0) ∙ p)) h;
      }
      go Out m p = tt
      go Wide m p = tt
      go (Stuck at) m p = absurd m
      go GhostOut m p = absurd m

  out-settles : (Q : Val → Type 0) → SettlesOn Q (λ G. Out)
  out-settles Q = record { from = 0; outcome = Out; fine = tt; same = λ G le. refl }

  calls-zero : CallsSettle zero
  calls-zero b k f j g q inside vs s have input pre l = go (nat_lt l 0)
    where
      go : (x : Bool) → SettlesOn (Returned P sorted kept M k f j g vs s) (λ G. if x then Out else Out)
      go true = out-settles _
      go false = out-settles _

  calls-suc : (n : ℕ) → AllSettleTo n → CallsSettle (suc n)
  calls-suc n all b k f j g q inside vs s have input pre l = ⊎_elim below past (cases_lt l (suc n))
    where
      below : l < suc n → SettlesOn (Returned P sorted kept M k f j g vs s) (λ G. clipped (suc n) b G j vs s l)
      below lt =
          let x = settled-returned n (b && not (is_ghost g.effect)) k f j g vs s l q (omega arith) (all (b && not (is_ghost g.effect)) j g q inside vs s have input pre l (omega arith)) in
          record {
            from = x.from;
            outcome = x.outcome;
            fine = x.fine;
            same = λ G le. ap (λ y. if y then calls M P (ghost_run M P G) (suc n) b j vs s l else Out) (lt-ltb l (suc n) lt)
                ∙ ap (λ o. if_there o (λ f. let b1 = b && not (is_ghost f.effect) in text M P (ghost_run M P G) (calls M P (ghost_run M P G) n b1) b1 f.body (reverse vs) (input_to f.effect s) l) (Stuck zero)) q
                ∙ x.same G le;
          }

      past : suc n ≤ l → SettlesOn (Returned P sorted kept M k f j g vs s) (λ G. clipped (suc n) b G j vs s l)
      past le = record { from = 0; outcome = Out; fine = tt; same = λ G z. ap (λ y. if y then calls M P (ghost_run M P G) (suc n) b j vs s l else Out) (Rattle.std.proofs.lemmas.Bool.le-ltb l (suc n) le) }

  all-settle : (n : ℕ) → AllSettleTo n
  all-settle zero = settle-step zero calls-zero
  all-settle (suc n) = settle-step (suc n) (calls-suc n (all-settle n))

  -- ---- good functions

  have-sorts : (ps : List Prm) (vs : List Val) → HaveAll ps vs → HasSorts (map (λ p. p.sort) ps) vs
  have-sorts [] [] h = tt
  have-sorts [] (v ∷ vs) h = absurd h
  have-sorts (p ∷ ps) [] h = absurd h
  have-sorts (p ∷ ps) (v ∷ vs) h = (h.0, have-sorts ps vs h.1)

  input-there : (x : Effect) (s : Val) → HasInput P x s → InputHas P (place_of x) s
  input-there (effect.User E) s h = h
  input-there effect.Pure s h = tt
  input-there effect.Ghost s h = tt
  input-there effect.Div s h = tt

  input-same : (x : Effect) (s : Val) → HasInput P x s → input_to x s ≡ s
  input-same (effect.User E) s h = refl
  input-same effect.Pure s h = sym h
  input-same effect.Ghost s h = sym h
  input-same effect.Div s h = sym h

  pub fun-good : (k : ℕ) (f : Fn) → fun_at P k ≡ Some f → f.group ≤ bound → Good P M f
  fun-good k f q inside vs s b have input may pre = record {
    safe = λ F.
        let x = all-settle F b k f q inside vs s (have-sorts f.params vs have) (input-there f.effect s input) pre F (omega arith) in
        (x.from, λ G le. subst (IsFine (Post M f vs s)) (sym (ap (λ t. ev M P F G b (reverse vs) t f.body) (sym (input-same f.effect s input)) ∙ x.same G le)) (fine-weaken (Met P M f vs s) (Post M f vs s) (λ v m. m.ensures) x.outcome x.fine));
    ends = λ total.
        let x = all-end P sorted kept M means bound valid (suc f.group) k f q total (omega arith) (omega arith) vs s (have-sorts f.params vs have) (input-there f.effect s input) pre in
        let z : x.enough + 0 ≡ x.enough = omega arith in
        (x.enough, (x.enough, λ G le. over x.enough (x.left + 0) x.result b G (ap (λ t. ev M P x.enough G false (reverse vs) t f.body) (sym (input-same f.effect s input)) ∙ ap (body-at P sorted kept M means bound valid f vs s (record { allowance = G; open_calls = x.enough })) (sym z) ∙ x.done (record { allowance = G; open_calls = x.enough }) 0 le (omega arith))));
  }
    where
      over : (F left : ℕ) (v : Val) (b : Bool) (G : ℕ) → ev M P F G false (reverse vs) s f.body ≡ Done v left → IsOver (ev M P F G b (reverse vs) s f.body)
      over F left v false G p = subst IsOver (sym p) tt
      over F left v true G p = go (ev_limited M P F G (reverse vs) s f.body)
        where
          go : Limited (ev M P F G true (reverse vs) s f.body) (ev M P F G false (reverse vs) s f.body) → IsOver (ev M P F G true (reverse vs) s f.body)
          go (inl r) = subst IsOver (sym r) tt
          go (inr r) = subst IsOver (sym (r ∙ p)) tt

-- ---- the goals of one function, among those of the program

there-before : (fs : List (Option Fn)) (k : ℕ) (f : Fn) → if_there (slice_get fs k) (λ f. f) None ≡ Some f → k < length fs
there-before [] k f q = cc
there-before (g ∷ fs) zero f q = omega arith
there-before (g ∷ fs) (suc k) f q = let lt = there-before fs k f q in omega arith

goals-at : (P : Prog) (M : Meaning) (n i k : ℕ) → GoalsValid M (goals_from P i n) → i ≤ k → k < i + n → GoalsValid M (fun_goals P k)
goals-at P M zero i k v le lt = absurd (omega arith)
goals-at P M (suc n) i k v le lt = ⊎_elim
    (λ less. goals-at P M n (suc i) k (valid-right M (fun_goals P i) _ v) less (omega arith))
    (λ more. let same : i ≡ k = omega arith in subst (λ x. GoalsValid M (fun_goals P x)) same (valid-left M (fun_goals P i) _ v))
    (cases_lt i k)

goals-of : (P : Prog) (M : Meaning) → GoalsValid M (goals_of P) → (k : ℕ) (f : Fn) → fun_at P k ≡ Some f → GoalsValid M (fun_goals P k)
goals-of P M goals k f q = goals-at P M (length P.funs) 0 k goals (omega arith) (let lt = there-before P.funs k f q in omega arith)

-- where the goals of the functions up to a group are valid, these functions are good
pub group-law : (P : Prog) → GroupLaw P
group-law P sorted disciplined M means n valid k f q inside = fun-good P sorted (disciplined-kept P sorted disciplined) M means n valid k f q inside

-- where every goal of a program is valid, every function of it is good
pub good-law : (P : Prog) → GoodLaw P
good-law P sorted disciplined M means goals k f q =
    let lt = there-before P.funs k f q in
    let le = disciplined.groups k f q in
    group-law P sorted disciplined M means (length P.funs) (λ k f q inside. goals-of P M goals k f q) k f q (omega arith)
