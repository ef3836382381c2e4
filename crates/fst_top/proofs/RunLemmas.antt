-- Runs of the first programs end after a number of units, and erasure keeps them.
use Rattle.std.proofs.Common.{◌≡◌, ◌⊎◌, inl, inr, ℕ, zero, suc, ◌+◌, ◌<◌, ◌≤◌, Bool, true, false, if◌then◌else◌, List, [], ◌∷◌, ◌++◌, map, reverse, filter, not, length, get_or, slice_get, Option, Some, None, option_map, IsTrue, refl, sym, ap, ap₂, ◌∙◌, subst, arith}
use Rattle.std.specs.Prelude.{⊤}
use Rattle.std.proofs.lemmas.List.Quantifiers.{position-Some}
use Rattle.std.proofs.lemmas.Option.{slice_get-get_or}
use mathlib.Core.List.{reverse_aux}
use Rattle.fst_base.specs.declared.op.Op.TheVariants as op
use Rattle.fst_base.specs.Sorts.{Srt, s_bool}
use Rattle.fst_base.specs.Values.{Val, v_unit, v_int, v_bool, same}
use Rattle.fst_base.specs.Primitives.{is_true}
use Rattle.fst_terms.specs.Terms.{Tm, t_var, t_int, t_bool, t_unit, t_prim, t_if, t_app, t_let, t_end, t_more}
use Rattle.fst_terms.specs.Meaning.{Env, Meaning, lookup}
use Rattle.fst_terms.specs.Propositional.{TmPropositional}
use Rattle.fst_program.specs.Texts.{Cm, c_ret, c_let, c_if, Prm, Fn, Prog, if_there, fun_at}
use Rattle.fst_program.specs.Evaluation.{Got, got, eval, apply}
use Rattle.fst_program.specs.Runs.{Outcome, Done, Out, Wide, Stuck, spend, then_do, Calls, Ghosts, text, calls, ghost_run, ev}
use Rattle.fst_program.specs.Erasure.{Scope, kept, erased_term, erased_text, erased_param, erased_fun, unless_ghost, erased, erased_run}
use Rattle.fst_program.specs.Entry.{is_main, main_of}
use Rattle.fst_program.specs.Good.{body_run}
use Rattle.fst_machine.specs.CodeRuns.{code_run}
use Rattle.fst_top.specs.First.{TermFirst, TextFirst, IsFirst}
use Rattle.fst_code.specs.Sound.{is_there}
use Rattle.fst_top.specs.Built.{CmBuilt, ParamsBuilt, FnBuilt, IsBuilt, sorts_of}
use Rattle.fst_top.specs.Code.{without_clauses}

-- ---- runs that end

-- the run takes n units and gives r: with less it is out of fuel
abbrev pub Takes : (n : ℕ) → Val → (run : (F : ℕ) → Outcome) → Type 0
Takes n r run = (F : ℕ) → ((F < n) × (run F ≡ Out)) ⊎ ((left : ℕ) × ((F ≡ n + left) × (run F ≡ Done r left)))

takes-now : (v : Val) → Takes 0 v (λ l. Done v l)
takes-now v F = inr (F, (omega arith, refl))

-- after a unit
pub takes-unit : (n : ℕ) (r : Val) (k : ℕ → Outcome) → Takes n r k → Takes (suc n) r (λ F. spend F k)
takes-unit n r k h zero = inl (omega arith, refl)
takes-unit n r k h (suc l) = go (h l)
  where
    go : ((l < n) × (k l ≡ Out)) ⊎ ((left : ℕ) × ((l ≡ n + left) × (k l ≡ Done r left))) → ((suc l < suc n) × (k l ≡ Out)) ⊎ ((left : ℕ) × ((suc l ≡ suc n + left) × (k l ≡ Done r left)))
    go (inl p) = inl (omega (arith, p.0), p.1)
    go (inr p) = inr (p.0, (omega (arith, p.1.0), p.1.1))

-- after a part
pub takes-then : (n m : ℕ) (v r : Val) (run : ℕ → Outcome) (k : Val → ℕ → Outcome) → Takes n v run → Takes m r (k v) → Takes (n + m) r (λ F. then_do (run F) k)
takes-then n m v r run k h q F = go (h F)
  where
    rest : (left : ℕ) → F ≡ n + left → run F ≡ Done v left → ((left < m) × (k v left ≡ Out)) ⊎ ((l : ℕ) × ((left ≡ m + l) × (k v left ≡ Done r l))) → ((F < n + m) × (then_do (run F) k ≡ Out)) ⊎ ((l : ℕ) × ((F ≡ n + m + l) × (then_do (run F) k ≡ Done r l)))
    rest left e d (inl p) = inl (omega (arith, p.0, e), rw d p.1)
    rest left e d (inr p) = inr (p.0, (omega (arith, p.1.0, e), rw d p.1.1))

    go : ((F < n) × (run F ≡ Out)) ⊎ ((left : ℕ) × ((F ≡ n + left) × (run F ≡ Done v left))) → ((F < n + m) × (then_do (run F) k ≡ Out)) ⊎ ((l : ℕ) × ((F ≡ n + m + l) × (then_do (run F) k ≡ Done r l)))
    go (inl p) = inl (omega (arith, p.0), rw (p.1) refl)
    go (inr p) = rest p.0 p.1.0 p.1.1 (q p.0)

-- ---- terms of the first programs have values

-- the term's value, bounded or not
abbrev Valued : Tm → Env → Type 0
Valued t e = (v : Val) × ((b : Bool) → eval b t e ≡ got v)

equation-got : (b : Bool) (S : Srt) (at : ℕ) (v w : Val) → apply b op.Eq S at (v ∷ w ∷ []) ≡ got (v_bool (same v w))
equation-got true S at v w = refl
equation-got false S at v w = refl

chosen : (x : Bool) (v w : Val) (g h : Got) → g ≡ got v → h ≡ got w → (if x then g else h) ≡ got (if x then v else w)
chosen true v w g h p q = p
chosen false v w g h p q = q

first-valued : (t : Tm) (e : Env) → TermFirst t → Valued t e
first-valued (t_var i) e h = (lookup e i, λ b. refl)
first-valued (t_int n) e h = (v_int n, λ b. refl)
first-valued (t_bool x) e h = (v_bool x, λ b. refl)
first-valued t_unit e h = (v_unit, λ b. refl)
first-valued (t_prim op.Eq S (t_more t (t_more u t_end)) at) e h =
    let v = first-valued t e h.0 in
    let w = first-valued u e h.1 in
    (v_bool (same v.0 w.0), λ b. rw (v.1 b, w.1 b) (equation-got b S at v.0 w.0))
first-valued (t_if c t u) e h =
    let x = first-valued c e h.0 in
    let v = first-valued t e h.1 in
    let w = first-valued u e h.2 in
    ((if is_true x.0 then v.0 else w.0), λ b. rw (x.1 b) (chosen (is_true x.0) v.0 w.0 (eval b t e) (eval b u e) (v.1 b) (w.1 b)))
first-valued t e h = absurd h

-- ---- texts of the first programs end

-- the text's runs end with a result, in some number of units, whatever applications mean and its calls and ghost parts would give
pub record Ends (c : Cm) (e : Env) (input : Val) : Type 0 where
  pub units : ℕ
  pub result : Val
  pub takes : (M : Meaning) (P : Prog) (gh : Ghosts) (call : Calls) (b : Bool) → Takes units result (text M P gh call b c e input)

side-ends : (c d : Cm) (e : Env) (input : Val) (x : Bool) → Ends c e input → Ends d e input → Ends (if x then c else d) e input
side-ends c d e input true h k = h
side-ends c d e input false h k = k

side-run : (M : Meaning) (P : Prog) (gh : Ghosts) (call : Calls) (b : Bool) (c d : Cm) (e : Env) (input : Val) (x : Bool) (l : ℕ) → text M P gh call b (if x then c else d) e input l ≡ (if x then text M P gh call b c e input l else text M P gh call b d e input l)
side-run M P gh call b c d e input true l = refl
side-run M P gh call b c d e input false l = refl

takes-side : (M : Meaning) (P : Prog) (gh : Ghosts) (call : Calls) (b : Bool) (c d : Cm) (e : Env) (input : Val) (x : Bool) (n : ℕ) (r : Val) → Takes n r (text M P gh call b (if x then c else d) e input) → Takes n r (λ l. if x then text M P gh call b c e input l else text M P gh call b d e input l)
takes-side M P gh call b c d e input true n r h = h
takes-side M P gh call b c d e input false n r h = h

pub first-ends : (c : Cm) (e : Env) (input : Val) → TextFirst c → Ends c e input
first-ends (c_ret t) e input h =
    let v = first-valued t e h in
    record { units = 1; result = v.0; takes = λ M P gh call b. rw (v.1 b) (takes-unit 0 v.0 (λ l. Done v.0 l) (takes-now v.0)) }
first-ends (c_let x c1 c2) e input h =
    let first = first-ends c1 e v_unit h.0 in
    let rest = first-ends c2 (first.result ∷ e) input h.1 in
    record {
      units = suc (first.units + rest.units);
      result = rest.result;
      takes = λ M P gh call b. takes-unit (first.units + rest.units) rest.result _
          (takes-then first.units rest.units first.result rest.result (text M P gh call b c1 e v_unit) (λ v r. text M P gh call b c2 (v ∷ e) input r) (first.takes M P gh call b) (rest.takes M P gh call b));
    }
first-ends (c_if t c1 c2) e input h =
    let v = first-valued t e h.0 in
    let side = side-ends c1 c2 e input (is_true v.0) (first-ends c1 e input h.1) (first-ends c2 e input h.2) in
    record {
      units = suc side.units;
      result = side.result;
      takes = λ M P gh call b. rw (v.1 b) (takes-unit side.units side.result (λ l. if is_true v.0 then text M P gh call b c1 e input l else text M P gh call b c2 e input l) (takes-side M P gh call b c1 c2 e input (is_true v.0) side.units side.result (side.takes M P gh call b)));
    }
first-ends c e input h = absurd h

-- code of the first programs is done or out of fuel
first-outcome : (P : Prog) (k F : ℕ) (vs : List Val) → IsFirst P k → (code_run P k F vs v_unit ≡ Out) ⊎ ((v : Val) × ((left : ℕ) × (code_run P k F vs v_unit ≡ Done v left)))
first-outcome P k F vs h = go (fun_at P k) h
  where
    split : (n : ℕ) (v : Val) (o : Outcome) → ((F < n) × (o ≡ Out)) ⊎ ((left : ℕ) × ((F ≡ n + left) × (o ≡ Done v left))) → (o ≡ Out) ⊎ ((v : Val) × ((left : ℕ) × (o ≡ Done v left)))
    split n v o (inl p) = inl p.1
    split n v o (inr p) = inr (v, (p.0, p.1.1))

    go : (o : Option Fn) → if_there o (λ f. TextFirst f.body) ⊥
        → (if_there o (λ f. ev (λ k vs. v_unit) P F 0 true (reverse vs) v_unit f.body) (Stuck 0) ≡ Out)
        ⊎ ((v : Val) × ((left : ℕ) × (if_there o (λ f. ev (λ k vs. v_unit) P F 0 true (reverse vs) v_unit f.body) (Stuck 0) ≡ Done v left)))
    go None h = absurd h
    go (Some f) h =
        let ends = first-ends f.body (reverse vs) v_unit h in
        split ends.units ends.result _ (ends.takes (λ k vs. v_unit) P (ghost_run (λ k vs. v_unit) P 0) (calls (λ k vs. v_unit) P (ghost_run (λ k vs. v_unit) P 0) F true) true F)

pub never-wide : (P Q : Prog) (k j F : ℕ) (vs ws : List Val) (s : Val) → IsFirst P k → Q ≡ P → j ≡ k → ws ≡ vs → s ≡ v_unit → code_run Q j F ws s ≡ Wide → ⊥
never-wide P Q k j F vs ws s h p q r i e = go (first-outcome P k F vs h)
  where
    wide : code_run P k F vs v_unit ≡ Wide
    wide = subst (λ s. code_run P k F vs s ≡ Wide) i (rw (sym p, sym q, sym r) e)

    go : (code_run P k F vs v_unit ≡ Out) ⊎ ((v : Val) × ((left : ℕ) × (code_run P k F vs v_unit ≡ Done v left))) → ⊥
    go (inl o) = let wrong : Out ≡ Wide = sym o ∙ wide in cc (wrong)
    go (inr d) = let wrong : Done d.0 d.1.0 ≡ Wide = sym d.1.1 ∙ wide in cc (wrong)

pub never-stuck : (P Q : Prog) (k j F : ℕ) (vs ws : List Val) (s : Val) (at : ℕ) → IsFirst P k → Q ≡ P → j ≡ k → ws ≡ vs → s ≡ v_unit → code_run Q j F ws s ≡ Stuck at → ⊥
never-stuck P Q k j F vs ws s at h p q r i e = go (first-outcome P k F vs h)
  where
    stuck : code_run P k F vs v_unit ≡ Stuck at
    stuck = subst (λ s. code_run P k F vs s ≡ Stuck at) i (rw (sym p, sym q, sym r) e)

    go : (code_run P k F vs v_unit ≡ Out) ⊎ ((v : Val) × ((left : ℕ) × (code_run P k F vs v_unit ≡ Done v left))) → ⊥
    go (inl o) = let wrong : Out ≡ Stuck at = sym o ∙ stuck in cc (wrong)
    go (inr d) = let wrong : Done d.0 d.1.0 ≡ Stuck at = sym d.1.1 ∙ stuck in cc (wrong)

-- ---- built text

propositional-first : (Ss : List Srt) (t : Tm) (S : Srt) → TmPropositional Ss t S → TermFirst t
propositional-first Ss (t_var i) S h = tt
propositional-first Ss (t_bool b) S h = tt
propositional-first Ss t_unit S h = tt
propositional-first Ss (t_prim op.Eq T (t_more t (t_more u t_end)) at) S h = (propositional-first Ss t h.2.0 h.2.1.1, propositional-first Ss u h.2.0 h.2.1.2)
propositional-first Ss (t_if c t u) S h = (propositional-first Ss c _ h.1, propositional-first Ss t _ h.2, propositional-first Ss u _ h.3)
propositional-first Ss t S h = absurd h

pub built-first : (Ss : List Srt) (c : Cm) (S : Srt) → CmBuilt Ss c S → TextFirst c
built-first Ss (c_ret t) S h = propositional-first Ss t S h
built-first Ss (c_let x (c_ret t) c) S h = (propositional-first Ss t h.0 h.1.0, built-first (h.0 ∷ Ss) c S h.1.1)
built-first Ss (c_if t c d) S h = (propositional-first Ss t s_bool h.0, built-first Ss c S h.1, built-first Ss d S h.2)
built-first Ss c S h = absurd h

-- no variable is a ghost one
abbrev AllShown : Scope → Type 0
AllShown [] = ⊤
AllShown (g ∷ scope) = (g ≡ false) × AllShown scope

kept-shown : (scope : Scope) (i : ℕ) → AllShown scope → kept scope i ≡ i
kept-shown [] i h = refl
kept-shown (g ∷ scope) zero h = refl
kept-shown (g ∷ scope) (suc i) h = rw (h.0) (ap suc (kept-shown scope i h.1))

term-kept : (scope : Scope) (Ss : List Srt) (t : Tm) (S : Srt) → AllShown scope → TmPropositional Ss t S → erased_term scope t ≡ t
term-kept scope Ss (t_var i) S k h = ap t_var (kept-shown scope i k)
term-kept scope Ss (t_bool b) S k h = refl
term-kept scope Ss t_unit S k h = refl
term-kept scope Ss (t_prim op.Eq T (t_more t (t_more u t_end)) at) S k h = ap₂ (λ x y. t_prim op.Eq T (t_more x (t_more y t_end)) at) (term-kept scope Ss t h.2.0 k h.2.1.1) (term-kept scope Ss u h.2.0 k h.2.1.2)
term-kept scope Ss (t_if c t u) S k h = rw (term-kept scope Ss c s_bool k h.1, term-kept scope Ss t s_bool k h.2, term-kept scope Ss u s_bool k h.3) refl
term-kept scope Ss t S k h = absurd h

text-kept : (P : Prog) (scope : Scope) (Ss : List Srt) (c : Cm) (S : Srt) → AllShown scope → CmBuilt Ss c S → erased_text P scope c ≡ c
text-kept P scope Ss (c_ret t) S k h = ap c_ret (term-kept scope Ss t S k h)
text-kept P scope Ss (c_let x (c_ret t) c) S k h = ap₂ (λ u d. c_let x (c_ret u) d) (term-kept scope Ss t h.0 k h.1.0) (text-kept P (false ∷ scope) (h.0 ∷ Ss) c S (refl, k) h.1.1)
text-kept P scope Ss (c_if t c d) S k h = rw (term-kept scope Ss t s_bool k h.0, text-kept P scope Ss c S k h.1, text-kept P scope Ss d S k h.2) refl
text-kept P scope Ss c S k h = absurd h

-- ---- built functions

turned-shown : (hs ks : Scope) → AllShown hs → AllShown ks → AllShown (reverse_aux hs ks)
turned-shown [] ks h k = k
turned-shown (x ∷ hs) ks h k = turned-shown hs (x ∷ ks) h.1 (h.0, k)

params-shown : (ps : List Prm) → ParamsBuilt ps → AllShown (map (λ p. p.hidden) ps)
params-shown [] h = tt
params-shown (p ∷ ps) h = (h.1, params-shown ps h.3)

shown-params : (ps : List Prm) → ParamsBuilt ps → filter (λ p. not p.hidden) ps ≡ ps
shown-params [] h = refl
shown-params (p ∷ ps) h = go p.hidden h.1 (shown-params ps h.3)
  where
    go : (b : Bool) → b ≡ false → filter (λ q. not q.hidden) ps ≡ ps → (if not b then p ∷ filter (λ q. not q.hidden) ps else filter (λ q. not q.hidden) ps) ≡ p ∷ ps
    go true e more = cc
    go false e more = ap (λ qs. p ∷ qs) more

-- a built function is erased by leaving its clauses out
pub fun-erased : (P : Prog) (f : Fn) → FnBuilt f → unless_ghost P f ≡ Some (without_clauses f)
fun-erased P f h =
    let shown = turned-shown (map (λ p. p.hidden) f.params) [] (params-shown f.params h.params) tt in
    rw (h.pure, shown-params f.params h.params, text-kept P (reverse (map (λ p. p.hidden) f.params)) (sorts_of f.params) f.body f.sort shown h.body) refl

-- ---- built programs

-- the function at a place of a list
abbrev there : List (Option Fn) → ℕ → Option Fn
there fs k = if_there (slice_get fs k) (λ f. f) None

map-there : (g : Fn → Option Fn) (fs : List (Option Fn)) (k : ℕ) (f : Fn) → there fs k ≡ Some f → there (map (λ x. if_there x g None) fs) k ≡ g f
map-there g [] zero f e = cc
map-there g [] (suc k) f e = cc
map-there g (x ∷ fs) zero f e = rw e refl
map-there g (x ∷ fs) (suc k) f e = map-there g fs k f e

-- main of a built program stays when the program is erased
pub erased-there : (P : Prog) (k : ℕ) (f : Fn) → IsBuilt P → fun_at P k ≡ Some f → fun_at (erased P) k ≡ Some (without_clauses f)
erased-there P k f built e = map-there (unless_ghost P) P.funs k f e ∙ fun-erased P f (built.funs k f e)

pub erased-first : (P : Prog) (k : ℕ) (f : Fn) → IsBuilt P → fun_at P k ≡ Some f → IsFirst (erased P) k
erased-first P k f built e = subst (λ o. if_there o (λ g. TextFirst g.body) ⊥) (sym (erased-there P k f built e)) (built-first (sorts_of f.params) f.body f.sort (built.funs k f e).body)

pub first-there : (P : Prog) (k : ℕ) → IsFirst P k → IsTrue (is_there P k)
first-there P k h = go (fun_at P k) h
  where
    go : (o : Option Fn) → if_there o (λ f. TextFirst f.body) ⊥ → IsTrue (if_there o (λ f. true) false)
    go None h = absurd h
    go (Some f) h = refl

-- how the runs of main on some values end
pub main-ends : (P : Prog) (k : ℕ) (f : Fn) (vs : List Val) → IsBuilt P → fun_at P k ≡ Some f → Ends f.body (reverse vs) v_unit
main-ends P k f vs built e = first-ends f.body (reverse vs) v_unit (built-first (sorts_of f.params) f.body f.sort (built.funs k f e).body)

-- main is one of the functions
pub main-there : (P : Prog) (k : ℕ) → main_of P ≡ Some k → (k < length P.funs) × ((f : Fn) × (fun_at P k ≡ Some f))
main-there P k e =
    let found = position-Some (λ f. if_there f is_main false) P.funs k None e in
    let at : slice_get P.funs k ≡ Some (get_or P.funs k None) = slice_get-get_or P.funs k None found.0 in
    (found.0, go (get_or P.funs k None) found.1 (ap (λ o. if_there o (λ f. f) None) at))
  where
    go : (x : Option Fn) → if_there x is_main false ≡ true → fun_at P k ≡ x → (f : Fn) × (fun_at P k ≡ Some f)
    go None p q = cc
    go (Some f) p q = (f, q)

-- with enough units a run is done, and with less out of fuel
pub takes-enough : (n : ℕ) (r : Val) (run : ℕ → Outcome) → Takes n r run → (F : ℕ) → n ≤ F → (left : ℕ) × (run F ≡ Done r left)
takes-enough n r run h F le = go (h F)
  where
    go : ((F < n) × (run F ≡ Out)) ⊎ ((left : ℕ) × ((F ≡ n + left) × (run F ≡ Done r left))) → (left : ℕ) × (run F ≡ Done r left)
    go (inl p) = absurd (omega (arith, p.0, le))
    go (inr p) = (p.0, p.1.1)

pub takes-more : (n : ℕ) (r : Val) (run : ℕ → Outcome) → Takes n r run → (F : ℕ) → F < n → run F ≡ Out
takes-more n r run h F less = go (h F)
  where
    go : ((F < n) × (run F ≡ Out)) ⊎ ((left : ℕ) × ((F ≡ n + left) × (run F ≡ Done r left))) → run F ≡ Out
    go (inl p) = p.1
    go (inr p) = let e = p.1.0 in absurd (omega (arith, e, less))

-- the erased run is a run of main's body
pub erased-takes : (P : Prog) (k : ℕ) (f : Fn) (vs : List Val) → IsBuilt P → (e : fun_at P k ≡ Some f) → (ends : Ends f.body (reverse vs) v_unit) → Takes ends.units ends.result (λ F. erased_run P k F vs v_unit)
erased-takes P k f vs built e ends F =
    rw (erased-there P k f built e) (ends.takes (λ k vs. v_unit) (erased P) (ghost_run (λ k vs. v_unit) (erased P) 0) (calls (λ k vs. v_unit) (erased P) (ghost_run (λ k vs. v_unit) (erased P) 0) F true) true F)

pub body-takes : (P : Prog) (M : Meaning) (f : Fn) (vs : List Val) (b : Bool) (G : ℕ) (ends : Ends f.body (reverse vs) v_unit) → Takes ends.units ends.result (λ F. body_run P M f vs v_unit b F G)
body-takes P M f vs b G ends F = ends.takes M P (ghost_run M P G) (calls M P (ghost_run M P G) F b) b F
