-- Erasure keeps the outcomes of runs that are neither stuck nor stopped in a ghost part: beside a bounded run of the program the erased run
-- takes the same steps. A ghost part is unbounded, so it isn't past 128 bits, and its want of fuel is hidden; so it is done, or the whole
-- run is stuck or stopped. Goodness is asked for of the whole function alone, not of its parts.
use Rattle.std.proofs.Common.{◌≡◌, ℕ, zero, suc, Bool, true, false, not, ◌&&◌, if◌then◌else◌, List, [], ◌∷◌, ◌++◌, map, filter, reverse, length, slice_get, Option, Some, None, refl, sym, ap, ◌∙◌, subst, arith, IsTrue}
use Rattle.std.specs.Prelude.{⊤}
use mathlib.Core.List.{reverse_aux}
use Rattle.std.specs.List.{list_all}
use Rattle.fst_base.specs.Values.{Val, v_unit, v_bool, v_pair, v_none, v_some, v_nil, v_cons, v_inl, v_inr}
use Rattle.fst_base.specs.Primitives.{is_true}
use Rattle.fst_terms.specs.Terms.{Tm, Tms, t_var, t_int, t_bool, t_unit, t_prim, t_if, t_app, t_let, t_end, t_more}
use Rattle.fst_terms.specs.Meaning.{Env, Meaning, lookup, value}
use Rattle.fst_program.specs.declared.comp.Con.{Con}
use Rattle.fst_program.specs.declared.comp.Con.TheVariants as con
use Rattle.fst_program.specs.declared.effect.Effect.{Effect}
use Rattle.fst_program.specs.declared.effect.Effect.TheVariants as effect
use Rattle.fst_program.specs.Texts.{Dm, DmArms, d_ret, d_let, d_if, d_match, d_run_f, d_run_g, d_end, d_arm, Cm, CmArms, c_ret, c_let, c_bind, c_ghost, c_assert, c_if, c_match, c_call, c_reify, c_reflect, c_return, c_lift, c_end, c_arm, Prm, Fn, Prog, if_there, fun_at, params_of, bind_text, return_text, lift_text, is_ghost}
use Rattle.fst_program.specs.Evaluation.{Got, got, got_wide, got_stuck, Gots, gots, gots_wide, gots_stuck, gots_more, eval, evals, arguments}
use Rattle.fst_program.specs.Runs.{Outcome, Done, Out, Wide, Stuck, GhostOut, then_do, spend, with_value, with_values, hide, parts, if_fits, Run, dm, dm_arm, no_f, no_g, input_to, Calls, Ghosts, text, arm, calls, ghost_run, ev}
use Rattle.fst_program.specs.Erasure.{Scope, kept, erased_term, erased_terms, erased_args, erased_text, erased_arms, erased_param, erased_fun, unless_ghost, erased, erased_run}
use Rattle.fst_program.specs.Good.{HaveAll, MayBeBounded, Post, IsFine, IsOver, body_run}
use Rattle.fst_program.specs.Places.{is_hidden, TmShown, TmsShown}
use Rattle.fst_program.specs.Discipline.{body_scope}
use Rattle.fst_erasure.specs.ErasureLaws.{shown_values, ErasureKeeps}
use Rattle.fst_erasure.proofs.Shown.{ArgsShown, part_count, CmShown, ArmsShown, GhostsApart, ghosts-apart, shown_env}
use Rattle.fst_program.proofs.WideLemmas.{GotNarrow, Narrow, eval_narrow, ev_narrow}

-- ---- variables and terms

shown-lookup : (scope : Scope) (e : Env) (i : ℕ) → is_hidden scope i ≡ false → lookup (shown_env scope e) (kept scope i) ≡ lookup e i
shown-lookup [] e i h = refl
shown-lookup (g ∷ scope) [] zero h = refl
shown-lookup (g ∷ scope) [] (suc i) h = refl
shown-lookup (true ∷ scope) (v ∷ e) zero h = cc
shown-lookup (false ∷ scope) (v ∷ e) zero h = refl
shown-lookup (true ∷ scope) (v ∷ e) (suc i) h = shown-lookup scope e i h
shown-lookup (false ∷ scope) (v ∷ e) (suc i) h = shown-lookup scope e i h

mutual
  pub erased-eval : (b : Bool) (scope : Scope) (t : Tm) (e : Env) → TmShown scope t → eval b (erased_term scope t) (shown_env scope e) ≡ eval b t e
  erased-eval b scope (t_var i) e h = ap got (shown-lookup scope e i h)
  erased-eval b scope (t_int n) e h = refl
  erased-eval b scope (t_bool x) e h = refl
  erased-eval b scope t_unit e h = refl
  erased-eval b scope (t_prim op S ts at) e h = rw (erased-evals b scope ts e h) refl
  erased-eval b scope (t_if c t u) e h = rw (erased-eval b scope c e h.0, erased-eval b scope t e h.1, erased-eval b scope u e h.2) refl
  erased-eval b scope (t_app k S ts) e h = refl
  erased-eval b scope (t_let x t u) e h = refl

  erased-evals : (b : Bool) (scope : Scope) (ts : Tms) (e : Env) → TmsShown scope ts → evals b (erased_terms scope ts) (shown_env scope e) ≡ evals b ts e
  erased-evals b scope t_end e h = refl
  erased-evals b scope (t_more t ts) e h = rw (erased-eval b scope t e h.0, erased-evals b scope ts e h.1) refl

-- ---- arguments

-- what arguments give without the ghost ones: as many values as there are parameters; past 128 bits stays; nothing is said of a stuck one
abbrev GotsKept : List Prm → Gots → Gots → Type 0
GotsKept ps (gots vs) r = (length vs ≡ length ps) × (r ≡ gots (shown_values ps vs))
GotsKept ps gots_wide r = r ≡ gots_wide
GotsKept ps (gots_stuck at) r = ⊤

hidden-kept : (p : Prm) (ps : List Prm) (g : Got) (r r' : Gots) → p.hidden ≡ true → GotNarrow g → GotsKept ps r r' → GotsKept (p ∷ ps) (gots_more g r) r'
hidden-kept p ps (got v) (gots vs) r' q n h = (ap suc h.0, rw q (h.1))
hidden-kept p ps (got v) gots_wide r' q n h = h
hidden-kept p ps (got v) (gots_stuck at) r' q n h = tt
hidden-kept p ps got_wide r r' q n h = absurd n
hidden-kept p ps (got_stuck at) r r' q n h = tt

more-kept : (p : Prm) (ps : List Prm) (g g' : Got) (r r' : Gots) → p.hidden ≡ false → g' ≡ g → GotsKept ps r r' → GotsKept (p ∷ ps) (gots_more g r) (gots_more g' r')
more-kept p ps (got v) g' (gots vs) r' q e h = (ap suc h.0, rw (q, e, h.1) refl)
more-kept p ps (got v) g' gots_wide r' q e h = rw (e, h) refl
more-kept p ps (got v) g' (gots_stuck at) r' q e h = tt
more-kept p ps got_wide g' r r' q e h = rw e refl
more-kept p ps (got_stuck at) g' r r' q e h = tt

module _ (P : Prog) where
  abbrev erased_params : List Prm → List Prm
  erased_params ps = map (erased_param P) (filter (λ p. not p.hidden) ps)

  arguments-kept : (scope : Scope) (ps : List Prm) (ts : Tms) (e : Env) → ArgsShown scope ps ts → GotsKept ps (arguments true ps ts e) (arguments true (erased_params ps) (erased_args scope ps ts) (shown_env scope e))
  arguments-kept scope [] t_end e h = (refl, refl)
  arguments-kept scope [] (t_more t ts) e h = absurd h
  arguments-kept scope (p ∷ ps) t_end e h = absurd h
  arguments-kept scope (p ∷ ps) (t_more t ts) e h = go p.hidden refl h.0 (arguments-kept scope ps ts e h.1)
    where
      go : (x : Bool) → p.hidden ≡ x → (p.hidden ≡ false → TmShown scope t) → GotsKept ps (arguments true ps ts e) (arguments true (erased_params ps) (erased_args scope ps ts) (shown_env scope e))
          → GotsKept (p ∷ ps) (gots_more (eval (true && not x) t e) (arguments true ps ts e)) (arguments true (map (erased_param P) (if not x then p ∷ filter (λ p. not p.hidden) ps else filter (λ p. not p.hidden) ps)) (if x then erased_args scope ps ts else t_more (erased_term scope t) (erased_args scope ps ts)) (shown_env scope e))
      go true q k r = hidden-kept p ps (eval false t e) _ _ q (eval_narrow t e) r
      go false q k r = more-kept p ps (eval true t e) _ _ _ q (ap (λ y. eval (true && not y) (erased_term scope t) (shown_env scope e)) q ∙ erased-eval true scope t e (k q)) r

-- ---- environments

-- a function's arguments as the environment of its body, without the ghost ones
turned-shown : (ps : List Prm) (vs : List Val) (scope : Scope) (e : Env) → length vs ≡ length ps → shown_env (reverse_aux (map (λ p. p.hidden) ps) scope) (reverse_aux vs e) ≡ reverse_aux (shown_values ps vs) (shown_env scope e)
turned-shown [] [] scope e q = refl
turned-shown [] (v ∷ vs) scope e q = cc
turned-shown (p ∷ ps) [] scope e q = cc
turned-shown (p ∷ ps) (v ∷ vs) scope e q = turned-shown ps vs (p.hidden ∷ scope) (v ∷ e) (omega (arith, q)) ∙ go p.hidden refl
  where
    go : (x : Bool) → p.hidden ≡ x → reverse_aux (shown_values ps vs) (shown_env (p.hidden ∷ scope) (v ∷ e)) ≡ reverse_aux (shown_values (p ∷ ps) (v ∷ vs)) (shown_env scope e)
    go true q = rw q refl
    go false q = rw q refl

-- the names of a pattern aren't ghost ones
names-shown : (xs : List (List ℕ)) (vs : List Val) (scope : Scope) (e : Env) → length vs ≡ length xs → shown_env (map (λ x. false) xs ++ scope) (vs ++ e) ≡ vs ++ shown_env scope e
names-shown [] [] scope e q = refl
names-shown [] (v ∷ vs) scope e q = cc
names-shown (x ∷ xs) [] scope e q = cc
names-shown (x ∷ xs) (v ∷ vs) scope e q = ap (λ us. v ∷ us) (names-shown xs vs scope e (omega (arith, q)))

-- a value has as many parts as its constructor
abbrev PartsCount : Con → Option (List Val) → Type 0
PartsCount c None = ⊤
PartsCount c (Some vs) = length vs ≡ part_count c

parts-count : (c : Con) (v : Val) → PartsCount c (parts c v)
parts-count con.True (v_bool true) = refl
parts-count con.False (v_bool false) = refl
parts-count con.Empty v_none = refl
parts-count con.Full (v_some a) = refl
parts-count con.Nil v_nil = refl
parts-count con.Cons (v_cons a b) = refl
parts-count con.Left (v_inl a) = refl
parts-count con.Right (v_inr a) = refl
parts-count con.Pair (v_pair a b) = refl
parts-count c v = tt

-- ---- outcomes

-- the same outcome, unless the unerased run is stuck or stopped in a ghost part
abbrev pub Keeps : Outcome → Outcome → Type 0
Keeps (Stuck at) p = ⊤
Keeps GhostOut p = ⊤
Keeps o p = p ≡ o

spend-keeps : (F : ℕ) (k k' : ℕ → Outcome) → ((l : ℕ) → Keeps (k l) (k' l)) → Keeps (spend F k) (spend F k')
spend-keeps zero k k' h = refl
spend-keeps (suc l) k k' h = h l

then-keeps : (o o' : Outcome) (k k' : Val → ℕ → Outcome) → Keeps o o' → ((v : Val) (l : ℕ) → Keeps (k v l) (k' v l)) → Keeps (then_do o k) (then_do o' k')
then-keeps (Done v l) o' k k' e h = rw e (h v l)
then-keeps Out o' k k' e h = rw e refl
then-keeps Wide o' k k' e h = rw e refl
then-keeps (Stuck at) o' k k' e h = tt
then-keeps GhostOut o' k k' e h = tt

value-keeps : (g g' : Got) (k k' : Val → Outcome) → g' ≡ g → ((v : Val) → Keeps (k v) (k' v)) → Keeps (with_value g k) (with_value g' k')
value-keeps (got v) g' k k' e h = rw e (h v)
value-keeps got_wide g' k k' e h = rw e refl
value-keeps (got_stuck at) g' k k' e h = tt

values-keeps : (ps : List Prm) (g g' : Gots) (k k' : List Val → Outcome) → GotsKept ps g g' → ((vs : List Val) → length vs ≡ length ps → Keeps (k vs) (k' (shown_values ps vs))) → Keeps (with_values g k) (with_values g' k')
values-keeps ps (gots vs) g' k k' e h = rw (e.1) (h vs e.0)
values-keeps ps gots_wide g' k k' e h = rw e refl
values-keeps ps (gots_stuck at) g' k k' e h = tt

if-keeps : (b : Bool) (o o' p p' : Outcome) → Keeps o o' → Keeps p p' → Keeps (if b then o else p) (if b then o' else p')
if-keeps true o o' p p' h k = h
if-keeps false o o' p p' h k = k

fits-keeps : (vs : Option (List Val)) (k k' : List Val → Outcome) (o o' : Outcome) → ((ws : List Val) → vs ≡ Some ws → Keeps (k ws) (k' ws)) → Keeps o o' → Keeps (if_fits vs k o) (if_fits vs k' o')
fits-keeps None k k' o o' h r = r
fits-keeps (Some ws) k k' o o' h r = h ws refl

-- ---- definition text, which is the same in both programs

module _ (b : Bool) (f f' : Run) (g g' : Val → Run) (hf : (s : Val) (l : ℕ) → Keeps (f s l) (f' s l)) (hg : (v s : Val) (l : ℕ) → Keeps (g v s l) (g' v s l)) where
  mutual
    pub dm-keeps : (t : Dm) (e : Env) (F : ℕ) → Keeps (dm b f g t e F) (dm b f' g' t e F)
    dm-keeps (d_ret t) e F = spend-keeps F _ _ λ l. value-keeps (eval b t e) _ _ _ refl λ v. refl
    dm-keeps (d_let x d1 d2) e F = spend-keeps F _ _ λ l. then-keeps _ _ _ _ (dm-keeps d1 e l) λ v r. dm-keeps d2 (v ∷ e) r
    dm-keeps (d_if t d1 d2) e F = spend-keeps F _ _ λ l. value-keeps (eval b t e) _ _ _ refl λ v. if-keeps (is_true v) _ _ _ _ (dm-keeps d1 e l) (dm-keeps d2 e l)
    dm-keeps (d_match t arms) e F = spend-keeps F _ _ λ l. value-keeps (eval b t e) _ _ _ refl λ v. dm-arm-keeps arms v e l
    dm-keeps (d_run_f t) e F = spend-keeps F _ _ λ l. value-keeps (eval b t e) _ _ _ refl λ s. hf s l
    dm-keeps (d_run_g t u) e F = spend-keeps F _ _ λ l. value-keeps (eval b t e) _ _ _ refl λ v. value-keeps (eval b u e) _ _ _ refl λ s. hg v s l

    pub dm-arm-keeps : (arms : DmArms) (v : Val) (e : Env) (F : ℕ) → Keeps (dm_arm b f g arms v e F) (dm_arm b f' g' arms v e F)
    dm-arm-keeps d_end v e F = tt
    dm-arm-keeps (d_arm c xs t more) v e F = fits-keeps (parts c v) _ _ _ _ (λ vs q. dm-keeps t (vs ++ e) F) (dm-arm-keeps more v e F)

-- ---- core text

-- a ghost part is done, stuck or stopped
abbrev IsHidden : Outcome → Type 0
IsHidden Out = ⊥
IsHidden Wide = ⊥
IsHidden o = ⊤

ghost-keeps : (o : Outcome) (k : Val → ℕ → Outcome) (p : Outcome) → IsHidden o → ((v : Val) (l : ℕ) → Keeps (k v l) p) → Keeps (then_do o k) p
ghost-keeps (Done v l) k p n h = h v l
ghost-keeps Out k p n h = absurd n
ghost-keeps Wide k p n h = absurd n
ghost-keeps (Stuck at) k p n h = tt
ghost-keeps GhostOut k p n h = tt

assert-keeps : (b : Bool) (o p : Outcome) (at : ℕ) → Keeps o p → Keeps (if b then o else Stuck at) p
assert-keeps true o p at h = h
assert-keeps false o p at h = tt

no_f-keeps : (s : Val) (l : ℕ) → Keeps (no_f s l) (no_f s l)
no_f-keeps s l = tt

no_g-keeps : (v s : Val) (l : ℕ) → Keeps (no_g v s l) (no_g v s l)
no_g-keeps v s l = tt

map-there : (g : Fn → Option Fn) (fs : List (Option Fn)) (k : ℕ) (f : Fn) → if_there (slice_get fs k) (λ f. f) None ≡ Some f → if_there (slice_get (map (λ x. if_there x g None) fs) k) (λ f. f) None ≡ g f
map-there g [] zero f e = cc
map-there g [] (suc k) f e = cc
map-there g (x ∷ fs) zero f e = rw e refl
map-there g (x ∷ fs) (suc k) f e = map-there g fs k f e

-- a function that isn't GHOST keeps its number
pub erased-there : (P : Prog) (k : ℕ) (f : Fn) → fun_at P k ≡ Some f → is_ghost f.effect ≡ false → fun_at (erased P) k ≡ Some (erased_fun P f)
erased-there P k f e g = map-there (unless_ghost P) P.funs k f e ∙ ap (λ x. if x then None else Some (erased_fun P f)) g

module _ (M M' : Meaning) (P : Prog) where
  -- calls of functions that aren't GHOST keep outcomes
  abbrev CallsKeep : Calls → Calls → Type 0
  CallsKeep call call' = (j : ℕ) (f : Fn) → fun_at P j ≡ Some f → is_ghost f.effect ≡ false → (vs : List Val) → length vs ≡ length f.params → (s : Val) (l : ℕ) → Keeps (call j vs s l) (call' j (shown_values f.params vs) s l)

  call-keeps : (call call' : Calls) (j : ℕ) (f : Fn) (ps ps' : List Prm) (scope : Scope) (ts : Tms) (e : Env) (s : Val) (F : ℕ) → ps ≡ f.params → ps' ≡ erased_params P f.params → ArgsShown scope f.params ts
      → ((vs : List Val) → length vs ≡ length f.params → (s : Val) (l : ℕ) → Keeps (call j vs s l) (call' j (shown_values f.params vs) s l))
      → Keeps (spend F (λ l. with_values (arguments true ps ts e) (λ vs. call j vs s l))) (spend F (λ l. with_values (arguments true ps' (erased_args scope ps ts) (shown_env scope e)) (λ vs. call' j vs s l)))
  call-keeps call call' j f ps ps' scope ts e s F p p' h hc = rw (p, p') (spend-keeps F _ _ λ l. values-keeps f.params _ _ _ _ (arguments-kept P scope f.params ts e h) λ vs n. hc vs n s l)

  module _ (gh gh' : Ghosts) (hgh : (c : Cm) (e : Env) → IsHidden (gh c e)) (call call' : Calls) (hc : CallsKeep call call') where
    mutual
      pub text-keeps : (c : Cm) (scope : Scope) (e : Env) (s : Val) (F : ℕ) → CmShown P scope c → Keeps (text M P gh call true c e s F) (text M' (erased P) gh' call' true (erased_text P scope c) (shown_env scope e) s F)
      text-keeps (c_ret t) scope e s F h = spend-keeps F _ _ λ l. value-keeps _ _ _ _ (erased-eval true scope t e h) λ v. refl
      text-keeps (c_let x c1 c2) scope e s F h = spend-keeps F _ _ λ l. then-keeps _ _ _ _ (text-keeps c1 scope e v_unit l h.0) λ v r. text-keeps c2 (false ∷ scope) (v ∷ e) s r h.1
      text-keeps (c_bind E x c1 c2) scope e s F h = spend-keeps F _ _ λ l. dm-keeps true _ _ _ _ (λ s1 r. text-keeps c1 scope e s1 r h.0) (λ v s1 r. text-keeps c2 (false ∷ scope) (v ∷ e) s1 r h.1) (bind_text P E) (s ∷ []) l
      text-keeps (c_ghost x c1 c2) scope e s F h = ghost-keeps _ _ _ (hgh c1 e) λ v r. text-keeps c2 (true ∷ scope) (v ∷ e) s F h
      text-keeps (c_assert phi at c) scope e s F h = assert-keeps (is_true (value M phi e)) _ _ at (text-keeps c scope e s F h)
      text-keeps (c_if t c1 c2) scope e s F h = spend-keeps F _ _ λ l. value-keeps _ _ _ _ (erased-eval true scope t e h.0) λ v. if-keeps (is_true v) _ _ _ _ (text-keeps c1 scope e s l h.1) (text-keeps c2 scope e s l h.2)
      text-keeps (c_match t at arms) scope e s F h = spend-keeps F _ _ λ l. value-keeps _ _ _ _ (erased-eval true scope t e h.0) λ v. arm-keeps arms scope at v e s l h.1
      text-keeps (c_call j ts at) scope e s F h = go (fun_at P j) refl h
        where
          go : (o : Option Fn) → fun_at P j ≡ o → if_there o (λ f. (is_ghost f.effect ≡ false) × ArgsShown scope f.params ts) ⊥ → Keeps (text M P gh call true (c_call j ts at) e s F) (text M' (erased P) gh' call' true (erased_text P scope (c_call j ts at)) (shown_env scope e) s F)
          go None q r = absurd r
          go (Some f) q r = call-keeps call call' j f (params_of P j) (params_of (erased P) j) scope ts e s F (ap (λ o. if_there o (λ f. f.params) []) q) (ap (λ o. if_there o (λ f. f.params) []) (erased-there P j f q r.0)) r.1 (hc j f q r.0)
      text-keeps (c_reify E S c t) scope e s F h = spend-keeps F _ _ λ l. value-keeps _ _ _ _ (erased-eval true scope t e h.1) λ s1. text-keeps c scope e s1 l h.0
      text-keeps (c_reflect E S x c) scope e s F h = spend-keeps F _ _ λ l. text-keeps c (false ∷ scope) (s ∷ e) v_unit l h
      text-keeps (c_return E c) scope e s F h = then-keeps _ _ _ _ (text-keeps c scope e v_unit F h) λ v r. dm-keeps true _ _ _ _ no_f-keeps no_g-keeps (return_text P E) (s ∷ v ∷ []) r
      text-keeps (c_lift n c) scope e s F h = dm-keeps true _ _ _ _ (λ s1 r. text-keeps c scope e s1 r h) no_g-keeps (lift_text P n) (s ∷ []) F

      pub arm-keeps : (arms : CmArms) (scope : Scope) (at : ℕ) (v : Val) (e : Env) (s : Val) (F : ℕ) → ArmsShown P scope arms → Keeps (arm M P gh call true arms at v e s F) (arm M' (erased P) gh' call' true (erased_arms P scope arms) at v (shown_env scope e) s F)
      arm-keeps c_end scope at v e s F h = tt
      arm-keeps (c_arm c xs body more) scope at v e s F h = fits-keeps (parts c v) _ _ _ _
          (λ vs q. let n : length vs ≡ length xs = subst (PartsCount c) q (parts-count c v) ∙ sym h.0 in
          subst (λ e1. Keeps (text M P gh call true body (vs ++ e) s F) (text M' (erased P) gh' call' true (erased_text P (map (λ x. false) xs ++ scope) body) e1 s F)) (names-shown xs vs scope e n) (text-keeps body (map (λ x. false) xs ++ scope) (vs ++ e) s F h.1))
          (arm-keeps more scope at v e s F h.2)

-- ---- functions, ghost parts and whole runs

hide-hidden : (o : Outcome) → Narrow o → IsHidden (hide o)
hide-hidden (Done v l) n = tt
hide-hidden Out n = tt
hide-hidden Wide n = absurd n
hide-hidden (Stuck at) n = tt
hide-hidden GhostOut n = tt

ghost-hidden : (M : Meaning) (P : Prog) (G : ℕ) (c : Cm) (e : Env) → IsHidden (ghost_run M P G c e)
ghost-hidden M P zero c e = tt
ghost-hidden M P (suc G) c e = hide-hidden _ (ev_narrow M P (suc G) G e v_unit c)

module _ (M M' : Meaning) (P : Prog) (apart : GhostsApart P) where
  calls-keep : (gh gh' : Ghosts) → ((c : Cm) (e : Env) → IsHidden (gh c e)) → (n : ℕ) → CallsKeep M M' P (calls M P gh n true) (calls M' (erased P) gh' n true)
  calls-keep gh gh' hgh zero j f q g vs len s l = refl
  calls-keep gh gh' hgh (suc n) j f q g vs len s l =
      let ih = calls-keep gh gh' hgh n in
      let there : fun_at (erased P) j ≡ Some (erased_fun P f) = erased-there P j f q g in
      let body = text-keeps M M' P gh gh' hgh (calls M P gh n true) (calls M' (erased P) gh' n true) ih f.body (body_scope f) (reverse vs) (input_to f.effect s) l (apart j f q g) in
      rw (q, there, g) (subst (λ e1. Keeps (text M P gh (calls M P gh n true) true f.body (reverse vs) (input_to f.effect s) l) (text M' (erased P) gh' (calls M' (erased P) gh' n true) true (erased_text P (body_scope f) f.body) e1 (input_to f.effect s) l)) (turned-shown f.params vs [] [] len) body)

  -- the bounded run of text in a place that isn't GHOST, and that of its erased text, where the two allowances are any
  pub ev-keeps : (F G G' : ℕ) (c : Cm) (scope : Scope) (e : Env) (s : Val) → CmShown P scope c → Keeps (ev M P F G true e s c) (ev M' (erased P) F G' true (shown_env scope e) s (erased_text P scope c))
  ev-keeps F G G' c scope e s h = text-keeps M M' P (ghost_run M P G) (ghost_run M' (erased P) G') (ghost-hidden M P G) _ _ (calls-keep (ghost_run M P G) (ghost_run M' (erased P) G') (ghost-hidden M P G) F) c scope e s F h

-- ---- good functions

have-length : (ps : List Prm) (vs : List Val) → HaveAll ps vs → length vs ≡ length ps
have-length [] [] h = refl
have-length [] (v ∷ vs) h = absurd h
have-length (p ∷ ps) [] h = absurd h
have-length (p ∷ ps) (v ∷ vs) h = ap suc (have-length ps vs h.1)

shown-bounded : (x : Effect) → is_ghost x ≡ false → MayBeBounded x true
shown-bounded effect.Pure h = tt
shown-bounded effect.Ghost h = cc
shown-bounded effect.Div h = tt
shown-bounded (effect.User E) h = tt

fine-same : (Q : Val → Type 0) (o p : Outcome) → IsFine Q o → Keeps o p → p ≡ o
fine-same Q (Done v l) p h k = k
fine-same Q Out p h k = k
fine-same Q Wide p h k = k
fine-same Q (Stuck at) p h k = absurd h
fine-same Q GhostOut p h k = absurd h

over-over : (o p : Outcome) → IsOver o → Keeps o p → IsOver p
over-over (Done v l) p h k = rw k tt
over-over Out p h k = absurd h
over-over Wide p h k = rw k tt
over-over (Stuck at) p h k = absurd h
over-over GhostOut p h k = absurd h

module _ (P : Prog) (M : Meaning) (apart : GhostsApart P) where
  -- the unerased run of a function and the erased one, at any allowance
  pub body-keeps : (k : ℕ) (f : Fn) (vs : List Val) (s : Val) (F G : ℕ) → fun_at P k ≡ Some f → is_ghost f.effect ≡ false → length vs ≡ length f.params → Keeps (body_run P M f vs s true F G) (erased_run P k F (shown_values f.params vs) s)
  body-keeps k f vs s F G q g len =
      let there : fun_at (erased P) k ≡ Some (erased_fun P f) = erased-there P k f q g in
      rw there (subst (λ e1. Keeps (body_run P M f vs s true F G) (ev (λ k vs. v_unit) (erased P) F 0 true e1 s (erased_text P (body_scope f) f.body))) (turned-shown f.params vs [] [] len)
      (ev-keeps M (λ k vs. v_unit) P apart F G 0 f.body (body_scope f) (reverse vs) s (apart k f q g)))

pub erasure-keeps : (P : Prog) → ErasureKeeps P
erasure-keeps P sorted disciplined M good k f vs s q g have input pre =
    let apart = ghosts-apart P sorted disciplined in
    let at = good k f q vs s true have input (shown-bounded f.effect g) pre in
    let keeps : (F G : ℕ) → Keeps (body_run P M f vs s true F G) (erased_run P k F (shown_values f.params vs) s) = λ F G. body-keeps P M apart k f vs s F G q g (have-length f.params vs have) in
    let same : (F G : ℕ) → IsFine (Post M f vs s) (body_run P M f vs s true F G) → erased_run P k F (shown_values f.params vs) s ≡ body_run P M f vs s true F G = λ F G h. fine-same (Post M f vs s) _ _ h (keeps F G) in
    record {
      same = λ F. (let r = at.safe F in (r.0, λ G le. same F G (r.1 G le)));
      fine = λ F. (let r = at.safe F in let h = r.1 r.0 (omega arith) in subst (IsFine (Post M f vs s)) (sym (same F r.0 h)) h);
      ends = λ t. (let r = at.ends t in (r.0, over-over _ _ (r.1.1 r.1.0 (omega arith)) (keeps r.0 r.1.0)));
    }

-- a function without ghost parameters, as main is, takes its arguments as they are
pub shown-all : (ps : List Prm) (vs : List Val) → IsTrue (list_all (λ p. not p.hidden) ps) → shown_values ps vs ≡ vs
shown-all [] vs h = refl
shown-all (p ∷ ps) [] h = refl
shown-all (p ∷ ps) (v ∷ vs) h = go (λ k. shown-all ps vs k) p.hidden h
  where
    go : (IsTrue (list_all (λ p. not p.hidden) ps) → shown_values ps vs ≡ vs) → (x : Bool) → IsTrue (not x && list_all (λ p. not p.hidden) ps) → (if x then shown_values ps vs else v ∷ shown_values ps vs) ≡ v ∷ vs
    go ih true h = cc
    go ih false h = ap (λ ws. v ∷ ws) (ih h)
