-- A result has its text's sort.
use Rattle.std.proofs.Common.{◌≡◌, ℕ, zero, suc, Bool, true, false, not, ◌&&◌, if◌then◌else◌, List, [], ◌∷◌, ◌++◌, map, slice_get, Option, Some, None, IsTrue, refl, sym, ap, ap₂, ◌∙◌, subst}
use Rattle.std.specs.Prelude.{⊤}
use Rattle.fst_base.specs.declared.op.Op.{Op}
use Rattle.fst_base.specs.Sorts.{Srt, s_bool, s_pair, s_opt, s_list, s_either, put_sorts}
use Rattle.fst_base.specs.Values.{Val, v_unit, v_bool, v_int, v_pair, v_none, v_some, v_nil, v_cons, v_inl, v_inr, Has, HasSorts}
use Rattle.fst_base.specs.Primitives.{prim, is_true, is_wide, divides_by_zero}
use Rattle.fst_base.specs.Rows.{Fits, row_args, row_result, is_inner}
use Rattle.fst_base.proofs.RowLemmas.{prim-has, put_sorts-twice}
use Rattle.fst_terms.specs.Terms.{Tm, Tms, t_var, t_int, t_bool, t_unit, t_prim, t_if, t_app, t_let, t_end, t_more}
use Rattle.fst_terms.specs.Meaning.{Env, lookup}
use Rattle.fst_terms.specs.Sorted.{TmSorted, TmsSorted, is_run, are_run}
use Rattle.fst_program.specs.declared.comp.Con.{Con}
use Rattle.fst_program.specs.declared.comp.Con.TheVariants as con
use Rattle.fst_program.specs.Texts.{Dm, DmArms, d_ret, d_let, d_if, d_match, d_run_f, d_run_g, d_end, d_arm, Prm, Prog, if_there}
use Rattle.fst_program.specs.Evaluation.{Got, got, got_wide, got_stuck, Gots, gots, gots_wide, gots_stuck, got_then, gots_then, gots_more, limit, apply, eval, evals, arguments}
use Rattle.fst_program.specs.Runs.{Outcome, Done, Out, Wide, Stuck, GhostOut, spend, then_do, with_value, with_values, hide, parts, if_fits, Run, dm, dm_arm}
use Rattle.fst_program.specs.Paths.{part_sorts}
use Rattle.fst_program.specs.Sorted.{ConOf, FSorts, GSorts, Applies, RunSorted, DmSorted, DmArmsSorted}

-- ---- what terms give

abbrev pub GotHas : Srt → Got → Type 0
GotHas S (got v) = Has S v
GotHas S _ = ⊤

abbrev pub GotsHave : List Srt → Gots → Type 0
GotsHave Ss (gots vs) = HasSorts Ss vs
GotsHave Ss _ = ⊤

-- of a conjunction of tests
and-left : (a b : Bool) → IsTrue (a && b) → IsTrue a
and-left true b h = refl
and-left false b h = h

and-right : (a b : Bool) → IsTrue (a && b) → IsTrue b
and-right true b h = h
and-right false b h = cc

not-true : (b : Bool) → IsTrue (not b) → b ≡ true → ⊥
not-true true h e = cc
not-true false h e = cc

gthen-has : (S : Srt) (g : Got) (k : Val → Got) → ((v : Val) → GotHas S (k v)) → GotHas S (got_then g k)
gthen-has S (got v) k h = h v
gthen-has S got_wide k h = tt
gthen-has S (got_stuck at) k h = tt

gsthen-has : (S : Srt) (Ss : List Srt) (g : Gots) (k : List Val → Got) → GotsHave Ss g → ((vs : List Val) → HasSorts Ss vs → GotHas S (k vs)) → GotHas S (gots_then g k)
gsthen-has S Ss (gots vs) k h n = n vs h
gsthen-has S Ss gots_wide k h n = tt
gsthen-has S Ss (gots_stuck at) k h n = tt

gif-has : (S : Srt) (b : Bool) (o p : Got) → GotHas S o → GotHas S p → GotHas S (if b then o else p)
gif-has S true o p h k = h
gif-has S false o p h k = k

more-have : (S : Srt) (Ss : List Srt) (g : Got) (r : Gots) → GotHas S g → GotsHave Ss r → GotsHave (S ∷ Ss) (gots_more g r)
more-have S Ss (got v) (gots vs) h k = (h, k)
more-have S Ss (got v) gots_wide h k = tt
more-have S Ss (got v) (gots_stuck at) h k = tt
more-have S Ss got_wide r h k = tt
more-have S Ss (got_stuck at) r h k = tt

limit-has : (S : Srt) (b : Bool) (v : Val) → Has S v → GotHas S (limit b v)
limit-has S b v h = go (b && is_wide v)
  where
    go : (w : Bool) → GotHas S (if w then got_wide else got v)
    go true = tt
    go false = h

apply-has : (S : Srt) (b : Bool) (o : Op) (T : Srt) (at : ℕ) (vs : List Val) → Has S (prim o T vs) → GotHas S (apply b o T at vs)
apply-has S b o T at vs h = go (divides_by_zero o vs)
  where
    go : (z : Bool) → GotHas S (if z then got_stuck at else limit b (prim o T vs))
    go true = tt
    go false = limit-has S b (prim o T vs) h

-- with the sorts A and B for the variables a and b
module _ (A B : Srt) where
  lookup-has : (Ss : List Srt) (i : ℕ) (S : Srt) (e : Env) → slice_get Ss i ≡ Some S → HasSorts (map (put_sorts A B) Ss) e → Has (put_sorts A B S) (lookup e i)
  lookup-has [] i S e q h = cc
  lookup-has (T ∷ Ss) i S [] q h = absurd h
  lookup-has (T ∷ Ss) zero S (v ∷ e) q h = let p : T ≡ S = cc in subst (λ X. Has (put_sorts A B X) v) p h.0
  lookup-has (T ∷ Ss) (suc i) S (v ∷ e) q h = lookup-has Ss i S e q h.1

  fits-args : (first second : Srt) (o : Op) → map (put_sorts A B) (map (put_sorts first second) (row_args o)) ≡ map (put_sorts (put_sorts A B first) (put_sorts A B second)) (row_args o)
  fits-args first second o = go (row_args o)
    where
      go : (Ss : List Srt) → map (put_sorts A B) (map (put_sorts first second) Ss) ≡ map (put_sorts (put_sorts A B first) (put_sorts A B second)) Ss
      go [] = refl
      go (S ∷ Ss) = ap₂ ◌∷◌ (put_sorts-twice A B first second S) (go Ss)

  run-prim-has : (o : Op) (Ss : List Srt) (T : Srt) (vs : List Val) → Fits o Ss T → IsTrue (not (is_inner o)) → HasSorts (map (put_sorts A B) Ss) vs → Has (put_sorts A B T) (prim o T vs)
  run-prim-has o Ss T vs f n h =
      let x = put_sorts A B f.first in
      let y = put_sorts A B f.second in
      let p : put_sorts A B T ≡ put_sorts x y (row_result o) = ap (put_sorts A B) f.result ∙ put_sorts-twice A B f.first f.second (row_result o) in
      let q : map (put_sorts A B) Ss ≡ map (put_sorts x y) (row_args o) = ap (map (put_sorts A B)) f.args ∙ fits-args f.first f.second o in
      let given : HasSorts (map (put_sorts x y) (row_args o)) vs = subst (λ Us. HasSorts Us vs) q h in
      subst (λ S. Has S (prim o T vs)) (sym p) (prim-has o x y T vs (λ e. absurd (not-true (is_inner o) n e)) given)

  module _ (Applies : (k : ℕ) → List Srt → (S : Srt) → Type 0) where
    mutual
      pub eval-has : (b : Bool) (Ss : List Srt) (t : Tm) (S : Srt) (e : Env) → TmSorted Applies Ss t S → IsTrue (is_run t) → HasSorts (map (put_sorts A B) Ss) e → GotHas (put_sorts A B S) (eval b t e)
      eval-has b Ss (t_var i) S e h r k = lookup-has Ss i S e h k
      eval-has b Ss (t_int n) S e h r k = subst (λ X. Has (put_sorts A B X) (v_int n)) (sym h) tt
      eval-has b Ss (t_bool x) S e h r k = subst (λ X. Has (put_sorts A B X) (v_bool x)) (sym h) tt
      eval-has b Ss t_unit S e h r k = subst (λ X. Has (put_sorts A B X) v_unit) (sym h) tt
      eval-has b Ss (t_prim o T ts at) S e h r k =
          let inner = and-left (not (is_inner o)) (are_run ts) r in
          let runs = and-right (not (is_inner o)) (are_run ts) r in
          subst (λ X. GotHas (put_sorts A B X) (eval b (t_prim o T ts at) e)) (sym h.0)
          (gsthen-has (put_sorts A B T) (map (put_sorts A B) h.1.0) (evals b ts e) (apply b o T at) (evals-have b Ss ts h.1.0 e h.1.1.1 runs k)
          (λ vs g. apply-has (put_sorts A B T) b o T at vs (run-prim-has o h.1.0 T vs h.1.1.0 inner g)))
      eval-has b Ss (t_if c t u) S e h r k =
          let rest = and-left (is_run c && is_run t) (is_run u) r in
          gthen-has (put_sorts A B S) (eval b c e) _ λ v. gif-has (put_sorts A B S) (is_true v) _ _ (eval-has b Ss t S e h.1 (and-right (is_run c) (is_run t) rest) k) (eval-has b Ss u S e h.2 (and-right (is_run c && is_run t) (is_run u) r) k)
      eval-has b Ss (t_app j T ts) S e h r k = tt
      eval-has b Ss (t_let x t u) S e h r k = tt

      pub evals-have : (b : Bool) (Ss : List Srt) (ts : Tms) (Ts : List Srt) (e : Env) → TmsSorted Applies Ss ts Ts → IsTrue (are_run ts) → HasSorts (map (put_sorts A B) Ss) e → GotsHave (map (put_sorts A B) Ts) (evals b ts e)
      evals-have b Ss t_end Ts e h r k = subst (λ Us. HasSorts (map (put_sorts A B) Us) []) (sym h) tt
      evals-have b Ss (t_more t ts) Ts e h r k =
          subst (λ Us. GotsHave (map (put_sorts A B) Us) (evals b (t_more t ts) e)) (sym h.1.1.0)
          (more-have (put_sorts A B h.0) (map (put_sorts A B) h.1.0) (eval b t e) (evals b ts e) (eval-has b Ss t h.0 e h.1.1.1 (and-left (is_run t) (are_run ts) r) k) (evals-have b Ss ts h.1.0 e h.1.1.2 (and-right (is_run t) (are_run ts) r) k))

    pub arguments-have : (b : Bool) (ps : List Prm) (Ss : List Srt) (ts : Tms) (Ts : List Srt) (e : Env) → TmsSorted Applies Ss ts Ts → IsTrue (are_run ts) → HasSorts (map (put_sorts A B) Ss) e → GotsHave (map (put_sorts A B) Ts) (arguments b ps ts e)
    arguments-have b ps Ss t_end Ts e h r k = subst (λ Us. HasSorts (map (put_sorts A B) Us) []) (sym h) tt
    arguments-have b [] Ss (t_more t ts) Ts e h r k =
        subst (λ Us. GotsHave (map (put_sorts A B) Us) (arguments b [] (t_more t ts) e)) (sym h.1.1.0)
        (more-have (put_sorts A B h.0) (map (put_sorts A B) h.1.0) (eval b t e) (arguments b [] ts e) (eval-has b Ss t h.0 e h.1.1.1 (and-left (is_run t) (are_run ts) r) k) (arguments-have b [] Ss ts h.1.0 e h.1.1.2 (and-right (is_run t) (are_run ts) r) k))
    arguments-have b (p ∷ ps) Ss (t_more t ts) Ts e h r k =
        subst (λ Us. GotsHave (map (put_sorts A B) Us) (arguments b (p ∷ ps) (t_more t ts) e)) (sym h.1.1.0)
        (more-have (put_sorts A B h.0) (map (put_sorts A B) h.1.0) (eval (b && not p.hidden) t e) (arguments b ps ts e) (eval-has (b && not p.hidden) Ss t h.0 e h.1.1.1 (and-left (is_run t) (are_run ts) r) k) (arguments-have b ps Ss ts h.1.0 e h.1.1.2 (and-right (is_run t) (are_run ts) r) k))

-- ---- outcomes

-- a result has the sort
abbrev pub OutcomeHas : Srt → Outcome → Type 0
OutcomeHas S (Done v left) = Has S v
OutcomeHas S _ = ⊤

pub spend-has : (S : Srt) (F : ℕ) (k : ℕ → Outcome) → ((l : ℕ) → OutcomeHas S (k l)) → OutcomeHas S (spend F k)
spend-has S zero k h = tt
spend-has S (suc l) k h = h l

pub then-has : (T S : Srt) (o : Outcome) (k : Val → ℕ → Outcome) → OutcomeHas T o → ((v : Val) (l : ℕ) → Has T v → OutcomeHas S (k v l)) → OutcomeHas S (then_do o k)
then-has T S (Done v l) k n h = h v l n
then-has T S Out k n h = tt
then-has T S Wide k n h = tt
then-has T S (Stuck at) k n h = tt
then-has T S GhostOut k n h = tt

pub value-has : (T S : Srt) (g : Got) (k : Val → Outcome) → GotHas T g → ((v : Val) → Has T v → OutcomeHas S (k v)) → OutcomeHas S (with_value g k)
value-has T S (got v) k n h = h v n
value-has T S got_wide k n h = tt
value-has T S (got_stuck at) k n h = tt

pub values-have : (Ts : List Srt) (S : Srt) (g : Gots) (k : List Val → Outcome) → GotsHave Ts g → ((vs : List Val) → HasSorts Ts vs → OutcomeHas S (k vs)) → OutcomeHas S (with_values g k)
values-have Ts S (gots vs) k n h = h vs n
values-have Ts S gots_wide k n h = tt
values-have Ts S (gots_stuck at) k n h = tt

pub if-has : (S : Srt) (b : Bool) (o p : Outcome) → OutcomeHas S o → OutcomeHas S p → OutcomeHas S (if b then o else p)
if-has S true o p h k = h
if-has S false o p h k = k

pub hide-has : (S : Srt) (o : Outcome) → OutcomeHas S o → OutcomeHas S (hide o)
hide-has S (Done v l) h = h
hide-has S Out h = tt
hide-has S Wide h = tt
hide-has S (Stuck at) h = tt
hide-has S GhostOut h = tt

pub fits-has : (Ts : List Srt) (S : Srt) (vs : Option (List Val)) (k : List Val → Outcome) (o : Outcome) → ((ws : List Val) → vs ≡ Some ws → HasSorts Ts ws) → ((ws : List Val) → HasSorts Ts ws → OutcomeHas S (k ws)) → OutcomeHas S o → OutcomeHas S (if_fits vs k o)
fits-has Ts S None k o p h r = r
fits-has Ts S (Some ws) k o p h r = h ws (p ws refl)

-- the parts of a value have the sorts of the constructor's parts
module _ (A B : Srt) where
  -- what a pattern binds, where it binds something
  abbrev Bound : List Srt → Option (List Val) → Type 0
  Bound Ss None = ⊤
  Bound Ss (Some vs) = HasSorts Ss vs

  parts-True : (v : Val) → Has s_bool v → Bound [] (parts con.True v)
  parts-True (v_bool true) h = tt
  parts-True (v_bool false) h = tt
  parts-True v h = absurd h

  parts-False : (v : Val) → Has s_bool v → Bound [] (parts con.False v)
  parts-False (v_bool true) h = tt
  parts-False (v_bool false) h = tt
  parts-False v h = absurd h

  parts-Empty : (S : Srt) (v : Val) → Has (s_opt S) v → Bound [] (parts con.Empty v)
  parts-Empty S v_none h = tt
  parts-Empty S (v_some a) h = tt
  parts-Empty S v h = absurd h

  parts-Full : (S : Srt) (v : Val) → Has (s_opt S) v → Bound (S ∷ []) (parts con.Full v)
  parts-Full S v_none h = tt
  parts-Full S (v_some a) h = (h, tt)
  parts-Full S v h = absurd h

  parts-Nil : (S : Srt) (v : Val) → Has (s_list S) v → Bound [] (parts con.Nil v)
  parts-Nil S v_nil h = tt
  parts-Nil S (v_cons a b) h = tt
  parts-Nil S v h = absurd h

  parts-Cons : (S : Srt) (v : Val) → Has (s_list S) v → Bound (s_list S ∷ S ∷ []) (parts con.Cons v)
  parts-Cons S v_nil h = tt
  parts-Cons S (v_cons a b) h = (h.1, (h.0, tt))
  parts-Cons S v h = absurd h

  parts-Left : (S T : Srt) (v : Val) → Has (s_either S T) v → Bound (S ∷ []) (parts con.Left v)
  parts-Left S T (v_inl a) h = (h, tt)
  parts-Left S T (v_inr a) h = tt
  parts-Left S T v h = absurd h

  parts-Right : (S T : Srt) (v : Val) → Has (s_either S T) v → Bound (T ∷ []) (parts con.Right v)
  parts-Right S T (v_inl a) h = tt
  parts-Right S T (v_inr a) h = (h, tt)
  parts-Right S T v h = absurd h

  parts-Pair : (S T : Srt) (v : Val) → Has (s_pair S T) v → Bound (T ∷ S ∷ []) (parts con.Pair v)
  parts-Pair S T (v_pair a b) h = (h.1, (h.0, tt))
  parts-Pair S T v h = absurd h

  parts-have : (c : Con) (S : Srt) (v : Val) → ConOf c S → Has (put_sorts A B S) v → Bound (map (put_sorts A B) (part_sorts c S)) (parts c v)
  parts-have con.True s_bool v o h = parts-True v h
  parts-have con.False s_bool v o h = parts-False v h
  parts-have con.Empty (s_opt S) v o h = parts-Empty (put_sorts A B S) v h
  parts-have con.Full (s_opt S) v o h = parts-Full (put_sorts A B S) v h
  parts-have con.Nil (s_list S) v o h = parts-Nil (put_sorts A B S) v h
  parts-have con.Cons (s_list S) v o h = parts-Cons (put_sorts A B S) v h
  parts-have con.Left (s_either S T) v o h = parts-Left (put_sorts A B S) (put_sorts A B T) v h
  parts-have con.Right (s_either S T) v o h = parts-Right (put_sorts A B S) (put_sorts A B T) v h
  parts-have con.Pair (s_pair S T) v o h = parts-Pair (put_sorts A B S) (put_sorts A B T) v h
  parts-have c S v o h = absurd o

  pub bound-parts : (c : Con) (S : Srt) (v : Val) → ConOf c S → Has (put_sorts A B S) v → (ws : List Val) → parts c v ≡ Some ws → HasSorts (map (put_sorts A B) (part_sorts c S)) ws
  bound-parts c S v o h ws q = subst (Bound (map (put_sorts A B) (part_sorts c S))) q (parts-have c S v o h)

map-++ : (A B : Srt) (Ss Ts : List Srt) → map (put_sorts A B) (Ss ++ Ts) ≡ map (put_sorts A B) Ss ++ map (put_sorts A B) Ts
map-++ A B [] Ts = refl
map-++ A B (S ∷ Ss) Ts = ap (λ Us. put_sorts A B S ∷ Us) (map-++ A B Ss Ts)

pub append-have : (Ss Ts : List Srt) (vs ws : List Val) → HasSorts Ss vs → HasSorts Ts ws → HasSorts (Ss ++ Ts) (vs ++ ws)
append-have [] Ts [] ws h k = k
append-have [] Ts (v ∷ vs) ws h k = absurd h
append-have (S ∷ Ss) Ts [] ws h k = absurd h
append-have (S ∷ Ss) Ts (v ∷ vs) ws h k = (h.0, append-have Ss Ts vs ws h.1 k)

-- ---- definition text

module _ (P : Prog) (A B : Srt) (b : Bool) where
  -- a run of f gives results of its sort, and so does one of g
  abbrev RunsF : Option FSorts → Run → Type 0
  RunsF None f = ⊤
  RunsF (Some h) f = (s : Val) (l : ℕ) → Has (put_sorts A B h.input) s → OutcomeHas (put_sorts A B h.result) (f s l)

  abbrev RunsG : Option GSorts → (Val → Run) → Type 0
  RunsG None g = ⊤
  RunsG (Some h) g = (v s : Val) (l : ℕ) → Has (put_sorts A B h.value) v → Has (put_sorts A B h.input) s → OutcomeHas (put_sorts A B h.result) (g v s l)

  term-has : (Ss : List Srt) (t : Tm) (S : Srt) (e : Env) → RunSorted P Ss t S → HasSorts (map (put_sorts A B) Ss) e → GotHas (put_sorts A B S) (eval b t e)
  term-has Ss t S e h k = eval-has A B (Applies P) b Ss t S e h.0 h.1 k

  under : (c : Con) (S : Srt) (Ss : List Srt) (vs : List Val) (e : Env) → HasSorts (map (put_sorts A B) (part_sorts c S)) vs → HasSorts (map (put_sorts A B) Ss) e → HasSorts (map (put_sorts A B) (part_sorts c S ++ Ss)) (vs ++ e)
  under c S Ss vs e h k = subst (λ Us. HasSorts Us (vs ++ e)) (sym (map-++ A B (part_sorts c S) Ss)) (append-have _ _ vs e h k)

  module _ (hf : Option FSorts) (hg : Option GSorts) (f : Run) (g : Val → Run) (runs_f : RunsF hf f) (runs_g : RunsG hg g) where
    run-f-has : (h : Option FSorts) → RunsF h f → (Ss : List Srt) (t : Tm) (R : Srt) (e : Env) (F : ℕ) → if_there h (λ h. RunSorted P Ss t h.input × (R ≡ h.result)) ⊥ → HasSorts (map (put_sorts A B) Ss) e → OutcomeHas (put_sorts A B R) (dm b f g (d_run_f t) e F)
    run-f-has None r Ss t R e F h k = absurd h
    run-f-has (Some x) r Ss t R e F h k = spend-has (put_sorts A B R) F _ λ l. value-has (put_sorts A B x.input) (put_sorts A B R) (eval b t e) _ (term-has Ss t x.input e h.0 k) λ s i. subst (λ S. OutcomeHas (put_sorts A B S) (f s l)) (sym h.1) (r s l i)

    run-g-has : (h : Option GSorts) → RunsG h g → (Ss : List Srt) (t u : Tm) (R : Srt) (e : Env) (F : ℕ) → if_there h (λ h. RunSorted P Ss t h.value × RunSorted P Ss u h.input × (R ≡ h.result)) ⊥ → HasSorts (map (put_sorts A B) Ss) e → OutcomeHas (put_sorts A B R) (dm b f g (d_run_g t u) e F)
    run-g-has None r Ss t u R e F h k = absurd h
    run-g-has (Some x) r Ss t u R e F h k = spend-has (put_sorts A B R) F _ λ l. value-has (put_sorts A B x.value) (put_sorts A B R) (eval b t e) _ (term-has Ss t x.value e h.0 k) λ v i. value-has (put_sorts A B x.input) (put_sorts A B R) (eval b u e) _ (term-has Ss u x.input e h.1 k) λ s j. subst (λ S. OutcomeHas (put_sorts A B S) (g v s l)) (sym h.2) (r v s l i j)

    mutual
      pub dm-has : (Ss : List Srt) (d : Dm) (R : Srt) (e : Env) (F : ℕ) → DmSorted P hf hg Ss d R → HasSorts (map (put_sorts A B) Ss) e → OutcomeHas (put_sorts A B R) (dm b f g d e F)
      dm-has Ss (d_ret t) R e F h k = spend-has (put_sorts A B R) F _ λ l. value-has (put_sorts A B R) (put_sorts A B R) (eval b t e) _ (term-has Ss t R e h k) λ v i. i
      dm-has Ss (d_let x d1 d2) R e F h k = spend-has (put_sorts A B R) F _ λ l. then-has (put_sorts A B h.0) (put_sorts A B R) _ _ (dm-has Ss d1 h.0 e l h.1.0 k) λ v r i. dm-has (h.0 ∷ Ss) d2 R (v ∷ e) r h.1.1 (i, k)
      dm-has Ss (d_if t d1 d2) R e F h k = spend-has (put_sorts A B R) F _ λ l. value-has s_bool (put_sorts A B R) (eval b t e) _ (term-has Ss t s_bool e h.0 k) λ v i. if-has (put_sorts A B R) (is_true v) _ _ (dm-has Ss d1 R e l h.1 k) (dm-has Ss d2 R e l h.2 k)
      dm-has Ss (d_match t arms) R e F h k = spend-has (put_sorts A B R) F _ λ l. value-has (put_sorts A B h.0) (put_sorts A B R) (eval b t e) _ (term-has Ss t h.0 e h.1.0 k) λ v i. dm-arm-has Ss h.0 arms R v e l h.1.1 i k
      dm-has Ss (d_run_f t) R e F h k = run-f-has hf runs_f Ss t R e F h k
      dm-has Ss (d_run_g t u) R e F h k = run-g-has hg runs_g Ss t u R e F h k

      dm-arm-has : (Ss : List Srt) (S : Srt) (arms : DmArms) (R : Srt) (v : Val) (e : Env) (F : ℕ) → DmArmsSorted P hf hg Ss S arms R → Has (put_sorts A B S) v → HasSorts (map (put_sorts A B) Ss) e → OutcomeHas (put_sorts A B R) (dm_arm b f g arms v e F)
      dm-arm-has Ss S d_end R v e F h i k = tt
      dm-arm-has Ss S (d_arm c xs d more) R v e F h i k = fits-has (map (put_sorts A B) (part_sorts c S)) (put_sorts A B R) (parts c v) _ _ (bound-parts A B c S v h.0 i) (λ ws j. dm-has (part_sorts c S ++ Ss) d R (ws ++ e) F h.2 (under c S Ss ws e j k)) (dm-arm-has Ss S more R v e F h.3 i k)
