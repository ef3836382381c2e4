-- The walk of a text in which calls stand as applications goes on from each of its ends.
use Rattle.std.proofs.Common.{◌≡◌, ℕ, ◌-◌, Bool, true, false, if◌then◌else◌, List, [], ◌∷◌, ◌++◌, map, reverse, length, Option, Some, None, refl, sym, ap, ap₂, ◌∙◌, arith}
use Rattle.std.proofs.lemmas.List.{append_assoc, append-nil}
use Rattle.fst_base.specs.Sorts.{Srt}
use Rattle.fst_terms.specs.Terms.{Tm, t_bool, t_unit, t_app, row, listed, shift}
use Rattle.fst_terms.specs.Meaning.{Vr}
use Rattle.fst_terms.specs.Formulas.{equation, joined, put, puts, sort_of}
use Rattle.fst_terms.specs.DataFacts.{implies}
use Rattle.fst_terms.proofs.IndexLemmas.{shift-zero}
use Rattle.fst_program.specs.declared.comp.Con.{Con}
use Rattle.fst_program.specs.declared.comp.Con.TheVariants as con
use Rattle.fst_program.specs.declared.goal.SiteKind.{SiteKind}
use Rattle.fst_program.specs.Texts.{Dm, DmArms, d_ret, d_let, d_if, d_match, d_run_f, d_run_g, d_end, d_arm, Cm, CmArms, c_ret, c_let, c_bind, c_ghost, c_assert, c_if, c_match, c_call, c_reify, c_reflect, c_return, c_lift, c_end, c_arm, Prog, Fn, if_there, fun_at, bind_text, return_text, lift_text, result_sort}
use Rattle.fst_program.specs.Paths.{over, Way, Side, Case, count, suppose, suppose_all, demands_of, raised, all_raised, sort_on, sides, cases, enter, selectors, con_of, con_args, cm_family, dm_family, same_con, divisions, all_divisions, Walk, dm_walk, dm_arm_walk, no_walk_f, no_walk_g, walk, arm_walk, dm_at, text_sort}
use Rattle.fst_program.specs.FunctionFacts.{with_input, call_applied, unfolded, way_fact}
use Rattle.fst_program.proofs.Ways.{suppose-all-vars}
use Rattle.fst_logicfun.specs.Ends.{End, Turn, Taken, at_end, turns, entered, takings, Run, dm_ends, dm_arm_ends, no_run_f, no_run_g, call_ends, ends, arm_ends}

-- ---- lists

over-none : {A : Type 0} (ls : List A) → over {A = A} {X = Tm} ls (λ a. []) ≡ []
over-none [] = refl
over-none (a ∷ ls) = over-none ls

pub over-append : {A B : Type 0} (ls ms : List A) (f : A → List B) → over (ls ++ ms) f ≡ over ls f ++ over ms f
over-append [] ms f = refl
over-append (a ∷ ls) ms f = ap (λ xs. f a ++ xs) (over-append ls ms f) ∙ sym (append_assoc (f a) (over ls f) (over ms f))

over-over : {A B C : Type 0} (ls : List A) (f : A → List B) (g : B → List C) → over (over ls f) g ≡ over ls (λ a. over (f a) g)
over-over [] f g = refl
over-over (a ∷ ls) f g = over-append (f a) (over ls f) g ∙ ap (λ xs. over (f a) g ++ xs) (over-over ls f g)

-- ---- nothing is raised, since no way has a variable more

module _ (P : Prog) (xs : List Vr) where
  abbrev pub Ss : List Srt
  Ss = map (λ (x : Vr). x.sort) xs

  abbrev none : SiteKind → ℕ → Tm → Way → List Tm
  none m at phi w = []

  -- ways over these variables
  abbrev Here : Way → Type 0
  Here w = w.vars ≡ xs

  same-count : (w w1 : Way) → Here w → Here w1 → count w1 - count w ≡ 0
  same-count w w1 h h1 = let e : length w1.vars ≡ length w.vars = ap length (h1 ∙ sym h) in omega (arith, e)

  raised-same : (w w1 : Way) (t : Tm) → Here w → Here w1 → raised (count w) w1 t ≡ t
  raised-same w w1 t h h1 = ap (λ n. shift 0 n t) (same-count w w1 h h1) ∙ shift-zero 0 t

  all-raised-same : (w w1 : Way) (ts : List Tm) → Here w → Here w1 → all_raised (count w) w1 ts ≡ ts
  all-raised-same w w1 [] h h1 = refl
  all-raised-same w w1 (t ∷ ts) h h1 = ap₂ ◌∷◌ (raised-same w w1 t h h1) (all-raised-same w w1 ts h h1)

  sorts-same : (w : Way) (ts : List Tm) → Here w → map (sort_on w) ts ≡ map (sort_of Ss) ts
  sorts-same w [] h = refl
  sorts-same w (t ∷ ts) h = ap₂ ◌∷◌ (ap (λ ys. sort_of (map (λ (x : Vr). x.sort) ys) t) h) (sorts-same w ts h)

  -- what goes on from a way by its hypotheses and the result alone
  abbrev Goes : (Way → Tm → List Tm) → (List Tm → Tm → List Tm) → Type 0
  Goes k K = (w : Way) (t : Tm) → Here w → k w t ≡ K w.hyps t

  abbrev from_each : List End → (List Tm → Tm → List Tm) → List Tm
  from_each es K = over es (λ (e : End). K e.hyps e.result)

  -- a computation goes on from each of its ends
  abbrev Follows : Walk P Tm none → Run P Ss → Type 0
  Follows f F = (s : Tm) (w : Way) (k : Way → Tm → List Tm) (K : List Tm → Tm → List Tm) → Here w → Goes k K → f s w k ≡ from_each (F s w.hyps) K

  if_both : (b : Bool) (x y : List Tm) (d e : List End) (K : List Tm → Tm → List Tm) → x ≡ from_each d K → y ≡ from_each e K → (if b then x else y) ≡ from_each (if b then d else e) K
  if_both true x y d e K p q = p
  if_both false x y d e K p q = q

  one-each : (K : List Tm → Tm → List Tm) (x : List Tm) (d : List End) → x ≡ from_each d K → x ++ [] ≡ from_each (d ++ []) K
  one-each K x d p = ap (λ y. y ++ []) p ∙ sym (over-append d [] (λ (e : End). K e.hyps e.result))

  more-each : (K : List Tm → Tm → List Tm) (x y : List Tm) (d e : List End) → x ≡ from_each d K → y ≡ from_each e K → x ++ y ≡ from_each (d ++ e) K
  more-each K x y d e p q = ap₂ ◌++◌ p q ∙ sym (over-append d e (λ (e : End). K e.hyps e.result))

  sides-turn : (K : List Tm → Tm → List Tm) (W : Bool → Way → List Tm) (T : Bool → List Tm → List End) → ((b : Bool) (w : Way) → Here w → W b w ≡ from_each (T b w.hyps) K)
      → (t : Tm) (w : Way) → Here w → over (sides t w) (λ (side : Side). W side.first side.way) ≡ from_each (over (turns t w.hyps) (λ (turn : Turn). T turn.first turn.hyps)) K
  sides-turn K W T e (t_bool b) w h = one-each K (W b w) (T b w.hyps) (e b w h)
  sides-turn K W T e t w h = more-each K _ _ _ _ (e true _ h) (one-each K _ _ (e false _ h))

  enter-vars : (c : Con) (S : Srt) (u : Tm) (w : Way) → (enter c S u w).vars ≡ w.vars
  enter-vars con.True S u w = refl
  enter-vars con.False S u w = refl
  enter-vars con.Pair S u w = refl
  enter-vars c S u w = refl

  enter-hyps : (c : Con) (S : Srt) (u : Tm) (w : Way) → (enter c S u w).hyps ≡ entered c S u w.hyps
  enter-hyps con.True S u w = refl
  enter-hyps con.False S u w = refl
  enter-hyps con.Pair S u w = refl
  enter-hyps c S u w = refl

  abbrev taken : Case → Taken
  taken c = record { con = c.con; parts = c.parts; hyps = c.way.hyps }

  abbrev known_case : Tm → Way → Con → Case
  known_case u w c = record { con = c; parts = con_args u; way = w }

  abbrev known_taking : Tm → List Tm → Con → Taken
  known_taking u hs c = record { con = c; parts = con_args u; hyps = hs }

  abbrev case_of : Srt → Tm → Way → Con → Case
  case_of S u w c = record { con = c; parts = selectors c S u; way = enter c S u w }

  abbrev taking_of : Srt → Tm → List Tm → Con → Taken
  taking_of S u hs c = record { con = c; parts = selectors c S u; hyps = entered c S u hs }

  -- the taking of a constructor with these hypotheses
  abbrev taking_with : Srt → Tm → Con → List Tm → Taken
  taking_with S u c hs = record { con = c; parts = selectors c S u; hyps = hs }

  module _ (K : List Tm → Tm → List Tm) (W : Case → List Tm) (T : Taken → List End) (e : (c : Case) → Here c.way → W c ≡ from_each (T (taken c)) K) (u : Tm) (w : Way) (h : Here w) where
    each-case : (S : Srt) (cs : List Con) → over (map (case_of S u w) cs) W ≡ from_each (over (map (taking_of S u w.hyps) cs) T) K
    each-case S [] = refl
    each-case S (c ∷ cs) =
        more-each K _ _ _ _
        (e (case_of S u w c) (enter-vars c S u w ∙ h) ∙ ap (λ hs. from_each (T (taking_with S u c hs)) K) (enter-hyps c S u w))
        (each-case S cs)

    pub cases-taken : (cs : List Con) → over (cases cs u w) W ≡ from_each (over (takings cs (sort_of Ss u) u w.hyps) T) K
    cases-taken cs = go (con_of u)
      where
        go : (o : Option Con) → over (if_there o (λ c. known_case u w c ∷ []) (map (case_of (sort_on w u) u w) cs)) W ≡ from_each (over (if_there o (λ c. known_taking u w.hyps c ∷ []) (map (taking_of (sort_of Ss u) u w.hyps) cs)) T) K
        go (Some c) = one-each K _ _ (e (known_case u w c) h)
        go None = ap (λ S. over (map (case_of S u w) cs) W) (ap (λ ys. sort_of (map (λ (x : Vr). x.sort) ys) u) h) ∙ each-case (sort_of Ss u) cs

  -- ---- definition text

  module _ (f : Walk P Tm none) (F : Run P Ss) (g : Tm → Walk P Tm none) (G : Tm → Run P Ss) (ff : Follows f F) (gg : (v : Tm) → Follows (g v) (G v)) where
    mutual
      pub dm-follows : (d : Dm) (us : List Tm) (w : Way) (k : Way → Tm → List Tm) (K : List Tm → Tm → List Tm) → Here w → Goes k K → dm_walk P Tm none f g d us w k ≡ from_each (dm_ends P Ss F G d us w.hyps) K
      dm-follows (d_ret t) us w k K h e = ap (λ xs. xs ++ k w (put us t)) (over-none (divisions [] t)) ∙ e w (put us t) h ∙ sym (append-nil (K w.hyps (put us t)))
      dm-follows (d_let x d1 d2) us w k K h e =
          dm-follows d1 us w _ (λ hs t. from_each (dm_ends P Ss F G d2 (t ∷ us) hs) K) h
          (λ w1 t h1. ap (λ vs. dm_walk P Tm none f g d2 (t ∷ vs) w1 k) (all-raised-same w w1 us h h1) ∙ dm-follows d2 (t ∷ us) w1 k K h1 e)
          ∙ sym (over-over (dm_ends P Ss F G d1 us w.hyps) (λ (e : End). dm_ends P Ss F G d2 (e.result ∷ us) e.hyps) (λ (e : End). K e.hyps e.result))
      dm-follows (d_if t d1 d2) us w k K h e =
          ap (λ xs. xs ++ over (sides (put us t) w) (λ (side : Side). if side.first then dm_walk P Tm none f g d1 us side.way k else dm_walk P Tm none f g d2 us side.way k)) (over-none (divisions [] t))
          ∙ sides-turn K (λ b w1. if b then dm_walk P Tm none f g d1 us w1 k else dm_walk P Tm none f g d2 us w1 k) (λ b hs. if b then dm_ends P Ss F G d1 us hs else dm_ends P Ss F G d2 us hs)
          (λ b w1 h1. if_both b _ _ _ _ K (dm-follows d1 us w1 k K h1 e) (dm-follows d2 us w1 k K h1 e)) (put us t) w h
      dm-follows (d_match t arms) us w k K h e =
          ap (λ xs. xs ++ over (cases (dm_family arms) (put us t) w) (λ c. dm_arm_walk P Tm none f g arms c us k)) (over-none (divisions [] t))
          ∙ cases-taken K (λ c. dm_arm_walk P Tm none f g arms c us k) (λ c. dm_arm_ends P Ss F G arms c us) (λ c h1. dm-arm-follows arms c us k K h1 e) (put us t) w h (dm_family arms)
      dm-follows (d_run_f t) us w k K h e = ap (λ xs. xs ++ f (put us t) w k) (over-none (divisions [] t)) ∙ ff (put us t) w k K h e
      dm-follows (d_run_g t u) us w k K h e = ap₂ (λ xs ys. xs ++ ys ++ g (put us t) (put us u) w k) (over-none (divisions [] t)) (over-none (divisions [] u)) ∙ gg (put us t) (put us u) w k K h e

      dm-arm-follows : (arms : DmArms) (c : Case) (us : List Tm) (k : Way → Tm → List Tm) (K : List Tm → Tm → List Tm) → Here c.way → Goes k K → dm_arm_walk P Tm none f g arms c us k ≡ from_each (dm_arm_ends P Ss F G arms (taken c) us) K
      dm-arm-follows d_end c us k K h e = refl
      dm-arm-follows (d_arm c' ys d more) c us k K h e = if_both (same_con c' c.con) _ _ _ _ K (dm-follows d (reverse c.parts ++ us) c.way k K h e) (dm-arm-follows more c us k K h e)

  no-f : Follows (no_walk_f P Tm none) (no_run_f P Ss)
  no-f s w k K h e = refl

  no-g : (v : Tm) → Follows (no_walk_g P Tm none v) (no_run_g P Ss v)
  no-g v s w k K h e = refl

  -- ---- core text

  call-follows : (j : ℕ) (ts : List Tm) (s : Tm) (place : ℕ) (w : Way) (k : Way → Tm → List Tm) (K : List Tm → Tm → List Tm) → Here w → Goes k K → call_applied P j ts s place w k ≡ from_each (call_ends P Ss j ts s w.hyps) K
  call-follows j ts s place w k K h e = go (fun_at P j)
    where
      go : (o : Option Fn) → if_there o (λ g. k w (t_app j (result_sort P g.effect g.sort) (row (with_input g.effect ts s)))) [] ≡ from_each (if_there o (λ g. at_end w.hyps (t_app j (result_sort P g.effect g.sort) (row (with_input g.effect ts s)))) []) K
      go None = refl
      go (Some g) = e w (t_app j (result_sort P g.effect g.sort) (row (with_input g.effect ts s))) h ∙ sym (append-nil (K w.hyps (t_app j (result_sort P g.effect g.sort) (row (with_input g.effect ts s)))))

  abbrev core : Cm → List Tm → Walk P Tm none
  core c us = walk P Tm none (call_applied P) c us

  let-from : (c1 c2 : Cm) (us : List Tm) → Follows (core c1 us) (ends P Ss c1 us) → ((t : Tm) → Follows (core c2 (t ∷ us)) (ends P Ss c2 (t ∷ us)))
      → (s : Tm) (w : Way) (k : Way → Tm → List Tm) (K : List Tm → Tm → List Tm) → Here w → Goes k K
      → core c1 us t_unit w (λ w1 t. core c2 (t ∷ all_raised (count w) w1 us) (raised (count w) w1 s) w1 k) ≡ from_each (over (ends P Ss c1 us t_unit w.hyps) (λ (e : End). ends P Ss c2 (e.result ∷ us) s e.hyps)) K
  let-from c1 c2 us f1 f2 s w k K h e =
      f1 t_unit w _ (λ hs t. from_each (ends P Ss c2 (t ∷ us) s hs) K) h
      (λ w1 t h1. ap₂ (λ vs v. core c2 (t ∷ vs) v w1 k) (all-raised-same w w1 us h h1) (raised-same w w1 s h h1) ∙ f2 t s w1 k K h1 e)
      ∙ sym (over-over (ends P Ss c1 us t_unit w.hyps) (λ (e : End). ends P Ss c2 (e.result ∷ us) s e.hyps) (λ (e : End). K e.hyps e.result))

  mutual
    pub follows : (c : Cm) (us : List Tm) → Follows (core c us) (ends P Ss c us)
    follows (c_ret t) us s w k K h e = ap (λ xs. xs ++ k w (put us t)) (over-none (divisions [] t)) ∙ e w (put us t) h ∙ sym (append-nil (K w.hyps (put us t)))
    follows (c_let x c1 c2) us s w k K h e = let-from c1 c2 us (follows c1 us) (λ t. follows c2 (t ∷ us)) s w k K h e
    follows (c_bind E x c1 c2) us s w k K h e =
        ap (λ Us. dm_walk P Tm none (λ s1 w1 k1. core c1 (all_raised (count w) w1 us) s1 w1 k1) (λ v s1 w1 k1. core c2 (v ∷ all_raised (count w) w1 us) s1 w1 k1)
        (dm_at (text_sort P Us c1) (text_sort P (text_sort P Us c1 ∷ Us) c2) (bind_text P E)) (s ∷ []) w k) (sorts-same w us h)
        ∙ dm-follows _ (λ s1 hs. ends P Ss c1 us s1 hs) _ (λ v s1 hs. ends P Ss c2 (v ∷ us) s1 hs)
        (λ s1 w1 k1 K1 h1 e1. ap (λ vs. core c1 vs s1 w1 k1) (all-raised-same w w1 us h h1) ∙ follows c1 us s1 w1 k1 K1 h1 e1)
        (λ v s1 w1 k1 K1 h1 e1. ap (λ vs. core c2 (v ∷ vs) s1 w1 k1) (all-raised-same w w1 us h h1) ∙ follows c2 (v ∷ us) s1 w1 k1 K1 h1 e1)
        (dm_at (text_sort P (map (sort_of Ss) us) c1) (text_sort P (text_sort P (map (sort_of Ss) us) c1 ∷ map (sort_of Ss) us) c2) (bind_text P E)) (s ∷ []) w k K h e
    follows (c_ghost x c1 c2) us s w k K h e = let-from c1 c2 us (follows c1 us) (λ t. follows c2 (t ∷ us)) s w k K h e
    follows (c_assert phi at c) us s w k K h e = follows c us s (suppose (put us phi) w) k K h e
    follows (c_if t c1 c2) us s w k K h e =
        ap (λ xs. xs ++ over (sides (put us t) w) (λ (side : Side). if side.first then core c1 us s side.way k else core c2 us s side.way k)) (over-none (divisions [] t))
        ∙ sides-turn K (λ b w1. if b then core c1 us s w1 k else core c2 us s w1 k) (λ b hs. if b then ends P Ss c1 us s hs else ends P Ss c2 us s hs)
        (λ b w1 h1. if_both b _ _ _ _ K (follows c1 us s w1 k K h1 e) (follows c2 us s w1 k K h1 e)) (put us t) w h
    follows (c_match t at arms) us s w k K h e =
        ap (λ xs. xs ++ over (cases (cm_family arms) (put us t) w) (λ c. arm_walk P Tm none (call_applied P) arms at c us s k)) (over-none (divisions [] t))
        ∙ cases-taken K (λ c. arm_walk P Tm none (call_applied P) arms at c us s k) (λ c. arm_ends P Ss arms c us s) (λ c h1. arm-follows arms at c us s k K h1 e) (put us t) w h (cm_family arms)
    follows (c_call j ts at) us s w k K h e =
        ap (λ xs. xs ++ call_applied P j (listed (puts us ts)) s at w k) (over-none (all_divisions [] ts)) ∙ call-follows j (listed (puts us ts)) s at w k K h e
    follows (c_reify E S c t) us s w k K h e = ap (λ xs. xs ++ core c us (put us t) w k) (over-none (divisions [] t)) ∙ follows c us (put us t) w k K h e
    follows (c_reflect E S x c) us s w k K h e = follows c (s ∷ us) t_unit w k K h e
    follows (c_return E c) us s w k K h e =
        ap (λ Us. core c us t_unit w (λ w1 t. dm_walk P Tm none (no_walk_f P Tm none) (no_walk_g P Tm none) (dm_at (text_sort P Us c) (text_sort P Us c) (return_text P E)) (raised (count w) w1 s ∷ t ∷ []) w1 k)) (sorts-same w us h)
        ∙ follows c us t_unit w _ (λ hs t. from_each (dm_ends P Ss (no_run_f P Ss) (no_run_g P Ss) (dm_at (text_sort P (map (sort_of Ss) us) c) (text_sort P (map (sort_of Ss) us) c) (return_text P E)) (s ∷ t ∷ []) hs) K) h
        (λ w1 t h1. ap (λ v. dm_walk P Tm none (no_walk_f P Tm none) (no_walk_g P Tm none) (dm_at (text_sort P (map (sort_of Ss) us) c) (text_sort P (map (sort_of Ss) us) c) (return_text P E)) (v ∷ t ∷ []) w1 k) (raised-same w w1 s h h1)
        ∙ dm-follows _ _ _ _ no-f no-g (dm_at (text_sort P (map (sort_of Ss) us) c) (text_sort P (map (sort_of Ss) us) c) (return_text P E)) (s ∷ t ∷ []) w1 k K h1 e)
        ∙ sym (over-over (ends P Ss c us t_unit w.hyps) (λ (e : End). dm_ends P Ss (no_run_f P Ss) (no_run_g P Ss) (dm_at (text_sort P (map (sort_of Ss) us) c) (text_sort P (map (sort_of Ss) us) c) (return_text P E)) (s ∷ e.result ∷ []) e.hyps) (λ (e : End). K e.hyps e.result))
    follows (c_lift l c) us s w k K h e =
        ap (λ Us. dm_walk P Tm none (λ s1 w1 k1. core c (all_raised (count w) w1 us) s1 w1 k1) (no_walk_g P Tm none) (dm_at (text_sort P Us c) (text_sort P Us c) (lift_text P l)) (s ∷ []) w k) (sorts-same w us h)
        ∙ dm-follows _ (λ s1 hs. ends P Ss c us s1 hs) _ (no_run_g P Ss) (λ s1 w1 k1 K1 h1 e1. ap (λ vs. core c vs s1 w1 k1) (all-raised-same w w1 us h h1) ∙ follows c us s1 w1 k1 K1 h1 e1) no-g
        (dm_at (text_sort P (map (sort_of Ss) us) c) (text_sort P (map (sort_of Ss) us) c) (lift_text P l)) (s ∷ []) w k K h e

    arm-follows : (arms : CmArms) (at : ℕ) (c : Case) (us : List Tm) (s : Tm) (k : Way → Tm → List Tm) (K : List Tm → Tm → List Tm) → Here c.way → Goes k K → arm_walk P Tm none (call_applied P) arms at c us s k ≡ from_each (arm_ends P Ss arms (taken c) us s) K
    arm-follows c_end at c us s k K h e = refl
    arm-follows (c_arm c' ys body more) at c us s k K h e = if_both (same_con c' c.con) _ _ _ _ K (follows body (reverse c.parts ++ us) s c.way k K h e) (arm-follows more at c us s k K h e)

-- the way that an unfolding begins on
abbrev pub begun : (vars : List Vr) → List Tm → Way
begun vars demands = suppose_all demands (record { vars = vars; hyps = []; choices = [] })

-- the facts of unfolding an application, one for each end of the body's ways
pub unfolded-ends : (P : Prog) (vars : List Vr) (t : Tm) (f : Fn) (ts : List Tm) (s : Tm)
    → unfolded P vars t f ts s ≡ over (ends P (Ss P vars) f.body (reverse ts) s (begun vars (demands_of f ts s)).hyps) (λ (e : End). implies (joined (reverse e.hyps)) (equation t e.result) ∷ [])
unfolded-ends P vars t f ts s =
    follows P vars f.body (reverse ts) s (begun vars (demands_of f ts s)) (way_fact t) (λ hs r. implies (joined (reverse hs)) (equation t r) ∷ []) (suppose-all-vars (demands_of f ts s) _) (λ w r h. refl)
