-- Where ghost variables and GHOST functions stand: outside of GHOST functions in ghost parts alone. So what erasure leaves wants nothing that
-- is gone; a disciplined, well-sorted program keeps to this.
use Rattle.std.proofs.Common.{◌≡◌, ◌⊎◌, inl, inr, ℕ, true, false, if◌then◌else◌, List, [], ◌∷◌, ◌++◌, map, length, slice_get, Option, Some, None, refl, ap, ◌∙◌, subst}
use Rattle.std.specs.Prelude.{⊤}
use Rattle.fst_base.specs.Sorts.{Srt, s_bool, s_pair, s_opt, s_list, s_either}
use Rattle.fst_terms.specs.Terms.{Tms, t_end, t_more}
use Rattle.fst_terms.specs.Meaning.{Env}
use Rattle.fst_terms.specs.Sorted.{TmsSorted}
use Rattle.fst_program.specs.declared.comp.Con.{Con}
use Rattle.fst_program.specs.declared.comp.Con.TheVariants as con
use Rattle.fst_program.specs.declared.effect.Effect.{Effect}
use Rattle.fst_program.specs.declared.effect.Effect.TheVariants as effect
use Rattle.fst_program.specs.Texts.{Cm, CmArms, c_ret, c_let, c_bind, c_ghost, c_assert, c_if, c_match, c_call, c_reify, c_reflect, c_return, c_lift, c_end, c_arm, Prog, Prm, Fn, EffDef, if_there, fun_at, effect_at, is_ghost, result_at}
use Rattle.fst_program.specs.Erasure.{Scope}
use Rattle.fst_program.specs.Paths as paths
use Rattle.fst_program.specs.Sorted.{Applies, ConOf, CmSorted, ArmsSorted, IsSorted}
use Rattle.fst_program.specs.Places.{TmShown, StandsAt, base_place, ArgsPlaced, CmPlaced, ArmsPlaced}
use Rattle.fst_program.specs.Discipline.{body_scope, IsDisciplined}
use Rattle.fst_program.proofs.ThereLemmas.{there, there-is, same-there}

-- one argument for each parameter, and ghost variables in ghost arguments alone
abbrev pub ArgsShown : Scope → List Prm → Tms → Type 0
ArgsShown scope [] t_end = ⊤
ArgsShown scope (p ∷ ps) (t_more t ts) = (p.hidden ≡ false → TmShown scope t) × ArgsShown scope ps ts
ArgsShown _ _ _ = ⊥

-- how many parts a constructor has
abbrev pub part_count : Con → ℕ
part_count con.Full = 1
part_count con.Cons = 2
part_count con.Left = 1
part_count con.Right = 1
part_count con.Pair = 2
part_count _ = 0

module _ (P : Prog) where
  -- the text stands in a place that isn't GHOST: ghost variables stand in its formulas, ghost lets and ghost arguments alone, and it
  -- calls GHOST functions in its ghost lets alone; its patterns have as many names as their constructors have parts
  abbrev mutual
    pub CmShown : Scope → Cm → Type 0
    CmShown scope (c_ret t) = TmShown scope t
    CmShown scope (c_let x c1 c2) = CmShown scope c1 × CmShown (false ∷ scope) c2
    CmShown scope (c_bind E x c1 c2) = CmShown scope c1 × CmShown (false ∷ scope) c2
    CmShown scope (c_ghost x c1 c2) = CmShown (true ∷ scope) c2
    CmShown scope (c_assert phi at c) = CmShown scope c
    CmShown scope (c_if t c1 c2) = TmShown scope t × CmShown scope c1 × CmShown scope c2
    CmShown scope (c_match t at arms) = TmShown scope t × ArmsShown scope arms
    CmShown scope (c_call j ts at) = if_there (fun_at P j) (λ f. (is_ghost f.effect ≡ false) × ArgsShown scope f.params ts) ⊥
    CmShown scope (c_reify E S c t) = CmShown scope c × TmShown scope t
    CmShown scope (c_reflect E S x c) = CmShown (false ∷ scope) c
    CmShown scope (c_return E c) = CmShown scope c
    CmShown scope (c_lift l c) = CmShown scope c

    pub ArmsShown : Scope → CmArms → Type 0
    ArmsShown scope c_end = ⊤
    ArmsShown scope (c_arm c xs body more) = (length xs ≡ part_count c) × CmShown (map (λ x. false) xs ++ scope) body × ArmsShown scope more

-- no function but a GHOST one uses a ghost variable or a GHOST function outside of ghost parts
abbrev pub GhostsApart : Prog → Type 0
GhostsApart P = (k : ℕ) (f : Fn) → fun_at P k ≡ Some f → is_ghost f.effect ≡ false → CmShown P (body_scope f) f.body

-- the values of the variables that aren't ghost ones
abbrev pub shown_env : Scope → Env → Env
shown_env [] e = e
shown_env (g ∷ scope) [] = []
shown_env (g ∷ scope) (v ∷ e) = if g then shown_env scope e else v ∷ shown_env scope e

-- ---- a disciplined program keeps its ghost parts apart

con-parts : (c : Con) (T : Srt) → ConOf c T → length (paths.part_sorts c T) ≡ part_count c
con-parts con.True s_bool h = refl
con-parts con.False s_bool h = refl
con-parts con.Empty (s_opt S) h = refl
con-parts con.Full (s_opt S) h = refl
con-parts con.Nil (s_list S) h = refl
con-parts con.Cons (s_list S) h = refl
con-parts con.Left (s_either S T) h = refl
con-parts con.Right (s_either S T) h = refl
con-parts con.Pair (s_pair S T) h = refl
con-parts c T h = absurd h

module _ (P : Prog) (apart : (E : ℕ) → is_ghost (base_place P (effect.User E)) ≡ false) where
  base-apart : (x : Effect) → is_ghost x ≡ false → is_ghost (base_place P x) ≡ false
  base-apart effect.Pure h = refl
  base-apart effect.Ghost h = cc
  base-apart effect.Div h = refl
  base-apart (effect.User E) h = apart E

  part-apart : (e x : Effect) → is_ghost x ≡ false → StandsAt e x → is_ghost e ≡ false
  part-apart effect.Pure x g h = refl
  part-apart effect.Div x g h = refl
  part-apart (effect.User D) x g h = refl
  part-apart effect.Ghost effect.Ghost g h = cc
  part-apart effect.Ghost effect.Pure g h = absurd h
  part-apart effect.Ghost effect.Div g h = absurd h
  part-apart effect.Ghost (effect.User E) g h = absurd h

  args-shown : (hs : Scope) (Ss : List Srt) (ps : List Prm) (ts : Tms) → TmsSorted (Applies P) Ss ts (map (λ p. p.sort) ps) → ArgsPlaced false hs ps ts → ArgsShown hs ps ts
  args-shown hs Ss [] t_end h k = tt
  args-shown hs Ss [] (t_more t ts) h k = let e = h.1.1.0 in cc
  args-shown hs Ss (p ∷ ps) t_end h k = cc
  args-shown hs Ss (p ∷ ps) (t_more t ts) h k =
      let e : h.1.0 ≡ map (λ p. p.sort) ps = let e = h.1.1.0 in cc in
      (go k.0, args-shown hs Ss ps ts (subst (TmsSorted (Applies P) Ss ts) e h.1.1.2) k.1)
    where
      go : (p.hidden ≡ true) ⊎ TmShown hs t → p.hidden ≡ false → TmShown hs t
      go (inl a) b = absurd cc
      go (inr a) b = a

  mutual
    pub shown : (hs : Scope) (Ss : List Srt) (x : Effect) (c : Cm) (S : Srt) (p : Option ℕ) → is_ghost x ≡ false → CmSorted P Ss p c S → CmPlaced P false hs x c → CmShown P hs c
    shown hs Ss x (c_ret t) S p g h k = k
    shown hs Ss x (c_let y c1 c2) S p g h k = (shown hs Ss (base_place P x) c1 h.0 None (base-apart x g) h.1.0 k.0, shown (false ∷ hs) (h.0 ∷ Ss) x c2 S p g h.1.1 k.1)
    shown hs Ss x (c_bind E y c1 c2) S p g h k = (shown hs Ss x c1 h.1.0 p g h.1.1.0 k.0, shown (false ∷ hs) (h.1.0 ∷ Ss) x c2 S p g h.1.1.1 k.1)
    shown hs Ss x (c_ghost y c1 c2) S p g h k = shown (true ∷ hs) (h.0 ∷ Ss) x c2 S p g h.1.1 k.1
    shown hs Ss x (c_assert phi at c) S p g h k = shown hs Ss x c S p g h.1 k
    shown hs Ss x (c_if t c1 c2) S p g h k = (k.0, shown hs Ss x c1 S p g h.1 k.1, shown hs Ss x c2 S p g h.2 k.2)
    shown hs Ss x (c_match t at arms) S p g h k = (k.0, arms-shown hs Ss x h.0 arms S p g h.1.1 k.1)
    shown hs Ss x (c_call j ts at) S p g h k =
        let f = there (fun_at P j) _ h in
        let q = there (fun_at P j) _ k in
        let same : q.0 ≡ f.0 = same-there (fun_at P j) q.0 f.0 q.1.0 f.1.0 in
        there-is (fun_at P j) (λ f. (is_ghost f.effect ≡ false) × ArgsShown hs f.params ts) f.0 f.1.0
        (subst (λ f. is_ghost f.effect ≡ false) same (part-apart q.0.effect x g q.1.1.0), args-shown hs Ss f.0.params ts f.1.1.2 (subst (λ f. ArgsPlaced false hs f.params ts) same q.1.1.1))
    shown hs Ss x (c_reify E T c t) S p g h k = (shown hs Ss (effect.User E) c T (Some E) refl h.2 k.2, k.1)
    shown hs Ss x (c_reflect E T y c) S p g h k =
        let d = there (effect_at P E) _ h.2 in shown (false ∷ hs) (d.0.input ∷ Ss) (base_place P (effect.User E)) c (result_at P E T) None (apart E) d.1.1 k
    shown hs Ss x (c_return E c) S p g h k = shown hs Ss (base_place P x) c S None (base-apart x g) h.1 k
    shown hs Ss x (c_lift n c) S p g h k =
        let l = there (slice_get P.lifts n) _ h in
        let m = there (slice_get P.lifts n) _ k in
        let same : m.0 ≡ l.0 = same-there (slice_get P.lifts n) m.0 l.0 m.1.0 l.1.0 in
        shown hs Ss (effect.User l.0.from) c S (Some l.0.from) refl l.1.1.1 (subst (λ l. CmPlaced P false hs (effect.User l.from) c) same m.1.1)

    arms-shown : (hs : Scope) (Ss : List Srt) (x : Effect) (T : Srt) (arms : CmArms) (S : Srt) (p : Option ℕ) → is_ghost x ≡ false → ArmsSorted P Ss p T arms S → ArmsPlaced P false hs x arms → ArmsShown P hs arms
    arms-shown hs Ss x T c_end S p g h k = tt
    arms-shown hs Ss x T (c_arm c ys body more) S p g h k =
        (h.1 ∙ con-parts c T h.0, shown (map (λ y. false) ys ++ hs) (paths.part_sorts c T ++ Ss) x body S p g h.2 k.0, arms-shown hs Ss x T more S p g h.3 k.1)

-- a disciplined program keeps its ghost parts apart
pub ghosts-apart : (P : Prog) → IsSorted P → IsDisciplined P → GhostsApart P
ghosts-apart P s d k f e g =
    let kept = subst (λ b. CmPlaced P b (body_scope f) f.effect f.body) g (d.funs k f e).places in
    shown P (λ E. two (effect_at P E) (λ d0 q. d.bases E d0 q)) (body_scope f) _ f.effect f.body f.sort _ g (s.funs k f e).body kept
  where
    two : (o : Option EffDef) → ((d : EffDef) → o ≡ Some d → (d.base ≡ effect.Pure) ⊎ (d.base ≡ effect.Div)) → is_ghost (if_there o (λ d. d.base) effect.Div) ≡ false
    two None t = refl
    two (Some d) t = one (t d refl)
      where
        one : (d.base ≡ effect.Pure) ⊎ (d.base ≡ effect.Div) → is_ghost d.base ≡ false
        one (inl p) = ap is_ghost p
        one (inr p) = ap is_ghost p
