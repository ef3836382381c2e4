-- The same for core text: its symbolic run meets each site and each end of a way with formulas and a result of their sorts.
use Rattle.std.proofs.Common.{◌≡◌, ℕ, zero, ◌≤◌, Bool, true, false, if◌then◌else◌, List, [], ◌∷◌, ◌++◌, map, reverse, Option, Some, None, IsTrue, refl, sym, ap, ap₂, ◌∙◌, subst, slice_get}
use Rattle.std.specs.Prelude.{⊤}
use Rattle.fst_base.specs.Sorts.{Srt, s_bool, s_a, s_b, put_sorts}
use Rattle.fst_base.proofs.RowLemmas.{put_sorts-twice, put_sorts-without_b, put_sorts-closed}
use Rattle.fst_terms.specs.Terms.{Tm, t_bool, t_unit, listed}
use Rattle.fst_terms.specs.Formulas.{put, puts}
use Rattle.fst_terms.specs.Sorted.{TmSorted, TmsSorted, are_run}
use Rattle.fst_program.specs.declared.goal.SiteKind.{SiteKind}
use Rattle.fst_program.specs.declared.goal.SiteKind.TheVariants as kind
use Rattle.fst_program.specs.Texts.{d_ret, Cm, CmArms, c_ret, c_let, c_bind, c_ghost, c_assert, c_if, c_match, c_call, c_reify, c_reflect, c_return, c_lift, c_end, c_arm, EffDef, LftDef, Fn, Prog, if_there, fun_at, effect_at, bind_text, return_text, lift_text, is_total, result_at, group_of}
use Rattle.fst_program.specs.Paths.{Way, count, suppose, raised, all_raised, over, Side, Case, cases, same_con, sort_on, cm_family, divisions, all_divisions, divisor_sites, part_sorts, text_sort, dm_at, dm_walk, no_walk_f, no_walk_g, walk, arm_walk, CallWalk}
use Rattle.fst_program.specs.Sorted.{Applies, RunSorted, FSorts, GSorts, DmSorted, LiftSorted, place_of, result_in, CmSorted, ArmsSorted, param_sorts, IsSorted}
use Rattle.fst_program.specs.Full.{HasArm}
use Rattle.fst_goodness.proofs.Kept.{total_fun, IsKept, CmKept, ArmsKept}
use Rattle.fst_goodness.proofs.Spoken.{CmSpeaks, ArmsSpeak}
use Rattle.fst_program.specs.Groups.{TmEarlier}
use Rattle.fst_program.proofs.SortedTerms.{AllSorted, append-sorted, put-sorted, puts-sorted, sorts-are}
use Rattle.fst_program.proofs.Ways.{way_sorts}
use Rattle.fst_goodness.proofs.Choices.{same-con-is}
use Rattle.fst_goodness.proofs.TextSorts.{text-sort-is}
use Rattle.fst_goodness.proofs.CoreEffects.{listed-sorted}
use Rattle.fst_goodness.proofs.Formed.{run-sorted, runs-sorted, Later, later-same, later-then, Formed, raised-later, all-raised-later, sorted-on, all-sorted-on, divisions-of, all-divisions-of}
use Rattle.fst_goodness.proofs.FormedDefinitions.{Each, each-both, Wants, wants-on, Branch, each-case, each-side, each-divisor, dm-each}

module _ (fixed : Bool) (P : Prog) (A : (k : ℕ) → List Srt → (S : Srt) → Type 0) where
  -- the term of an input has the sort that the effect of the place takes
  abbrev pub InputFormed : Way → Option ℕ → Tm → Type 0
  InputFormed w None s = ⊤
  InputFormed w (Some E) s = if_there (effect_at P E) (λ d. TmSorted A (way_sorts w) s d.input) ⊥

  pub input-on : (w w1 : Way) (x : Option ℕ) (s : Tm) → w1.vars ≡ w.vars → InputFormed w x s → InputFormed w1 x s
  input-on w w1 None s q h = tt
  input-on w w1 (Some E) s q h = go (effect_at P E) h
    where
      go : (o : Option EffDef) → if_there o (λ d. TmSorted A (way_sorts w) s d.input) ⊥ → if_there o (λ d. TmSorted A (way_sorts w1) s d.input) ⊥
      go None h = absurd h
      go (Some d) h = sorted-on A w w1 s d.input q h

  pub input-raised : (w w1 : Way) (x : Option ℕ) (s : Tm) → Later fixed w w1 → InputFormed w x s → InputFormed w1 x (raised (count w) w1 s)
  input-raised w w1 None s x h = tt
  input-raised w w1 (Some E) s x h = go (effect_at P E) h
    where
      go : (o : Option EffDef) → if_there o (λ d. TmSorted A (way_sorts w) s d.input) ⊥ → if_there o (λ d. TmSorted A (way_sorts w1) (raised (count w) w1 s) d.input) ⊥
      go None h = absurd h
      go (Some d) h = raised-later A fixed w w1 s d.input x h

  -- terms for a text's variables and for its input, on a formed way
  pub record Fit (w0 : Way) (Ss : List Srt) (x : Option ℕ) (us : List Tm) (s : Tm) (w : Way) : Type 0 where
    pub later : Later fixed w0 w
    pub formed : Formed A w
    pub terms : AllSorted A (way_sorts w) us Ss
    pub input : InputFormed w x s

module _ (fixed : Bool) (P : Prog) (sorted : IsSorted P) (kept : IsKept P) (group : ℕ) (A : (k : ℕ) → List Srt → (S : Srt) → Type 0) (speaks : (Ss : List Srt) (phi : Tm) (S : Srt) → TmSorted (Applies P) Ss phi S → TmEarlier P group phi → TmSorted A Ss phi S)
    (X : Type 0) (site : SiteKind → (place : ℕ) → Tm → Way → List X) (Good : X → Type 0)
    (site-ok : (m : SiteKind) (at : ℕ) (phi : Tm) (w : Way) → Formed A w → TmSorted A (way_sorts w) phi s_bool → Each fixed P A X site Good (site m at phi w)) where
  abbrev All : List X → Type 0
  All = Each fixed P A X site Good

  abbrev Next : Type 0
  Next = Way → Tm → List X

  abbrev Steps : Type 0
  Steps = Tm → Way → Next → List X

  abbrev Want : Way → Srt → Next → Type 0
  Want = Wants fixed P A X site Good

  both : (xs ys : List X) → All xs → All ys → All (xs ++ ys)
  both = each-both fixed P A X site Good

  want-on : (w w1 : Way) (S : Srt) (k : Next) → Later fixed w w1 → Want w S k → Want w1 S k
  want-on = wants-on fixed P A X site Good

  -- ---- the texts of effects and lifts

  effect-of : (E : ℕ) (w : Way) (s : Tm) → InputFormed fixed P A w (Some E) s → (d : EffDef) × (effect_at P E ≡ Some d) × TmSorted A (way_sorts w) s d.input
  effect-of E w s h = go (effect_at P E) h
    where
      go : (o : Option EffDef) → if_there o (λ d. TmSorted A (way_sorts w) s d.input) ⊥ → (d : EffDef) × (o ≡ Some d) × TmSorted A (way_sorts w) s d.input
      go None h = absurd h
      go (Some d) h = (d, refl, h)

  sorted-to : (E : ℕ) (d : EffDef) (w : Way) (s : Tm) → effect_at P E ≡ Some d → TmSorted A (way_sorts w) s d.input → InputFormed fixed P A w (Some E) s
  sorted-to E d w s q h = subst (λ o. if_there o (λ d. TmSorted A (way_sorts w) s d.input) ⊥) (sym q) h

  result-is : (E : ℕ) (d : EffDef) (S : Srt) → effect_at P E ≡ Some d → result_at P E S ≡ put_sorts S s_b d.result
  result-is E d S q = ap (λ o. if_there o (λ d. put_sorts S s_b d.result) S) q

  -- a text that reads an input of the effect E
  abbrev Serves : ℕ → Srt → Way → Steps → Type 0
  Serves E R w steps = (w1 : Way) (s1 : Tm) (k1 : Next) → Later fixed w w1 → Formed A w1 → InputFormed fixed P A w1 (Some E) s1 → Want w1 R k1 → All (steps s1 w1 k1)

  abbrev ServesNext : ℕ → Srt → Srt → Way → (Tm → Steps) → Type 0
  ServesNext E T R w steps = (w1 : Way) (t s1 : Tm) (k1 : Next) → Later fixed w w1 → Formed A w1 → TmSorted A (way_sorts w1) t T → InputFormed fixed P A w1 (Some E) s1 → Want w1 R k1 → All (steps t s1 w1 k1)

  module _ (w : Way) (s : Tm) (k : Next) (formed : Formed A w) where
    bind-each : (E : ℕ) (T S : Srt) (fw : Steps) (gw : Tm → Steps) → InputFormed fixed P A w (Some E) s → Serves E (result_at P E T) w fw → ServesNext E T (result_at P E S) w gw → Want w (result_at P E S) k → All (dm_walk P X site fw gw (dm_at T S (bind_text P E)) (s ∷ []) w k)
    bind-each E T S fw gw is cf cg wn =
        let there = effect-of E w s is in
        let d = there.0 in
        let q = there.1 in
        let ok = sorted.effects E d q in
        let input = put_sorts-closed T S d.input ok.input_without_a ok.input_without_b in
        let lower_is : put_sorts T S d.result ≡ result_at P E T = put_sorts-without_b T S s_b d.result ok.result_without_b ∙ sym (result-is E d T q) in
        let upper_is : put_sorts T S (put_sorts s_b s_b d.result) ≡ result_at P E S = put_sorts-twice T S s_b s_b d.result ∙ put_sorts-without_b S S s_b d.result ok.result_without_b ∙ sym (result-is E d S q) in
        let text_is : bind_text P E ≡ d.bind = ap (λ o. if_there o (λ d. d.bind) (d_ret t_unit)) q in
        let hf : Option FSorts = Some (record { input = d.input; result = d.result }) in
        let hg : Option GSorts = Some (record { value = s_a; input = d.input; result = put_sorts s_b s_b d.result }) in
        subst (λ t. All (dm_walk P X site fw gw (dm_at T S t) (s ∷ []) w k)) (sym text_is)
        (dm-each fixed P A X site Good site-ok T S w hf hg fw gw
        (λ w1 s1 k1 x f ss wn1. cf w1 s1 k1 x f (sorted-to E d w1 s1 q (subst (λ I. TmSorted A (way_sorts w1) s1 I) input ss)) (subst (λ R. Want w1 R k1) lower_is wn1))
        (λ w1 t s1 k1 x f ts ss wn1. cg w1 t s1 k1 x f ts (sorted-to E d w1 s1 q (subst (λ I. TmSorted A (way_sorts w1) s1 I) input ss)) (subst (λ R. Want w1 R k1) upper_is wn1))
        d.bind (d.input ∷ []) (put_sorts s_b s_b d.result) (s ∷ []) w k ok.binds (kept.binds E d q)
        (record { later = later-same fixed w w refl; formed = formed; terms = (subst (λ I. TmSorted A (way_sorts w) s I) (sym input) there.2, tt) })
        (subst (λ R. Want w R k) (sym upper_is) wn))

    return-each : (E : ℕ) (S : Srt) (t : Tm) → InputFormed fixed P A w (Some E) s → TmSorted A (way_sorts w) t S → Want w (result_at P E S) k → All (dm_walk P X site (no_walk_f P X site) (no_walk_g P X site) (dm_at S S (return_text P E)) (s ∷ t ∷ []) w k)
    return-each E S t is ts wn =
        let there = effect-of E w s is in
        let d = there.0 in
        let q = there.1 in
        let ok = sorted.effects E d q in
        let input = put_sorts-closed S S d.input ok.input_without_a ok.input_without_b in
        let upper_is : put_sorts S S d.result ≡ result_at P E S = put_sorts-without_b S S s_b d.result ok.result_without_b ∙ sym (result-is E d S q) in
        let text_is : return_text P E ≡ d.ret = ap (λ o. if_there o (λ d. d.ret) (d_ret t_unit)) q in
        subst (λ x. All (dm_walk P X site (no_walk_f P X site) (no_walk_g P X site) (dm_at S S x) (s ∷ t ∷ []) w k)) (sym text_is)
        (dm-each fixed P A X site Good site-ok S S w None None (no_walk_f P X site) (no_walk_g P X site) tt tt
        d.ret (d.input ∷ s_a ∷ []) d.result (s ∷ t ∷ []) w k ok.returns (kept.returns E d q)
        (record { later = later-same fixed w w refl; formed = formed; terms = (subst (λ I. TmSorted A (way_sorts w) s I) (sym input) there.2, (ts, tt)) })
        (subst (λ R. Want w R k) (sym upper_is) wn))

    -- the lower effect of a lift, and its text's sorts
    lift-lower : (l : LftDef) (upper : EffDef) → effect_at P l.«to» ≡ Some upper → LiftSorted P l → (low : EffDef) × (effect_at P l.from ≡ Some low) × DmSorted P (Some (record { input = low.input; result = low.result })) None (upper.input ∷ []) l.text upper.result
    lift-lower l upper q h = go (effect_at P l.from) (subst (λ u. if_there (effect_at P l.from) (λ low. if_there u (λ upper. DmSorted P (Some (record { input = low.input; result = low.result })) None (upper.input ∷ []) l.text upper.result) ⊥) ⊥) q h)
      where
        go : (o : Option EffDef) → if_there o (λ low. DmSorted P (Some (record { input = low.input; result = low.result })) None (upper.input ∷ []) l.text upper.result) ⊥ → (low : EffDef) × (o ≡ Some low) × DmSorted P (Some (record { input = low.input; result = low.result })) None (upper.input ∷ []) l.text upper.result
        go None h = absurd h
        go (Some low) h = (low, refl, h)

    lift-each : (n : ℕ) (l : LftDef) (S : Srt) (fw : Steps) → slice_get P.lifts n ≡ Some l → InputFormed fixed P A w (Some l.«to») s → Serves l.from (result_at P l.from S) w fw → Want w (result_at P l.«to» S) k → All (dm_walk P X site fw (no_walk_g P X site) (dm_at S S l.text) (s ∷ []) w k)
    lift-each n l S fw p is cf wn =
        let there = effect-of l.«to» w s is in
        let upper = there.0 in
        let q = there.1 in
        let low = lift-lower l upper q (sorted.lifts n l p) in
        let under = low.0 in
        let ok = sorted.effects l.«to» upper q in
        let okl = sorted.effects l.from under low.1 in
        let input = put_sorts-closed S S upper.input ok.input_without_a ok.input_without_b in
        let input_l = put_sorts-closed S S under.input okl.input_without_a okl.input_without_b in
        let upper_is : put_sorts S S upper.result ≡ result_at P l.«to» S = put_sorts-without_b S S s_b upper.result ok.result_without_b ∙ sym (result-is l.«to» upper S q) in
        let lower_is : put_sorts S S under.result ≡ result_at P l.from S = put_sorts-without_b S S s_b under.result okl.result_without_b ∙ sym (result-is l.from under S low.1) in
        let hf : Option FSorts = Some (record { input = under.input; result = under.result }) in
        dm-each fixed P A X site Good site-ok S S w hf None fw (no_walk_g P X site)
        (λ w1 s1 k1 x f ss wn1. cf w1 s1 k1 x f (sorted-to l.from under w1 s1 low.1 (subst (λ I. TmSorted A (way_sorts w1) s1 I) input_l ss)) (subst (λ R. Want w1 R k1) lower_is wn1))
        tt
        l.text (upper.input ∷ []) upper.result (s ∷ []) w k low.2 (kept.lifts n l p)
        (record { later = later-same fixed w w refl; formed = formed; terms = (subst (λ I. TmSorted A (way_sorts w) s I) (sym input) there.2, tt) })
        (subst (λ R. Want w R k) (sym upper_is) wn)

  -- ---- core text

  module _ (call : CallWalk P X site) where
    abbrev walked : Cm → List Tm → Steps
    walked c us s w k = walk P X site call c us s w k

    abbrev arms-walked : CmArms → (place : ℕ) → Case → List Tm → Tm → Next → List X
    arms-walked arms at c us s k = arm_walk P X site call arms at c us s k

    abbrev side-walked : Cm → Cm → List Tm → Tm → Next → Side → List X
    side-walked c1 c2 us s k side = if side.first then walked c1 us s side.way k else walked c2 us s side.way k

    module _ (w0 : Way) (total : Bool) where
      abbrev Fits : List Srt → Option ℕ → List Tm → Tm → Way → Type 0
      Fits Ss x us s w = Fit fixed P A w0 Ss x us s w

      -- a call on arguments and an input of their sorts; ghost parts may call other functions than their place
      abbrev pub CallsForm : Type 0
      CallsForm = (j : ℕ) (g : Fn) → fun_at P j ≡ Some g → g.group ≤ group → (tot : Bool) → (total ≡ true → tot ≡ true) → (tot ≡ true → IsTrue (is_total P g.effect)) → (w : Way) (ts : List Tm) (s : Tm) (at : ℕ) (k : Next) → Later fixed w0 w → Formed A w
          → AllSorted A (way_sorts w) ts (param_sorts P g) → InputFormed fixed P A w (place_of g.effect) s → Want w (result_in P (place_of g.effect) g.sort) k → All (call j ts s at w k)

      fit-on : (Ss : List Srt) (x : Option ℕ) (us : List Tm) (s : Tm) (w w1 : Way) → w1.vars ≡ w.vars → Formed A w1 → Fits Ss x us s w → Fits Ss x us s w1
      fit-on Ss x us s w w1 q fo f = record { later = later-then fixed w0 w w1 f.later (later-same fixed w w1 q); formed = fo; terms = all-sorted-on A w w1 us Ss q f.terms; input = input-on fixed P A w w1 x s q f.input }

      fit-plain : (Ss : List Srt) (x : Option ℕ) (us : List Tm) (s : Tm) (w : Way) → Fits Ss x us s w → Fits Ss None us t_unit w
      fit-plain Ss x us s w f = record { later = f.later; formed = f.formed; terms = f.terms; input = tt }

      fit-later : (Ss : List Srt) (x : Option ℕ) (us : List Tm) (s : Tm) (w w1 : Way) (T : Srt) (t : Tm) → Fits Ss x us s w → Later fixed w w1 → Formed A w1 → TmSorted A (way_sorts w1) t T → Fits (T ∷ Ss) x (t ∷ all_raised (count w) w1 us) (raised (count w) w1 s) w1
      fit-later Ss x us s w w1 T t f y fo ts = record { later = later-then fixed w0 w w1 f.later y; formed = fo; terms = (ts, all-raised-later A fixed w w1 us Ss y f.terms); input = input-raised fixed P A w w1 x s y f.input }

      fit-raised : (Ss : List Srt) (x y : Option ℕ) (us : List Tm) (s s1 : Tm) (w w1 : Way) → Fits Ss x us s w → Later fixed w w1 → Formed A w1 → InputFormed fixed P A w1 y s1 → Fits Ss y (all_raised (count w) w1 us) s1 w1
      fit-raised Ss x y us s s1 w w1 f l fo is = record { later = later-then fixed w0 w w1 f.later l; formed = fo; terms = all-raised-later A fixed w w1 us Ss l f.terms; input = is }

      fit-under : (Ss : List Srt) (x : Option ℕ) (us : List Tm) (s : Tm) (w : Way) (T : Srt) (c : Case) → Branch fixed P A X site Good w T c → Fits Ss x us s w → Fits (part_sorts c.con T ++ Ss) x (reverse c.parts ++ us) s c.way
      fit-under Ss x us s w T c br f =
          let g = fit-on Ss x us s w c.way br.vars br.formed f in
          record { later = g.later; formed = g.formed; terms = append-sorted A (way_sorts c.way) (reverse c.parts) us (part_sorts c.con T) Ss (all-sorted-on A w c.way (reverse c.parts) (part_sorts c.con T) br.vars br.parts) g.terms; input = g.input }

      run : (Ss : List Srt) (t : Tm) (S : Srt) → RunSorted P Ss t S → TmSorted A Ss t S
      run Ss t S h = run-sorted (Applies P) A Ss t S h.0 h.1

      symbol : (Ss : List Srt) (x : Option ℕ) (t : Tm) (S : Srt) (us : List Tm) (s : Tm) (w : Way) → RunSorted P Ss t S → Fits Ss x us s w → TmSorted A (way_sorts w) (put us t) S
      symbol Ss x t S us s w h f = put-sorted A (way_sorts w) us Ss t S f.terms (run Ss t S h)

      sites : (Ss : List Srt) (x : Option ℕ) (t : Tm) (S : Srt) (us : List Tm) (s : Tm) (w : Way) → RunSorted P Ss t S → Fits Ss x us s w → All (divisor_sites P X site (divisions [] t) us w)
      sites Ss x t S us s w h f = each-divisor fixed P A X site Good site-ok (divisions [] t) us Ss w f.formed f.terms (divisions-of A Ss [] t S tt (run Ss t S h))

      total-callee : (j : ℕ) (g : Fn) (tot : Bool) → fun_at P j ≡ Some g → (tot ≡ true → IsTrue (total_fun P j)) → tot ≡ true → IsTrue (is_total P g.effect)
      total-callee j g tot q h t = subst (λ o. IsTrue (if_there o (λ g. is_total P g.effect) false)) q (h t)

      callee-group : (j : ℕ) (g : Fn) → fun_at P j ≡ Some g → group_of P j ≤ group → g.group ≤ group
      callee-group j g q h = subst (λ o. if_there o (λ f. f.group) zero ≤ group) q h

      module _ (calls : CallsForm) where
        mutual
          pub text-each : (c : Cm) (tot : Bool) → (total ≡ true → tot ≡ true) → (Ss : List Srt) (x : Option ℕ) (S : Srt) (us : List Tm) (s : Tm) (w : Way) (k : Next) → CmSorted P Ss x c S → CmKept P group tot c → CmSpeaks P group c → Fits Ss x us s w → Want w (result_in P x S) k → All (walked c us s w k)
          text-each (c_ret t) tot tt1 Ss x S us s w k h a sp f wn =
              both _ _ (sites Ss x t S us s w h.1 f)
              (subst (λ z. Want w (result_in P z S) k) h.0 wn w (put us t) (later-same fixed w w refl) f.formed (symbol Ss x t S us s w h.1 f))
          text-each (c_let y c1 c2) tot tt1 Ss x S us s w k h a sp f wn =
              text-each c1 tot tt1 Ss None h.0 us t_unit w _ h.1.0 a.0 sp.0 (fit-plain Ss x us s w f)
              (λ w1 t l fo ts. text-each c2 tot tt1 (h.0 ∷ Ss) x S (t ∷ all_raised (count w) w1 us) (raised (count w) w1 s) w1 k h.1.1 a.1 sp.1 (fit-later Ss x us s w w1 h.0 t f l fo ts) (want-on w w1 (result_in P x S) k l wn))
          text-each (c_bind E y c1 c2) tot tt1 Ss x S us s w k h a sp f wn =
              let T = h.1.0 in
              let fE = subst (λ z. Fits Ss z us s w) h.0 f in
              let h1 = subst (λ z. CmSorted P Ss z c1 T) h.0 h.1.1.0 in
              let h2 = subst (λ z. CmSorted P (T ∷ Ss) z c2 S) h.0 h.1.1.1 in
              let fw : Steps = λ s1 w1 k1. walked c1 (all_raised (count w) w1 us) s1 w1 k1 in
              let gw : Tm → Steps = λ v s1 w1 k1. walked c2 (v ∷ all_raised (count w) w1 us) s1 w1 k1 in
              let sorts : map (sort_on w) us ≡ Ss = sorts-are A (way_sorts w) us Ss f.terms in
              let first_is : text_sort P (map (sort_on w) us) c1 ≡ T = ap (λ Us. text_sort P Us c1) sorts ∙ text-sort-is P group c1 tot Ss (Some E) T h1 a.0 in
              let second_is : text_sort P (text_sort P (map (sort_on w) us) c1 ∷ map (sort_on w) us) c2 ≡ S = ap₂ (λ X Us. text_sort P (X ∷ Us) c2) first_is sorts ∙ text-sort-is P group c2 tot (T ∷ Ss) (Some E) S h2 a.1 in
              subst (λ B. All (dm_walk P X site fw gw (dm_at (text_sort P (map (sort_on w) us) c1) B (bind_text P E)) (s ∷ []) w k)) (sym second_is)
              (subst (λ B. All (dm_walk P X site fw gw (dm_at B S (bind_text P E)) (s ∷ []) w k)) (sym first_is)
              (bind-each w s k f.formed E T S fw gw fE.input
              (λ w1 s1 k1 l fo is wn1. text-each c1 tot tt1 Ss (Some E) T (all_raised (count w) w1 us) s1 w1 k1 h1 a.0 sp.0 (fit-raised Ss x (Some E) us s s1 w w1 f l fo is) wn1)
              (λ w1 t s1 k1 l fo ts is wn1.
              let g = fit-raised Ss x (Some E) us s s1 w w1 f l fo is in
              text-each c2 tot tt1 (T ∷ Ss) (Some E) S (t ∷ all_raised (count w) w1 us) s1 w1 k1 h2 a.1 sp.1 (record { later = g.later; formed = g.formed; terms = (ts, g.terms); input = g.input }) wn1)
              (subst (λ z. Want w (result_in P z S) k) h.0 wn)))
          text-each (c_ghost y c1 c2) tot tt1 Ss x S us s w k h a sp f wn =
              text-each c1 true (λ z. refl) Ss None h.0 us t_unit w _ h.1.0 a.0 sp.0 (fit-plain Ss x us s w f)
              (λ w1 t l fo ts. text-each c2 tot tt1 (h.0 ∷ Ss) x S (t ∷ all_raised (count w) w1 us) (raised (count w) w1 s) w1 k h.1.1 a.1 sp.1 (fit-later Ss x us s w w1 h.0 t f l fo ts) (want-on w w1 (result_in P x S) k l wn))
          text-each (c_assert phi at c) tot tt1 Ss x S us s w k h a sp f wn =
              let asserted = put-sorted A (way_sorts w) us Ss phi s_bool f.terms (speaks Ss phi s_bool h.0 sp.0) in
              both _ _ (site-ok kind.Assert at (put us phi) w f.formed asserted)
              (text-each c tot tt1 Ss x S us s (suppose (put us phi) w) k h.1 a sp.1 (fit-on Ss x us s w (suppose (put us phi) w) refl (asserted, f.formed) f) (want-on w (suppose (put us phi) w) (result_in P x S) k (later-same fixed w (suppose (put us phi) w) refl) wn))
          text-each (c_if t c1 c2) tot tt1 Ss x S us s w k h a sp f wn =
              both _ _ (sites Ss x t s_bool us s w h.0 f)
              (each-side fixed P A X site Good w (put us t) (side-walked c1 c2 us s k) f.formed (symbol Ss x t s_bool us s w h.0 f) (λ w1 b q fo. go w1 b
              (text-each c1 tot tt1 Ss x S us s w1 k h.1 a.0 sp.0 (fit-on Ss x us s w w1 q fo f) (want-on w w1 (result_in P x S) k (later-same fixed w w1 q) wn))
              (text-each c2 tot tt1 Ss x S us s w1 k h.2 a.1 sp.1 (fit-on Ss x us s w w1 q fo f) (want-on w w1 (result_in P x S) k (later-same fixed w w1 q) wn))))
            where
              go : (w1 : Way) (b : Bool) → All (walked c1 us s w1 k) → All (walked c2 us s w1 k) → All (side-walked c1 c2 us s k (record { first = b; way = w1 }))
              go w1 true x y = x
              go w1 false x y = y
          text-each (c_match t at arms) tot tt1 Ss x S us s w k h a sp f wn =
              both _ _ (sites Ss x t h.0 us s w h.1.0 f)
              (go arms a.0 h.1.1 (λ c br. arm-each arms tot tt1 Ss x h.0 S us s w at k c h.1.1 a.1 sp br f wn))
            where
              go : (arms1 : CmArms) → HasArm arms1 → ArmsSorted P Ss x h.0 arms1 S → ((c : Case) → Branch fixed P A X site Good w h.0 c → All (arms-walked arms1 at c us s k)) → All (over (cases (cm_family arms1) (put us t) w) (λ c. arms-walked arms1 at c us s k))
              go c_end z y each = absurd z
              go (c_arm c xs body more) z y each = each-case fixed P A X site Good w (put us t) (λ c1. arms-walked (c_arm c xs body more) at c1 us s k) f.formed c h.0 y.0 (symbol Ss x t h.0 us s w h.1.0 f) each
          text-each (c_call j ts at) tot tt1 Ss x S us s w k h a sp f wn = go (fun_at P j) refl h
            where
              go : (o : Option Fn) → fun_at P j ≡ o → if_there o (λ g. (x ≡ place_of g.effect) × (S ≡ g.sort) × TmsSorted (Applies P) Ss ts (map (λ p. p.sort) g.params) × IsTrue (are_run ts)) ⊥ → All (walked (c_call j ts at) us s w k)
              go None q h = absurd h
              go (Some g) q h =
                  let args = runs-sorted (Applies P) A Ss ts (param_sorts P g) h.2 h.3 in
                  both _ _ (each-divisor fixed P A X site Good site-ok (all_divisions [] ts) us Ss w f.formed f.terms (all-divisions-of A Ss [] ts (param_sorts P g) tt args))
                  (calls j g q (callee-group j g q a.1) tot tt1 (total-callee j g tot q a.0) w (listed (puts us ts)) s at k f.later f.formed
                  (listed-sorted A (way_sorts w) (puts us ts) (param_sorts P g) (puts-sorted A (way_sorts w) us Ss ts (param_sorts P g) f.terms args))
                  (subst (λ z. InputFormed fixed P A w z s) h.0 f.input)
                  (subst (λ T. Want w (result_in P (place_of g.effect) T) k) h.1 (subst (λ z. Want w (result_in P z S) k) h.0 wn)))
          text-each (c_reify E T c t) tot tt1 Ss x S us s w k h a sp f wn = go (effect_at P E) refl h.3
              (λ is. text-each c tot tt1 Ss (Some E) T us (put us t) w k h.2 a sp (record { later = f.later; formed = f.formed; terms = f.terms; input = is }) (subst (λ R. Want w R k) h.1 (subst (λ z. Want w (result_in P z S) k) h.0 wn)))
            where
              go : (o : Option EffDef) → effect_at P E ≡ o → if_there o (λ d. RunSorted P Ss t d.input) ⊥ → (InputFormed fixed P A w (Some E) (put us t) → All (walked c us (put us t) w k)) → All (walked (c_reify E T c t) us s w k)
              go None q y ih = absurd y
              go (Some d) q y ih = both _ _ (sites Ss x t d.input us s w y f) (ih (sorted-to E d w (put us t) q (symbol Ss x t d.input us s w y f)))
          text-each (c_reflect E T y c) tot tt1 Ss x S us s w k h a sp f wn = go (subst (λ z. Fits Ss z us s w) h.0 f) (effect_at P E) refl h.2
              (λ d hc g. text-each c tot tt1 (d.input ∷ Ss) None (result_at P E T) (s ∷ us) t_unit w k hc a sp g (subst (λ X. Want w (result_at P E X) k) h.1 (subst (λ z. Want w (result_in P z S) k) h.0 wn)))
            where
              go : Fits Ss (Some E) us s w → (o : Option EffDef) → effect_at P E ≡ o → if_there o (λ d. CmSorted P (d.input ∷ Ss) None c (result_at P E T)) ⊥
                  → ((d : EffDef) → CmSorted P (d.input ∷ Ss) None c (result_at P E T) → Fits (d.input ∷ Ss) None (s ∷ us) t_unit w → All (walked c (s ∷ us) t_unit w k)) → All (walked (c_reflect E T y c) us s w k)
              go fE None q z ih = absurd z
              go fE (Some d) q z ih = ih d z (record { later = f.later; formed = f.formed; terms = (subst (λ o. if_there o (λ d. TmSorted A (way_sorts w) s d.input) ⊥) q fE.input, f.terms); input = tt })
          text-each (c_return E c) tot tt1 Ss x S us s w k h a sp f wn =
              let fE = subst (λ z. Fits Ss z us s w) h.0 f in
              let B = text_sort P (map (sort_on w) us) c in
              let sorts : map (sort_on w) us ≡ Ss = sorts-are A (way_sorts w) us Ss f.terms in
              let is : B ≡ S = ap (λ Us. text_sort P Us c) sorts ∙ text-sort-is P group c tot Ss None S h.1 a in
              let ending : Srt → Next = λ Y w1 t. dm_walk P X site (no_walk_f P X site) (no_walk_g P X site) (dm_at Y Y (return_text P E)) (raised (count w) w1 s ∷ t ∷ []) w1 k in
              subst (λ Y. All (walk P X site call c us t_unit w (ending Y))) (sym is)
              (text-each c tot tt1 Ss None S us t_unit w (ending S) h.1 a sp (fit-plain Ss x us s w f)
              (λ w1 t l fo ts. return-each w1 (raised (count w) w1 s) k fo E S t (input-raised fixed P A w w1 (Some E) s l fE.input) ts (want-on w w1 (result_at P E S) k l (subst (λ z. Want w (result_in P z S) k) h.0 wn))))
          text-each (c_lift n c) tot tt1 Ss x S us s w k h a sp f wn = go (slice_get P.lifts n) refl h
              (λ l y w1 s1 k1 la fo is wn1. text-each c tot tt1 Ss (Some l.from) S (all_raised (count w) w1 us) s1 w1 k1 y a sp (fit-raised Ss x (Some l.from) us s s1 w w1 f la fo is) wn1)
            where
              go : (o : Option LftDef) → slice_get P.lifts n ≡ o → if_there o (λ l. (x ≡ Some l.«to») × CmSorted P Ss (Some l.from) c S) ⊥
                  → ((l : LftDef) → CmSorted P Ss (Some l.from) c S → Serves l.from (result_at P l.from S) w (λ s1 w1 k1. walked c (all_raised (count w) w1 us) s1 w1 k1)) → All (walked (c_lift n c) us s w k)
              go None q y serves = absurd y
              go (Some l) q y serves =
                  let fE = subst (λ z. Fits Ss z us s w) y.0 f in
                  let sorts : map (sort_on w) us ≡ Ss = sorts-are A (way_sorts w) us Ss f.terms in
                  let is : text_sort P (map (sort_on w) us) c ≡ S = ap (λ Us. text_sort P Us c) sorts ∙ text-sort-is P group c tot Ss (Some l.from) S y.1 a in
                  let text_is : lift_text P n ≡ l.text = ap (λ o. if_there o (λ d. d.text) (d_ret t_unit)) q in
                  let step : Steps = λ s1 w1 k1. walked c (all_raised (count w) w1 us) s1 w1 k1 in
                  subst (λ Y. All (dm_walk P X site step (no_walk_g P X site) (dm_at Y Y (lift_text P n)) (s ∷ []) w k)) (sym is)
                  (subst (λ t. All (dm_walk P X site step (no_walk_g P X site) (dm_at S S t) (s ∷ []) w k)) (sym text_is)
                  (lift-each w s k f.formed n l S step q fE.input (serves l y.1) (subst (λ z. Want w (result_in P z S) k) y.0 wn)))

          arm-each : (arms : CmArms) (tot : Bool) → (total ≡ true → tot ≡ true) → (Ss : List Srt) (x : Option ℕ) (T S : Srt) (us : List Tm) (s : Tm) (w : Way) (at : ℕ) (k : Next) (c : Case) → ArmsSorted P Ss x T arms S → ArmsKept P group tot arms → ArmsSpeak P group arms → Branch fixed P A X site Good w T c → Fits Ss x us s w → Want w (result_in P x S) k → All (arms-walked arms at c us s k)
          arm-each c_end tot tt1 Ss x T S us s w at k c h a sp br f wn = site-ok kind.Match at (t_bool false) c.way br.formed refl
          arm-each (c_arm c' ys body more) tot tt1 Ss x T S us s w at k c h a sp br f wn =
              go (same_con c' c.con) refl
              (λ q. text-each body tot tt1 (part_sorts c.con T ++ Ss) x S (reverse c.parts ++ us) s c.way k (subst (λ z. CmSorted P (part_sorts z T ++ Ss) x body S) q h.2) a.0 sp.0 (fit-under Ss x us s w T c br f) (want-on w c.way (result_in P x S) k (later-same fixed w c.way br.vars) wn))
              (arm-each more tot tt1 Ss x T S us s w at k c h.3 a.1 sp.1 br f wn)
            where
              go : (z : Bool) → same_con c' c.con ≡ z → (c' ≡ c.con → All (walked body (reverse c.parts ++ us) s c.way k)) → All (arms-walked more at c us s k) → All (if z then walked body (reverse c.parts ++ us) s c.way k else arms-walked more at c us s k)
              go true q this others = this (same-con-is c' c.con q)
              go false q this others = others
