-- Core text on a way whose hypotheses are true: where it stands, its terms, and the texts of its effects and lifts give the values of results.
use Rattle.std.proofs.Common.{◌≡◌, ℕ, false, List, [], ◌∷◌, ◌++◌, map, Option, Some, None, refl, sym, ap, ap₂, ◌∙◌, subst, slice_get, ◌⊎◌, inl, inr}
use Rattle.fst_base.specs.Sorts.{Srt, s_a, s_b, put_sorts}
use Rattle.fst_base.specs.Values.{Val, v_unit, Has, HasSorts}
use Rattle.fst_base.proofs.RowLemmas.{put_sorts-twice, put_sorts-same, put_sorts-without_b, put_sorts-closed}
use Rattle.fst_terms.specs.Terms.{Tm, t_unit}
use Rattle.fst_terms.specs.Meaning.{Env, Meaning, value}
use Rattle.fst_terms.specs.Formulas.{put}
use Rattle.fst_terms.proofs.PutLemmas.{put_values, put-value}
use Rattle.fst_program.specs.declared.goal.SiteKind.{SiteKind}
use Rattle.fst_program.specs.Texts.{d_ret, Cm, EffDef, LftDef, Prog, if_there, effect_at, bind_text, return_text, result_at}
use Rattle.fst_program.specs.Evaluation.{got, eval}
use Rattle.fst_program.specs.Runs.{Done, Run, dm, no_f, no_g, ev}
use Rattle.fst_program.specs.Paths.{Way, count, raised, all_raised, dm_at, dm_walk, no_walk_f, no_walk_g}
use Rattle.fst_program.specs.Sorted.{Applies, FormSorted, RunSorted, FSorts, GSorts, ConOf, DmSorted, place_of, InputHas, result_in, CmSorted, ArmsSorted, param_sorts, IsSorted}
use Rattle.fst_program.proofs.SortedLemmas.{GotHas, OutcomeHas, eval-has, dm-has}
use Rattle.fst_program.proofs.SortedRunLemmas.{ev-has}
use Rattle.fst_goodness.proofs.Kept.{IsKept}
use Rattle.fst_program.proofs.SortedTerms.{AllSorted, put-sorted, term_at-same, map-same}
use Rattle.fst_program.proofs.Ways.{way_sorts, extends-same, raised-value, raised-put-values, raised-sorted, all-raised-sorted}
use Rattle.fst_goodness.proofs.CoreEffects.{InputSorted}
use Rattle.fst_goodness.proofs.Gives.{Gives, eval-gives}
use Rattle.fst_goodness.proofs.Followed.{truth-decided, Every, every-both, Alive, Follows, dm-follows}

module _ (P : Prog) (sorted : IsSorted P) (kept : IsKept P) (M : Meaning) (X : Type 0) (site : SiteKind → (place : ℕ) → Tm → Way → List X) (Pi : X → Type 0) (e : Env) (site-ok : (m : SiteKind) (at : ℕ) (phi : Tm) (w : Way) → Every P M X site Pi e (site m at phi w)) where
  abbrev pub All : List X → Type 0
  All = Every P M X site Pi e

  abbrev pub Lives : Way → Type 0
  Lives = Alive P M X site Pi e

  abbrev pub Next : Type 0
  Next = Way → Tm → List X

  abbrev pub Steps : Type 0
  Steps = Tm → Way → Next → List X

  abbrev pub Wants : Way → Srt → Next → Val → Type 0
  Wants = Follows P M X site Pi e

  pub both : (xs ys : List X) → All xs → All ys → All (xs ++ ys)
  both = every-both P M X site Pi e

  pub wants-on : (w w1 : Way) (S : Srt) (k : Next) (v : Val) → w1.vars ≡ w.vars → (Lives w1 → Lives w) → Wants w S k v → Wants w1 S k v
  wants-on w w1 S k v q a h w2 t q2 s a2 val = h w2 t (q2 ∙ q) s (λ z. a (a2 z)) val

  pub chosen : (w : Way) (Q : Val → Type 0) → (Lives w → (x : Val) × Q x) → (x : Val) × (Lives w → Q x)
  chosen w Q h = go (truth-decided M e w.hyps)
    where
      go : Lives w ⊎ (Lives w → ⊥) → (x : Val) × (Lives w → Q x)
      go (inl a) = let r = h a in (r.0, λ z. r.1)
      go (inr lacks) = (v_unit, λ a. absurd (lacks a))

  -- terms for a text's variables and its input; where the way is alive, environment and input have their values
  pub record Fits (Ss : List Srt) (x : Option ℕ) (us : List Tm) (s : Tm) (w : Way) (env : Env) (sv : Val) : Type 0 where
    pub terms : AllSorted (Applies P) (way_sorts w) us Ss
    pub input : InputSorted P w x s
    pub values : Lives w → (put_values M us e ≡ env) × HasSorts Ss env × (value M s e ≡ sv) × InputHas P x sv

  pub input-on : (w w1 : Way) (x : Option ℕ) (s : Tm) → w1.vars ≡ w.vars → InputSorted P w x s → InputSorted P w1 x s
  input-on w w1 None s q h = tt
  input-on w w1 (Some E) s q h = go (effect_at P E) h
    where
      go : (o : Option EffDef) → if_there o (λ d. FormSorted P (way_sorts w) s d.input) ⊥ → if_there o (λ d. FormSorted P (way_sorts w1) s d.input) ⊥
      go None h = absurd h
      go (Some d) h = subst (λ xs. FormSorted P (map (λ x. x.sort) xs) s d.input) (sym q) h

  pub input-raised : (w w1 : Way) (x : Option ℕ) (s : Tm) → w1.vars ≡ w.vars → InputSorted P w x s → InputSorted P w1 x (raised (count w) w1 s)
  input-raised w w1 None s q h = tt
  input-raised w w1 (Some E) s q h = go (effect_at P E) h
    where
      go : (o : Option EffDef) → if_there o (λ d. FormSorted P (way_sorts w) s d.input) ⊥ → if_there o (λ d. FormSorted P (way_sorts w1) (raised (count w) w1 s) d.input) ⊥
      go None h = absurd h
      go (Some d) h = raised-sorted P w e w1 e s d.input (extends-same w w1 e q) h

  pub fits-on : (Ss : List Srt) (x : Option ℕ) (us : List Tm) (s : Tm) (w w1 : Way) (env : Env) (sv : Val) → w1.vars ≡ w.vars → (Lives w1 → Lives w) → Fits Ss x us s w env sv → Fits Ss x us s w1 env sv
  fits-on Ss x us s w w1 env sv q a f = record { terms = subst (λ xs. AllSorted (Applies P) (map (λ x. x.sort) xs) us Ss) (sym q) f.terms; input = input-on w w1 x s q f.input; values = λ z. f.values (a z) }

  pub fits-plain : (Ss : List Srt) (x : Option ℕ) (us : List Tm) (s : Tm) (w : Way) (env : Env) (sv : Val) → Fits Ss x us s w env sv → Fits Ss None us t_unit w env v_unit
  fits-plain Ss x us s w env sv f = record { terms = f.terms; input = tt; values = λ a. ((f.values a).0, (f.values a).1, refl, tt) }

  pub fits-later : (Ss : List Srt) (x : Option ℕ) (us : List Tm) (s : Tm) (w w1 : Way) (env : Env) (sv : Val) (T : Srt) (t : Tm) (v : Val) → Fits Ss x us s w env sv → w1.vars ≡ w.vars → (Lives w1 → Lives w) → FormSorted P (way_sorts w1) t T → (Lives w1 → value M t e ≡ v) → (Lives w → Has T v)
      → Fits (T ∷ Ss) x (t ∷ all_raised (count w) w1 us) (raised (count w) w1 s) w1 (v ∷ env) sv
  fits-later Ss x us s w w1 env sv T t v f q a st val has = record {
    terms = (st, all-raised-sorted P w e w1 e us Ss (extends-same w w1 e q) f.terms);
    input = input-raised w w1 x s q f.input;
    values = λ z. let r = f.values (a z) in (ap₂ ◌∷◌ (val z) (raised-put-values M w e w1 e us (extends-same w w1 e q) ∙ r.0), (has (a z), r.1), raised-value M w e w1 e s (extends-same w w1 e q) ∙ r.2, r.3);
  }

  -- on another way with another input
  pub fits-raised : (Ss : List Srt) (x y : Option ℕ) (us : List Tm) (s s1 : Tm) (w w1 : Way) (env : Env) (sv sv1 : Val) → Fits Ss x us s w env sv → w1.vars ≡ w.vars → (Lives w1 → Lives w) → InputSorted P w1 y s1 → (Lives w1 → (value M s1 e ≡ sv1) × InputHas P y sv1) → Fits Ss y (all_raised (count w) w1 us) s1 w1 env sv1
  fits-raised Ss x y us s s1 w w1 env sv sv1 f q a is h = record {
    terms = all-raised-sorted P w e w1 e us Ss (extends-same w w1 e q) f.terms;
    input = is;
    values = λ z. (raised-put-values M w e w1 e us (extends-same w w1 e q) ∙ (f.values (a z)).0, (f.values (a z)).1, (h z).0, (h z).1);
  }

  -- ---- terms

  pub core-is : (Ss : List Srt) (x : Option ℕ) (t : Tm) (S : Srt) (us : List Tm) (s : Tm) (w : Way) (env : Env) (sv v : Val) → RunSorted P Ss t S → Fits Ss x us s w env sv → Lives w → eval false t env ≡ got v → value M (put us t) e ≡ v
  core-is Ss x t S us s w env sv v h f a q =
      put-value M us t e ∙ ap (value M t) (f.values a).0 ∙ ap (λ u. value M u env) (sym (term_at-same t))
      ∙ eval-gives M (Applies P) s_a s_b env Ss (subst (λ Us. HasSorts Us env) (sym (map-same Ss)) (f.values a).1) t S v h.0 h.1 q

  pub core-has : (Ss : List Srt) (x : Option ℕ) (t : Tm) (S : Srt) (us : List Tm) (s : Tm) (w : Way) (env : Env) (sv v : Val) → RunSorted P Ss t S → Fits Ss x us s w env sv → Lives w → eval false t env ≡ got v → Has S v
  core-has Ss x t S us s w env sv v h f a q =
      subst (GotHas S) q (subst (λ T. GotHas T (eval false t env)) (put_sorts-same S) (eval-has s_a s_b (Applies P) false Ss t S env h.0 h.1 (subst (λ Us. HasSorts Us env) (sym (map-same Ss)) (f.values a).1)))

  pub core-sorted : (Ss : List Srt) (x : Option ℕ) (t : Tm) (S : Srt) (us : List Tm) (s : Tm) (w : Way) (env : Env) (sv : Val) → RunSorted P Ss t S → Fits Ss x us s w env sv → FormSorted P (way_sorts w) (put us t) S
  core-sorted Ss x t S us s w env sv h f = put-sorted (Applies P) (way_sorts w) us Ss t S f.terms h.0

  pub text-has : (G F left : ℕ) (Ss : List Srt) (x : Option ℕ) (c : Cm) (S : Srt) (env : Env) (sv v : Val) → CmSorted P Ss x c S → HasSorts Ss env → InputHas P x sv → ev M P F G false env sv c ≡ Done v left → Has (result_in P x S) v
  text-has G F left Ss x c S env sv v h k i q = subst (OutcomeHas (result_in P x S)) q (ev-has P sorted M F G false Ss x c S env sv h k i)

  pub done-is : (x v : Val) (l left : ℕ) → Done x l ≡ Done v left → x ≡ v
  done-is x v l left q = cc

  -- ---- the texts of effects and lifts

  effect-of : (E : ℕ) (w : Way) (s : Tm) → InputSorted P w (Some E) s → (d : EffDef) × (effect_at P E ≡ Some d) × FormSorted P (way_sorts w) s d.input
  effect-of E w s h = go (effect_at P E) h
    where
      go : (o : Option EffDef) → if_there o (λ d. FormSorted P (way_sorts w) s d.input) ⊥ → (d : EffDef) × (o ≡ Some d) × FormSorted P (way_sorts w) s d.input
      go None h = absurd h
      go (Some d) h = (d, refl, h)

  pub input-of : (E : ℕ) (d : EffDef) (s : Val) → effect_at P E ≡ Some d → InputHas P (Some E) s → Has d.input s
  input-of E d s q h = subst (λ o. if_there o (λ d. Has d.input s) ⊥) q h

  pub input-to-has : (E : ℕ) (d : EffDef) (s : Val) → effect_at P E ≡ Some d → Has d.input s → InputHas P (Some E) s
  input-to-has E d s q h = subst (λ o. if_there o (λ d. Has d.input s) ⊥) (sym q) h

  pub sorted-to : (E : ℕ) (d : EffDef) (w : Way) (s : Tm) → effect_at P E ≡ Some d → FormSorted P (way_sorts w) s d.input → InputSorted P w (Some E) s
  sorted-to E d w s q h = subst (λ o. if_there o (λ d. FormSorted P (way_sorts w) s d.input) ⊥) (sym q) h

  result-is : (E : ℕ) (d : EffDef) (S : Srt) → effect_at P E ≡ Some d → result_at P E S ≡ put_sorts S s_b d.result
  result-is E d S q = ap (λ o. if_there o (λ d. put_sorts S s_b d.result) S) q

  -- a text that reads an input of the effect E
  abbrev pub Serves : ℕ → Srt → Way → Steps → Run → Type 0
  Serves E R w steps f = (w1 : Way) (s1 : Tm) (sv1 v1 : Val) (k1 : Next) → w1.vars ≡ w.vars → (Lives w1 → Lives w) → InputSorted P w1 (Some E) s1 → (Lives w1 → (value M s1 e ≡ sv1) × InputHas P (Some E) sv1 × Gives (f sv1) v1) → Wants w1 R k1 v1 → All (steps s1 w1 k1)

  abbrev ServesNext : ℕ → Srt → Srt → Way → (Tm → Steps) → (Val → Run) → Type 0
  ServesNext E T R w steps g = (w1 : Way) (t : Tm) (tv : Val) (s1 : Tm) (sv1 v1 : Val) (k1 : Next) → w1.vars ≡ w.vars → (Lives w1 → Lives w) → FormSorted P (way_sorts w1) t T → InputSorted P w1 (Some E) s1
      → (Lives w1 → (value M t e ≡ tv) × Has T tv × (value M s1 e ≡ sv1) × InputHas P (Some E) sv1 × Gives (g tv sv1) v1) → Wants w1 R k1 v1 → All (steps t s1 w1 k1)

  -- runs that keep sorts
  abbrev KeepsF : ℕ → Srt → Way → Run → Type 0
  KeepsF E R w f = Lives w → (s1 : Val) (l : ℕ) → InputHas P (Some E) s1 → OutcomeHas R (f s1 l)

  abbrev KeepsG : ℕ → Srt → Srt → Way → (Val → Run) → Type 0
  KeepsG E T R w g = Lives w → (t s1 : Val) (l : ℕ) → Has T t → InputHas P (Some E) s1 → OutcomeHas R (g t s1 l)

  module _ (w : Way) (s : Tm) (sv v : Val) (k : Next) where
    pub bind-follows : (E : ℕ) (T S : Srt) (fw : Steps) (gw : Tm → Steps) (f : Run) (g : Val → Run) → InputSorted P w (Some E) s → (Lives w → (value M s e ≡ sv) × InputHas P (Some E) sv) → Serves E (result_at P E T) w fw f → ServesNext E T (result_at P E S) w gw g
        → KeepsF E (result_at P E T) w f → KeepsG E T (result_at P E S) w g → (Lives w → Gives (dm false f g (bind_text P E) (sv ∷ [])) v) → Wants w (result_at P E S) k v → All (dm_walk P X site fw gw (dm_at T S (bind_text P E)) (s ∷ []) w k)
    bind-follows E T S fw gw f g is iv cf cg kf kg gives wants =
        let there = effect-of E w s is in
        let d = there.0 in
        let q = there.1 in
        let ok = sorted.effects E d q in
        let input = put_sorts-closed T S d.input ok.input_without_a ok.input_without_b in
        let lower_is : put_sorts T S d.result ≡ result_at P E T = put_sorts-without_b T S s_b d.result ok.result_without_b ∙ sym (result-is E d T q) in
        let upper_is : put_sorts T S (put_sorts s_b s_b d.result) ≡ result_at P E S = put_sorts-twice T S s_b s_b d.result ∙ put_sorts-without_b S S s_b d.result ok.result_without_b ∙ sym (result-is E d S q) in
        let text_is : bind_text P E ≡ d.bind = ap (λ o. if_there o (λ d. d.bind) (d_ret t_unit)) q in
        let hf : Option FSorts = Some (record { input = d.input; result = d.result }) in
        let hg : Option GSorts = Some (record { value = s_a; input = d.input; result = put_sorts s_b s_b d.result }) in
        subst (λ t. All (dm_walk P X site fw gw (dm_at T S t) (s ∷ []) w k)) (sym text_is)
        (dm-follows P M X site Pi e site-ok T S w hf hg fw gw f g
        (λ w1 s1 sv1 v1 k1 p a ss h wn. cf w1 s1 sv1 v1 k1 p a (sorted-to E d w1 s1 q (subst (λ I. FormSorted P (way_sorts w1) s1 I) input ss)) (λ z. let r = h z in (r.0, input-to-has E d sv1 q (subst (λ I. Has I sv1) input r.1), r.2)) (subst (λ R. Wants w1 R k1 v1) lower_is wn))
        (λ w1 t tv s1 sv1 v1 k1 p a ts ss h wn. cg w1 t tv s1 sv1 v1 k1 p a ts (sorted-to E d w1 s1 q (subst (λ I. FormSorted P (way_sorts w1) s1 I) input ss)) (λ z. let r = h z in (r.0, r.1, r.2, input-to-has E d sv1 q (subst (λ I. Has I sv1) input r.3), r.4)) (subst (λ R. Wants w1 R k1 v1) upper_is wn))
        (λ a Ss x R env y hs hv gv. subst (OutcomeHas (put_sorts T S R)) gv.2
        (dm-has P T S false hf hg f g
        (λ s1 l j. subst (λ R. OutcomeHas R (f s1 l)) (sym lower_is) (kf a s1 l (input-to-has E d s1 q (subst (λ I. Has I s1) input j))))
        (λ t s1 l m j. subst (λ R. OutcomeHas R (g t s1 l)) (sym upper_is) (kg a t s1 l m (input-to-has E d s1 q (subst (λ I. Has I s1) input j))))
        Ss x R env gv.0 hs hv))
        d.bind (d.input ∷ []) (put_sorts s_b s_b d.result) (s ∷ []) w (sv ∷ []) v k ok.binds (kept.binds E d q)
        (record {
          vars = refl;
          alive = λ a. a;
          terms = (subst (λ I. FormSorted P (way_sorts w) s I) (sym input) there.2, tt);
          values = λ a. (ap (λ x. x ∷ []) (iv a).0, (subst (λ I. Has I sv) (sym input) (input-of E d sv q (iv a).1), tt));
        })
        (λ a. let r = gives a in (r.0, r.1, ap (λ t. dm false f g t (sv ∷ []) r.0) (sym text_is) ∙ r.2))
        (subst (λ R. Wants w R k v) (sym upper_is) wants))

    pub return-follows : (E : ℕ) (S : Srt) (t : Tm) (tv : Val) → InputSorted P w (Some E) s → FormSorted P (way_sorts w) t S → (Lives w → (value M s e ≡ sv) × InputHas P (Some E) sv × (value M t e ≡ tv) × Has S tv)
        → (Lives w → Gives (dm false no_f no_g (return_text P E) (sv ∷ tv ∷ [])) v) → Wants w (result_at P E S) k v → All (dm_walk P X site (no_walk_f P X site) (no_walk_g P X site) (dm_at S S (return_text P E)) (s ∷ t ∷ []) w k)
    return-follows E S t tv is ts iv gives wants =
        let there = effect-of E w s is in
        let d = there.0 in
        let q = there.1 in
        let ok = sorted.effects E d q in
        let input = put_sorts-closed S S d.input ok.input_without_a ok.input_without_b in
        let upper_is : put_sorts S S d.result ≡ result_at P E S = put_sorts-without_b S S s_b d.result ok.result_without_b ∙ sym (result-is E d S q) in
        let text_is : return_text P E ≡ d.ret = ap (λ o. if_there o (λ d. d.ret) (d_ret t_unit)) q in
        subst (λ x. All (dm_walk P X site (no_walk_f P X site) (no_walk_g P X site) (dm_at S S x) (s ∷ t ∷ []) w k)) (sym text_is)
        (dm-follows P M X site Pi e site-ok S S w None None (no_walk_f P X site) (no_walk_g P X site) no_f no_g tt tt
        (λ a Ss x R env y hs hv gv. subst (OutcomeHas (put_sorts S S R)) gv.2 (dm-has P S S false None None no_f no_g tt tt Ss x R env gv.0 hs hv))
        d.ret (d.input ∷ s_a ∷ []) d.result (s ∷ t ∷ []) w (sv ∷ tv ∷ []) v k ok.returns (kept.returns E d q)
        (record {
          vars = refl;
          alive = λ a. a;
          terms = (subst (λ I. FormSorted P (way_sorts w) s I) (sym input) there.2, (ts, tt));
          values = λ a. let r = iv a in (ap₂ (λ x y. x ∷ y ∷ []) r.0 r.2, (subst (λ I. Has I sv) (sym input) (input-of E d sv q r.1), (r.3, tt)));
        })
        (λ a. let r = gives a in (r.0, r.1, ap (λ t. dm false no_f no_g t (sv ∷ tv ∷ []) r.0) (sym text_is) ∙ r.2))
        (subst (λ R. Wants w R k v) (sym upper_is) wants))

    -- the lower effect of a lift, and its text's sorts
    lift-lower : (l : LftDef) (upper : EffDef) → effect_at P l.«to» ≡ Some upper → Rattle.fst_program.specs.Sorted.LiftSorted P l → (low : EffDef) × (effect_at P l.from ≡ Some low) × DmSorted P (Some (record { input = low.input; result = low.result })) None (upper.input ∷ []) l.text upper.result
    lift-lower l upper q h = go (effect_at P l.from) (subst (λ u. if_there (effect_at P l.from) (λ low. if_there u (λ upper. DmSorted P (Some (record { input = low.input; result = low.result })) None (upper.input ∷ []) l.text upper.result) ⊥) ⊥) q h)
      where
        go : (o : Option EffDef) → if_there o (λ low. DmSorted P (Some (record { input = low.input; result = low.result })) None (upper.input ∷ []) l.text upper.result) ⊥ → (low : EffDef) × (o ≡ Some low) × DmSorted P (Some (record { input = low.input; result = low.result })) None (upper.input ∷ []) l.text upper.result
        go None h = absurd h
        go (Some low) h = (low, refl, h)

    pub lift-follows : (n : ℕ) (l : LftDef) (S : Srt) (fw : Steps) (f : Run) → slice_get P.lifts n ≡ Some l → InputSorted P w (Some l.«to») s → (Lives w → (value M s e ≡ sv) × InputHas P (Some l.«to») sv) → Serves l.from (result_at P l.from S) w fw f → KeepsF l.from (result_at P l.from S) w f
        → (Lives w → Gives (dm false f no_g l.text (sv ∷ [])) v) → Wants w (result_at P l.«to» S) k v → All (dm_walk P X site fw (no_walk_g P X site) (dm_at S S l.text) (s ∷ []) w k)
    lift-follows n l S fw f p is iv cf kf gives wants =
        let there = effect-of l.«to» w s is in
        let upper = there.0 in
        let q = there.1 in
        let low = lift-lower l upper q (sorted.lifts n l p) in
        let under = low.0 in
        let ok = sorted.effects l.«to» upper q in
        let okl = sorted.effects l.from under low.1 in
        let input = put_sorts-closed S S upper.input ok.input_without_a ok.input_without_b in
        let input_l = put_sorts-closed S S under.input okl.input_without_a okl.input_without_b in
        let upper_is : put_sorts S S upper.result ≡ result_at P l.«to» S = put_sorts-without_b S S s_b upper.result ok.result_without_b ∙ sym (result-is l.«to» upper S q) in
        let lower_is : put_sorts S S under.result ≡ result_at P l.from S = put_sorts-without_b S S s_b under.result okl.result_without_b ∙ sym (result-is l.from under S low.1) in
        let hf : Option FSorts = Some (record { input = under.input; result = under.result }) in
        dm-follows P M X site Pi e site-ok S S w hf None fw (no_walk_g P X site) f no_g
        (λ w1 s1 sv1 v1 k1 p a ss h wn. cf w1 s1 sv1 v1 k1 p a (sorted-to l.from under w1 s1 low.1 (subst (λ I. FormSorted P (way_sorts w1) s1 I) input_l ss)) (λ z. let r = h z in (r.0, input-to-has l.from under sv1 low.1 (subst (λ I. Has I sv1) input_l r.1), r.2)) (subst (λ R. Wants w1 R k1 v1) lower_is wn))
        tt
        (λ a Ss x R env y hs hv gv. subst (OutcomeHas (put_sorts S S R)) gv.2
        (dm-has P S S false hf None f no_g (λ s1 l1 j. subst (λ R. OutcomeHas R (f s1 l1)) (sym lower_is) (kf a s1 l1 (input-to-has l.from under s1 low.1 (subst (λ I. Has I s1) input_l j)))) tt Ss x R env gv.0 hs hv))
        l.text (upper.input ∷ []) upper.result (s ∷ []) w (sv ∷ []) v k low.2 (kept.lifts n l p)
        (record {
          vars = refl;
          alive = λ a. a;
          terms = (subst (λ I. FormSorted P (way_sorts w) s I) (sym input) there.2, tt);
          values = λ a. (ap (λ x. x ∷ []) (iv a).0, (subst (λ I. Has I sv) (sym input) (input-of l.«to» upper sv q (iv a).1), tt));
        })
        gives
        (subst (λ R. Wants w R k v) (sym upper_is) wants)
