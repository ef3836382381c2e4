-- Where core text stands on its way, the terms in it, and the texts of its effects and lifts keep every claim that their computations keep.
use Rattle.std.proofs.Common.{◌≡◌, ℕ, Bool, List, [], ◌∷◌, map, Option, Some, None, IsTrue, refl, sym, ap, ap₂, ◌∙◌, subst, slice_get}
use Rattle.std.specs.Prelude.{⊤}
use Rattle.fst_base.specs.Sorts.{Srt, s_a, s_b, put_sorts}
use Rattle.fst_base.specs.Values.{Val, v_unit, Has, HasSorts}
use Rattle.fst_base.proofs.RowLemmas.{put_sorts-twice, put_sorts-same, put_sorts-without_b, put_sorts-closed}
use Rattle.fst_terms.specs.Terms.{Tm, Tms, t_unit, t_end, t_more, listed}
use Rattle.fst_terms.specs.Meaning.{Env, Meaning, value, values}
use Rattle.fst_terms.specs.Formulas.{put}
use Rattle.fst_terms.specs.Sorted.{TmsSorted, are_run}
use Rattle.fst_terms.proofs.PutLemmas.{put_values, put-value}
use Rattle.fst_program.specs.Texts.{d_ret, Prm, EffDef, LftDef, Prog, if_there, effect_at, bind_text, return_text, result_at}
use Rattle.fst_program.specs.Evaluation.{eval, arguments}
use Rattle.fst_program.specs.Runs.{Outcome, Run, dm, no_f, no_g}
use Rattle.fst_program.specs.Paths.{Gl, Way, count, raised, all_raised, divisions, all_divisions, term_sites, dm_at, dm_walk, no_walk_f, no_walk_g, goal_site, GoalsValid}
use Rattle.fst_program.specs.Sorted.{Applies, FormSorted, RunSorted, FSorts, GSorts, DmSorted, InputHas, LiftSorted, IsSorted}
use Rattle.fst_program.proofs.SortedLemmas.{GotHas, GotsHave, eval-has, arguments-have}
use Rattle.fst_goodness.proofs.Kept.{IsKept}
use Rattle.fst_program.proofs.SortedTerms.{AllSorted, put-sorted, term_at-same, terms_at-same, map-same}
use Rattle.fst_program.proofs.Ways.{way_sorts, Stands, Extends, extends-same, extends-then, raised-value, raised-put-values, raised-sorted, all-raised-sorted, Reaches}
use Rattle.fst_program.proofs.Evaluated.{Evaluates, EvaluateAll, sites-nonzero, AllNonzero, eval-sound, arguments-sound}
use Rattle.fst_program.proofs.Modality.{Modality}
use Rattle.fst_goodness.proofs.DefinitionText.{After, Steps, ComputesF, dm-ok}

-- lists of terms
pub listed-sorted : (Applies : (k : ℕ) → List Srt → (S : Srt) → Type 0) (Ss : List Srt) (ts : Tms) (Ts : List Srt) → TmsSorted Applies Ss ts Ts → AllSorted Applies Ss (listed ts) Ts
listed-sorted A Ss t_end Ts h = subst (λ Us. AllSorted A Ss [] Us) (sym h) tt
listed-sorted A Ss (t_more t ts) Ts h = subst (λ Us. AllSorted A Ss (t ∷ listed ts) Us) (sym h.1.1.0) (h.1.1.1, listed-sorted A Ss ts h.1.0 h.1.1.2)

pub listed-values : (M : Meaning) (ts : Tms) (e : Env) → put_values M (listed ts) e ≡ values M ts e
listed-values M t_end e = refl
listed-values M (t_more t ts) e = ap (λ vs. value M t e ∷ vs) (listed-values M ts e)

module _ (P : Prog) where
  -- the term of an input has the sort that the effect of the place takes
  abbrev pub InputSorted : Way → Option ℕ → Tm → Type 0
  InputSorted w None s = ⊤
  InputSorted w (Some E) s = if_there (effect_at P E) (λ d. FormSorted P (way_sorts w) s d.input) ⊥

  pub raised-input : (w : Way) (e : Env) (w1 : Way) (e1 : Env) (x : Option ℕ) (s : Tm) → Extends w e w1 e1 → InputSorted w x s → InputSorted w1 x (raised (count w) w1 s)
  raised-input w e w1 e1 None s x h = tt
  raised-input w e w1 e1 (Some E) s x h = go (effect_at P E) h
    where
      go : (o : Option EffDef) → if_there o (λ d. FormSorted P (way_sorts w) s d.input) ⊥ → if_there o (λ d. FormSorted P (way_sorts w1) (raised (count w) w1 s) d.input) ⊥
      go None h = absurd h
      go (Some d) h = raised-sorted P w e w1 e1 s d.input x h

  -- the effect of a place
  effect-there : (E : ℕ) (s : Val) → InputHas P (Some E) s → (d : EffDef) × (effect_at P E ≡ Some d)
  effect-there E s h = go (effect_at P E) h
    where
      go : (o : Option EffDef) → if_there o (λ d. Has d.input s) ⊥ → (d : EffDef) × (o ≡ Some d)
      go None h = absurd h
      go (Some d) h = (d, refl)

  -- terms for a text's variables and for its input, on a way that stands
  pub record Fit (M : Meaning) (w0 : Way) (e0 : Env) (Ss : List Srt) (x : Option ℕ) (us : List Tm) (s : Tm) (w : Way) (e : Env) (ev : Env) (sv : Val) : Type 0 where
    pub extends : Extends w0 e0 w e
    pub stands : Stands M w e
    pub sorted : AllSorted (Applies P) (way_sorts w) us Ss
    pub values : put_values M us e ≡ ev
    pub have : HasSorts Ss ev
    pub input_sorted : InputSorted w x s
    pub input_value : value M s e ≡ sv
    pub input_has : InputHas P x sv

module _ (P : Prog) (sorted : IsSorted P) (kept : IsKept P) (M : Meaning) (number : ℕ) (I : Type 0) (b : Bool) (Ok : (Val → Type 0) → (I → ℕ → Outcome) → Type 0) (GhostOk : (Val → Type 0) → (I → Outcome) → Type 0) (rules : Modality I b Ok GhostOk) (w0 : Way) (e0 : Env) where
  pub fit-later : (Ss : List Srt) (x : Option ℕ) (us : List Tm) (s : Tm) (w : Way) (e ev : Env) (sv : Val) (T : Srt) (rest : After) (v : Val) → Fit P M w0 e0 Ss x us s w e ev sv → (r : Reaches P M w e T rest v) → Fit P M w0 e0 (T ∷ Ss) x (r.term ∷ all_raised (count w) r.way us) (raised (count w) r.way s) r.way r.env (v ∷ ev) sv
  fit-later Ss x us s w e ev sv T rest v f r = record {
    extends = extends-then w0 e0 w e r.way r.env f.extends r.extends;
    stands = r.stands;
    sorted = (r.sorted, all-raised-sorted P w e r.way r.env us Ss r.extends f.sorted);
    values = ap₂ ◌∷◌ r.gives (raised-put-values M w e r.way r.env us r.extends ∙ f.values);
    have = (r.has, f.have);
    input_sorted = raised-input P w e r.way r.env x s r.extends f.input_sorted;
    input_value = raised-value M w e r.way r.env s r.extends ∙ f.input_value;
    input_has = f.input_has;
  }

  pub fit-on : (Ss : List Srt) (x : Option ℕ) (us : List Tm) (s : Tm) (w w1 : Way) (e ev : Env) (sv : Val) → w1.vars ≡ w.vars → Stands M w1 e → Fit P M w0 e0 Ss x us s w e ev sv → Fit P M w0 e0 Ss x us s w1 e ev sv
  fit-on Ss x us s w w1 e ev sv q st f = record {
    extends = extends-then w0 e0 w e w1 e f.extends (extends-same w w1 e q);
    stands = st;
    sorted = subst (λ xs. AllSorted (Applies P) (map (λ x. x.sort) xs) us Ss) (sym q) f.sorted;
    values = f.values;
    have = f.have;
    input_sorted = go x f.input_sorted;
    input_value = f.input_value;
    input_has = f.input_has;
  }
    where
      go : (x : Option ℕ) → InputSorted P w x s → InputSorted P w1 x s
      go None h = tt
      go (Some E) h = at-effect (effect_at P E) h
        where
          at-effect : (o : Option EffDef) → if_there o (λ d. FormSorted P (way_sorts w) s d.input) ⊥ → if_there o (λ d. FormSorted P (way_sorts w1) s d.input) ⊥
          at-effect None h = absurd h
          at-effect (Some d) h = subst (λ xs. FormSorted P (map (λ x. x.sort) xs) s d.input) (sym q) h

  -- without an input
  pub fit-plain : (Ss : List Srt) (x : Option ℕ) (us : List Tm) (s : Tm) (w : Way) (e ev : Env) (sv : Val) → Fit P M w0 e0 Ss x us s w e ev sv → Fit P M w0 e0 Ss None us t_unit w e ev v_unit
  fit-plain Ss x us s w e ev sv f = record { extends = f.extends; stands = f.stands; sorted = f.sorted; values = f.values; have = f.have; input_sorted = tt; input_value = refl; input_has = tt }

  -- on a way further on, with another input
  pub fit-raised : (Ss : List Srt) (x y : Option ℕ) (us : List Tm) (s s1 : Tm) (w : Way) (e : Env) (w1 : Way) (e1 ev : Env) (sv sv1 : Val) → Fit P M w0 e0 Ss x us s w e ev sv → Extends w e w1 e1 → Stands M w1 e1 → InputSorted P w1 y s1 → value M s1 e1 ≡ sv1 → InputHas P y sv1 → Fit P M w0 e0 Ss y (all_raised (count w) w1 us) s1 w1 e1 ev sv1
  fit-raised Ss x y us s s1 w e w1 e1 ev sv sv1 f ex st is iv ih = record {
    extends = extends-then w0 e0 w e w1 e1 f.extends ex;
    stands = st;
    sorted = all-raised-sorted P w e w1 e1 us Ss ex f.sorted;
    values = raised-put-values M w e w1 e1 us ex ∙ f.values;
    have = f.have;
    input_sorted = is;
    input_value = iv;
    input_has = ih;
  }

  -- ---- terms

  core-sound : (Ss : List Srt) (t : Tm) (S : Srt) (ev : Env) → RunSorted P Ss t S → HasSorts Ss ev → AllNonzero M ev (divisions [] t) → Evaluates b (eval b t ev) (value M t ev)
  core-sound Ss t S ev h k z =
      subst (λ u. Evaluates b (eval b t ev) (value M u ev)) (term_at-same t)
      (eval-sound M (Applies P) s_a s_b ev Ss (subst (λ Us. HasSorts Us ev) (sym (map-same Ss)) k) b [] t S h.0 h.1 tt (subst (λ u. AllNonzero M ev (divisions [] u)) (sym (term_at-same t)) z))

  core-has : (Ss : List Srt) (t : Tm) (S : Srt) (ev : Env) → RunSorted P Ss t S → HasSorts Ss ev → GotHas S (eval b t ev)
  core-has Ss t S ev h k = subst (λ T. GotHas T (eval b t ev)) (put_sorts-same S) (eval-has s_a s_b (Applies P) b Ss t S ev h.0 h.1 (subst (λ Us. HasSorts Us ev) (sym (map-same Ss)) k))

  pub core-args-sound : (Ss : List Srt) (ps : List Prm) (ts : Tms) (Ts : List Srt) (ev : Env) → TmsSorted (Applies P) Ss ts Ts → IsTrue (are_run ts) → HasSorts Ss ev → AllNonzero M ev (all_divisions [] ts) → EvaluateAll b (arguments b ps ts ev) (values M ts ev)
  core-args-sound Ss ps ts Ts ev h r k z =
      subst (λ u. EvaluateAll b (arguments b ps ts ev) (values M u ev)) (terms_at-same ts)
      (arguments-sound M (Applies P) s_a s_b ev Ss (subst (λ Us. HasSorts Us ev) (sym (map-same Ss)) k) b ps ts Ts h r (subst (λ u. AllNonzero M ev (all_divisions [] u)) (sym (terms_at-same ts)) z))

  pub core-args-have : (Ss : List Srt) (ps : List Prm) (ts : Tms) (Ts : List Srt) (ev : Env) → TmsSorted (Applies P) Ss ts Ts → IsTrue (are_run ts) → HasSorts Ss ev → GotsHave Ts (arguments b ps ts ev)
  core-args-have Ss ps ts Ts ev h r k = subst (λ Us. GotsHave Us (arguments b ps ts ev)) (map-same Ts) (arguments-have s_a s_b (Applies P) b ps Ss ts Ts ev h r (subst (λ Us. HasSorts Us ev) (sym (map-same Ss)) k))

  pub node-sound : (Ss : List Srt) (x : Option ℕ) (t : Tm) (S : Srt) (us : List Tm) (s : Tm) (w : Way) (e ev : Env) (sv : Val) → RunSorted P Ss t S → Fit P M w0 e0 Ss x us s w e ev sv → GoalsValid M (term_sites P Gl (goal_site number) t us w) → Evaluates b (eval b t ev) (value M t ev)
  node-sound Ss x t S us s w e ev sv h f valid = core-sound Ss t S ev h f.have (subst (λ v. AllNonzero M v (divisions [] t)) f.values (sites-nonzero M P number (divisions [] t) us w e f.stands valid))

  pub node-has : (Ss : List Srt) (x : Option ℕ) (t : Tm) (S : Srt) (us : List Tm) (s : Tm) (w : Way) (e ev : Env) (sv : Val) → RunSorted P Ss t S → Fit P M w0 e0 Ss x us s w e ev sv → GotHas S (eval b t ev)
  node-has Ss x t S us s w e ev sv h f = core-has Ss t S ev h f.have

  pub symbol-value : (Ss : List Srt) (x : Option ℕ) (t : Tm) (us : List Tm) (s : Tm) (w : Way) (e ev : Env) (sv : Val) → Fit P M w0 e0 Ss x us s w e ev sv → value M (put us t) e ≡ value M t ev
  symbol-value Ss x t us s w e ev sv f = put-value M us t e ∙ ap (value M t) f.values

  pub symbol-sorted : (Ss : List Srt) (x : Option ℕ) (t : Tm) (S : Srt) (us : List Tm) (s : Tm) (w : Way) (e ev : Env) (sv : Val) → RunSorted P Ss t S → Fit P M w0 e0 Ss x us s w e ev sv → FormSorted P (way_sorts w) (put us t) S
  symbol-sorted Ss x t S us s w e ev sv h f = put-sorted (Applies P) (way_sorts w) us Ss t S f.sorted h.0

  -- ---- the texts of effects and lifts

  -- a text that reads an input of the effect E and gives results of the sort R
  abbrev pub Serves : ℕ → Srt → Way → Env → Steps → (I → Run) → Type 0
  Serves E R w e steps f = (w1 : Way) (e1 : Env) (s1 : Tm) (sv1 : Val) (rest1 : After) → Extends w e w1 e1 → Stands M w1 e1 → InputSorted P w1 (Some E) s1 → value M s1 e1 ≡ sv1 → InputHas P (Some E) sv1
      → GoalsValid M (steps s1 w1 rest1) → Ok (Reaches P M w1 e1 R rest1) (λ i F. f i sv1 F)

  abbrev ServesNext : ℕ → Srt → Srt → Way → Env → (Tm → Steps) → (I → Val → Run) → Type 0
  ServesNext E T R w e steps g = (w1 : Way) (e1 : Env) (v : Tm) (vv : Val) (s1 : Tm) (sv1 : Val) (rest1 : After) → Extends w e w1 e1 → Stands M w1 e1 → FormSorted P (way_sorts w1) v T → value M v e1 ≡ vv → Has T vv
      → InputSorted P w1 (Some E) s1 → value M s1 e1 ≡ sv1 → InputHas P (Some E) sv1 → GoalsValid M (steps v s1 w1 rest1) → Ok (Reaches P M w1 e1 R rest1) (λ i F. g i vv sv1 F)

  pub input-of : (E : ℕ) (d : EffDef) (s : Val) → effect_at P E ≡ Some d → InputHas P (Some E) s → Has d.input s
  input-of E d s q h = subst (λ o. if_there o (λ d. Has d.input s) ⊥) q h

  pub input-to : (E : ℕ) (d : EffDef) (s : Val) → effect_at P E ≡ Some d → Has d.input s → InputHas P (Some E) s
  input-to E d s q h = subst (λ o. if_there o (λ d. Has d.input s) ⊥) (sym q) h

  pub sorted-of : (E : ℕ) (d : EffDef) (w : Way) (s : Tm) → effect_at P E ≡ Some d → InputSorted P w (Some E) s → FormSorted P (way_sorts w) s d.input
  sorted-of E d w s q h = subst (λ o. if_there o (λ d. FormSorted P (way_sorts w) s d.input) ⊥) q h

  pub sorted-to : (E : ℕ) (d : EffDef) (w : Way) (s : Tm) → effect_at P E ≡ Some d → FormSorted P (way_sorts w) s d.input → InputSorted P w (Some E) s
  sorted-to E d w s q h = subst (λ o. if_there o (λ d. FormSorted P (way_sorts w) s d.input) ⊥) (sym q) h

  result-is : (E : ℕ) (d : EffDef) (S : Srt) → effect_at P E ≡ Some d → result_at P E S ≡ put_sorts S s_b d.result
  result-is E d S q = ap (λ o. if_there o (λ d. put_sorts S s_b d.result) S) q

  module _ (w : Way) (e : Env) (s : Tm) (sv : Val) (rest : After) (stands : Stands M w e) where
    serves-f : (E : ℕ) (d : EffDef) (T A B : Srt) (fw : Steps) (f : I → Run) → effect_at P E ≡ Some d → put_sorts A B d.input ≡ d.input → put_sorts A B d.result ≡ result_at P E T → Serves E (result_at P E T) w e fw f
        → ComputesF P M number I b Ok GhostOk rules A B (Some (record { input = d.input; result = d.result })) w e fw f
    serves-f E d T A B fw f q input result serves w1 e1 s1 sv1 rest1 ex st is iv ih valid =
        subst (λ R. Ok (Reaches P M w1 e1 R rest1) (λ i F. f i sv1 F)) (sym result)
        (serves w1 e1 s1 sv1 rest1 ex st (sorted-to E d w1 s1 q (subst (λ S. FormSorted P (way_sorts w1) s1 S) input is)) iv (input-to E d sv1 q (subst (λ S. Has S sv1) input ih)) valid)

    pub bind-ok : (E : ℕ) (T S : Srt) (fw : Steps) (gw : Tm → Steps) (f : I → Run) (g : I → Val → Run) → InputSorted P w (Some E) s → value M s e ≡ sv → InputHas P (Some E) sv
        → Serves E (result_at P E T) w e fw f → ServesNext E T (result_at P E S) w e gw g
        → GoalsValid M (dm_walk P Gl (goal_site number) fw gw (dm_at T S (bind_text P E)) (s ∷ []) w rest)
        → Ok (Reaches P M w e (result_at P E S) rest) (λ i F. dm b (f i) (λ v s l. g i v s l) (bind_text P E) (sv ∷ []) F)
    bind-ok E T S fw gw f g is iv ih cf cg valid =
        let there = effect-there P E sv ih in
        let d = there.0 in
        let q = there.1 in
        let ok = sorted.effects E d q in
        let input = put_sorts-closed T S d.input ok.input_without_a ok.input_without_b in
        let lower : put_sorts T S d.result ≡ result_at P E T = put_sorts-without_b T S s_b d.result ok.result_without_b ∙ sym (result-is E d T q) in
        let upper : put_sorts T S (put_sorts s_b s_b d.result) ≡ result_at P E S = put_sorts-twice T S s_b s_b d.result ∙ put_sorts-without_b S S s_b d.result ok.result_without_b ∙ sym (result-is E d S q) in
        let text_is : bind_text P E ≡ d.bind = ap (λ o. if_there o (λ d. d.bind) (d_ret t_unit)) q in
        let hf : Option FSorts = Some (record { input = d.input; result = d.result }) in
        let hg : Option GSorts = Some (record { value = s_a; input = d.input; result = put_sorts s_b s_b d.result }) in
        subst (λ t. Ok (Reaches P M w e (result_at P E S) rest) (λ i F. dm b (f i) (λ v s l. g i v s l) t (sv ∷ []) F)) (sym text_is)
        (subst (λ R. Ok (Reaches P M w e R rest) (λ i F. dm b (f i) (λ v s l. g i v s l) d.bind (sv ∷ []) F)) upper
        (dm-ok P M number I b Ok GhostOk rules T S w e hf hg fw gw f g
        (serves-f E d T T S fw f q input lower cf)
        (λ w1 e1 v vv s1 sv1 rest1 ex st vs vi vh s1s s1v s1h v1.
        subst (λ R. Ok (Reaches P M w1 e1 R rest1) (λ i F. g i vv sv1 F)) (sym upper)
        (cg w1 e1 v vv s1 sv1 rest1 ex st vs vi vh (sorted-to E d w1 s1 q (subst (λ X. FormSorted P (way_sorts w1) s1 X) input s1s)) s1v (input-to E d sv1 q (subst (λ X. Has X sv1) input s1h)) v1))
        d.bind (d.input ∷ []) (put_sorts s_b s_b d.result) (s ∷ []) w e (sv ∷ []) rest ok.binds (kept.binds E d q)
        (record {
          extends = extends-same w w e refl;
          stands = stands;
          sorted = (subst (λ X. FormSorted P (way_sorts w) s X) (sym input) (sorted-of E d w s q is), tt);
          values = ap (λ v. v ∷ []) iv;
          have = (subst (λ X. Has X sv) (sym input) (input-of E d sv q ih), tt);
        })
        (subst (λ t. GoalsValid M (dm_walk P Gl (goal_site number) fw gw (dm_at T S t) (s ∷ []) w rest)) text_is valid)))

    pub return-ok : (E : ℕ) (S : Srt) (t : Tm) (v : Val) → InputSorted P w (Some E) s → value M s e ≡ sv → InputHas P (Some E) sv → FormSorted P (way_sorts w) t S → value M t e ≡ v → Has S v
        → GoalsValid M (dm_walk P Gl (goal_site number) (no_walk_f P Gl (goal_site number)) (no_walk_g P Gl (goal_site number)) (dm_at S S (return_text P E)) (s ∷ t ∷ []) w rest)
        → Ok (Reaches P M w e (result_at P E S) rest) (λ i F. dm b no_f no_g (return_text P E) (sv ∷ v ∷ []) F)
    return-ok E S t v is iv ih ts tv th valid =
        let there = effect-there P E sv ih in
        let d = there.0 in
        let q = there.1 in
        let ok = sorted.effects E d q in
        let input = put_sorts-closed S S d.input ok.input_without_a ok.input_without_b in
        let upper : put_sorts S S d.result ≡ result_at P E S = put_sorts-without_b S S s_b d.result ok.result_without_b ∙ sym (result-is E d S q) in
        let text_is : return_text P E ≡ d.ret = ap (λ o. if_there o (λ d. d.ret) (d_ret t_unit)) q in
        subst (λ t. Ok (Reaches P M w e (result_at P E S) rest) (λ i F. dm b no_f no_g t (sv ∷ v ∷ []) F)) (sym text_is)
        (subst (λ R. Ok (Reaches P M w e R rest) (λ i F. dm b no_f no_g d.ret (sv ∷ v ∷ []) F)) upper
        (dm-ok P M number I b Ok GhostOk rules S S w e None None (no_walk_f P Gl (goal_site number)) (no_walk_g P Gl (goal_site number)) (λ i. no_f) (λ i. no_g) tt tt
        d.ret (d.input ∷ s_a ∷ []) d.result (s ∷ t ∷ []) w e (sv ∷ v ∷ []) rest ok.returns (kept.returns E d q)
        (record {
          extends = extends-same w w e refl;
          stands = stands;
          sorted = (subst (λ X. FormSorted P (way_sorts w) s X) (sym input) (sorted-of E d w s q is), (ts, tt));
          values = ap₂ (λ x y. x ∷ y ∷ []) iv tv;
          have = (subst (λ X. Has X sv) (sym input) (input-of E d sv q ih), (th, tt));
        })
        (subst (λ x. GoalsValid M (dm_walk P Gl (goal_site number) (no_walk_f P Gl (goal_site number)) (no_walk_g P Gl (goal_site number)) (dm_at S S x) (s ∷ t ∷ []) w rest)) text_is valid)))

    -- the lower effect of a lift, and its text's sorts
    lift-lower : (l : LftDef) (upper : EffDef) → effect_at P l.«to» ≡ Some upper → LiftSorted P l → (lower : EffDef) × (effect_at P l.from ≡ Some lower) × DmSorted P (Some (record { input = lower.input; result = lower.result })) None (upper.input ∷ []) l.text upper.result
    lift-lower l upper q h = go (effect_at P l.from) refl (subst (λ u. if_there (effect_at P l.from) (λ lower. if_there u (λ upper. DmSorted P (Some (record { input = lower.input; result = lower.result })) None (upper.input ∷ []) l.text upper.result) ⊥) ⊥) q h)
      where
        go : (o : Option EffDef) → effect_at P l.from ≡ o → if_there o (λ lower. DmSorted P (Some (record { input = lower.input; result = lower.result })) None (upper.input ∷ []) l.text upper.result) ⊥ → (lower : EffDef) × (effect_at P l.from ≡ Some lower) × DmSorted P (Some (record { input = lower.input; result = lower.result })) None (upper.input ∷ []) l.text upper.result
        go None p h = absurd h
        go (Some lower) p h = (lower, p, h)

    pub lift-ok : (n : ℕ) (l : LftDef) (S : Srt) (fw : Steps) (f : I → Run) → slice_get P.lifts n ≡ Some l → InputSorted P w (Some l.«to») s → value M s e ≡ sv → InputHas P (Some l.«to») sv
        → Serves l.from (result_at P l.from S) w e fw f
        → GoalsValid M (dm_walk P Gl (goal_site number) fw (no_walk_g P Gl (goal_site number)) (dm_at S S l.text) (s ∷ []) w rest)
        → Ok (Reaches P M w e (result_at P l.«to» S) rest) (λ i F. dm b (f i) no_g l.text (sv ∷ []) F)
    lift-ok n l S fw f p is iv ih cf valid =
        let there = effect-there P l.«to» sv ih in
        let upper = there.0 in
        let q = there.1 in
        let low = lift-lower l upper q (sorted.lifts n l p) in
        let lower = low.0 in
        let ok = sorted.effects l.«to» upper q in
        let okl = sorted.effects l.from lower low.1 in
        let input = put_sorts-closed S S upper.input ok.input_without_a ok.input_without_b in
        let result : put_sorts S S upper.result ≡ result_at P l.«to» S = put_sorts-without_b S S s_b upper.result ok.result_without_b ∙ sym (result-is l.«to» upper S q) in
        let result_f : put_sorts S S lower.result ≡ result_at P l.from S = put_sorts-without_b S S s_b lower.result okl.result_without_b ∙ sym (result-is l.from lower S low.1) in
        subst (λ R. Ok (Reaches P M w e R rest) (λ i F. dm b (f i) no_g l.text (sv ∷ []) F)) result
        (dm-ok P M number I b Ok GhostOk rules S S w e (Some (record { input = lower.input; result = lower.result })) None fw (no_walk_g P Gl (goal_site number)) f (λ i. no_g)
        (serves-f l.from lower S S S fw f low.1 (put_sorts-closed S S lower.input okl.input_without_a okl.input_without_b) result_f cf) tt
        l.text (upper.input ∷ []) upper.result (s ∷ []) w e (sv ∷ []) rest low.2 (kept.lifts n l p)
        (record {
          extends = extends-same w w e refl;
          stands = stands;
          sorted = (subst (λ X. FormSorted P (way_sorts w) s X) (sym input) (sorted-of l.«to» upper w s q is), tt);
          values = ap (λ v. v ∷ []) iv;
          have = (subst (λ X. Has X sv) (sym input) (input-of l.«to» upper sv q ih), tt);
        })
        valid)
