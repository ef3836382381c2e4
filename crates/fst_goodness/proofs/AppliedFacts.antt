-- The facts of one application of a good function of an earlier group are formulas of earlier functions, and true.
use Rattle.std.proofs.Common.{◌≡◌, ℕ, ◌<◌, ◌≤◌, Bool, true, false, List, [], ◌∷◌, ◌++◌, map, reverse, Option, Some, None, IsTrue, refl, sym, ap, ◌∙◌, subst, arith}
use mathlib.Core.List.{reverse_aux}
use Rattle.fst_base.specs.Sorts.{Srt, s_bool}
use Rattle.fst_base.specs.Values.{Val, Has, HasSorts}
use Rattle.fst_terms.specs.Terms.{Tm, Tms, t_var, t_int, t_bool, t_unit, t_prim, t_if, t_app, t_let, t_end, t_more, row, listed}
use Rattle.fst_terms.specs.Meaning.{Env, Meaning, value, AllTrue, Vr}
use Rattle.fst_terms.specs.Formulas.{joined, equation}
use Rattle.fst_terms.specs.Sorted.{TmSorted, TmsSorted}
use Rattle.fst_terms.proofs.PutLemmas.{put_values}
use Rattle.fst_terms.proofs.MemberLemmas.{AllTm}
use Rattle.fst_program.specs.declared.effect.Effect.{Effect}
use Rattle.fst_program.specs.declared.effect.Effect.TheVariants as effect
use Rattle.fst_program.specs.Texts.{EffDef, Fn, Prog, if_there, fun_at, effect_at, result_sort, is_pure, is_total}
use Rattle.fst_program.specs.Runs.{input_to}
use Rattle.fst_program.specs.Applications.{front, last, split, IsMeaning}
use Rattle.fst_program.specs.Paths.{Way, suppose_all, given, clause_terms, demands_of}
use Rattle.fst_program.specs.Sorted.{Applies, place_of, InputHas, result_in, input_sorts, param_sorts, body_sorts, IsSorted}
use Rattle.fst_goodness.proofs.Kept.{disciplined-kept}
use Rattle.fst_program.specs.Groups.{TmEarlier, TmsEarlier}
use Rattle.fst_goodness.proofs.Spoken.{spoken, applied-earlier}
use Rattle.fst_terms.specs.DataFacts.{implies}
use Rattle.fst_program.specs.FunctionFacts.{but_last, last_term, own_args, own_input, with_input, call_applied, way_fact, unfolded, posted}
use Rattle.fst_terms.specs.Sentences.{KeepsSorts}
use Rattle.fst_goodness.specs.FunctionSentences.{GoodBelow, AppliesBelow}
use Rattle.fst_program.proofs.SortedTerms.{AllSorted}
use Rattle.fst_program.proofs.Ways.{way_sorts, suppose-all-vars}
use Rattle.fst_goodness.proofs.CallGoals.{result-place}
use Rattle.fst_goodness.proofs.CoreEffects.{listed-sorted, listed-values}
use Rattle.fst_goodness.proofs.MeaningSorts.{meaning-has}
use Rattle.fst_terms.proofs.TermSorts.{value-sorted}
use Rattle.fst_goodness.proofs.UnfoldedTrue.{turned-sorted, with-values, none-more, unfold-law, post-law}
use Rattle.fst_goodness.proofs.Formed.{wider-sorted, all-wider-sorted, Later, later-same, later-fixed, Forms, Formed, suppose-all-formed, row-of, equation-of, sorted-on, all-sorted-on}
use Rattle.fst_goodness.proofs.FormedDefinitions.{Each, Wants}
use Rattle.fst_goodness.proofs.FormedText.{InputFormed, input-on, text-each}
use Rattle.fst_goodness.proofs.ClauseForms.{joined-form, given-forms, clause-sorted, with-formed, demand-forms}
use Rattle.fst_program.specs.Discipline.{IsDisciplined}

-- ---- earlier functions

module _ (P : Prog) where
  mutual
    -- formulas of functions of groups before m are formulas of functions of groups before n
    pub earlier : (m n : ℕ) → m ≤ n → (Ss : List Srt) (t : Tm) (S : Srt) → TmSorted (Applies P) Ss t S → TmEarlier P m t → TmSorted (AppliesBelow P n) Ss t S
    earlier m n le Ss (t_var i) S h k = h
    earlier m n le Ss (t_int i) S h k = h
    earlier m n le Ss (t_bool b) S h k = h
    earlier m n le Ss t_unit S h k = h
    earlier m n le Ss (t_prim o T ts at) S h k = (h.0, (h.1.0, (h.1.1.0, all-earlier m n le Ss ts h.1.0 h.1.1.1 k)))
    earlier m n le Ss (t_if c t u) S h k = (earlier m n le Ss c s_bool h.0 k.0, earlier m n le Ss t S h.1 k.1, earlier m n le Ss u S h.2 k.2)
    earlier m n le Ss (t_app j T ts) S h k = (h.0, (h.1.0, ((h.1.1.0, λ f q. let r = applied-earlier P m j f q k.0 in (let lt = r.0 in omega (lt, le, arith), r.1)), all-earlier m n le Ss ts h.1.0 h.1.1.1 k.1)))
    earlier m n le Ss (t_let x t u) S h k = (h.0, (earlier m n le Ss t h.0 h.1.0 k.0, earlier m n le (h.0 ∷ Ss) u S h.1.1 k.1))

    all-earlier : (m n : ℕ) → m ≤ n → (Ss : List Srt) (ts : Tms) (Ts : List Srt) → TmsSorted (Applies P) Ss ts Ts → TmsEarlier P m ts → TmsSorted (AppliesBelow P n) Ss ts Ts
    all-earlier m n le Ss t_end Ts h k = h
    all-earlier m n le Ss (t_more t ts) Ts h k = (h.0, (h.1.0, (h.1.1.0, earlier m n le Ss t h.0 h.1.1.1 k.0, all-earlier m n le Ss ts h.1.0 h.1.1.2 k.1)))

-- ---- lists

-- the last one of arguments
last-apart : (A : (k : ℕ) → List Srt → (S : Srt) → Type 0) (Ss : List Srt) (us : List Tm) (Ts : List Srt) (T : Srt) → AllSorted A Ss us (Ts ++ T ∷ []) → (but_last us ++ last_term us ∷ [] ≡ us) × AllSorted A Ss (but_last us) Ts × TmSorted A Ss (last_term us) T
last-apart A Ss [] [] T h = absurd h
last-apart A Ss [] (U ∷ Ts) T h = absurd h
last-apart A Ss (u ∷ []) [] T h = (refl, tt, h.0)
last-apart A Ss (u ∷ []) (U ∷ []) T h = absurd h.1
last-apart A Ss (u ∷ []) (U ∷ V ∷ Ts) T h = absurd h.1
last-apart A Ss (u ∷ v ∷ us) [] T h = absurd h.1
last-apart A Ss (u ∷ v ∷ us) (U ∷ Ts) T h = let r = last-apart A Ss (v ∷ us) Ts T h.1 in (ap (λ l. u ∷ l) r.0, (h.0, r.1), r.2)

last-value-apart : (vs : List Val) (Ts : List Srt) (T : Srt) → HasSorts (Ts ++ T ∷ []) vs → HasSorts Ts (front vs) × Has T (last vs)
last-value-apart [] [] T h = absurd h
last-value-apart [] (U ∷ Ts) T h = absurd h
last-value-apart (v ∷ []) [] T h = (tt, h.0)
last-value-apart (v ∷ []) (U ∷ []) T h = absurd h.1
last-value-apart (v ∷ []) (U ∷ V ∷ Ts) T h = absurd h.1
last-value-apart (v ∷ w ∷ vs) [] T h = absurd h.1
last-value-apart (v ∷ w ∷ vs) (U ∷ Ts) T h = let r = last-value-apart (w ∷ vs) Ts T h.1 in ((h.0, r.0), r.1)

-- ---- earlier functions are total, so their applications have values of their sorts

module _ (P : Prog) (sorted : IsSorted P) (M : Meaning) (means : IsMeaning P M) (n : ℕ) where
  args-have : (x : Effect) → IsTrue (is_total P x) → (Ts : List Srt) (vs : List Val) → HasSorts (Ts ++ input_sorts P x) vs → HasSorts Ts (split x vs).0 × InputHas P (place_of x) (split x vs).1
  args-have effect.Pure total Ts vs h = (subst (λ Us. HasSorts Us vs) (none-more Ts) h, tt)
  args-have effect.Ghost total Ts vs h = (subst (λ Us. HasSorts Us vs) (none-more Ts) h, tt)
  args-have effect.Div total Ts vs h = cc
  args-have (effect.User E) total Ts vs h = go (effect_at P E) total h
    where
      go : (o : Option EffDef) → IsTrue (if_there o (λ d. is_pure d.base) false) → HasSorts (Ts ++ if_there o (λ d. d.input ∷ []) []) vs → HasSorts Ts (front vs) × if_there o (λ d. Has d.input (last vs)) ⊥
      go None total h = cc
      go (Some d) total h = last-value-apart vs Ts d.input h

  pub below-keeps : KeepsSorts (AppliesBelow P n) M
  below-keeps k Ss S vs applies have = go (fun_at P k) refl applies.0
    where
      go : (o : Option Fn) → fun_at P k ≡ o → if_there o (λ f. (Ss ≡ map (λ p. p.sort) f.params ++ input_sorts P f.effect) × (S ≡ result_sort P f.effect f.sort)) ⊥ → Has S (M k vs)
      go None q h = absurd h
      go (Some f) q h =
          let r = args-have f.effect (applies.1 f q).1 (param_sorts P f) vs (subst (λ Us. HasSorts Us vs) h.0 have) in
          subst (λ T. Has T (M k vs)) (sym h.1) (meaning-has P sorted M means k f vs q r.0 r.1)

-- ---- one application

module _ (P : Prog) (sorted : IsSorted P) (disciplined : IsDisciplined P) (n : ℕ) (vars : List Vr) where
  abbrev pub base : Way
  base = record { vars = vars; hyps = []; choices = [] }

  abbrev pub Kind : (k : ℕ) → List Srt → (S : Srt) → Type 0
  Kind = AppliesBelow P n

  abbrev pub IsForm : Tm → Type 0
  IsForm phi = TmSorted Kind (way_sorts base) phi s_bool

  -- an application of function k, f
  pub record Applied (k : ℕ) (S : Srt) (us : Tms) (f : Fn) : Type 0 where
    pub at : fun_at P k ≡ Some f
    pub before : f.group < n
    pub total : IsTrue (is_total P f.effect)
    pub sort : S ≡ result_sort P f.effect f.sort
    pub whole : TmSorted Kind (way_sorts base) (t_app k S us) S
    pub args : AllSorted Kind (way_sorts base) (own_args f.effect (listed us)) (param_sorts P f)
    pub input : InputFormed true P Kind base (place_of f.effect) (own_input f.effect (listed us))
    pub again : with_input f.effect (own_args f.effect (listed us)) (own_input f.effect (listed us)) ≡ listed us

  own-parts : (x : Effect) → IsTrue (is_total P x) → (us : List Tm) (Ts : List Srt) → AllSorted Kind (way_sorts base) us (Ts ++ input_sorts P x)
      → AllSorted Kind (way_sorts base) (own_args x us) Ts × InputFormed true P Kind base (place_of x) (own_input x us) × (with_input x (own_args x us) (own_input x us) ≡ us)
  own-parts effect.Pure total us Ts h = (subst (λ Us. AllSorted Kind (way_sorts base) us Us) (none-more Ts) h, tt, refl)
  own-parts effect.Ghost total us Ts h = (subst (λ Us. AllSorted Kind (way_sorts base) us Us) (none-more Ts) h, tt, refl)
  own-parts effect.Div total us Ts h = cc
  own-parts (effect.User E) total us Ts h = go (effect_at P E) total h
    where
      go : (o : Option EffDef) → IsTrue (if_there o (λ d. is_pure d.base) false) → AllSorted Kind (way_sorts base) us (Ts ++ if_there o (λ d. d.input ∷ []) [])
          → AllSorted Kind (way_sorts base) (but_last us) Ts × if_there o (λ d. TmSorted Kind (way_sorts base) (last_term us) d.input) ⊥ × (but_last us ++ last_term us ∷ [] ≡ us)
      go None total h = cc
      go (Some d) total h = let r = last-apart Kind (way_sorts base) us Ts d.input h in (r.1, r.2, r.0)

  pub applied-here : (k : ℕ) (S : Srt) (us : Tms) (T : Srt) → TmSorted Kind (way_sorts base) (t_app k S us) T → (f : Fn) × Applied k S us f
  applied-here k S us T h = go (fun_at P k) refl h.1.1.0.0
    where
      go : (o : Option Fn) → fun_at P k ≡ o → if_there o (λ f. (h.1.0 ≡ map (λ p. p.sort) f.params ++ input_sorts P f.effect) × (S ≡ result_sort P f.effect f.sort)) ⊥ → (f : Fn) × Applied k S us f
      go None q y = absurd y
      go (Some f) q y =
          let r = h.1.1.0.1 f q in
          let parts = own-parts f.effect r.1 (listed us) (param_sorts P f) (listed-sorted Kind (way_sorts base) us (param_sorts P f ++ input_sorts P f.effect) (subst (λ Us. TmsSorted Kind (way_sorts base) us Us) y.0 h.1.1.1)) in
          (f, record { at = q; before = r.0; total = r.1; sort = y.1; whole = (refl, h.1); args = parts.0; input = parts.1; again = parts.2 })

  module _ (k : ℕ) (S : Srt) (us : Tms) (f : Fn) (here : Applied k S us f) where
    abbrev ts : List Tm
    ts = own_args f.effect (listed us)

    abbrev input : Tm
    input = own_input f.effect (listed us)

    abbrev app : Tm
    app = t_app k S us

    fun-speaks : (Ss : List Srt) (phi : Tm) (S : Srt) → TmSorted (Applies P) Ss phi S → TmEarlier P f.group phi → TmSorted Kind Ss phi S
    fun-speaks Ss phi S h j = let lt = here.before in earlier P f.group n (omega (lt, arith)) Ss phi S h j

    demands-formed : Forms Kind (way_sorts base) (demands_of f ts input)
    demands-formed =
        let sp = disciplined.funs k f here.at in
        demand-forms true P f.group Kind fun-speaks base f ts input (sorted.funs k f here.at) sp.refines sp.needs here.args here.input

    abbrev begins : Way
    begins = suppose_all (demands_of f ts input) base

    begin-vars : begins.vars ≡ base.vars
    begin-vars = suppose-all-vars (demands_of f ts input) base

    turned-forms : (Ss : List Srt) (phis psis : List Tm) → Forms Kind Ss phis → Forms Kind Ss psis → Forms Kind Ss (reverse_aux phis psis)
    turned-forms Ss [] psis h j = j
    turned-forms Ss (phi ∷ phis) psis h j = turned-forms Ss phis (phi ∷ psis) h.1 (h.0, j)

    abbrev Facts : List Tm → Type 0
    Facts = Each true P Kind Tm (λ m at phi w. []) IsForm

    each-form : (phis : List Tm) → Facts phis → AllTm IsForm phis
    each-form [] h = tt
    each-form (phi ∷ phis) h = (h.0, each-form phis h.1)

    calls-form : (w0 : Way) (j : ℕ) (g : Fn) → fun_at P j ≡ Some g → g.group ≤ f.group → (tot : Bool) → (true ≡ true → tot ≡ true) → (tot ≡ true → IsTrue (is_total P g.effect)) → (w : Way) (us1 : List Tm) (s : Tm) (at : ℕ) (k1 : Way → Tm → List Tm) → Later true w0 w → Formed Kind w
        → AllSorted Kind (way_sorts w) us1 (param_sorts P g) → InputFormed true P Kind w (place_of g.effect) s → Wants true P Kind Tm (λ m at phi w. []) IsForm w (result_in P (place_of g.effect) g.sort) k1 → Facts (call_applied P j us1 s at w k1)
    calls-form w0 j g q le tot every total w us1 s at k1 l fo terms is wn =
        let R = result_sort P g.effect g.sort in
        let args = with_input g.effect us1 s in
        let lt = here.before in
        let there : AppliesBelow P n j (param_sorts P g ++ input_sorts P g.effect) R
        = (
          subst (λ o. if_there o (λ f. (param_sorts P g ++ input_sorts P g.effect ≡ map (λ p. p.sort) f.params ++ input_sorts P f.effect) × (R ≡ result_sort P f.effect f.sort)) ⊥) (sym q) (refl, refl),
          λ f1 q1. let p : g ≡ f1 = cc in subst (λ z. (z.group < n) × IsTrue (is_total P z.effect)) p (omega (lt, le, arith), total (every refl)),
        ) in
        subst (λ o. Facts (if_there o (λ g. k1 w (t_app j (result_sort P g.effect g.sort) (row (with_input g.effect us1 s)))) [])) (sym q)
        (wn w (t_app j R (row args)) (later-same true w w refl) fo
        (sym (result-place P g.effect g.sort), (param_sorts P g ++ input_sorts P g.effect, (there, row-of Kind (way_sorts w) args (param_sorts P g ++ input_sorts P g.effect) (with-formed true P f.group Kind fun-speaks w g.effect us1 s (param_sorts P g) terms is)))))

    pub unfolded-forms : AllTm IsForm (unfolded P vars app f ts input)
    unfolded-forms = each-form (unfolded P vars app f ts input)
        (text-each true P sorted (disciplined-kept P sorted disciplined) f.group Kind fun-speaks Tm (λ m at phi w. []) IsForm (λ m at phi w fo h. tt) (call_applied P) begins true (calls-form begins)
        f.body (is_total P f.effect) (λ z. here.total) (body_sorts P f) (place_of f.effect) f.sort (reverse ts) input begins (way_fact app)
        (sorted.funs k f here.at).body ((disciplined-kept P sorted disciplined).bodies k f here.at) (spoken P f f.body (disciplined.funs k f here.at).calls)
        (record {
          later = later-same true begins begins refl;
          formed = suppose-all-formed Kind (demands_of f ts input) base demands-formed tt;
          terms = all-sorted-on Kind base begins (reverse ts) (body_sorts P f) begin-vars (turned-sorted Kind (way_sorts base) ts [] (param_sorts P f) [] here.args tt);
          input = input-on true P Kind base begins (place_of f.effect) input begin-vars here.input;
        })
        (λ w1 u l fo su. (way-form w1 u (later-fixed begins w1 l ∙ begin-vars) fo su, tt)))
      where
        way-form : (w1 : Way) (u : Tm) → w1.vars ≡ vars → Formed Kind w1 → TmSorted Kind (way_sorts w1) u (result_in P (place_of f.effect) f.sort) → IsForm (implies (joined (reverse w1.hyps)) (equation app u))
        way-form w1 u q fo su =
            let same : S ≡ result_in P (place_of f.effect) f.sort = here.sort ∙ result-place P f.effect f.sort in
            let there : TmSorted Kind (way_sorts w1) (implies (joined (reverse w1.hyps)) (equation app u)) s_bool
            = (joined-form Kind (way_sorts w1) (reverse w1.hyps) (turned-forms (way_sorts w1) w1.hyps [] fo tt), equation-of Kind (way_sorts w1) S app u (sorted-on Kind base w1 app S q here.whole) (subst (TmSorted Kind (way_sorts w1) u) (sym same) su), refl) in
            sorted-on Kind w1 base (implies (joined (reverse w1.hyps)) (equation app u)) s_bool (sym q) there

    pub posted-forms : AllTm IsForm (posted app f ts input)
    posted-forms = go (given f.gives (app ∷ clause_terms f.effect ts input))
        (given-forms true P f.group Kind fun-speaks (way_sorts base) (result_sort P f.effect f.sort ∷ (input_sorts P f.effect ++ body_sorts P f)) f.gives (app ∷ clause_terms f.effect ts input) (sorted.funs k f here.at).gives (disciplined.funs k f here.at).gives
        (subst (TmSorted Kind (way_sorts base) app) here.sort here.whole, clause-sorted true P f.group Kind fun-speaks base f.effect ts input (param_sorts P f) here.args here.input))
      where
        go : (phis : List Tm) → Forms Kind (way_sorts base) phis → AllTm IsForm (map (implies (joined (demands_of f ts input))) phis)
        go [] h = tt
        go (phi ∷ phis) h = ((joined-form Kind (way_sorts base) (demands_of f ts input) demands-formed, h.0, refl), go phis h.1)

    -- ---- they are true

    module _ (M : Meaning) (means : IsMeaning P M) (good : GoodBelow P M n) (e : Env) (have : HasSorts (way_sorts base) e) where
      values-have : (us1 : List Tm) (Us : List Srt) → AllSorted Kind (way_sorts base) us1 Us → HasSorts Us (put_values M us1 e)
      values-have [] [] h = tt
      values-have [] (U ∷ Us) h = absurd h
      values-have (u ∷ us1) [] h = absurd h
      values-have (u ∷ us1) (U ∷ Us) h = (value-sorted Kind M (below-keeps P sorted M means n) (way_sorts base) u U e h.0 have, values-have us1 Us h.1)

      input-has : (x : Option ℕ) (s : Tm) → InputFormed true P Kind base x s → InputHas P x (value M s e)
      input-has None s h = tt
      input-has (Some E) s h = go (effect_at P E) h
        where
          go : (o : Option EffDef) → if_there o (λ d. TmSorted Kind (way_sorts base) s d.input) ⊥ → if_there o (λ d. Has d.input (value M s e)) ⊥
          go None h = absurd h
          go (Some d) h = value-sorted Kind M (below-keeps P sorted M means n) (way_sorts base) s d.input e h have

      plain-input : (x : Effect) (us1 : List Tm) → input_to x (value M (own_input x us1) e) ≡ value M (own_input x us1) e
      plain-input effect.Pure us1 = refl
      plain-input effect.Ghost us1 = refl
      plain-input effect.Div us1 = refl
      plain-input (effect.User E) us1 = refl

      app-value : value M app e ≡ M k (with_input f.effect (put_values M ts e) (value M input e))
      app-value = ap (M k) (sym (listed-values M us e) ∙ ap (λ l. put_values M l e) (sym here.again) ∙ with-values M e f.effect ts input)

      narrower : (j : ℕ) (Ss : List Srt) (T : Srt) → AppliesBelow P n j Ss T → Applies P j Ss T
      narrower j Ss T h = h.0

      input-term : (x : Option ℕ) (s : Tm) → InputFormed true P Kind base x s → Rattle.fst_goodness.specs.Unfolding.InputTerm P vars x s
      input-term None s h = tt
      input-term (Some E) s h = go (effect_at P E) h
        where
          go : (o : Option EffDef) → if_there o (λ d. TmSorted Kind (way_sorts base) s d.input) ⊥ → if_there o (λ d. TmSorted (Applies P) (way_sorts base) s d.input) ⊥
          go None h = absurd h
          go (Some d) h = wider-sorted Kind (Applies P) narrower (way_sorts base) s d.input h

      pub unfolded-true : AllTrue M (unfolded P vars app f ts input) e
      unfolded-true = unfold-law P sorted disciplined M means k f here.at (good k f here.at here.before) here.total vars e ts input
          (all-wider-sorted Kind (Applies P) narrower (way_sorts base) (row ts) (param_sorts P f) (row-of Kind (way_sorts base) ts (param_sorts P f) here.args))
          (input-term (place_of f.effect) input here.input) (values-have ts (param_sorts P f) here.args) (input-has (place_of f.effect) input here.input) (plain-input f.effect (listed us)) app app-value

      pub posted-true : AllTrue M (posted app f ts input) e
      posted-true = post-law P M means k f here.at (good k f here.at here.before) here.total e ts input
          (values-have ts (param_sorts P f) here.args) (input-has (place_of f.effect) input here.input) (plain-input f.effect (listed us)) app app-value
