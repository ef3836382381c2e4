-- The facts of unfolding an application of a good total function are true.
use Rattle.std.proofs.Common.{◌≡◌, ℕ, Bool, true, false, if◌then◌else◌, List, [], ◌∷◌, ◌++◌, map, reverse, Option, Some, None, IsTrue, refl, sym, ap, ap₂, ◌∙◌, subst, arith, ◌⊎◌, inl, inr}
use Rattle.std.proofs.lemmas.List.{reverse-reverse}
use mathlib.Core.List.{reverse_aux}
use Rattle.fst_base.specs.Sorts.{Srt}
use Rattle.fst_base.specs.Values.{Val, v_unit, v_bool, HasSorts, same}
use Rattle.fst_base.specs.Primitives.{is_true}
use Rattle.fst_base.proofs.ValueLemmas.{same-decides}
use Rattle.fst_terms.specs.Terms.{Tm, t_app, row}
use Rattle.fst_terms.specs.Meaning.{Env, Meaning, value, Truth, AllTrue, Vr}
use Rattle.fst_terms.specs.Formulas.{joined, put}
use Rattle.fst_terms.specs.Sorted.{TmsSorted}
use Rattle.fst_terms.proofs.PutLemmas.{put_values, put-value}
use Rattle.fst_program.specs.declared.effect.Effect.{Effect}
use Rattle.fst_program.specs.declared.effect.Effect.TheVariants as effect
use Rattle.fst_program.specs.Texts.{Prm, EffDef, Fn, Prog, if_there, fun_at, effect_at, is_user, result_sort, is_total}
use Rattle.fst_program.specs.Runs.{Outcome, Done, Out, Wide, Stuck, GhostOut, input_to, ev}
use Rattle.fst_program.specs.Good.{HaveAll, HasInput, IsOver, MayBeBounded, Good, Pre, Post, IfGiven, clause_env}
use Rattle.fst_program.specs.Applications.{front, last, split, IsMeaning}
use Rattle.fst_program.specs.Paths.{Way, suppose_all, walk, demands_of, given, clause_terms}
use Rattle.fst_program.specs.Sorted.{Applies, FormSorted, place_of, InputHas, input_sorts, param_sorts, body_sorts, IsSorted}
use Rattle.fst_program.proofs.SortedRunLemmas.{turned-have}
use Rattle.fst_program.proofs.WideLemmas.{Narrow, ev_narrow}
use Rattle.fst_goodness.proofs.Kept.{IsKept, disciplined-kept}
use Rattle.fst_terms.specs.DataFacts.{implies}
use Rattle.fst_program.specs.FunctionFacts.{with_input, call_applied, way_fact, unfolded}
use Rattle.fst_goodness.specs.Unfolding.{InputTerm, UnfoldLaw, PostLaw}
use Rattle.fst_goodness.proofs.Applied.{application-law}
use Rattle.fst_goodness.proofs.Clauses.{clause-values, joined-true, demands-out, put-reversed, row-values}
use Rattle.fst_program.proofs.SortedTerms.{AllSorted, append-sorted}
use Rattle.fst_program.proofs.Ways.{true-value, way_sorts, suppose-all-vars}
use Rattle.fst_goodness.proofs.CallGoals.{result-place}
use Rattle.fst_goodness.proofs.CoreEffects.{InputSorted}
use Rattle.fst_goodness.proofs.Gives.{Gives}
use Rattle.fst_goodness.proofs.Followed.{truth-decided, Every}
use Rattle.fst_goodness.proofs.FollowedEffects.{Fits}
use Rattle.fst_goodness.proofs.FollowedText.{CallsFollow, text-follows}

-- ---- arguments with an input

front-of : (vs : List Val) (s : Val) → front (vs ++ s ∷ []) ≡ vs
front-of [] s = refl
front-of (v ∷ []) s = refl
front-of (v ∷ w ∷ vs) s = ap (λ l. v ∷ l) (front-of (w ∷ vs) s)

last-of : (vs : List Val) (s : Val) → last (vs ++ s ∷ []) ≡ s
last-of [] s = refl
last-of (v ∷ []) s = refl
last-of (v ∷ w ∷ vs) s = last-of (w ∷ vs) s

split-args : (x : Effect) (vs : List Val) (s : Val) → (split x (with_input x vs s)).0 ≡ vs
split-args effect.Pure vs s = refl
split-args effect.Ghost vs s = refl
split-args effect.Div vs s = refl
split-args (effect.User E) vs s = front-of vs s

split-input : (x : Effect) (vs : List Val) (s : Val) → (split x (with_input x vs s)).1 ≡ input_to x s
split-input effect.Pure vs s = refl
split-input effect.Ghost vs s = refl
split-input effect.Div vs s = refl
split-input (effect.User E) vs s = last-of vs s

put-append : (M : Meaning) (e : Env) (ts us : List Tm) → put_values M (ts ++ us) e ≡ put_values M ts e ++ put_values M us e
put-append M e [] us = refl
put-append M e (t ∷ ts) us = ap (λ l. value M t e ∷ l) (put-append M e ts us)

pub with-values : (M : Meaning) (e : Env) (x : Effect) (ts : List Tm) (s : Tm) → put_values M (with_input x ts s) e ≡ with_input x (put_values M ts e) (value M s e)
with-values M e x ts s = go (is_user x)
  where
    go : (b : Bool) → put_values M (if b then ts ++ s ∷ [] else ts) e ≡ (if b then put_values M ts e ++ value M s e ∷ [] else put_values M ts e)
    go true = put-append M e ts (s ∷ [])
    go false = refl

row-sorted : (A : (k : ℕ) → List Srt → (S : Srt) → Type 0) (Ss : List Srt) (ts : List Tm) (Ts : List Srt) → AllSorted A Ss ts Ts → TmsSorted A Ss (row ts) Ts
row-sorted A Ss [] [] h = refl
row-sorted A Ss [] (T ∷ Ts) h = absurd h
row-sorted A Ss (t ∷ ts) [] h = absurd h
row-sorted A Ss (t ∷ ts) (T ∷ Ts) h = (T, (Ts, (refl, h.0, row-sorted A Ss ts Ts h.1)))

pub turned-sorted : (A : (k : ℕ) → List Srt → (S : Srt) → Type 0) (Ss : List Srt) (ts us : List Tm) (Ts Us : List Srt) → AllSorted A Ss ts Ts → AllSorted A Ss us Us → AllSorted A Ss (reverse_aux ts us) (reverse_aux Ts Us)
turned-sorted A Ss [] us [] Us h k = k
turned-sorted A Ss [] us (T ∷ Ts) Us h k = absurd h
turned-sorted A Ss (t ∷ ts) us [] Us h k = absurd h
turned-sorted A Ss (t ∷ ts) us (T ∷ Ts) Us h k = turned-sorted A Ss ts (t ∷ us) Ts (T ∷ Us) h.1 (h.0, k)

pub none-more : (Ss : List Srt) → Ss ++ [] ≡ Ss
none-more [] = refl
none-more (S ∷ Ss) = ap (λ Ts. S ∷ Ts) (none-more Ss)

with-sorted : (P : Prog) (w : Way) (x : Effect) (ts : List Tm) (s : Tm) (Ts : List Srt) → AllSorted (Applies P) (way_sorts w) ts Ts → InputSorted P w (place_of x) s → AllSorted (Applies P) (way_sorts w) (with_input x ts s) (Ts ++ input_sorts P x)
with-sorted P w effect.Pure ts s Ts h i = subst (λ Us. AllSorted (Applies P) (way_sorts w) ts Us) (sym (none-more Ts)) h
with-sorted P w effect.Ghost ts s Ts h i = subst (λ Us. AllSorted (Applies P) (way_sorts w) ts Us) (sym (none-more Ts)) h
with-sorted P w effect.Div ts s Ts h i = subst (λ Us. AllSorted (Applies P) (way_sorts w) ts Us) (sym (none-more Ts)) h
with-sorted P w (effect.User E) ts s Ts h i = go (effect_at P E) i
  where
    go : (o : Option EffDef) → if_there o (λ d. FormSorted P (way_sorts w) s d.input) ⊥ → AllSorted (Applies P) (way_sorts w) (ts ++ s ∷ []) (Ts ++ if_there o (λ d. d.input ∷ []) [])
    go None i = absurd i
    go (Some d) i = append-sorted (Applies P) (way_sorts w) ts (s ∷ []) Ts (d.input ∷ []) h (i, tt)

all-have : (ps : List Prm) (vs : List Val) → HasSorts (map (λ p. p.sort) ps) vs → HaveAll ps vs
all-have [] [] h = tt
all-have [] (v ∷ vs) h = absurd h
all-have (p ∷ ps) [] h = absurd h
all-have (p ∷ ps) (v ∷ vs) h = (h.0, all-have ps vs h.1)

input-there : (P : Prog) (x : Effect) (s : Val) → InputHas P (place_of x) s → HasInput P x (input_to x s)
input-there P (effect.User E) s h = h
input-there P effect.Pure s h = refl
input-there P effect.Ghost s h = refl
input-there P effect.Div s h = refl

input-kept : (P : Prog) (x : Effect) (s : Val) → InputHas P (place_of x) s → InputHas P (place_of x) (input_to x s)
input-kept P (effect.User E) s h = h
input-kept P effect.Pure s h = tt
input-kept P effect.Ghost s h = tt
input-kept P effect.Div s h = tt

unbounded-may : (x : Effect) → MayBeBounded x false
unbounded-may effect.Pure = tt
unbounded-may effect.Ghost = refl
unbounded-may effect.Div = tt
unbounded-may (effect.User E) = tt

-- ---- the facts

suppose-out : (M : Meaning) (e : Env) (phis : List Tm) (w : Way) → AllTrue M (suppose_all phis w).hyps e → AllTrue M phis e
suppose-out M e phis w h = (both phis w h).0
  where
    both : (phis : List Tm) (w : Way) → AllTrue M (suppose_all phis w).hyps e → AllTrue M phis e × AllTrue M w.hyps e
    both [] w h = (tt, h)
    both (phi ∷ phis) w h = let r = both phis (Rattle.fst_program.specs.Paths.suppose phi w) h in ((r.1.0, r.0), r.1.1)

turned-true : (M : Meaning) (e : Env) (phis psis : List Tm) → AllTrue M phis e → AllTrue M psis e → AllTrue M (reverse_aux phis psis) e
turned-true M e [] psis h k = k
turned-true M e (phi ∷ phis) psis h k = turned-true M e phis (phi ∷ psis) h.1 (h.0, k)

module _ (P : Prog) (sorted : IsSorted P) (kept : IsKept P) (M : Meaning) (means : IsMeaning P M) (e : Env) where
  abbrev is-fact : Tm → Type 0
  is-fact phi = Truth M phi e

  abbrev facts : List Tm → Type 0
  facts = Every P M Tm (λ m at phi w. []) is-fact e

  facts-true : (phis : List Tm) → facts phis → AllTrue M phis e
  facts-true [] h = tt
  facts-true (phi ∷ phis) h = (h.0, facts-true phis h.1)

  -- an application has the value of the run of its function's body
  application-value : (G F left : ℕ) (j : ℕ) (g : Fn) (vs : List Val) (sv v : Val) → fun_at P j ≡ Some g → ev M P F G false (reverse vs) (input_to g.effect sv) g.body ≡ Done v left → M j (with_input g.effect vs sv) ≡ v
  application-value G F left j g vs sv v q done = means.ran j g (with_input g.effect vs sv) v F G left q
      (ap₂ (λ ws x. ev M P F G false (reverse ws) x g.body) (split-args g.effect vs sv) (split-input g.effect vs sv) ∙ done)

  calls-follow : (group : ℕ) → CallsFollow P sorted kept M Tm (λ m at phi w. []) is-fact e (λ m at phi w. tt) (call_applied P) group true
  calls-follow group G j g q le w ts vs s sv v at k terms is hv wn =
      let R = result_sort P g.effect g.sort in
      let args = with_input g.effect ts s in
      subst (λ o. facts (if_there o (λ g. k w (t_app j (result_sort P g.effect g.sort) (row (with_input g.effect ts s)))) [])) (sym q)
      (wn w (t_app j R (row args)) refl
      (sym (result-place P g.effect g.sort), (param_sorts P g ++ input_sorts P g.effect, (subst (λ o. if_there o (λ f. (param_sorts P g ++ input_sorts P g.effect ≡ map (λ p. p.sort) f.params ++ input_sorts P f.effect) × (R ≡ result_sort P f.effect f.sort)) ⊥) (sym q) (refl, refl), row-sorted (Applies P) (way_sorts w) args (param_sorts P g ++ input_sorts P g.effect) (with-sorted P w g.effect ts s (param_sorts P g) terms is))))
      (λ a. a)
      (λ a.
      let r = hv a in
      let gv = r.4 in
      ap (M j) (row-values M e args ∙ with-values M e g.effect ts s ∙ ap₂ (with_input g.effect) r.0 r.2) ∙ application-value G gv.0 gv.1 j g vs sv v q gv.2))

  module _ (k : ℕ) (f : Fn) (at_k : fun_at P k ≡ Some f) (good : Good P M f) (total : IsTrue (is_total P f.effect)) (vars : List Vr) (ts : List Tm) (s : Tm) where
    abbrev base : Way
    base = record { vars = vars; hyps = []; choices = [] }

    abbrev begins : Way
    begins = suppose_all (demands_of f ts s) base

    module _ (terms : AllSorted (Applies P) (way_sorts base) ts (param_sorts P f)) (input : InputSorted P base (place_of f.effect) s) (have : HasSorts (param_sorts P f) (put_values M ts e)) (ihas : InputHas P (place_of f.effect) (value M s e)) (plain : input_to f.effect (value M s e) ≡ value M s e) (t : Tm) (applies : value M t e ≡ M k (with_input f.effect (put_values M ts e) (value M s e))) where
      begin-vars : begins.vars ≡ base.vars
      begin-vars = suppose-all-vars (demands_of f ts s) base

      way-true : (v : Val) → (AllTrue M begins.hyps e → value M t e ≡ v) → (w1 : Way) (u : Tm) → (AllTrue M w1.hyps e → AllTrue M begins.hyps e) → (AllTrue M w1.hyps e → value M u e ≡ v) → facts (way_fact t w1 u)
      way-true v is w1 u al val = (go (is_true (value M (joined (reverse w1.hyps)) e)) refl, tt)
        where
          go : (b : Bool) → is_true (value M (joined (reverse w1.hyps)) e) ≡ b → (if b then v_bool (same (value M t e) (value M u e)) else v_bool true) ≡ v_bool true
          go true q =
              let turned = turned-true M e (reverse w1.hyps) [] (joined-true M e (reverse w1.hyps) (true-value (value M (joined (reverse w1.hyps)) e) q)) tt in
              let a = subst (λ l. AllTrue M l e) (reverse-reverse w1.hyps) turned in
              ap v_bool ((same-decides (value M t e) (value M u e)).1 (is (al a) ∙ sym (val a)))
          go false q = refl

      from-run : (G : ℕ) (v : Val) → (AllTrue M begins.hyps e → Gives (λ F. ev M P F G false (reverse (put_values M ts e)) (value M s e) f.body) v) → facts (unfolded P vars t f ts s)
      from-run G v gives =
          text-follows P sorted kept M Tm (λ m at phi w. []) is-fact e (λ m at phi w. tt) (call_applied P) f.group true (calls-follow f.group)
          f.body G (is_total P f.effect) (body_sorts P f) (place_of f.effect) f.sort (reverse ts) s begins (reverse (put_values M ts e)) (value M s e) v (way_fact t)
          (sorted.funs k f at_k).body (kept.bodies k f at_k)
          (record {
            terms = subst (λ xs. AllSorted (Applies P) (map (λ (x : Vr). x.sort) xs) (reverse ts) (body_sorts P f)) (sym begin-vars) (turned-sorted (Applies P) (way_sorts base) ts [] (param_sorts P f) [] terms tt);
            input = Rattle.fst_goodness.proofs.FollowedEffects.input-on P sorted kept M Tm (λ m at phi w. []) is-fact e (λ m at phi w. tt) base begins (place_of f.effect) s begin-vars input;
            values = λ a. (put-reversed M e ts, turned-have (param_sorts P f) [] (put_values M ts e) [] have tt, refl, ihas);
          })
          gives
          (λ w1 u q su al val. way-true v (λ a. let g = gives a in applies ∙ application-value G g.0 g.1 k f (put_values M ts e) (value M s e) v at_k (ap (λ x. ev M P g.0 G false (reverse (put_values M ts e)) x f.body) plain ∙ g.2)) w1 u al val)

      over-done : (F G : ℕ) → IsOver (ev M P F G false (reverse (put_values M ts e)) (value M s e) f.body) → (v : Val) × Gives (λ F. ev M P F G false (reverse (put_values M ts e)) (value M s e) f.body) v
      over-done F G over = go (ev M P F G false (reverse (put_values M ts e)) (value M s e) f.body) refl over (ev_narrow M P F G (reverse (put_values M ts e)) (value M s e) f.body)
        where
          go : (o : Outcome) → ev M P F G false (reverse (put_values M ts e)) (value M s e) f.body ≡ o → IsOver o → Narrow o → (v : Val) × Gives (λ F. ev M P F G false (reverse (put_values M ts e)) (value M s e) f.body) v
          go (Done v left) q h n = (v, (F, left, q))
          go Wide q h n = absurd n
          go Out q h n = absurd h
          go (Stuck at) q h n = absurd h
          go GhostOut q h n = absurd h

      pub facts-hold : facts (unfolded P vars t f ts s)
      facts-hold = go (truth-decided M e begins.hyps)
        where
          go : AllTrue M begins.hyps e ⊎ (AllTrue M begins.hyps e → ⊥) → facts (unfolded P vars t f ts s)
          go (inl a) =
              let pre = demands-out M e f ts s (suppose-out M e (demands_of f ts s) base a) in
              let at = good (put_values M ts e) (value M s e) false (all-have f.params (put_values M ts e) have) (subst (HasInput P f.effect) plain (input-there P f.effect (value M s e) ihas)) (unbounded-may f.effect) pre in
              let ends = at.ends total in
              let r = over-done ends.0 ends.1.0 (ends.1.1 ends.1.0 (omega arith)) in
              from-run ends.1.0 r.0 (λ a. r.1)
          go (inr lacks) = from-run 0 v_unit (λ a. absurd (lacks a))

rows-sorted : (A : (k : ℕ) → List Srt → (S : Srt) → Type 0) (Ss : List Srt) (ts : List Tm) (Ts : List Srt) → TmsSorted A Ss (row ts) Ts → AllSorted A Ss ts Ts
rows-sorted A Ss [] Ts h = subst (λ Us. AllSorted A Ss [] Us) (sym h) tt
rows-sorted A Ss (t ∷ ts) Ts h = subst (λ Us. AllSorted A Ss (t ∷ ts) Us) (sym h.1.1.0) (h.1.1.1, rows-sorted A Ss ts h.1.0 h.1.1.2)

input-term : (P : Prog) (vars : List Vr) (x : Option ℕ) (s : Tm) → InputTerm P vars x s → InputSorted P (record { vars = vars; hyps = []; choices = [] }) x s
input-term P vars None s h = tt
input-term P vars (Some E) s h = h

pub unfold-law : (P : Prog) → UnfoldLaw P
unfold-law P sorted disciplined M means k f q good total vars e ts s terms input have ihas plain t applies =
    let kept = disciplined-kept P sorted disciplined in
    facts-true P sorted kept M means e (unfolded P vars t f ts s)
    (facts-hold P sorted kept M means e k f q good total vars ts s (rows-sorted (Applies P) (map (λ (x : Vr). x.sort) vars) ts (param_sorts P f) terms) (input-term P vars (place_of f.effect) s input) have ihas plain t applies)

-- ---- postconditions

pub post-law : (P : Prog) → PostLaw P
post-law P M means k f q good total e ts s have ihas plain t applies = go f.gives (λ h. h)
  where
    met : AllTrue M (demands_of f ts s) e → Post M f (put_values M ts e) (value M s e) (value M t e)
    met demands =
        let ws = with_input f.effect (put_values M ts e) (value M s e) in
        let args = split-args f.effect (put_values M ts e) (value M s e) in
        let input : (split f.effect ws).1 ≡ value M s e = split-input f.effect (put_values M ts e) (value M s e) ∙ plain in
        let pre = demands-out M e f ts s demands in
        let there = application-law P M means k f ws q good total
        (subst (λ l. HaveAll f.params l) (sym args) (all-have f.params (put_values M ts e) have))
        (subst (λ x. HasInput P f.effect x) (sym input) (subst (HasInput P f.effect) plain (input-there P f.effect (value M s e) ihas)))
        (subst (λ x. Pre M f (split f.effect ws).0 x) (sym input) (subst (λ l. Pre M f l (value M s e)) (sym args) pre)) in
        subst (λ v. Post M f (put_values M ts e) (value M s e) v) (sym applies)
        (subst (λ x. Post M f (put_values M ts e) x (M k ws)) input (subst (λ l. Post M f l (split f.effect ws).1 (M k ws)) args there))

    fact : (phi : Tm) → (b : Bool) → is_true (value M (joined (demands_of f ts s)) e) ≡ b → (AllTrue M (demands_of f ts s) e → IfGiven M (Some phi) (value M t e ∷ clause_env f.effect (put_values M ts e) (value M s e)))
        → (if b then value M (put (t ∷ clause_terms f.effect ts s) phi) e else v_bool true) ≡ v_bool true
    fact phi true p ensures =
        put-value M (t ∷ clause_terms f.effect ts s) phi e ∙ ap (λ vs. value M phi (value M t e ∷ vs)) (clause-values M e f.effect ts s)
        ∙ ensures (joined-true M e (demands_of f ts s) (true-value (value M (joined (demands_of f ts s)) e) p))
    fact phi false p ensures = refl

    go : (g : Option Tm) → (Post M f (put_values M ts e) (value M s e) (value M t e) → IfGiven M g (value M t e ∷ clause_env f.effect (put_values M ts e) (value M s e))) → AllTrue M (map (implies (joined (demands_of f ts s))) (given g (t ∷ clause_terms f.effect ts s))) e
    go None same = tt
    go (Some phi) same = (fact phi (is_true (value M (joined (demands_of f ts s)) e)) refl (λ d. same (met d)), tt)
