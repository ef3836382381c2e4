-- A term that is run gives its value, or a number past 128 bits, where the goals for its divisors are valid.
use Rattle.std.proofs.Common.{◌≡◌, ℕ, Bool, true, false, not, ◌&&◌, if◌then◌else◌, List, [], ◌∷◌, ◌++◌, map, get_or, IsTrue, refl, sym, ap, ap₂, ◌∙◌, subst, ◌⊎◌, inl, inr, pos}
use Rattle.std.specs.Prelude.{⊤}
use Rattle.std.specs.Ordering.{int_eq}
use Rattle.fst_base.specs.declared.op.Op.{Op}
use Rattle.fst_base.specs.declared.op.Op.TheVariants as op
use Rattle.fst_base.specs.Sorts.{Srt, s_bool, s_int, s_pair, put_sorts}
use Rattle.fst_base.specs.Values.{Val, v_bool, v_int, v_pair, Has, HasSorts, same}
use Rattle.fst_base.specs.Primitives.{prim, is_true, is_wide, divides_by_zero, int_of, first, second, fst_of, snd_of}
use Rattle.fst_base.specs.Rows.{Fits, is_inner}
use Rattle.fst_terms.specs.Terms.{Tm, Tms, t_var, t_int, t_bool, t_unit, t_prim, t_if, t_app, t_let, t_end, t_more, listed}
use Rattle.fst_terms.specs.Meaning.{Env, Meaning, value, values, Truth, AllTrue}
use Rattle.fst_terms.specs.Formulas.{negation, equation, nought, put, term_at, terms_at}
use Rattle.fst_terms.specs.Sorted.{TmSorted, TmsSorted, is_run, are_run}
use Rattle.fst_terms.proofs.PutLemmas.{put_values, put-value}
use Rattle.fst_program.specs.declared.goal.SiteKind.TheVariants as kind
use Rattle.fst_program.specs.Texts.{Prm, Prog}
use Rattle.fst_program.specs.Evaluation.{Got, got, got_wide, Gots, gots, gots_wide, got_then, gots_then, gots_more, limit, apply, eval, evals, arguments}
use Rattle.fst_program.specs.Paths.{Gl, Way, suppose_all, Division, is_division, divisions, all_divisions, divisor_sites, goal_site, GoalsValid}
use Rattle.fst_program.proofs.SortedLemmas.{GotsHave, evals-have}
use Rattle.fst_program.proofs.SortedTerms.{and-left, and-right}
use Rattle.fst_program.proofs.Ways.{true-value, Stands, goal-true, suppose-all-stands}

-- the value, or bounded a number past 128 bits
abbrev pub Evaluates : Bool → Got → Val → Type 0
Evaluates b g v = ((b ≡ true) × (g ≡ got_wide)) ⊎ (g ≡ got v)

abbrev pub EvaluateAll : Bool → Gots → List Val → Type 0
EvaluateAll b g vs = ((b ≡ true) × (g ≡ gots_wide)) ⊎ (g ≡ gots vs)

then-evaluates : (b : Bool) (g : Got) (v : Val) (k : Val → Got) (w : Val) → Evaluates b g v → Evaluates b (k v) w → Evaluates b (got_then g k) w
then-evaluates b g v k w (inl p) h = inl (p.0, ap (λ g. got_then g k) p.1)
then-evaluates b g v k w (inr p) h = subst (λ g. Evaluates b (got_then g k) w) (sym p) h

then-all-evaluates : (b : Bool) (g : Gots) (vs : List Val) (k : List Val → Got) (w : Val) → EvaluateAll b g vs → (g ≡ gots vs → Evaluates b (k vs) w) → Evaluates b (gots_then g k) w
then-all-evaluates b g v k w (inl p) h = inl (p.0, ap (λ g. gots_then g k) p.1)
then-all-evaluates b g v k w (inr p) h = subst (λ g. Evaluates b (gots_then g k) w) (sym p) (h p)

more-evaluate : (b : Bool) (g : Got) (v : Val) (r : Gots) (vs : List Val) → Evaluates b g v → EvaluateAll b r vs → EvaluateAll b (gots_more g r) (v ∷ vs)
more-evaluate b g v r vs (inl p) q = inl (p.0, ap (λ g. gots_more g r) p.1)
more-evaluate b g v r vs (inr p) (inl q) = inl (q.0, ap₂ gots_more p q.1)
more-evaluate b g v r vs (inr p) (inr q) = inr (ap₂ gots_more p q)

limit-evaluates : (b : Bool) (v : Val) → Evaluates b (limit b v) v
limit-evaluates false v = inr refl
limit-evaluates true v = go (is_wide v)
  where
    go : (x : Bool) → Evaluates true (if x then got_wide else got v) v
    go true = inl (refl, refl)
    go false = inr refl

-- ---- divisors

module _ (M : Meaning) (e : Env) where
  -- where its conditions are true its divisor isn't 0
  abbrev pub Nonzero : Division → Type 0
  Nonzero d = AllTrue M d.conditions e → same (value M d.divisor e) (v_int (pos 0)) ≡ false

  abbrev pub AllNonzero : List Division → Type 0
  AllNonzero [] = ⊤
  AllNonzero (d ∷ ds) = Nonzero d × AllNonzero ds

  pub nonzero-left : (ds es : List Division) → AllNonzero (ds ++ es) → AllNonzero ds
  nonzero-left [] es h = tt
  nonzero-left (d ∷ ds) es h = (h.0, nonzero-left ds es h.1)

  pub nonzero-right : (ds es : List Division) → AllNonzero (ds ++ es) → AllNonzero es
  nonzero-right [] es h = h
  nonzero-right (d ∷ ds) es h = nonzero-right ds es h.1

  pub append-true : (phis psis : List Tm) → AllTrue M phis e → AllTrue M psis e → AllTrue M (phis ++ psis) e
  append-true [] psis h k = k
  append-true (phi ∷ phis) psis h k = (h.0, append-true phis psis h.1 k)

-- the negation of a truth value
pub negated : (x : Bool) → (if is_true (v_bool x) then v_bool false else v_bool true) ≡ v_bool true → x ≡ false
negated true q = cc
negated false q = refl

pub put-all-true : (M : Meaning) (us : List Tm) (e : Env) (phis : List Tm) → AllTrue M phis (put_values M us e) → AllTrue M (map (put us) phis) e
put-all-true M us e [] h = tt
put-all-true M us e (phi ∷ phis) h = (put-value M us phi e ∙ h.0, put-all-true M us e phis h.1)

-- valid goals for divisors
pub sites-nonzero : (M : Meaning) (P : Prog) (k : ℕ) (ds : List Division) (us : List Tm) (w : Way) (e : Env) → Stands M w e → GoalsValid M (divisor_sites P Gl (goal_site k) ds us w) → AllNonzero M (put_values M us e) ds
sites-nonzero M P k [] us w e s h = tt
sites-nonzero M P k (d ∷ ds) us w e s h = (
  λ conditions.
      let true_goal = goal-true M k kind.Divisor d.place (negation (equation (put us d.divisor) nought)) (suppose_all (map (put us) d.conditions) w) e
      (suppose-all-stands M (map (put us) d.conditions) w e s (put-all-true M us e d.conditions conditions)) (h.0, tt) in
      ap (λ v. same v (v_int (pos 0))) (sym (put-value M us d.divisor e)) ∙ negated (same (value M (put us d.divisor) e) (v_int (pos 0))) true_goal,
  sites-nonzero M P k ds us w e s h.1,
)

pub second-value : (M : Meaning) (ts : Tms) (e : Env) → value M (get_or (listed ts) 1 t_unit) e ≡ second (values M ts e)
second-value M t_end e = refl
second-value M (t_more t t_end) e = refl
second-value M (t_more t (t_more u ts)) e = refl

first-has : (S : Srt) (Ss : List Srt) (vs : List Val) → HasSorts (S ∷ Ss) vs → Has S (first vs)
first-has S Ss [] h = absurd h
first-has S Ss (v ∷ vs) h = h.0

second-has : (S T : Srt) (Ss : List Srt) (vs : List Val) → HasSorts (S ∷ T ∷ Ss) vs → Has T (second vs)
second-has S T Ss [] h = absurd h
second-has S T Ss (v ∷ vs) h = first-has T Ss vs h.1

int-same : (v : Val) → Has s_int v → same v (v_int (pos 0)) ≡ int_eq (int_of v) (pos 0)
int-same (v_int n) h = refl
int-same v h = absurd h

fst-any : (S T A B : Srt) (v : Val) → Has (s_pair A B) v → fst_of S v ≡ fst_of T v
fst-any S T A B (v_pair a b) h = refl
fst-any S T A B v h = absurd h

snd-any : (S T A B : Srt) (v : Val) → Has (s_pair A B) v → snd_of S v ≡ snd_of T v
snd-any S T A B (v_pair a b) h = refl
snd-any S T A B v h = absurd h

-- ---- terms

module _ (M : Meaning) (Applies : (k : ℕ) → List Srt → (S : Srt) → Type 0) (A B : Srt) where
  -- what a sort variable stands for is of no account to a primitive that is run
  pub prim-at : (o : Op) (Ts : List Srt) (T : Srt) (vs : List Val) → Fits o Ts T → IsTrue (not (is_inner o)) → HasSorts (map (put_sorts A B) Ts) vs → prim o T vs ≡ prim o (put_sorts A B T) vs
  prim-at op.Fst Ts T vs f r h = fst-any T (put_sorts A B T) (put_sorts A B f.first) (put_sorts A B f.second) (first vs) (first-has (s_pair (put_sorts A B f.first) (put_sorts A B f.second)) [] vs (subst (λ Us. HasSorts (map (put_sorts A B) Us) vs) f.args h))
  prim-at op.Snd Ts T vs f r h = snd-any T (put_sorts A B T) (put_sorts A B f.first) (put_sorts A B f.second) (first vs) (first-has (s_pair (put_sorts A B f.first) (put_sorts A B f.second)) [] vs (subst (λ Us. HasSorts (map (put_sorts A B) Us) vs) f.args h))
  prim-at op.Hd Ts T vs f r h = cc
  prim-at op.Tl Ts T vs f r h = cc
  prim-at op.The Ts T vs f r h = cc
  prim-at op.Outl Ts T vs f r h = cc
  prim-at op.Outr Ts T vs f r h = cc
  prim-at o Ts T vs f r h = refl

  module _ (e : Env) where
    divisor-fine : (cs : List Tm) (o : Op) (Ts : List Srt) (T : Srt) (ts : Tms) (at : ℕ) → Fits o Ts T → HasSorts (map (put_sorts A B) Ts) (values M ts e) → AllTrue M cs e
        → AllNonzero M e (if is_division o then record { conditions = cs; divisor = get_or (listed ts) 1 t_unit; place = at } ∷ [] else []) → divides_by_zero o (values M ts e) ≡ false
    divisor-fine cs op.Div Ts T ts at f h c z = sym (int-same (second (values M ts e)) (second-has s_int s_int [] (values M ts e) (subst (λ Us. HasSorts (map (put_sorts A B) Us) (values M ts e)) f.args h))) ∙ ap (λ v. same v (v_int (pos 0))) (sym (second-value M ts e)) ∙ z.0 c
    divisor-fine cs op.Rem Ts T ts at f h c z = sym (int-same (second (values M ts e)) (second-has s_int s_int [] (values M ts e) (subst (λ Us. HasSorts (map (put_sorts A B) Us) (values M ts e)) f.args h))) ∙ ap (λ v. same v (v_int (pos 0))) (sym (second-value M ts e)) ∙ z.0 c
    divisor-fine cs o Ts T ts at f h c z = refl

    apply-evaluates : (b : Bool) (o : Op) (T : Srt) (at : ℕ) (vs : List Val) (w : Val) → divides_by_zero o vs ≡ false → prim o T vs ≡ w → Evaluates b (apply b o T at vs) w
    apply-evaluates b o T at vs w z q = rw z (subst (λ x. Evaluates b (limit b (prim o T vs)) x) q (limit-evaluates b (prim o T vs)))

    module _ (Ss : List Srt) (have : HasSorts (map (put_sorts A B) Ss) e) where
      mutual
        pub eval-sound : (b : Bool) (cs : List Tm) (t : Tm) (S : Srt) → TmSorted Applies Ss t S → IsTrue (is_run t) → AllTrue M cs e → AllNonzero M e (divisions cs (term_at A B t)) → Evaluates b (eval b t e) (value M (term_at A B t) e)
        eval-sound b cs (t_var i) S h r c z = inr refl
        eval-sound b cs (t_int n) S h r c z = inr refl
        eval-sound b cs (t_bool x) S h r c z = inr refl
        eval-sound b cs t_unit S h r c z = inr refl
        eval-sound b cs (t_prim o T ts at) S h r c z =
            let runs = and-right (not (is_inner o)) (are_run ts) r in
            let vs = values M (terms_at A B ts) e in
            then-all-evaluates b (evals b ts e) vs (apply b o T at) (prim o (put_sorts A B T) vs) (evals-sound b cs ts h.1.0 h.1.1.1 runs c (nonzero-left M e (all_divisions cs (terms_at A B ts)) _ z))
            (λ q. let args : HasSorts (map (put_sorts A B) h.1.0) vs = subst (GotsHave (map (put_sorts A B) h.1.0)) q (evals-have A B Applies b Ss ts h.1.0 e h.1.1.1 runs have) in
            apply-evaluates b o T at vs (prim o (put_sorts A B T) vs)
            (divisor-fine cs o h.1.0 T (terms_at A B ts) at h.1.1.0 args c (nonzero-right M e (all_divisions cs (terms_at A B ts)) _ z))
            (prim-at o h.1.0 T vs h.1.1.0 (and-left (not (is_inner o)) (are_run ts) r) args))
        eval-sound b cs (t_if c t u) S h r k z =
            let rest = and-left (is_run c && is_run t) (is_run u) r in
            let c1 = term_at A B c in
            let ds = divisions (cs ++ c1 ∷ []) (term_at A B t) in
            let firsts = nonzero-left M e (divisions cs c1 ++ ds) _ z in
            then-evaluates b (eval b c e) (value M c1 e) (λ v. if is_true v then eval b t e else eval b u e) _
            (eval-sound b cs c s_bool h.0 (and-left (is_run c) (is_run t) rest) k (nonzero-left M e (divisions cs c1) ds firsts))
            (go (is_true (value M c1 e)) refl
            (λ q. eval-sound b (cs ++ c1 ∷ []) t S h.1 (and-right (is_run c) (is_run t) rest) (append-true M e cs (c1 ∷ []) k (q, tt)) (nonzero-right M e (divisions cs c1) ds firsts))
            (λ q. eval-sound b (cs ++ negation c1 ∷ []) u S h.2 (and-right (is_run c && is_run t) (is_run u) r) (append-true M e cs (negation c1 ∷ []) k (q, tt)) (nonzero-right M e (divisions cs c1 ++ ds) _ z)))
          where
            go : (x : Bool) → is_true (value M (term_at A B c) e) ≡ x → (Truth M (term_at A B c) e → Evaluates b (eval b t e) (value M (term_at A B t) e)) → (Truth M (negation (term_at A B c)) e → Evaluates b (eval b u e) (value M (term_at A B u) e))
                → Evaluates b (if x then eval b t e else eval b u e) (if x then value M (term_at A B t) e else value M (term_at A B u) e)
            go true q on_then on_else = on_then (true-value (value M (term_at A B c) e) q)
            go false q on_then on_else = on_else (rw q refl)
        eval-sound b cs (t_app k T ts) S h r c z = cc
        eval-sound b cs (t_let x t u) S h r c z = cc

        pub evals-sound : (b : Bool) (cs : List Tm) (ts : Tms) (Ts : List Srt) → TmsSorted Applies Ss ts Ts → IsTrue (are_run ts) → AllTrue M cs e → AllNonzero M e (all_divisions cs (terms_at A B ts)) → EvaluateAll b (evals b ts e) (values M (terms_at A B ts) e)
        evals-sound b cs t_end Ts h r c z = inr refl
        evals-sound b cs (t_more t ts) Ts h r c z = more-evaluate b (eval b t e) (value M (term_at A B t) e) (evals b ts e) (values M (terms_at A B ts) e)
            (eval-sound b cs t h.0 h.1.1.1 (and-left (is_run t) (are_run ts) r) c (nonzero-left M e (divisions cs (term_at A B t)) _ z))
            (evals-sound b cs ts h.1.0 h.1.1.2 (and-right (is_run t) (are_run ts) r) c (nonzero-right M e (divisions cs (term_at A B t)) _ z))

      looser : (b x : Bool) (g : Got) (v : Val) → Evaluates (b && x) g v → Evaluates b g v
      looser true x g v (inl p) = inl (refl, p.1)
      looser false x g v (inl p) = inl p
      looser b x g v (inr p) = inr p

      -- the arguments of a call
      pub arguments-sound : (b : Bool) (ps : List Prm) (ts : Tms) (Ts : List Srt) → TmsSorted Applies Ss ts Ts → IsTrue (are_run ts) → AllNonzero M e (all_divisions [] (terms_at A B ts)) → EvaluateAll b (arguments b ps ts e) (values M (terms_at A B ts) e)
      arguments-sound b ps t_end Ts h r z = inr refl
      arguments-sound b [] (t_more t ts) Ts h r z = more-evaluate b (eval b t e) (value M (term_at A B t) e) (arguments b [] ts e) (values M (terms_at A B ts) e)
          (eval-sound b [] t h.0 h.1.1.1 (and-left (is_run t) (are_run ts) r) tt (nonzero-left M e (divisions [] (term_at A B t)) _ z))
          (arguments-sound b [] ts h.1.0 h.1.1.2 (and-right (is_run t) (are_run ts) r) (nonzero-right M e (divisions [] (term_at A B t)) _ z))
      arguments-sound b (p ∷ ps) (t_more t ts) Ts h r z = more-evaluate b (eval (b && not p.hidden) t e) (value M (term_at A B t) e) (arguments b ps ts e) (values M (terms_at A B ts) e)
          (looser b (not p.hidden) _ _ (eval-sound (b && not p.hidden) [] t h.0 h.1.1.1 (and-left (is_run t) (are_run ts) r) tt (nonzero-left M e (divisions [] (term_at A B t)) _ z)))
          (arguments-sound b ps ts h.1.0 h.1.1.2 (and-right (is_run t) (are_run ts) r) (nonzero-right M e (divisions [] (term_at A B t)) _ z))
