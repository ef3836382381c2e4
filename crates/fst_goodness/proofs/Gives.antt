-- A run that is done tells what its parts gave: each was done, and with enough fuel gives the same value.
use Rattle.std.proofs.Common.{◌≡◌, ℕ, zero, suc, Bool, true, false, not, ◌&&◌, if◌then◌else◌, List, [], ◌∷◌, map, IsTrue, refl, sym, ap, ap₂, ◌∙◌, subst}
use Rattle.fst_base.specs.declared.op.Op.{Op}
use Rattle.fst_base.specs.Sorts.{Srt, s_bool, put_sorts}
use Rattle.fst_base.specs.Values.{Val, HasSorts}
use Rattle.fst_base.specs.Primitives.{prim, is_true, divides_by_zero}
use Rattle.fst_base.specs.Rows.{is_inner}
use Rattle.fst_terms.specs.Terms.{Tm, Tms, t_var, t_int, t_bool, t_unit, t_prim, t_if, t_app, t_let, t_end, t_more}
use Rattle.fst_terms.specs.Meaning.{Env, Meaning, value, values}
use Rattle.fst_terms.specs.Formulas.{term_at, terms_at}
use Rattle.fst_terms.specs.Sorted.{TmSorted, TmsSorted, is_run, are_run}
use Rattle.fst_program.specs.Texts.{Prm}
use Rattle.fst_program.specs.Evaluation.{Got, got, got_wide, got_stuck, Gots, gots, gots_wide, gots_stuck, got_then, gots_then, gots_more, apply, eval, evals, arguments}
use Rattle.fst_program.specs.Runs.{Outcome, Done, Out, Wide, Stuck, GhostOut, spend, then_do, with_value, with_values}
use Rattle.fst_program.proofs.SortedLemmas.{GotsHave, evals-have}
use Rattle.fst_program.proofs.SortedTerms.{and-left, and-right}
use Rattle.fst_program.proofs.Evaluated.{prim-at}

-- with some fuel the run is done with this value
abbrev pub Gives : (ℕ → Outcome) → Val → Type 0
Gives r v = (F : ℕ) × (left : ℕ) × (r F ≡ Done v left)

pub spent : (F : ℕ) (k : ℕ → Outcome) (v : Val) (left : ℕ) → spend F k ≡ Done v left → (l : ℕ) × (k l ≡ Done v left)
spent zero k v left q = cc
spent (suc l) k v left q = (l, q)

pub valued : (g : Got) (k : Val → Outcome) (v : Val) (left : ℕ) → with_value g k ≡ Done v left → (x : Val) × (g ≡ got x) × (k x ≡ Done v left)
valued (got x) k v left q = (x, refl, q)
valued got_wide k v left q = cc
valued (got_stuck at) k v left q = cc

pub all-valued : (g : Gots) (k : List Val → Outcome) (v : Val) (left : ℕ) → with_values g k ≡ Done v left → (xs : List Val) × (g ≡ gots xs) × (k xs ≡ Done v left)
all-valued (gots xs) k v left q = (xs, refl, q)
all-valued gots_wide k v left q = cc
all-valued (gots_stuck at) k v left q = cc

pub gone-on : (o : Outcome) (k : Val → ℕ → Outcome) (v : Val) (left : ℕ) → then_do o k ≡ Done v left → (x : Val) × (l : ℕ) × (o ≡ Done x l) × (k x l ≡ Done v left)
gone-on (Done x l) k v left q = (x, l, refl, q)
gone-on Out k v left q = cc
gone-on Wide k v left q = cc
gone-on (Stuck at) k v left q = cc
gone-on GhostOut k v left q = cc

got-on : (g : Got) (k : Val → Got) (v : Val) → got_then g k ≡ got v → (x : Val) × (g ≡ got x) × (k x ≡ got v)
got-on (got x) k v q = (x, refl, q)
got-on got_wide k v q = cc
got-on (got_stuck at) k v q = cc

gots-on : (g : Gots) (k : List Val → Got) (v : Val) → gots_then g k ≡ got v → (xs : List Val) × (g ≡ gots xs) × (k xs ≡ got v)
gots-on (gots xs) k v q = (xs, refl, q)
gots-on gots_wide k v q = cc
gots-on (gots_stuck at) k v q = cc

more-on : (g : Got) (r : Gots) (vs : List Val) → gots_more g r ≡ gots vs → (x : Val) × (xs : List Val) × (g ≡ got x) × (r ≡ gots xs) × (vs ≡ x ∷ xs)
more-on (got x) (gots xs) vs q = (x, xs, refl, refl, (let p : vs ≡ x ∷ xs = cc in p))
more-on (got x) gots_wide vs q = cc
more-on (got x) (gots_stuck at) vs q = cc
more-on got_wide r vs q = cc
more-on (got_stuck at) r vs q = cc

applied-on : (o : Op) (S : Srt) (at : ℕ) (vs : List Val) (v : Val) → apply false o S at vs ≡ got v → prim o S vs ≡ v
applied-on o S at vs v = go (divides_by_zero o vs)
  where
    go : (z : Bool) → (if z then got_stuck at else got (prim o S vs)) ≡ got v → prim o S vs ≡ v
    go true q = cc
    go false q = cc

module _ (M : Meaning) (Applies : (k : ℕ) → List Srt → (S : Srt) → Type 0) (A B : Srt) (e : Env) (Ss : List Srt) (have : HasSorts (map (put_sorts A B) Ss) e) where
  mutual
    -- what a term gives without bound is its value
    pub eval-gives : (t : Tm) (S : Srt) (v : Val) → TmSorted Applies Ss t S → IsTrue (is_run t) → eval false t e ≡ got v → value M (term_at A B t) e ≡ v
    eval-gives (t_var i) S v h r q = cc
    eval-gives (t_int n) S v h r q = cc
    eval-gives (t_bool x) S v h r q = cc
    eval-gives t_unit S v h r q = cc
    eval-gives (t_prim o T ts at) S v h r q =
        let runs = and-right (not (is_inner o)) (are_run ts) r in
        let x = gots-on (evals false ts e) (apply false o T at) v q in
        let same = evals-give ts h.1.0 x.0 h.1.1.1 runs x.1 in
        let args : HasSorts (map (put_sorts A B) h.1.0) x.0 = subst (GotsHave (map (put_sorts A B) h.1.0)) x.1 (evals-have A B Applies false Ss ts h.1.0 e h.1.1.1 runs have) in
        ap (prim o (put_sorts A B T)) same ∙ sym (prim-at M Applies A B o h.1.0 T x.0 h.1.1.0 (and-left (not (is_inner o)) (are_run ts) r) args) ∙ applied-on o T at x.0 v x.2
    eval-gives (t_if c t u) S v h r q =
        let rest = and-left (is_run c && is_run t) (is_run u) r in
        let x = got-on (eval false c e) (λ v. if is_true v then eval false t e else eval false u e) v q in
        let same = eval-gives c s_bool x.0 h.0 (and-left (is_run c) (is_run t) rest) x.1 in
        rw same (go (is_true x.0) x.2 (λ p. eval-gives t S v h.1 (and-right (is_run c) (is_run t) rest) p) (λ p. eval-gives u S v h.2 (and-right (is_run c && is_run t) (is_run u) r) p))
      where
        go : (z : Bool) → (if z then eval false t e else eval false u e) ≡ got v → (eval false t e ≡ got v → value M (term_at A B t) e ≡ v) → (eval false u e ≡ got v → value M (term_at A B u) e ≡ v) → (if z then value M (term_at A B t) e else value M (term_at A B u) e) ≡ v
        go true p on_then on_else = on_then p
        go false p on_then on_else = on_else p
    eval-gives (t_app k T ts) S v h r q = cc
    eval-gives (t_let x t u) S v h r q = cc

    pub evals-give : (ts : Tms) (Ts : List Srt) (vs : List Val) → TmsSorted Applies Ss ts Ts → IsTrue (are_run ts) → evals false ts e ≡ gots vs → values M (terms_at A B ts) e ≡ vs
    evals-give t_end Ts vs h r q = cc
    evals-give (t_more t ts) Ts vs h r q =
        let x = more-on (eval false t e) (evals false ts e) vs q in
        ap₂ ◌∷◌ (eval-gives t h.0 x.0 h.1.1.1 (and-left (is_run t) (are_run ts) r) x.2) (evals-give ts h.1.0 x.1 h.1.1.2 (and-right (is_run t) (are_run ts) r) x.3) ∙ sym x.4

  pub arguments-give : (ps : List Prm) (ts : Tms) (Ts : List Srt) (vs : List Val) → TmsSorted Applies Ss ts Ts → IsTrue (are_run ts) → arguments false ps ts e ≡ gots vs → values M (terms_at A B ts) e ≡ vs
  arguments-give ps t_end Ts vs h r q = cc
  arguments-give [] (t_more t ts) Ts vs h r q =
      let x = more-on (eval false t e) (arguments false [] ts e) vs q in
      ap₂ ◌∷◌ (eval-gives t h.0 x.0 h.1.1.1 (and-left (is_run t) (are_run ts) r) x.2) (arguments-give [] ts h.1.0 x.1 h.1.1.2 (and-right (is_run t) (are_run ts) r) x.3) ∙ sym x.4
  arguments-give (p ∷ ps) (t_more t ts) Ts vs h r q =
      let x = more-on (eval false t e) (arguments false ps ts e) vs q in
      ap₂ ◌∷◌ (eval-gives t h.0 x.0 h.1.1.1 (and-left (is_run t) (are_run ts) r) x.2) (arguments-give ps ts h.1.0 x.1 h.1.1.2 (and-right (is_run t) (are_run ts) r) x.3) ∙ sym x.4
