-- What the translation of a definition text has to do with the text's rules and with its runs.
use Rattle.std.specs.Prelude.{◌≡◌, ℕ, ◌≤◌, Bool, List, [], ◌∷◌, ◌++◌, length, map, IsTrue, Option, Some, ⊤}
use Rattle.fst_base.specs.Sorts.{Srt, put_sorts}
use Rattle.fst_base.specs.Values.{Val, Has, HasSorts}
use Rattle.fst_terms.specs.Meaning.{Env, Meaning, value}
use Rattle.fst_terms.specs.Terms.{Tm}
use Rattle.fst_program.specs.Full.{DmFull}
use Rattle.fst_program.specs.Good.{IsFine}
use Rattle.fst_program.specs.Paths.{dm_at}
use Rattle.fst_program.specs.Runs.{Outcome, Run, dm}
use Rattle.fst_program.specs.Sorted.{FSorts, GSorts, DmSorted, FormSorted}
use Rattle.fst_program.specs.Texts.{Dm, Prog}
use Rattle.fst_star.specs.Transformers.{Wt, Holes, safe, demands}
use Rattle.fst_star.specs.Translation.{Scope, star, dsafe, ddemands}

-- hole predicates that are given by tests
pub record Tests : Type 0 where
  pub safe_f : Val → Bool
  pub demands_f : Val → Val → Bool
  pub safe_g : Val → Val → Bool
  pub demands_g : Val → Val → Val → Bool

abbrev pub tested : Tests → Holes
tested T = record {
  safe_f = λ s. IsTrue (T.safe_f s);
  demands_f = λ s r. IsTrue (T.demands_f s r);
  safe_g = λ v s. IsTrue (T.safe_g v s);
  demands_g = λ v s r. IsTrue (T.demands_g v s r);
}

-- the computations of a header: what each takes and gives, where the header has it, the sorts of their results, and their transformers
pub record Header : Type 0 where
  pub takes_f : Option FSorts
  pub takes_g : Option GSorts
  pub rf : Srt
  pub rg : Srt
  pub f : Wt
  pub g : Wt

abbrev pub star_of : Header → Scope → (us : List Tm) → (n : ℕ) → Dm → Wt
star_of h sc us n d = star h.rf h.rg h.f h.g sc us n d

-- ---- places

module _ (P : Prog) (M : Meaning) where
  abbrev pub AreSorted : (Ss : List Srt) → List Tm → List Srt → Type 0
  AreSorted Ss [] [] = ⊤
  AreSorted Ss (u ∷ us) (U ∷ Us) = FormSorted P Ss u U × AreSorted Ss us Us
  AreSorted Ss _ _ = ⊥

  -- a place in a transformer, with the environment x: the terms us stand for the text's variables, which have the sorts Ss and the values
  -- e, and the place has n variables more than the environment e0, in which the computations of the header stand
  pub record StandsAt (Ss : List Srt) (sc : Scope) (us : List Tm) (n : ℕ) (x e e0 : Env) : Type 0 where
    pub sorted : AreSorted sc.sorts us Ss
    pub values : map (λ t. value M t x) us ≡ e
    pub have : HasSorts Ss e
    pub new : Env
    pub is : x ≡ new ++ e0
    pub many : length new ≡ n

-- ---- the rules

module _ (M : Meaning) (H : Holes) (h : Header) (e0 : Env) where
  -- f and g, read by their transformers
  abbrev pub read_by : Holes
  read_by = record {
    safe_f = λ s. safe M H h.f (s ∷ e0);
    demands_f = λ s r. demands M H h.f (s ∷ e0) r;
    safe_g = λ v s. safe M H h.g (s ∷ v ∷ e0);
    demands_g = λ v s r. demands M H h.g (s ∷ v ∷ e0) r;
  }

  -- the results that they demand have their sorts
  pub record IsHeader : Type 0 where
    pub f_gives : (z : FSorts) → h.takes_f ≡ Some z → z.result ≡ h.rf
    pub g_gives : (z : GSorts) → h.takes_g ≡ Some z → z.result ≡ h.rg
    pub f_keeps : (z : FSorts) → h.takes_f ≡ Some z → (s r : Val) → Has z.input s → demands M H h.f (s ∷ e0) r → Has z.result r
    pub g_keeps : (z : GSorts) → h.takes_g ≡ Some z → (v s r : Val) → Has z.value v → Has z.input s → demands M H h.g (s ∷ v ∷ e0) r → Has z.result r

-- the transformer is safe in x exactly where A holds, and demands exactly the results of which B holds
pub record IsExact (M : Meaning) (H : Holes) (w : Wt) (x : Env) (A : Type 0) (B : Val → Type 0) : Type 0 where
  pub safe_to : safe M H w x → A
  pub safe_from : A → safe M H w x
  pub demands_to : (r : Val) → demands M H w x r → B r
  pub demands_from : (r : Val) → B r → demands M H w x r

-- the translation of a text is safe exactly where the six rules say so, and demands exactly what they say
abbrev pub StarIsExact : Prog → Type 0
StarIsExact P = (M : Meaning) (T : Tests) (h : Header) (e0 : Env) → IsHeader M (tested T) h e0
    → (d : Dm) (Ss : List Srt) (R : Srt) → DmSorted P h.takes_f h.takes_g Ss d R → DmFull d
    → (sc : Scope) (us : List Tm) (n : ℕ) (x e : Env) → StandsAt P M Ss sc us n x e e0
    → IsExact M (tested T) (star_of h sc us n d) x (dsafe M (read_by M (tested T) h e0) d e) (ddemands M (read_by M (tested T) h e0) d e)

-- ---- runs

-- from some allowance on there is one outcome: done with a result of Q, or out of fuel, or past 128 bits
pub record FitsOn (Q : Val → Type 0) (r : (allowance : ℕ) → Outcome) : Type 0 where
  pub from : ℕ
  pub outcome : Outcome
  pub fine : IsFine Q outcome
  pub same : (G : ℕ) → from ≤ G → r G ≡ outcome

-- so for each fuel
abbrev pub Fits : (Val → Type 0) → (ℕ → ℕ → Outcome) → Type 0
Fits Q r = (F : ℕ) → FitsOn Q (λ G. r G F)

module _ (M : Meaning) (H : Holes) where
  -- the results are demanded and have the sort
  abbrev pub Gives : Wt → Env → Srt → Val → Type 0
  Gives w e S v = demands M H w e v × Has S v

  -- the runs of f and g, at the value sorts A and B, fit their transformers where these are safe
  pub record RunsFit (h : Header) (e0 : Env) (A B : Srt) (f : ℕ → Run) (g : ℕ → Val → Run) : Type 0 where
    pub f_gives : (z : FSorts) → h.takes_f ≡ Some z → put_sorts A B z.result ≡ h.rf
    pub g_gives : (z : GSorts) → h.takes_g ≡ Some z → put_sorts A B z.result ≡ h.rg
    pub f_fits : (z : FSorts) → h.takes_f ≡ Some z → (s : Val) → Has (put_sorts A B z.input) s → safe M H h.f (s ∷ e0)
        → Fits (Gives h.f (s ∷ e0) (put_sorts A B z.result)) (λ G F. f G s F)
    pub g_fits : (z : GSorts) → h.takes_g ≡ Some z → (v s : Val) → Has (put_sorts A B z.value) v → Has (put_sorts A B z.input) s → safe M H h.g (s ∷ v ∷ e0)
        → Fits (Gives h.g (s ∷ v ∷ e0) (put_sorts A B z.result)) (λ G F. g G v s F)

-- then the runs of a text fit its translation where this is safe, whatever the text is; no law of monads is asked for
abbrev pub TextsFitStar : Prog → Type 0
TextsFitStar P = (M : Meaning) (T : Tests) (h : Header) (e0 : Env) (A B : Srt) (b : Bool) (f : ℕ → Run) (g : ℕ → Val → Run) → RunsFit M (tested T) h e0 A B f g
    → (d : Dm) (Ss : List Srt) (R : Srt) → DmSorted P h.takes_f h.takes_g Ss d R → DmFull d
    → (sc : Scope) (us : List Tm) (n : ℕ) (x e : Env) → StandsAt P M (map (put_sorts A B) Ss) sc us n x e e0
    → safe M (tested T) (star_of h sc us n (dm_at A B d)) x
    → Fits (Gives M (tested T) (star_of h sc us n (dm_at A B d)) x (put_sorts A B R)) (λ G F. dm b (f G) (g G) d e F)
