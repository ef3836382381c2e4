-- Places of a walk: ways further on, and what is known of the terms for a transformer's variables.
use Rattle.std.proofs.Common.{◌≡◌, ℕ, suc, ◌+◌, ◌-◌, List, [], ◌∷◌, ◌++◌, map, length, reverse, Option, Some, None, refl, sym, ap, ap₂, ◌∙◌, subst, arith}
use Rattle.std.specs.Prelude.{⊤}
use Rattle.fst_base.specs.Sorts.{Srt}
use Rattle.fst_terms.specs.Terms.{Tm, shift}
use Rattle.fst_terms.specs.Meaning.{Vr}
use Rattle.fst_terms.specs.Formulas.{put}
use Rattle.fst_terms.specs.Sorted.{TmSorted}
use Rattle.fst_terms.proofs.IndexLemmas.{shift-shift, shift-zero}
use Rattle.fst_program.specs.Texts.{EffDef, Prog, Fn, if_there, effect_at}
use Rattle.fst_program.specs.Paths.{Way, count, raised, all_raised, start, measures_at, own_vars}
use Rattle.fst_program.specs.Sorted.{Applies}
use Rattle.fst_star.specs.Translation.{Scope, under}
use Rattle.fst_star.proofs.PutLaws.{map-put-under, map-shift-put}
use Rattle.fst_program.proofs.SortedTerms.{AllSorted, raise-sorted, raise-all-sorted, put-sorted}

abbrev pub sorts_of : List Vr → List Srt
sorts_of xs = map (λ (x : Vr). x.sort) xs

-- ys are xs with further variables before them
pub record Later (xs ys : List Vr) : Type 0 where
  pub news : List Vr
  pub vars : ys ≡ news ++ xs

append-again : (xs ys zs : List Vr) → xs ++ (ys ++ zs) ≡ (xs ++ ys) ++ zs
append-again [] ys zs = refl
append-again (x ∷ xs) ys zs = ap (λ l. x ∷ l) (append-again xs ys zs)

length-++ : (xs ys : List Vr) → length (xs ++ ys) ≡ length xs + length ys
length-++ [] ys = omega arith
length-++ (x ∷ xs) ys = ap suc (length-++ xs ys) ∙ omega arith

sorts-++ : (xs ys : List Vr) → sorts_of (xs ++ ys) ≡ sorts_of xs ++ sorts_of ys
sorts-++ [] ys = refl
sorts-++ (x ∷ xs) ys = ap (λ l. x.sort ∷ l) (sorts-++ xs ys)

length-sorts : (xs : List Vr) → length (sorts_of xs) ≡ length xs
length-sorts [] = refl
length-sorts (x ∷ xs) = ap suc (length-sorts xs)

pub later-same : (xs ys : List Vr) → ys ≡ xs → Later xs ys
later-same xs ys p = record { news = []; vars = p }

pub later-then : (xs ys zs : List Vr) → Later xs ys → Later ys zs → Later xs zs
later-then xs ys zs a b = record { news = b.news ++ a.news; vars = b.vars ∙ ap (λ l. b.news ++ l) a.vars ∙ append-again b.news a.news xs }

pub later-count : (xs ys : List Vr) (a : Later xs ys) → length ys ≡ length a.news + length xs
later-count xs ys a = ap length a.vars ∙ length-++ a.news xs

later-more : (xs ys : List Vr) (a : Later xs ys) → length ys - length xs ≡ length (sorts_of a.news)
later-more xs ys a = let p = later-count xs ys a in let q = length-sorts a.news in omega arith

pub raised-raised : (w w1 w2 : Way) → Later w.vars w1.vars → Later w1.vars w2.vars → (t : Tm) → raised (count w1) w2 (raised (count w) w1 t) ≡ raised (count w) w2 t
raised-raised w w1 w2 a b t =
    let p = later-count w.vars w1.vars a in
    let q = later-count w1.vars w2.vars b in
    let e : (count w1 - count w) + (count w2 - count w1) ≡ count w2 - count w = omega arith in
    shift-shift 0 (count w1 - count w) (count w2 - count w1) t ∙ ap (λ n. shift 0 n t) e

pub all-raised-raised : (w w1 w2 : Way) → Later w.vars w1.vars → Later w1.vars w2.vars → (ts : List Tm) → all_raised (count w1) w2 (all_raised (count w) w1 ts) ≡ all_raised (count w) w2 ts
all-raised-raised w w1 w2 a b [] = refl
all-raised-raised w w1 w2 a b (t ∷ ts) = ap₂ ◌∷◌ (raised-raised w w1 w2 a b t) (all-raised-raised w w1 w2 a b ts)

pub raised-here : (w w1 : Way) → w1.vars ≡ w.vars → (t : Tm) → raised (count w) w1 t ≡ t
raised-here w w1 p t = let q : count w1 ≡ count w = ap length p in let e : count w1 - count w ≡ 0 = omega arith in ap (λ n. shift 0 n t) e ∙ shift-zero 0 t

pub all-raised-here : (w w1 : Way) → w1.vars ≡ w.vars → (ts : List Tm) → all_raised (count w) w1 ts ≡ ts
all-raised-here w w1 p [] = refl
all-raised-here w w1 p (t ∷ ts) = ap₂ ◌∷◌ (raised-here w w1 p t) (all-raised-here w w1 p ts)

module _ (P : Prog) where
  abbrev pub Sorted : List Srt → Tm → Srt → Type 0
  Sorted Ss t S = TmSorted (Applies P) Ss t S

  abbrev pub AllOf : List Srt → List Tm → List Srt → Type 0
  AllOf Ss ts Ts = AllSorted (Applies P) Ss ts Ts

  pub later-sorted : (w w1 : Way) (t : Tm) (S : Srt) → Later w.vars w1.vars → Sorted (sorts_of w.vars) t S → Sorted (sorts_of w1.vars) (raised (count w) w1 t) S
  later-sorted w w1 t S a h =
      subst (λ n. Sorted (sorts_of w1.vars) (shift 0 n t) S) (sym (later-more w.vars w1.vars a))
      (subst (λ Ss. Sorted Ss (shift 0 (length (sorts_of a.news)) t) S) (sym (ap sorts_of a.vars ∙ sorts-++ a.news w.vars))
      (raise-sorted (Applies P) (sorts_of a.news) (sorts_of w.vars) t S h))

  pub all-later-sorted : (w w1 : Way) (ts : List Tm) (Ts : List Srt) → Later w.vars w1.vars → AllOf (sorts_of w.vars) ts Ts → AllOf (sorts_of w1.vars) (all_raised (count w) w1 ts) Ts
  all-later-sorted w w1 [] [] a h = tt
  all-later-sorted w w1 [] (T ∷ Ts) a h = absurd h
  all-later-sorted w w1 (t ∷ ts) [] a h = absurd h
  all-later-sorted w w1 (t ∷ ts) (T ∷ Ts) a h = (later-sorted w w1 t T a h.0, all-later-sorted w w1 ts Ts a h.1)

  pub all-put-sorted : (Zs Ss : List Srt) (vs us : List Tm) (Ts : List Srt) → AllOf Zs vs Ss → AllOf Ss us Ts → AllOf Zs (map (put vs) us) Ts
  all-put-sorted Zs Ss vs [] [] a h = tt
  all-put-sorted Zs Ss vs [] (T ∷ Ts) a h = absurd h
  all-put-sorted Zs Ss vs (u ∷ us) [] a h = absurd h
  all-put-sorted Zs Ss vs (u ∷ us) (T ∷ Ts) a h = (put-sorted (Applies P) Zs vs Ss u T a h.0, all-put-sorted Zs Ss vs us Ts a h.1)

  -- the terms us, under one variable of the sort S more
  pub under-sorted : (S : Srt) (Ss : List Srt) (us : List Tm) (Ts : List Srt) → AllOf Ss us Ts → AllOf (S ∷ Ss) (map (shift 0 1) us) Ts
  under-sorted S Ss us Ts h = raise-all-sorted (Applies P) (S ∷ []) Ss us Ts h

  pub shifted-sorted : (S : Srt) (Ss : List Srt) (t : Tm) (T : Srt) → Sorted Ss t T → Sorted (S ∷ Ss) (shift 0 1 t) T
  shifted-sorted S Ss t T h = raise-sorted (Applies P) (S ∷ []) Ss t T h

  -- the input has the sort that the effect of the place takes
  abbrev pub InputSorted : (place : Option ℕ) → List Srt → Tm → Type 0
  InputSorted None Ss s = ⊤
  InputSorted (Some E) Ss s = if_there (effect_at P E) (λ d. Sorted Ss s d.input) ⊥

  pub input-under : (x : Option ℕ) (S : Srt) (Ss : List Srt) (s : Tm) → InputSorted x Ss s → InputSorted x (S ∷ Ss) (shift 0 1 s)
  input-under None S Ss s h = tt
  input-under (Some E) S Ss s h = go (effect_at P E) h
    where
      go : (o : Option EffDef) → if_there o (λ d. Sorted Ss s d.input) ⊥ → if_there o (λ d. Sorted (S ∷ Ss) (shift 0 1 s) d.input) ⊥
      go None h = h
      go (Some d) h = shifted-sorted S Ss s d.input h

  module _ (f : Fn) where
    abbrev pub first_olds : List Tm
    first_olds = measures_at f (reverse (own_vars f))

    -- on a way with these variables the terms vs have the sorts of the scope, and its measures are those of the function's start
    pub record At (w : Way) (vs : List Tm) (sc : Scope) : Type 0 where
      pub sorted : AllOf (sorts_of w.vars) vs sc.sorts
      pub olds : map (put vs) sc.olds ≡ all_raised (count (start P f)) w first_olds
      pub later : Later (start P f).vars w.vars

    pub at-same : (w w1 : Way) (vs : List Tm) (sc : Scope) → w1.vars ≡ w.vars → At w vs sc → At w1 vs sc
    at-same w w1 vs sc p h = record {
      sorted = subst (λ xs. AllOf (sorts_of xs) vs sc.sorts) (sym p) h.sorted;
      olds = h.olds ∙ ap (λ n. map (shift 0 (n - count (start P f))) first_olds) (sym (ap length p));
      later = subst (λ xs. Later (start P f).vars xs) (sym p) h.later;
    }

    pub at-under : (w w1 : Way) (vs : List Tm) (sc : Scope) (t : Tm) (S : Srt) → At w vs sc → Later w.vars w1.vars → Sorted (sorts_of w1.vars) t S → At w1 (t ∷ all_raised (count w) w1 vs) (under S sc)
    at-under w w1 vs sc t S h a k = record {
      sorted = (k, all-later-sorted w w1 vs sc.sorts a h.sorted);
      olds = map-put-under t (all_raised (count w) w1 vs) sc.olds ∙ sym (map-shift-put 0 (count w1 - count w) vs sc.olds) ∙ ap (all_raised (count w) w1) h.olds ∙ all-raised-raised (start P f) w w1 h.later a first_olds;
      later = later-then (start P f).vars w.vars w1.vars h.later a;
    }

    -- two rests agree on the results of the sort S, on ways further on
    abbrev pub Agree : (X : Type 0) → Way → (S : Srt) → (k k' : Way → Tm → List X) → Type 0
    Agree X w S k k' = (w1 : Way) (t : Tm) → Later w.vars w1.vars → Sorted (sorts_of w1.vars) t S → k w1 t ≡ k' w1 t

    pub agree-later : (X : Type 0) (w w1 : Way) (S : Srt) (k k' : Way → Tm → List X) → Later w.vars w1.vars → Agree X w S k k' → Agree X w1 S k k'
    agree-later X w w1 S k k' a h = λ w2 t b s. h w2 t (later-then w.vars w1.vars w2.vars a b) s
