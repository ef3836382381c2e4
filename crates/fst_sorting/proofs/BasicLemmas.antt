-- What follows where no rule is broken.
use Rattle.std.proofs.Common.{◌≡◌, ℕ, Bool, true, false, ◌&&◌, List, [], ◌∷◌, ◌++◌, Option, Some, None, refl, sym, ap, ◌∙◌, if◌then◌else◌}
use Rattle.fst_base.specs.Sorts.{Srt, same_sort}
use Rattle.fst_base.proofs.SortLemmas.{same_sort-decides}
use Rattle.fst_base.specs.declared.rule.Rule.TheVariants as rule
use Rattle.fst_names.specs.declared.broken.Broken.{Broken}
use Rattle.fst_names.specs.Broken.{breaks, innermost}
use Rattle.fst_program.specs.LiftPaths.{or_else}
use Rattle.fst_effects.specs.Known.{where_known, clash, needs_sort}

pub none-left : {A : Type 0} (xs ys : List A) → xs ++ ys ≡ [] → xs ≡ []
none-left [] ys e = refl
none-left (x ∷ xs) ys e = cc

pub none-right : {A : Type 0} (xs ys : List A) → xs ++ ys ≡ [] → ys ≡ []
none-right [] ys e = e
none-right (x ∷ xs) ys e = cc

pub no-parts : (bs cs : List Broken) → innermost bs cs ≡ [] → bs ≡ []
no-parts [] cs e = refl
no-parts (b ∷ bs) cs e = cc

pub no-own : (bs cs : List Broken) → innermost bs cs ≡ [] → cs ≡ []
no-own [] cs e = e
no-own (b ∷ bs) cs e = cc

-- the sort that is given is the one that is wanted
pub clash-same : (at : ℕ) (S T : Srt) → clash at (Some S) (Some T) ≡ [] → S ≡ T
clash-same at S T e = (same_sort-decides S T).0 (go (same_sort S T) e)
  where
    go : (b : Bool) → (if b then [] else breaks rule.SortClash at) ≡ [] → b ≡ true
    go true e = refl
    go false e = cc

-- where a sort is given, it is the sort there
pub clash-settled : (at : ℕ) (S T : Srt) (W : Option Srt) → clash at (Some S) W ≡ [] → or_else W (Some S) ≡ Some T → S ≡ T
clash-settled at S T None e h = cc
clash-settled at S T (Some V) e h = clash-same at S V e ∙ cc

-- a sort is there where one is needed
pub needed : (at : ℕ) (G : Option Srt) → needs_sort at G ≡ [] → (S : Srt) × (G ≡ Some S)
needed at None e = cc
needed at (Some S) e = (S, refl)

pub known : (G : Option Srt) (S : Srt) (k : Srt → List Broken) → G ≡ Some S → where_known G k ≡ [] → k S ≡ []
known None S k e h = cc
known (Some T) S k e h = let p : T ≡ S = cc in ap k (sym p) ∙ h

-- a term that gives a sort fits only that one
pub fitted : (at : ℕ) (G W : Option Srt) (S : Srt) → clash at G W ≡ [] → or_else W G ≡ Some S → or_else G W ≡ Some S
fitted at None None S e h = cc
fitted at None (Some V) S e h = h
fitted at (Some T) W S e h = ap Some (clash-settled at T S W e h)

pub settled-first : (V G : Option Srt) (S : Srt) → V ≡ Some S → or_else V G ≡ Some S
settled-first V G S e = ap (λ X. or_else X G) e

-- of three lists
pub none-first : {A : Type 0} (xs ys zs : List A) → xs ++ ys ++ zs ≡ [] → xs ≡ []
none-first xs ys zs e = none-left xs ys (none-left (xs ++ ys) zs e)

pub none-second : {A : Type 0} (xs ys zs : List A) → xs ++ ys ++ zs ≡ [] → ys ≡ []
none-second xs ys zs e = none-right xs ys (none-left (xs ++ ys) zs e)

pub none-third : {A : Type 0} (xs ys zs : List A) → xs ++ ys ++ zs ≡ [] → zs ≡ []
none-third xs ys zs e = none-right (xs ++ ys) zs e

pub and-left : (a b : Bool) → a && b ≡ true → a ≡ true
and-left true b e = refl
and-left false b e = cc

pub and-right : (a b : Bool) → a && b ≡ true → b ≡ true
and-right true b e = e
and-right false b e = cc

pub and-both : (a b : Bool) → a ≡ true → b ≡ true → a && b ≡ true
and-both true b e f = f
and-both false b e f = cc
