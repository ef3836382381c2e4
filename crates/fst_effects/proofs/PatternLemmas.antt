-- Patterns, a constructor at a time.
use Rattle.std.proofs.Common.{◌≡◌, ℕ, List, [], ◌++◌, map, Option, Some, None, refl, if◌then◌else◌}
use Rattle.std.specs.Prelude.{is_some}
use Rattle.fst_base.specs.Sorts.{Srt, s_bool, s_pair, s_opt, s_list, s_either}
use Rattle.fst_trees.specs.declared.pattern.ConWord.{ConWord}
use Rattle.fst_trees.specs.declared.pattern.ConWord.TheVariants as word
use Rattle.fst_names.specs.declared.broken.Broken.{Broken}
use Rattle.fst_effects.specs.Known.{Ctx}
use Rattle.fst_effects.specs.TermSorts.{option_of, item_of, visible}
use Rattle.fst_effects.specs.Patterns.{part_sorts, under, fits_pattern, in_pattern}
use Rattle.fst_effects.specs.PatternScopes.{fits, pattern_scope, first_part, second_part, with_part, is_bool}

-- ---- whether a pattern fits

pub fits-True : (S : Srt) → fits word.True S ≡ is_bool S
unfolding fits
fits-True s_bool = refl
fits-True _ = refl

pub fits-False : (S : Srt) → fits word.False S ≡ is_bool S
unfolding fits
fits-False s_bool = refl
fits-False _ = refl

pub fits-Empty : (S : Srt) → fits word.Empty S ≡ is_some (option_of S)
unfolding fits
fits-Empty (s_opt S) = refl
fits-Empty _ = refl

pub fits-Nil : (S : Srt) → fits word.Nil S ≡ is_some (item_of S)
unfolding fits
fits-Nil (s_list S) = refl
fits-Nil _ = refl

pub fits-Full : (S : Srt) → fits word.Full S ≡ is_some (first_part word.Full S)
unfolding fits
fits-Full (s_opt S) = refl
fits-Full _ = refl

pub fits-Cons : (S : Srt) → fits word.Cons S ≡ is_some (first_part word.Cons S)
unfolding fits
fits-Cons (s_list S) = refl
fits-Cons _ = refl

pub fits-Left : (S : Srt) → fits word.Left S ≡ is_some (first_part word.Left S)
unfolding fits
fits-Left (s_either S T) = refl
fits-Left _ = refl

pub fits-Right : (S : Srt) → fits word.Right S ≡ is_some (first_part word.Right S)
unfolding fits
fits-Right (s_either S T) = refl
fits-Right _ = refl

pub fits-Pair : (S : Srt) → fits word.Pair S ≡ is_some (first_part word.Pair S)
unfolding fits
fits-Pair (s_pair S T) = refl
fits-Pair _ = refl

pub ruleset fitting = (fits-True, fits-False, fits-Empty, fits-Nil, fits-Full, fits-Cons, fits-Left, fits-Right, fits-Pair)

-- ---- its names in scope

pub scope-parts : (con : ConWord) (S : Srt) (xs : Ctx) → pattern_scope con S xs ≡ with_part (second_part con S) (with_part (first_part con S) xs)
unfolding pattern_scope
scope-parts word.Full (s_opt S) xs = refl
scope-parts word.Cons (s_list S) xs = refl
scope-parts word.Left (s_either S T) xs = refl
scope-parts word.Right (s_either S T) xs = refl
scope-parts word.Pair (s_pair S T) xs = refl
scope-parts word.True s_bool xs = refl
scope-parts word.False s_bool xs = refl
scope-parts word.Empty (s_opt S) xs = refl
scope-parts word.Nil (s_list S) xs = refl
scope-parts _ _ xs = refl

pub ruleset scopes = (scope-parts)

-- ---- what goes on where a pattern fits

pub fits-given : (con : ConWord) (S : Srt) (xs : Ctx) (k : Ctx → Option Srt) → fits_pattern (part_sorts con S) (λ ys. k (map visible ys ++ xs)) ≡ (if fits con S then k (pattern_scope con S xs) else None)
unfolding fits pattern_scope
fits-given con S xs k = go (part_sorts con S)
  where
    go : (o : Option (List Srt)) → fits_pattern o (λ ys. k (map visible ys ++ xs)) ≡ (if is_some o then k (under o xs) else None)
    go None = refl
    go (Some ys) = refl

pub fits-breaks : (con : ConWord) (S : Srt) (xs : Ctx) (k : Ctx → List Broken) → (place : ℕ) → in_pattern place (part_sorts con S) (λ ys. k (map visible ys ++ xs)) ≡ (if fits con S then k (pattern_scope con S xs) else in_pattern place None (λ ys. []))
unfolding fits pattern_scope
fits-breaks con S xs k at = go (part_sorts con S)
  where
    go : (o : Option (List Srt)) → in_pattern at o (λ ys. k (map visible ys ++ xs)) ≡ (if is_some o then k (under o xs) else in_pattern at None (λ ys. []))
    go None = refl
    go (Some ys) = refl
