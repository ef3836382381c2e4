-- The function that a run begins with, over the program's own lists.
use Rattle.std.proofs.Common.{◌≡◌, Bool, true, false, nat_eq, codes, List, [], ◌∷◌, Option, Some, map, refl, not}
use Rattle.std.proofs.lemmas.List.{length-map}
use lib.Pointwise.{pointwise}
use Rattle.std.specs.List.{list_all, position, position_or_len}
use Rattle.std.proofs.lemmas.List.Folds.{list_all-map}
use Rattle.fst_program.specs.declared.fun.Fun.{Fun}
use Rattle.fst_program.specs.declared.fun.Param.{Param}
use Rattle.fst_program.specs.Texts.{Fn, Prm, if_there, is_ghost}
use Rattle.fst_program.specs.Plain.{plain_fun, plain_param}
use Rattle.fst_program.specs.Entry.{is_main}

abbrev starts : Option Fn → Bool
starts f = if_there f is_main false

abbrev plain_some : Fun → Option Fn
plain_some f = Some (plain_fun f)

place-plain : (fs : List Fun) → position_or_len starts (map plain_some fs) ≡ position_or_len (λ f. is_main (plain_fun f)) fs
place-plain [] = refl
place-plain (f ∷ fs) = rw (place-plain fs) refl

pub position-plain : (fs : List Fun) → position starts (map plain_some fs) ≡ position (λ f. is_main (plain_fun f)) fs
position-plain fs = rw (place-plain fs, length-map fs plain_some) refl

abbrev is_shown : Prm → Bool
is_shown p = not p.hidden

shown-plain : (ps : List Param) → list_all is_shown (map plain_param ps) ≡ list_all (λ p. not p.hidden) ps
shown-plain ps = list_all-map is_shown plain_param ps

-- the test of a function, once its name and its effect have passed
pub is_main-shown : (f : Fun) → pointwise nat_eq f.name (codes "main") ≡ true → not (is_ghost f.effect) ≡ true → is_main (plain_fun f) ≡ list_all (λ p. not p.hidden) f.params
is_main-shown f e g = rw (e, g) (shown-plain f.params)
