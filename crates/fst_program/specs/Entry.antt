-- The function that a run begins with.
use Rattle.std.specs.Prelude.{ℕ, Bool, false, not, ◌&&◌, nat_eq, codes, Option}
use Rattle.std.specs.List.{list_all, position}
use lib.Pointwise.{pointwise}
use Rattle.fst_program.specs.Texts.{Fn, Prog, if_there, is_ghost}

-- the function is named main, isn't GHOST and has no ghost parameter
abbrev pub is_main : Fn → Bool
is_main f = pointwise nat_eq f.name (codes "main") && not (is_ghost f.effect) && list_all (λ p. not p.hidden) f.params

-- the number of the first function of this kind; names of functions differ, so it is the one named main
abbrev pub main_of : Prog → Option ℕ
main_of P = position (λ f. if_there f is_main false) P.funs
