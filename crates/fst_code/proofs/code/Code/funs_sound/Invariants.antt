use Rattle.std.proofs.Common.{◌≡◌, true, take}
use Rattle.std.specs.List.{list_all}
use Rattle.fst_program.specs.Texts.{if_there}
use Rattle.fst_code.specs.Plain.{plain_code, plain_code_fun}
use Rattle.fst_code.specs.Sound.{fun_sound}
use Rattle.fst_code.proofs.code.Code.funs_sound.Given as goal

abbrev pub invariant-loop-fun : goal.invariant-loop-fun
invariant-loop-fun l = list_all (λ f. if_there f (λ g. fun_sound (plain_code l.self) (plain_code_fun g)) true) (take l.fun-index l.fun-items) ≡ true
