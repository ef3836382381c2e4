use Rattle.std.proofs.Common.{◌≡◌, map, option_map, take}
use Rattle.fst_code.specs.Plain.{plain_code_fun}
use Rattle.fst_program.specs.Erasure.{unless_ghost}
use Rattle.fst_program.specs.Plain.{plain_fun, plain_program}
use Rattle.fst_erase.proofs.functions.erase_funs.Given as goal

abbrev pub invariant-loop-fun : goal.invariant-loop-fun
invariant-loop-fun l = map (option_map plain_code_fun) l.made ≡ map (λ f. unless_ghost (plain_program l.program) (plain_fun f)) (take l.fun-index l.program.funs)
