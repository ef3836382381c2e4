use Rattle.std.proofs.Common.{◌≡◌, map, take}
use Rattle.fst_program.specs.Plain.{plain_fun}
use Rattle.fst_sorting.specs.Listed.{fun_core, placed_in}
use Rattle.fst_sorting.specs.Sites.{known_at}
use Rattle.fst_sorting.proofs.programs.core_funs.Given as goal

abbrev pub invariant-loop-index : goal.invariant-loop-index
invariant-loop-index l = map plain_fun l.made ≡ map (λ p. fun_core (known_at l.known) (placed_in p)) (take l.index l.funs)
