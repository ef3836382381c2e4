use Rattle.std.proofs.Common.{◌≡◌, ◌++◌, map, drop}
use Rattle.fst_program.specs.Plain.{plain_param}
use Rattle.fst_erase.specs.Parts.{shown_params}
use Rattle.fst_erase.proofs.functions.erase_params.Given as goal

abbrev pub invariant-loop-param : goal.invariant-loop-param
invariant-loop-param l = map plain_param l.made ++ shown_params (map plain_param (drop l.param-index l.params)) ≡ shown_params (map plain_param l.params)
