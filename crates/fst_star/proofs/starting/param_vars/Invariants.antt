use Rattle.std.proofs.Common.{◌≡◌, map, take}
use Rattle.fst_program.specs.Plain.{plain_param}
use Rattle.fst_star.specs.Starting.{param_var}
use Rattle.fst_terms.specs.Meaning.{plain_var}
use Rattle.fst_star.proofs.starting.param_vars.Given as goal

abbrev pub invariant-loop-param : goal.invariant-loop-param
invariant-loop-param l = map plain_var l.made ≡ map param_var (map plain_param (take l.param-index l.params))
