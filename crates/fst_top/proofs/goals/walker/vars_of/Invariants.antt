use Rattle.std.proofs.Common.{◌≡◌, map, take}
use Rattle.fst_program.specs.declared.fun.Param.{Param}
use Rattle.fst_program.specs.Plain.{plain_param}
use Rattle.fst_terms.specs.Meaning.{plain_var}
use Rattle.fst_top.specs.Built.{var_of}
use Rattle.fst_top.proofs.goals.walker.vars_of.Given as goal

abbrev pub invariant-loop-param : goal.invariant-loop-param
invariant-loop-param l = map plain_var l.vars ≡ map (λ (p : Param). var_of (plain_param p)) (take l.param-index l.params)
