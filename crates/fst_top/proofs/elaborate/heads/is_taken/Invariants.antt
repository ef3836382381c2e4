use Rattle.std.proofs.Common.{◌≡◌, drop, map}
use Rattle.fst_program.specs.declared.fun.Param.{Param}
use Rattle.fst_top.specs.Elaboration.{is_named}
use Rattle.fst_top.proofs.elaborate.heads.is_taken.Given as goal

abbrev pub invariant-loop-param : goal.invariant-loop-param
invariant-loop-param l = is_named l.name (map (λ (p : Param). p.name) l.params) ≡ is_named l.name (map (λ (p : Param). p.name) (drop l.param-index l.params))
