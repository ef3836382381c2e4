use Rattle.std.proofs.Common.{◌≡◌, drop, map}
use Rattle.fst_program.specs.declared.fun.Fun.{Fun}
use Rattle.fst_top.specs.Elaboration.{is_named}
use Rattle.fst_top.proofs.elaborate.program.is_declared.Given as goal

abbrev pub invariant-loop-fun : goal.invariant-loop-fun
invariant-loop-fun l = is_named l.name (map (λ (f : Fun). f.name) l.funs) ≡ is_named l.name (map (λ (f : Fun). f.name) (drop l.fun-index l.funs))
