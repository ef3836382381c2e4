use Rattle.std.proofs.Common.{◌≡◌, false, map, take}
use Rattle.fst_names.specs.Names.{has_con}
use Rattle.fst_effects.proofs.open_matches.has_con.Given as goal

abbrev pub invariant-loop-arm : goal.invariant-loop-arm
invariant-loop-arm l = has_con l.con (map (λ a. a.con) (take l.arm-index l.arms)) ≡ false
