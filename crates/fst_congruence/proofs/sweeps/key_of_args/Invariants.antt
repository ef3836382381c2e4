use Rattle.std.proofs.Common.{◌≡◌, ◌∷◌, take, map}
use Rattle.fst_congruence.specs.Classes.{label_at}
use Rattle.fst_congruence.proofs.sweeps.key_of_args.Given as goal

abbrev pub invariant-loop-arg : goal.invariant-loop-arg
invariant-loop-arg l = l.key.items ≡ l.node.kind ∷ map (label_at l.labels) (take l.arg-index l.args)
