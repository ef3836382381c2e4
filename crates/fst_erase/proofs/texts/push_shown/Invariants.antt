use Rattle.std.proofs.Common.{◌≡◌, ◌++◌, false, map, take}
use Rattle.fst_erase.proofs.texts.push_shown.Given as goal

abbrev pub invariant-loop-name : goal.invariant-loop-name
invariant-loop-name l = l.scope ≡ l.fn.scope ++ map (λ x. false) (take l._name-index l.names)
