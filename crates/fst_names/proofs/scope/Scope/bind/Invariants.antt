use Rattle.std.proofs.Common.{◌≡◌, take}
use Rattle.fst_names.specs.Scopes.{names_in}
use Rattle.fst_names.specs.Names.{binding}
use Rattle.fst_names.proofs.scope.Scope.bind.Given as goal

abbrev pub invariant-loop-word : goal.invariant-loop-word
invariant-loop-word l = names_in l.self ≡ binding (take l.word-index l.words) (names_in l.fn.self)
