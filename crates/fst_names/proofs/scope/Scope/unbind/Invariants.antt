use Rattle.std.proofs.Common.{◌≡◌, ◌-◌, List, length, take}
use Rattle.fst_trees.specs.declared.word.Word.{Word}
use Rattle.fst_names.specs.Scopes.{names_in}
use Rattle.fst_names.specs.Names.{Names, binding}
use Rattle.fst_names.proofs.scope.Scope.unbind.Given as goal

abbrev pub invariant-loop-index : goal.invariant-loop-index
invariant-loop-index l = (ws : List Word) (xs : Names) → length ws ≡ l.count → names_in l.fn.self ≡ binding ws xs → names_in l.self ≡ binding (take (l.count - l._index) ws) xs
