use Rattle.std.proofs.Common.{◌≡◌, take}
use Rattle.fst_sorting.specs.Listed.{all_placed, listed}
use Rattle.fst_sorting.proofs.listing.list_funs.Given as goal

abbrev pub invariant-loop-decl : goal.invariant-loop-decl
invariant-loop-decl l = all_placed l.funs.items ≡ listed (take l.decl-index l.decls)
