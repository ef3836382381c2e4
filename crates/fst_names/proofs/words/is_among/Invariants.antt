use Rattle.std.proofs.Common.{◌≡◌, false, [], take}
use Rattle.fst_names.specs.Names.{is_among, binding}
use Rattle.fst_names.proofs.words.is_among.Given as goal

abbrev pub invariant-loop-word : goal.invariant-loop-word
invariant-loop-word l = is_among l.name (binding (take l.word-index l.words) []) ≡ false
