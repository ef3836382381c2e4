use Rattle.std.proofs.Common.{◌≡◌, [], take}
use Rattle.fst_names.specs.Broken.{first_broken}
use Rattle.fst_names.specs.Names.{broken_words}
use Rattle.fst_names.proofs.words.check_words.Given as goal

abbrev pub invariant-loop-index : goal.invariant-loop-index
invariant-loop-index l = l.found ≡ first_broken (broken_words [] (take l.index l.words))
