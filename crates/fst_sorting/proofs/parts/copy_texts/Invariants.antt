use Rattle.std.proofs.Common.{◌≡◌, map, take}
use Rattle.fst_sorting.proofs.parts.copy_texts.Given as goal

abbrev pub invariant-loop-word : goal.invariant-loop-word
invariant-loop-word l = l.names ≡ map (λ w. w.text) (take l.word-index l.words)
