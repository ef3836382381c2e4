use Rattle.std.proofs.Common.{◌≡◌, ◌-◌, length, bytes_eq}
use Rattle.std.specs.List.{list_any}
use Rattle.fst_text.specs.Scans.{tokens_left, token_text}
use Rattle.fst_top.specs.Answers.{has_word}
use Rattle.fst_top.proofs.token_words.has_word.Given as goal

abbrev pub invariant-tokens : goal.invariant-tokens
invariant-tokens l = record {
  so_far : list_any (λ t. bytes_eq (token_text l.text t) l.word) (tokens_left l.scanner) ≡ has_word l.text l.word;
  text : l.scanner.text ≡ l.text;
}

abbrev pub decreases-tokens : goal.decreases-tokens
decreases-tokens l = length l.text - l.scanner.at
