use Rattle.std.proofs.Common.{◌≡◌, ◌-◌, ◌++◌, map, length}
use Rattle.fst_text.specs.Scans.{tokens_left, fault_left}
use Rattle.std.specs.List.{All}
use Rattle.fst_syntax.specs.Tokens.{token_of, HasText}
use Rattle.fst_syntax.specs.Lexemes.{lexed, bad, lexemes}
use Rattle.fst_term_reader.proofs.lexeme.lexemes.Given as goal

abbrev pub invariant-tokens : goal.invariant-tokens
invariant-tokens l = record {
  so_far : map token_of l.found.items ++ (map (lexed l.bytes) (tokens_left l.scanner) ++ bad (fault_left l.scanner)) ≡ lexemes l.bytes;
  text : l.scanner.text ≡ l.bytes;
  utf8 : All HasText l.found.items;
}

abbrev pub decreases-tokens : goal.decreases-tokens
decreases-tokens l = length l.bytes - l.scanner.at
