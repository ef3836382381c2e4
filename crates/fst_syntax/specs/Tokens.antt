-- Tokens as the grammar sees them.
use Rattle.std.specs.Prelude.{ℕ, List}
use Rattle.std.specs.Str.{IsUtf8}
use denote.Enum.Bare.{sameb}
use Rattle.fst_syntax.specs.contracts.terminal.Terminal.{the_type}
use Rattle.fst_syntax.specs.declared.terminal.Terminal.{Terminal}
use Rattle.fst_syntax.specs.declared.terminal.Terminal.TheVariants as k
use Rattle.fst_syntax.specs.declared.lexeme.Lexeme.{Lexeme}
use Rattle.fst_syntax.specs.Spelling.{spelling}
use Rattle.fst_base.specs.declared.place.Pos.{Pos}
use Rattle.fst_grammar.specs.Alphabet.{Alphabet}

-- a token: its terminal, the offset of its first byte, and its bytes
pub record Token : Type 0 where
  pub terminal : Terminal
  pub at : ℕ
  pub text : List ℕ

abbrev pub token_of : Lexeme → Token
token_of l = record { terminal = l.terminal; at = l.at; text = l.text.now }

-- the bytes are a text
abbrev pub HasText : Lexeme → Type 0
HasText l = IsUtf8 l.text.now

abbrev pub alphabet : Alphabet
alphabet = record {
  Kind = Terminal;
  Token = Token;
  Place = Pos;
  same = sameb the_type;
  End = k.End;
  kind = λ t. t.terminal;
  place = λ t. record { at = t.at };
  example = λ k. record { terminal = k; at = 0; text = spelling k };
}
