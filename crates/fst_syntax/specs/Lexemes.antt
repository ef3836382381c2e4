-- The tokens of a text as the grammar sees them.
use Rattle.std.specs.Prelude.{ℕ, nat_le, List, [], ◌∷◌, ◌++◌, map, Option, Some, None, codes, bytes_eq, if◌then◌else◌}
use Rattle.fst_text.specs.declared.token.Kind.{Kind}
use Rattle.fst_text.specs.declared.token.Kind.TheVariants as kind
use Rattle.fst_text.specs.declared.token.Token as text
use Rattle.fst_text.specs.Scans.{tokens, fault, token_text}
use Rattle.fst_syntax.specs.declared.terminal.Terminal.{Terminal}
use Rattle.fst_syntax.specs.declared.terminal.Terminal.TheVariants as k
use Rattle.fst_syntax.specs.Spelling.{of_word, of_mark}
use Rattle.fst_syntax.specs.Trees.{magnitude}
use Rattle.fst_syntax.specs.Tokens.{Token}

abbrev pub terminal_of : Kind → List ℕ → Terminal
terminal_of (kind.Word w) bs = of_word w
terminal_of (kind.Mark m) bs = of_mark m
terminal_of kind.Number bs = if nat_le (magnitude bs) 4 then k.Small else k.Number
terminal_of kind.Ident bs = if bytes_eq bs (codes "_") then k.Hole else k.Name

abbrev pub lexed : List ℕ → text.Token → Token
lexed bytes t = record { terminal = terminal_of t.kind (token_text bytes t); at = t.from; text = token_text bytes t }

-- the byte that begins no token, if there is one
abbrev pub bad : Option ℕ → List Token
bad None = []
bad (Some at) = record { terminal = k.Bad; at = at; text = [] } ∷ []

-- all tokens of a text, and at their end the byte that begins none, if there is one
abbrev pub lexemes : List ℕ → List Token
lexemes bytes = map (lexed bytes) (tokens bytes) ++ bad (fault bytes)
