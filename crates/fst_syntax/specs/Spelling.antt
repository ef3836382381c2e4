-- The terminal of each word and of each mark, and a text of each terminal.
use Rattle.std.specs.Prelude.{ℕ, List, [], codes}
use Rattle.fst_text.specs.declared.word.Word.{Word}
use Rattle.fst_text.specs.declared.word.Word.TheVariants as word
use Rattle.fst_text.specs.declared.mark.Mark.{Mark}
use Rattle.fst_text.specs.declared.mark.Mark.TheVariants as mark
use Rattle.fst_syntax.specs.declared.terminal.Terminal.{Terminal}
use Rattle.fst_syntax.specs.declared.terminal.Terminal.TheVariants as k

abbrev pub of_word : Word → Terminal
of_word word.Held = k.Held
of_word word.Fun = k.Fun
of_word word.Effect = k.Effect
of_word word.Lift = k.Lift
of_word word.To = k.To
of_word word.By = k.By
of_word word.Input = k.Input
of_word word.Result = k.Result
of_word word.Return = k.Return
of_word word.Bind = k.Bind
of_word word.Let = k.Let
of_word word.Ghost = k.Ghost
of_word word.In = k.In
of_word word.Assert = k.Assert
of_word word.If = k.If
of_word word.Then = k.Then
of_word word.Else = k.Else
of_word word.Match = k.Match
of_word word.With = k.With
of_word word.End = k.EndWord
of_word word.Reflect = k.Reflect
of_word word.Reify = k.Reify
of_word word.Requires = k.Requires
of_word word.Ensures = k.Ensures
of_word word.Decreases = k.Decreases
of_word word.Unfold = k.Unfold
of_word word.Unit = k.Unit
of_word word.Bool = k.Bool
of_word word.Int = k.Int
of_word word.Option = k.Option
of_word word.List = k.List
of_word word.Either = k.Either
of_word word.Fst = k.Fst
of_word word.Snd = k.Snd
of_word word.None = k.None
of_word word.Some = k.Some
of_word word.Inl = k.Inl
of_word word.Inr = k.Inr
of_word word.Len = k.Len
of_word word.True = k.True
of_word word.False = k.False
of_word word.Not = k.Not
of_word word.PureEffect = k.PureEffect
of_word word.GhostEffect = k.GhostEffect
of_word word.DivEffect = k.DivEffect

abbrev pub of_mark : Mark → Terminal
of_mark mark.LeftParen = k.LeftParen
of_mark mark.RightParen = k.RightParen
of_mark mark.LeftBracket = k.LeftBracket
of_mark mark.RightBracket = k.RightBracket
of_mark mark.LeftBrace = k.LeftBrace
of_mark mark.RightBrace = k.RightBrace
of_mark mark.Comma = k.Comma
of_mark mark.Semicolon = k.Semicolon
of_mark mark.Colon = k.Colon
of_mark mark.ColonColon = k.ColonColon
of_mark mark.Bar = k.Bar
of_mark mark.BarBar = k.BarBar
of_mark mark.Arrow = k.Arrow
of_mark mark.Equal = k.Equal
of_mark mark.NotEqual = k.NotEqual
of_mark mark.LessEqual = k.LessEqual
of_mark mark.Less = k.Less
of_mark mark.GreaterEqual = k.GreaterEqual
of_mark mark.Greater = k.Greater
of_mark mark.Implies = k.Implies
of_mark mark.Plus = k.Plus
of_mark mark.Minus = k.Minus
of_mark mark.Star = k.Star
of_mark mark.Slash = k.Slash
of_mark mark.Percent = k.Percent
of_mark mark.AmpAmp = k.AmpAmp

-- a text of each terminal
abbrev pub spelling : Terminal → List ℕ
spelling k.Fun = codes "fun"
spelling k.Effect = codes "effect"
spelling k.Lift = codes "lift"
spelling k.To = codes "to"
spelling k.By = codes "by"
spelling k.Input = codes "input"
spelling k.Result = codes "result"
spelling k.Return = codes "return"
spelling k.Bind = codes "bind"
spelling k.Let = codes "let"
spelling k.Ghost = codes "ghost"
spelling k.In = codes "in"
spelling k.Assert = codes "assert"
spelling k.If = codes "if"
spelling k.Then = codes "then"
spelling k.Else = codes "else"
spelling k.Match = codes "match"
spelling k.With = codes "with"
spelling k.EndWord = codes "end"
spelling k.Reflect = codes "reflect"
spelling k.Reify = codes "reify"
spelling k.Requires = codes "requires"
spelling k.Ensures = codes "ensures"
spelling k.Decreases = codes "decreases"
spelling k.Unfold = codes "unfold"
spelling k.Unit = codes "unit"
spelling k.Bool = codes "bool"
spelling k.Int = codes "int"
spelling k.Option = codes "option"
spelling k.List = codes "list"
spelling k.Either = codes "either"
spelling k.Fst = codes "fst"
spelling k.Snd = codes "snd"
spelling k.None = codes "none"
spelling k.Some = codes "some"
spelling k.Inl = codes "inl"
spelling k.Inr = codes "inr"
spelling k.Len = codes "len"
spelling k.True = codes "true"
spelling k.False = codes "false"
spelling k.Not = codes "not"
spelling k.PureEffect = codes "PURE"
spelling k.GhostEffect = codes "GHOST"
spelling k.DivEffect = codes "DIV"
spelling k.LeftParen = codes "("
spelling k.RightParen = codes ")"
spelling k.LeftBracket = codes "["
spelling k.RightBracket = codes "]"
spelling k.LeftBrace = codes "{"
spelling k.RightBrace = codes "}"
spelling k.Comma = codes ","
spelling k.Semicolon = codes ";"
spelling k.Colon = codes ":"
spelling k.ColonColon = codes "::"
spelling k.Bar = codes "|"
spelling k.BarBar = codes "||"
spelling k.Arrow = codes "->"
spelling k.Equal = codes "="
spelling k.NotEqual = codes "!="
spelling k.LessEqual = codes "<="
spelling k.Less = codes "<"
spelling k.GreaterEqual = codes ">="
spelling k.Greater = codes ">"
spelling k.Implies = codes "==>"
spelling k.Plus = codes "+"
spelling k.Minus = codes "-"
spelling k.Star = codes "*"
spelling k.Slash = codes "/"
spelling k.Percent = codes "%"
spelling k.AmpAmp = codes "&&"
spelling k.Name = codes "x"
spelling k.Hole = codes "_"
spelling k.Small = codes "0"
spelling k.Number = codes "5"
spelling k.Held = codes "and"
spelling k.Bad = []
spelling k.End = []
