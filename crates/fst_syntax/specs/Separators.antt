-- The marks between the terms of a list.
use Rattle.fst_syntax.specs.declared.terminal.Terminal.{Terminal}
use Rattle.fst_syntax.specs.declared.terminal.Terminal.TheVariants as k
use Rattle.fst_syntax.specs.declared.operator.Separator.{Separator}
use Rattle.fst_syntax.specs.declared.operator.Separator.TheVariants as s

abbrev pub separator : Separator → Terminal
separator s.Comma = k.Comma
separator s.Semicolon = k.Semicolon
