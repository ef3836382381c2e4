-- The identifiers that are words of the language.
use Rattle.std.specs.Prelude.{ℕ, List, [], ◌∷◌, Option, Some, None, codes, bytes_eq, if◌then◌else◌}
use Rattle.fst_text.specs.declared.word.Word.{Word}
use Rattle.fst_text.specs.declared.word.Word.TheVariants as word

-- what stands beside the text in a table
abbrev pub looked_up : {A : Type 0} → List (List ℕ × A) → List ℕ → Option A
looked_up [] bs = None
looked_up (row ∷ rows) bs = if bytes_eq row.0 bs then Some row.1 else looked_up rows bs

-- the reserved words, and those that are held for later versions
unfoldable pub words : List (List ℕ × Word)
words = (codes "fun", word.Fun)
    ∷ (codes "effect", word.Effect)
    ∷ (codes "lift", word.Lift)
    ∷ (codes "to", word.To)
    ∷ (codes "by", word.By)
    ∷ (codes "input", word.Input)
    ∷ (codes "result", word.Result)
    ∷ (codes "return", word.Return)
    ∷ (codes "bind", word.Bind)
    ∷ (codes "let", word.Let)
    ∷ (codes "ghost", word.Ghost)
    ∷ (codes "in", word.In)
    ∷ (codes "assert", word.Assert)
    ∷ (codes "if", word.If)
    ∷ (codes "then", word.Then)
    ∷ (codes "else", word.Else)
    ∷ (codes "match", word.Match)
    ∷ (codes "with", word.With)
    ∷ (codes "end", word.End)
    ∷ (codes "reflect", word.Reflect)
    ∷ (codes "reify", word.Reify)
    ∷ (codes "requires", word.Requires)
    ∷ (codes "ensures", word.Ensures)
    ∷ (codes "decreases", word.Decreases)
    ∷ (codes "unfold", word.Unfold)
    ∷ (codes "unit", word.Unit)
    ∷ (codes "bool", word.Bool)
    ∷ (codes "int", word.Int)
    ∷ (codes "option", word.Option)
    ∷ (codes "list", word.List)
    ∷ (codes "either", word.Either)
    ∷ (codes "fst", word.Fst)
    ∷ (codes "snd", word.Snd)
    ∷ (codes "none", word.None)
    ∷ (codes "some", word.Some)
    ∷ (codes "inl", word.Inl)
    ∷ (codes "inr", word.Inr)
    ∷ (codes "len", word.Len)
    ∷ (codes "true", word.True)
    ∷ (codes "false", word.False)
    ∷ (codes "not", word.Not)
    ∷ (codes "PURE", word.PureEffect)
    ∷ (codes "GHOST", word.GhostEffect)
    ∷ (codes "DIV", word.DivEffect)
    ∷ (codes "and", word.Held)
    ∷ (codes "min", word.Held)
    ∷ (codes "max", word.Held)
    ∷ (codes "abs", word.Held)
    ∷ (codes "forall", word.Held)
    ∷ (codes "module", word.Held)
    ∷ (codes "use", word.Held)
    ∷ (codes "interface", word.Held)
    ∷ (codes "laws", word.Held)
    ∷ []

abbrev pub word_of : List ℕ → Option Word
word_of = looked_up words
