-- Where a name keeps its text. No public clause cites this module.
use Rattle.std.specs.Prelude.{ℕ, List, string_bytes}
use Rattle.fst_base.specs.declared.name.Text.{Text}
use Rattle.fst_base.specs.declared.name.Text.TheVariants.{Short, Long}

-- the bytes of the text
abbrev pub text_bytes : Text → List ℕ
text_bytes (Short bytes) = bytes
text_bytes (Long text) = string_bytes text.value
