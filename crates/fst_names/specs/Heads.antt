-- What the code knows of a function before its text is read.
use Rattle.std.specs.Prelude.{ℕ}
use Rattle.fst_names.specs.declared.globals.Head.{Head}
use Rattle.fst_names.specs.Names.{FunHead}

abbrev pub head_in : Head → FunHead
head_in h = record { name = h.name.now; arity = h.arity; group = h.group }

abbrev pub found_in : (ℕ × Head) → (ℕ × FunHead)
found_in p = (p.0, head_in p.1)
