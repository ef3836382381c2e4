-- The code of a program.
use Rattle.std.specs.Prelude.{[], map, None}
use Rattle.fst_program.specs.Texts.{Prm, Fn}

abbrev pub without_refinement : Prm → Prm
without_refinement p = record { name = p.name; sort = p.sort; hidden = p.hidden; refine = None }

-- a function without its clauses, as it is run
abbrev pub without_clauses : Fn → Fn
without_clauses f = record { name = f.name; place = 0; params = map without_refinement f.params; effect = f.effect; sort = f.sort; needs = None; gives = None; measures = []; unfolds = 0; body = f.body; group = f.group }
