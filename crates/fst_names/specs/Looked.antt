-- What the tables of the code hold.
use Rattle.std.specs.Prelude.{List, Option, Some, None, option_map}
use Rattle.fst_trees.specs.declared.word.Word.{Word}
use Rattle.fst_names.specs.declared.before.Before as B
use Rattle.fst_names.specs.declared.tables.Tables as T
use Rattle.fst_names.specs.declared.tables.Called.{Called}
use Rattle.fst_names.specs.Names.{Globals, Before, Tables, Use, fun_tables, definition_tables, runs_of}

abbrev pub before_in : B.Before → Before
before_in b = record { group = b.group; funs = b.funs; effects = b.effects }

abbrev pub tables_over : Globals → Before → Option (List Word) → Tables
tables_over G b None = fun_tables G b
tables_over G b (Some ws) = definition_tables G b (runs_of ws)

abbrev pub tables_in : T.Tables → Tables
tables_in t = tables_over t.globals.now (before_in t.before) (option_map (λ ws. ws.now) t.header)

-- what the checks need of a use of a name
abbrev pub seen : Use → Called
seen u = record { broken = u.broken; arity = u.arity }
