-- The plain trees of code.
use Rattle.std.specs.Prelude.{[], map, option_map, None}
use Rattle.fst_base.specs.Sorts.{plain_sort}
use Rattle.fst_program.specs.Plain.{plain_comp, plain_effect, plain_lift, plain_param}
use Rattle.fst_program.specs.Texts.{Fn, Prog}
use Rattle.fst_code.specs.declared.code.CodeFun.{CodeFun}
use Rattle.fst_code.specs.declared.code.Code.{Code}

-- a function of code has no clauses, and no place of its own
abbrev pub plain_code_fun : CodeFun → Fn
plain_code_fun f = record { name = f.name; place = 0; params = map plain_param f.params; effect = f.effect; sort = plain_sort f.sort; needs = None; gives = None; measures = []; unfolds = 0; body = plain_comp f.body; group = f.group }

-- the plain tree of code
abbrev pub plain_code : Code → Prog
plain_code c = record { effects = map plain_effect c.effects; lifts = map plain_lift c.lifts; funs = map (option_map plain_code_fun) c.funs }
