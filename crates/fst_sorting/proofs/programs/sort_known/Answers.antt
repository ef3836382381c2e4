use Rattle.fst_sorting.proofs.ProgramParts.{funs-ok, funs-refused, funs-made}
use Rattle.fst_sorting.proofs.MapLemmas.{on-ok, if-ok}
use Rattle.fst_sorting.proofs.programs.sort_known.Goals as goal

pub returns-clause-ok : goal.returns-clause-ok
returns-clause-ok c =
    let k = c.args.known in
    on-ok c.sort_funs.result (funs-ok c.args.program.now.decls k.effects.now c.args.funs.now k.called.now k.applied.now k.paths.now c.requires.effects c.requires.funs c.requires.called c.requires.applied c.requires.paths) c.sort_funs.ensures.ok

pub returns-clause-funs : goal.returns-clause-funs
returns-clause-funs c =
    let k = c.args.known in
    if-ok c.sort_funs.result (funs-made c.args.program.now.decls k.effects.now c.args.funs.now k.called.now k.applied.now k.paths.now c.requires.effects c.requires.funs c.requires.called c.requires.applied c.requires.paths) c.sort_funs.ensures.funs

pub returns-clause-refused : goal.returns-clause-refused
returns-clause-refused c =
    let k = c.args.known in
    λ broken at e. funs-refused c.args.program.now.decls k.effects.now c.args.funs.now k.called.now k.applied.now k.paths.now c.requires.effects c.requires.funs c.requires.called c.requires.applied c.requires.paths
    (record { at = at; rule = broken }) (c.sort_funs.ensures.refused broken at e)
