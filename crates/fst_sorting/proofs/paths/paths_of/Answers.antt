use Rattle.fst_sorting.proofs.RouteLemmas.{leads-count, paths-result}
use Rattle.fst_sorting.proofs.paths.paths_of.Goals as goal

pub table-requires : goal.table-requires
table-requires c = leads-count c.in-Ok.count c.args.effects.now _ _ c.in-Ok.ensures.1 c.requires.within c.requires.lattice

pub returns : goal.returns
returns c = paths-result c.in-Ok.count c.args.effects.now _ _ c.in-Ok.ensures.1 c.requires.within c.table.ensures
