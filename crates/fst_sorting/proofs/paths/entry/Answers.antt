use Rattle.std.proofs.Common.{sym}
use Rattle.fst_sorting.proofs.RouteLemmas.{entry-none}
use Rattle.fst_sorting.proofs.paths.entry.Goals as goal

pub returns-in-None : goal.returns-in-None
returns-in-None c = sym (entry-none _ _ _ _ _ c.requires.routes c.requires.from c.requires.«to» (sym c.in-None.ensures) c.if-from-to.false)
