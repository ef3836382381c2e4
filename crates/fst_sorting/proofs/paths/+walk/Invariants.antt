use Rattle.std.proofs.Common.{length}
use Rattle.fst_sorting.specs.Routes.{lifts_on, way}
use Rattle.fst_sorting.proofs.paths.+walk.Given as goal

abbrev pub decreases-walk : goal.decreases-walk
decreases-walk l = length (lifts_on (way l.routes.now l.from l.«to»))
