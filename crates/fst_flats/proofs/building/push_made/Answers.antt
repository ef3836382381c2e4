use Rattle.std.proofs.lemmas.Result.{on_ok_weaker}
use Rattle.fst_flats.proofs.BuildingLemmas.{pushed-is}
use Rattle.fst_flats.proofs.building.push_made.Goals as goal

pub returns : goal.returns
returns c = on_ok_weaker c.push.result (pushed-is c.args.made _ _ _ c.in_ok-made.was) c.push.ensures.ok
