use Rattle.std.proofs.lemmas.Result.{on_ok_weaker}
use Rattle.fst_flats.proofs.BuildingLemmas.{added-is}
use Rattle.fst_flats.proofs.list_facts.add_made.Goals as goal

pub returns : goal.returns
returns c = on_ok_weaker c.add.result (added-is c.args.fact _ _ _ _ c.in_ok-fact.ensures c.get.ensures) c.add.ensures
