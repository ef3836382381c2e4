use Rattle.std.proofs.lemmas.Result.{on_ok_weaker}
use Rattle.fst_flats.proofs.BuildingLemmas.{atom-is}
use Rattle.fst_flats.proofs.equations.add_equation.Goals as goal

pub returns : goal.returns
returns c =
    on_ok_weaker c.add_atom.result
    (atom-is c.equation.result _ _ _ _ _ c.in_ok-made.ensures c.get.ensures (c.equation.ensures _ _ c.copied.ensures c.copied-2.ensures))
    c.add_atom.ensures
