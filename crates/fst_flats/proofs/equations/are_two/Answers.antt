use Rattle.fst_flats.proofs.ArgumentLemmas.{two-length}
use Rattle.fst_flats.proofs.equations.are_two.Goals as goal

pub returns : goal.returns
returns c = two-length c.args.args.now
