use Rattle.fst_shapes.proofs.ArgumentLemmas.{two-length}
use Rattle.fst_shapes.proofs.meeting.are_two.Goals as goal

pub returns : goal.returns
returns c = two-length c.args.args.now
