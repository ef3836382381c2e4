use Rattle.fst_reader.proofs.bodies.+body.Given as goal

abbrev pub decreases-body : goal.decreases-body
decreases-body l = l.room

abbrev pub decreases-part : goal.decreases-part
decreases-part l = l.room
