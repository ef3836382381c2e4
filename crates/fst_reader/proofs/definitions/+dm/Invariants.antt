use Rattle.fst_reader.proofs.definitions.+dm.Given as goal

abbrev pub decreases-dm : goal.decreases-dm
decreases-dm l = l.room

abbrev pub decreases-dm_part : goal.decreases-dm_part
decreases-dm_part l = l.room
