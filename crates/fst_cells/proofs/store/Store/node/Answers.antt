use Rattle.fst_cells.proofs.store.Store.node.Goals as goal

pub unreachable-requires : goal.unreachable-requires
unreachable-requires c = c.in_default.ensures.value c.requires.0 c.requires.1
