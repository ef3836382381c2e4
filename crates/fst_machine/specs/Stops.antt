-- What a step of the machine gives.
use Rattle.std.specs.Prelude.{◌≡◌, reverse, Result, Ok, Err, ⊤}
use Rattle.fst_program.specs.Evaluation.{Got, got, got_wide, got_stuck, Gots, gots, gots_wide, gots_stuck}
use Rattle.fst_cells.specs.declared.cell.Cell.{Cell}
use Rattle.fst_machine.specs.declared.memory.Chain.{Chain}
use Rattle.fst_machine.specs.declared.memory.Memory.{Memory}
use Rattle.fst_machine.specs.declared.stop.Stop.{Stop}
use Rattle.fst_machine.specs.declared.stop.Stop.TheVariants as stop
use Rattle.fst_machine.specs.Memories.{IsCell, IsChain, OperandsAre}
use Rattle.fst_cells.specs.declared.operands.Operands.{Operands}

-- a cell of the value that a term gives, or its fault; want of memory may come in place of either
abbrev pub Gives : Memory → Result Cell Stop → Got → Type 0
Gives m (Ok c) (got v) = IsCell m c v
Gives m (Err stop.PastRange) got_wide = ⊤
Gives m (Err (stop.Stuck p)) (got_stuck at) = p.at ≡ at
Gives m (Err stop.NoMemory) g = ⊤
Gives m _ _ = ⊥

-- an environment of the values that terms give, the last one first, or their fault
abbrev pub ChainGives : Memory → Result Chain Stop → Gots → Type 0
ChainGives m (Ok c) (gots vs) = IsChain m c (reverse vs)
ChainGives m (Err stop.PastRange) gots_wide = ⊤
ChainGives m (Err (stop.Stuck p)) (gots_stuck at) = p.at ≡ at
ChainGives m (Err stop.NoMemory) g = ⊤
ChainGives m _ _ = ⊥

-- operands of the values that terms give, or their fault
abbrev pub OperandsGive : Memory → Result Operands Stop → Gots → Type 0
OperandsGive m (Ok os) (gots vs) = OperandsAre m os vs
OperandsGive m (Err stop.PastRange) gots_wide = ⊤
OperandsGive m (Err (stop.Stuck p)) (gots_stuck at) = p.at ≡ at
OperandsGive m (Err stop.NoMemory) g = ⊤
OperandsGive m _ _ = ⊥
