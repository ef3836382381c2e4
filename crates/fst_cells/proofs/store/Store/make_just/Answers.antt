use Rattle.std.proofs.Common.{refl}
use Rattle.fst_base.specs.Values.{v_some}
use Rattle.fst_base.specs.Primitives.{first}
use Rattle.fst_cells.proofs.MakeLemmas.{made-ok}
use Rattle.fst_cells.proofs.store.Store.make_just.Goals as goal

pub returns-clause-made : goal.returns-clause-made
returns-clause-made c = λ vs k. made-ok c.just.new.self c.in_ok-just.field-0 (v_some (first vs)) refl (c.in_ok-just.ensures.cell (first vs) (c.in_ok-part.ensures.cell (first vs) k.0))
