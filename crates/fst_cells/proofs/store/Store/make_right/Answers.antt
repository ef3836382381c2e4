use Rattle.std.proofs.Common.{refl}
use Rattle.fst_base.specs.Values.{v_inr}
use Rattle.fst_base.specs.Primitives.{first}
use Rattle.fst_cells.proofs.MakeLemmas.{made-ok}
use Rattle.fst_cells.proofs.store.Store.make_right.Goals as goal

pub returns-clause-made : goal.returns-clause-made
returns-clause-made c = λ vs k. made-ok c.right.new.self c.in_ok-right.field-0 (v_inr (first vs)) refl (c.in_ok-right.ensures.cell (first vs) (c.in_ok-part.ensures.cell (first vs) k.0))
