use Rattle.std.proofs.Common.{refl}
use Rattle.fst_base.specs.Values.{v_inl}
use Rattle.fst_base.specs.Primitives.{first}
use Rattle.fst_cells.proofs.MakeLemmas.{made-ok}
use Rattle.fst_cells.proofs.store.Store.make_left.Goals as goal

pub returns-clause-made : goal.returns-clause-made
returns-clause-made c = λ vs k. made-ok c.left.new.self c.in_ok-left.field-0 (v_inl (first vs)) refl (c.in_ok-left.ensures.cell (first vs) (c.in_ok-part.ensures.cell (first vs) k.0))
