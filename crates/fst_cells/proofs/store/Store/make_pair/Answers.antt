use Rattle.std.proofs.Common.{refl}
use Rattle.fst_base.specs.Values.{v_pair}
use Rattle.fst_base.specs.Primitives.{first, second}
use Rattle.fst_cells.proofs.MakeLemmas.{made-ok}
use Rattle.fst_cells.proofs.store.Store.make_pair.Goals as goal

pub returns-clause-made : goal.returns-clause-made
returns-clause-made c = λ vs k. made-ok c.pair.new.self c.in_ok-pair.field-0 (v_pair (first vs) (second vs)) refl (let h = c.in_ok-first.ensures.cells vs k in c.in_ok-pair.ensures.cell (first vs) (second vs) h.0 h.1)
