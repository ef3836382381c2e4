use Rattle.std.proofs.Common.{sym, subst}
use Rattle.fst_base.specs.Sorts.{plain_sort}
use Rattle.fst_cells.specs.Made.{OperandsAre, Makes}
use Rattle.fst_cells.proofs.MakeLemmas.{cells-operands}
use Rattle.fst_cells.proofs.store.Store.make.Goals as goal

pub returns-clause-makes : goal.returns-clause-makes
returns-clause-makes c = λ vs k.
    let m = c.args.self.now in
    subst (λ os. Makes c.args.op os (plain_sort c.args.sort.now) vs m c.apply.new.self c.apply.result) c.of.ensures
    (c.apply.ensures.makes vs (subst (λ os. OperandsAre m os vs) (sym c.of.ensures) (cells-operands m c.args.args.now vs k)))
