use Rattle.std.proofs.Common.{refl}
use Rattle.fst_rows.specs.Plain.{plain_row}
use Rattle.fst_inequalities.proofs.InequalityLemmas.{difference-made, not-less}
use Rattle.fst_inequalities.proofs.rows.difference.Goals as goal

pub returns-else-less : goal.returns-else-less
returns-else-less c = λ h k.
    difference-made c.plus.result (plain_row c.args.left.now) (plain_row c.args.right.now) (plain_row c.args.left.now) (plain_row c.args.right.now) h k refl refl c.args.less
    (not-less c.args.left.now.constant c.args.right.now.constant c.args.less c.if-less.false) c.plus.ensures.ok c.plus.ensures.ordered c.plus.ensures.narrow c.plus.ensures.past
