use Rattle.std.proofs.Common.{◌≡◌, pos, ◌+ℤ◌, ◌-ℤ◌, true, refl, ap, rules}
use Rattle.fst_rows.specs.Plain.{coefficients, plain_row}
use Rattle.fst_inequalities.proofs.InequalityLemmas.{difference-made, less-left, less-right}
use Rattle.fst_inequalities.proofs.rows.below.Goals as goal

pub returns-then-right-lt170141183460469231731687303715884105727 : goal.returns-then-right-lt170141183460469231731687303715884105727
returns-then-right-lt170141183460469231731687303715884105727 c = λ h k.
    let more : c.in_ok-right.right.constant ≡ c.args.right.now.constant +ℤ pos 1 = search rules in
    difference-made c.plus.result (plain_row c.args.left.now) (plain_row c.args.right.now) (plain_row c.args.left.now) (plain_row c.in_ok-right.right) h k refl (ap coefficients c.in_ok-right.ensures.coefs) true
    (less-right c.args.left.now.constant c.args.right.now.constant c.in_ok-right.right.constant more) c.plus.ensures.ok c.plus.ensures.ordered c.plus.ensures.narrow c.plus.ensures.past

pub returns-then-left-gtminus170141183460469231731687303715884105728 : goal.returns-then-left-gtminus170141183460469231731687303715884105728
returns-then-left-gtminus170141183460469231731687303715884105728 c = λ h k.
    let fewer : c.in_ok-left.left.constant ≡ c.args.left.now.constant -ℤ pos 1 = search rules in
    let made = c.plus-then-left-gtminus170141183460469231731687303715884105728.ensures in
    difference-made c.plus-then-left-gtminus170141183460469231731687303715884105728.result (plain_row c.args.left.now) (plain_row c.args.right.now) (plain_row c.in_ok-left.left) (plain_row c.args.right.now) h k (ap coefficients c.in_ok-left.ensures.coefs) refl true
    (less-left c.args.left.now.constant c.args.right.now.constant c.in_ok-left.left.constant fewer) made.ok made.ordered made.narrow made.past
