use Rattle.std.proofs.Common.{arith}
use Rattle.fst_values.proofs.DigitLemmas.{where_ok, last_digit, only_digit}
use Rattle.fst_values.proofs.print.+print_digits.Goals as goal

pub returns-then-number-ge10-clause-ok : goal.returns-then-number-ge10-clause-ok
returns-then-number-ge10-clause-ok t c = where_ok c.push.result (λ e. last_digit _ _ _ _ c.if-number-ge10.true (omega arith) c.in_ok-print_digits.ensures.ok e) c.push.ensures.ok

pub returns-clause-ok : goal.returns-clause-ok
returns-clause-ok t c = where_ok c.push-2.result (λ e. only_digit _ _ _ c.if-number-ge10.false e) c.push-2.ensures.ok
