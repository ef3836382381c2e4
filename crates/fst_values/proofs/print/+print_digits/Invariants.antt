use Rattle.fst_values.proofs.print.+print_digits.Given as goal

abbrev pub decreases-print_digits : goal.decreases-print_digits
decreases-print_digits l = l.number
