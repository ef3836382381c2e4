use Rattle.std.proofs.Common.{◌≡◌, ◌++◌, map, length}
use Rattle.fst_terms.specs.Meaning.{plain_var}
use Rattle.fst_terms.specs.Terms.{plain_term}
use Rattle.fst_top.specs.Printed.{marks_text}
use Rattle.fst_top.proofs.print.branch.print_marks.Given as goal

abbrev pub invariant-marks : goal.invariant-marks
invariant-marks l = l.out ++ marks_text (map plain_var l.vars) (map plain_term l.atoms) l.marks ≡ l.fn.out ++ marks_text (map plain_var l.fn.vars) (map plain_term l.fn.atoms) l.fn.marks

abbrev pub decreases-marks : goal.decreases-marks
decreases-marks l = length l.atoms
