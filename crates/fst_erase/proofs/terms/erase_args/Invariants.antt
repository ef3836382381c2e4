use Rattle.std.proofs.Common.{◌≡◌, ◌++◌, map, reverse, drop}
use Rattle.fst_terms.specs.Terms.{plain_term}
use Rattle.fst_program.specs.Plain.{plain_param}
use Rattle.fst_erase.specs.Parts.{shown_args}
use Rattle.fst_erase.proofs.terms.erase_args.Given as goal

abbrev pub invariant-loop-at : goal.invariant-loop-at
invariant-loop-at l = (l.scope ≡ l.fn.scope) × (map plain_term l.made ++ shown_args (reverse l.fn.scope) (drop l.at (map plain_param l.params)) (map plain_term (drop l.at l.args)) ≡ shown_args (reverse l.fn.scope) (map plain_param l.params) (map plain_term l.args))
