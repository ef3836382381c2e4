use Rattle.std.proofs.Common.{◌∙◌, ◌∷◌, ap₂}
use Rattle.fst_terms.proofs.PlainLemmas.{plain-term-Var}
use Rattle.fst_star.proofs.WayLemmas.{raised-terms}
use Rattle.fst_star.proofs.putting.under.Goals as goal

pub returns : goal.returns
returns c = c.in_ok-made.ensures ∙ ap₂ ◌∷◌ (plain-term-Var 0) (raised-terms c.args.terms.now c.in_ok-raise_terms.field-0 c.in_ok-raise_terms.ensures)
