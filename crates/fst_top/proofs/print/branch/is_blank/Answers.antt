use Rattle.std.proofs.Common.{◌∙◌, ap, codes, nat_eq}
use lib.Pointwise.{pointwise}
use Rattle.fst_top.proofs.NamedLemmas.{pointwise-same}
use Rattle.fst_top.proofs.print.branch.is_blank.Goals as goal

pub returns : goal.returns
returns c = c.eq.ensures ∙ ap (λ t. pointwise nat_eq t (codes "_")) c.text.ensures ∙ pointwise-same c.args.name.now (codes "_")
