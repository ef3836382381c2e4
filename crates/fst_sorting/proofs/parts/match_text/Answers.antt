use Rattle.fst_sorting.proofs.CoreLemmas.{match-made}
use Rattle.fst_sorting.proofs.parts.match_text.Goals as goal

pub returns : goal.returns
returns c = match-made c.made.result c.args.form c.args.arms c.in_ok-form.form c.args.at c.in_ok-form.arms c.in_ok-form.ensures.ok.0 c.in_ok-form.ensures.ok.1 c.made.ensures
