use Rattle.std.proofs.Common.{rules}
use Rattle.fst_base.specs.Primitives.{In128}
use Rattle.fst_inequalities.proofs.FormLemmas.{number-made}
use Rattle.fst_inequalities.proofs.forms.number.Goals as goal

pub returns : goal.returns
returns c =
    let fits = c.ranges.value in
    λ f. number-made f c.args.value _ (search rules) c.new.ensures (let i : In128 c.args.value = search rules in i)
