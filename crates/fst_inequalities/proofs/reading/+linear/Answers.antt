use Rattle.fst_terms.specs.Flats.{plain_flat}
use Rattle.fst_inequalities.proofs.WeightLemmas.{prim-opaque}
use Rattle.fst_inequalities.proofs.reading.+linear.Goals as goal

pub linear_prim-opaque-requires-clause-opaque : goal.linear_prim-opaque-requires-clause-opaque
linear_prim-opaque-requires-clause-opaque t c = prim-opaque (plain_flat c.args.flat.now) c.args.op c.args.args.now _ c.if-args-eq1.false c.if-args-eq2.false c.requires.term
