use Rattle.std.proofs.Common.{◌&&◌, sym, ap₂, ◌∙◌}
use Rattle.fst_lattice.specs.Tables.{reaches}
use Rattle.fst_lattice.proofs.TableLemmas.{below-found}
use Rattle.fst_lattice.proofs.rules.is_joined.Goals as goal

pub returns-then-reaches-2 : goal.returns-then-reaches-2
returns-then-reaches-2 c =
    sym (below-found c.args.count (λ E. reaches c.args.rows.now c.args.lift.now.to E && reaches c.args.rows.now c.args.lower E) c.loop-upper.upper c.loop-upper-test.true
    (ap₂ ◌&&◌ (sym c.reaches.ensures ∙ c.if-reaches.true) (sym c.reaches-then-reaches.ensures ∙ c.if-reaches-2.true)))
