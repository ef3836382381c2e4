use Rattle.std.proofs.Common.{◌&&◌, sym, ap₂, ◌∙◌}
use Rattle.fst_lattice.specs.Tables.{reaches, some_below}
use Rattle.fst_lattice.proofs.TableLemmas.{below-found}
use Rattle.fst_lattice.proofs.rules.makes_second_path.Goals as goal

pub returns-then-is_joined : goal.returns-then-is_joined
returns-then-is_joined c =
    sym (below-found c.args.count (λ D. reaches c.args.rows.now D c.args.lift.now.from && some_below c.args.count (λ E. reaches c.args.rows.now c.args.lift.now.to E && reaches c.args.rows.now D E)) c.loop-lower.lower c.loop-lower-test.true
    (ap₂ ◌&&◌ (sym c.reaches.ensures ∙ c.if-reaches.true) (sym c.is_joined.ensures ∙ c.if-is_joined.true)))
