use Rattle.std.proofs.Common.{rules, FitsSigned, ap, ◌∙◌}
use Rattle.std.proofs.lemmas.Int.{to_z-of_z}
use Rattle.std.proofs.lemmas.Result.{on_ok_weaker}
use mir.Syntax.{w128}
use Rattle.fst_terms.specs.DataFacts.{quotient_facts}
use Rattle.fst_terms.specs.Same.{firsts}
use Rattle.fst_terms.specs.Terms.{plain_term}
use Rattle.fst_flats.proofs.division_facts.add_remainder.Goals as goal

pub returns : goal.returns
returns c =
    let f : FitsSigned w128 c.args.by = search rules in
    let m = simp to_z-of_z at c.remainder.ensures in
    let u = simp to_z-of_z at c.add_bounds.ensures in
    on_ok_weaker c.add_bounds.result
    (λ e. e ∙ ap (λ m. firsts m (quotient_facts (plain_term c.args.term.now) c.args.by)) (c.in_ok-add_made.ensures _ m))
    u
