use Rattle.std.proofs.Common.{rules, FitsSigned, of_z, map, ap, ◌∙◌}
use Rattle.std.proofs.lemmas.Int.{to_z-of_z}
use Rattle.std.proofs.lemmas.Result.{on_ok_weaker}
use mir.Syntax.{w128}
use Rattle.fst_terms.specs.Same.{firsts}
use Rattle.fst_terms.specs.Terms.{plain_term}
use Rattle.fst_flats.proofs.DataLemmas.{rows-other}
use Rattle.fst_flats.proofs.division_facts.add_remainder_facts.Goals as goal

pub returns : goal.returns
returns c =
    let f : FitsSigned w128 c.args.by = search rules in
    let u = simp to_z-of_z at c.add_remainder.ensures in
    on_ok_weaker c.add_remainder.result
    (λ e. e ∙ ap (firsts (map plain_term c.args.facts.now)) (rows-other (plain_term c.args.term.now) c.args.by (plain_term c.args.whole.now) (λ e. c.if-by-eq0.false (ap (of_z w128) e))))
    u
