use Rattle.std.proofs.Common.{◌≡◌, map, ap, ◌∙◌}
use Rattle.std.proofs.lemmas.Result.{on_ok_weaker}
use Rattle.fst_congruence.specs.Numbered.{number_of}
use Rattle.fst_shapes.specs.Preparing.{sorts_in}
use Rattle.fst_shapes.proofs.BuildingLemmas.{made-is}
use Rattle.fst_terms.specs.FlatForms.{components}
use Rattle.fst_terms.specs.Terms.{plain_term}
use Rattle.fst_cases.proofs.AlwaysLemmas.{term-get, put-none, put-some}
use Rattle.fst_cases.proofs.always.put_pair.Goals as goal

pub returns-then-right-eq0 : goal.returns-then-right-eq0
returns-then-right-eq0 c =
    let ts = map plain_term c.args.terms.now in
    put-none c.args.equations.now _ c.in_ok-right.right _
    (c.in_ok-right.ensures ∙ ap (λ t. number_of ts (plain_term t)) c.get.ensures ∙ ap (number_of ts) (made-is c.components.result _ _ c.in_ok-pair.ensures c.components.ensures)
    ∙ ap (λ t. number_of ts (components (sorts_in c.args.sorts.now) t)) (term-get c.args.terms.now c.args.at c.index-terms-at.result c.index-terms-at.is c.requires.at))
    c.if-right-eq0.true

pub returns : goal.returns
returns c =
    let ts = map plain_term c.args.terms.now in
    on_ok_weaker c.push.result
    (put-some c.args.equations.now _ c.in_ok-left.left _ c.in_ok-right.right _ c.in_ok-left.ensures
    (c.in_ok-right.ensures ∙ ap (λ t. number_of ts (plain_term t)) c.get.ensures ∙ ap (number_of ts) (made-is c.components.result _ _ c.in_ok-pair.ensures c.components.ensures)
    ∙ ap (λ t. number_of ts (components (sorts_in c.args.sorts.now) t)) (term-get c.args.terms.now c.args.at c.index-terms-at.result c.index-terms-at.is c.requires.at))
    c.if-right-eq0.false)
    c.push.ensures.ok
