use Rattle.std.proofs.Common.{◌≡◌, map, ap, ◌∙◌}
use Rattle.std.proofs.lemmas.Result.{IfOk-weaker, IfOk-at_ok}
use Rattle.fst_terms.specs.Terms.{plain_term}
use Rattle.fst_terms.specs.Skeletons.{turned}
use Rattle.fst_shapes.proofs.ShapeLemmas.{number-first}
use Rattle.fst_shapes.proofs.shapes.number_of.Goals as goal

pub returns : goal.returns
returns c =
    IfOk-weaker c.first_either.result _ _
    (λ number e. e ∙ number-first (map plain_term c.args.atoms.now) (plain_term c.args.term.now) _
    (ap plain_term c.get.ensures ∙ IfOk-at_ok (λ made. plain_term made ≡ turned (plain_term c.args.term.now)) c.in_ok-other.ensures c.turned.ensures))
    c.first_either.ensures
