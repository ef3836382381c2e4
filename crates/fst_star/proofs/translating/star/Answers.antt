use Rattle.std.proofs.Common.{[], ◌∙◌}
use Rattle.std.proofs.lemmas.Result.{IfOk-weaker}
use Rattle.fst_base.specs.Sorts.{plain_sort}
use Rattle.fst_program.specs.Plain.{plain_dm}
use Rattle.fst_star.specs.Plain.{plain_wp}
use Rattle.fst_scopes.specs.Scopes.{terms_for, sorts_in}
use Rattle.fst_star.proofs.TranslatingLemmas.{olds-unread}
use Rattle.fst_star.proofs.translating.star.Goals as goal

pub returns : goal.returns
returns c = IfOk-weaker c.star_at.result _ _
    (λ made e olds. e ∙ olds-unread (plain_sort c.args.bodies.now.first_sort) (plain_sort c.args.bodies.now.second_sort) (plain_wp c.args.bodies.now.first) (plain_wp c.args.bodies.now.second)
    (sorts_in c.args.place.now.sorts) [] olds (terms_for c.args.place.now.terms) c.args.place.now.depth (plain_dm c.args.text.now))
    c.star_at.ensures
