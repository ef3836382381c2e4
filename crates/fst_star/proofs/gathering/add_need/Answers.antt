use Rattle.std.proofs.Common.{◌∙◌, ◌++◌, map, ap}
use Rattle.std.proofs.lemmas.Result.{on_ok_weaker}
use Rattle.fst_terms.specs.Terms.{plain_term}
use Rattle.fst_star.specs.Met.{plain_event, plain_trail}
use Rattle.fst_star.proofs.OpenedLemmas.{need-divisor, need-other}
use Rattle.fst_star.proofs.gathering.add_need.Goals as goal

pub returns-in-Divisor : goal.returns-in-Divisor
returns-in-Divisor c = on_ok_weaker c.add_opened.result (λ e. e ∙ ap (λ es. map plain_event c.args.met.now ++ es) (need-divisor c.args.kind c.args.at.at (plain_term c.args.formula.now) (plain_trail c.args.trail.now) c.in-Divisor.is)) c.add_opened.ensures

pub returns-in_default : goal.returns-in_default
returns-in_default c = on_ok_weaker c.add_site.result (λ e. e ∙ ap (λ es. map plain_event c.args.met.now ++ es) (need-other c.args.kind c.args.at.at (plain_term c.args.formula.now) (plain_trail c.args.trail.now) c.in_default.not-Divisor)) c.add_site.ensures
