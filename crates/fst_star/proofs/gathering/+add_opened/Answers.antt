use Rattle.std.proofs.Common.{◌∙◌, ◌++◌, map, ap, ap₂, sym}
use Rattle.std.proofs.lemmas.Result.{on_ok_weaker}
use Rattle.fst_terms.specs.Terms.{plain_term}
use Rattle.fst_program.specs.Paths.{suppose}
use Rattle.fst_star.specs.Met.{met_opened, plain_event, plain_trail}
use Rattle.fst_star.proofs.OpenedLemmas.{opened-guarded, opened-plain}
use Rattle.fst_star.proofs.gathering.+add_opened.Goals as goal

pub returns-then-not-guarded : goal.returns-then-not-guarded
returns-then-not-guarded t c = on_ok_weaker c.add_site.result
    (λ e. e ∙ ap (λ es. map plain_event c.args.met.now ++ es) (opened-plain c.args.at.at (plain_term c.args.formula.now) (plain_trail c.args.trail.now) (sym c.guarded.ensures ∙ c.if-not-guarded.true))) c.add_site.ensures

pub returns-in_ok-inner-in-If : goal.returns-in_ok-inner-in-If
returns-in_ok-inner-in-If t c = on_ok_weaker c.add_opened.result
    (λ e. e ∙ ap (λ es. map plain_event c.args.met.now ++ es)
    (ap₂ (λ l w. met_opened c.args.at.at (plain_term l) w) c.get-in-If.ensures
    (c.in_ok-inner-in-If.ensures ∙ ap (λ t. suppose (plain_term t) (plain_trail c.args.trail.now)) (c.in_ok-copy-in-If.ensures ∙ c.get.ensures))
    ∙ sym (opened-guarded c.args.at.at c.args.formula.now c.in-If.test c.in-If.left c.in-If.field-2 (plain_trail c.args.trail.now) c.in-If.is (sym c.guarded.ensures ∙ c.if-not-guarded.false))))
    c.add_opened.ensures
