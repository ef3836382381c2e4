use Rattle.std.proofs.Common.{map, sym, ap, ◌∙◌, ◌++◌}
use Rattle.std.proofs.lemmas.List.{append-nil}
use Rattle.std.proofs.lemmas.Result.{on_ok_weaker}
use Rattle.fst_flats.specs.Preparing.{sorts_in}
use Rattle.fst_terms.specs.Terms.{plain_term}
use Rattle.fst_flats.proofs.ArrangementLemmas.{with-each, with-none}
use Rattle.fst_flats.proofs.arrangements.arrange_with.Goals as goal

pub returns-then-is_arranged : goal.returns-then-is_arranged
returns-then-is_arranged c =
    on_ok_weaker c.arrange_each.result
    (λ e. e ∙ ap (λ xs. map plain_term c.args.made.now ++ xs)
    (with-each (sorts_in c.args.sorts.now) (plain_term c.args.term.now) (map plain_term c.args.later.now) (sym c.is_arranged.ensures ∙ c.if-is_arranged.true)))
    c.arrange_each.ensures

pub returns : goal.returns
returns c =
    sym (ap (λ xs. map plain_term c.args.made.now ++ xs)
    (with-none (sorts_in c.args.sorts.now) (plain_term c.args.term.now) (map plain_term c.args.later.now) (sym c.is_arranged.ensures ∙ c.if-is_arranged.false))
    ∙ append-nil (map plain_term c.args.made.now))
