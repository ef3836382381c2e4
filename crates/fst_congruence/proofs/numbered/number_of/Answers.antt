use Rattle.std.proofs.Common.{map, sym}
use Rattle.fst_terms.specs.Terms.{plain_term}
use Rattle.fst_congruence.proofs.HeadLemmas.{number-is}
use Rattle.fst_congruence.proofs.numbered.number_of.Goals as goal

pub returns-then-is_at : goal.returns-then-is_at
returns-then-is_at c =
    let right = c.is_at.ensures c.if-is_at.true in
    sym (number-is (map plain_term c.args.terms.now) c.guess-likely.result (plain_term c.args.term.now) c.requires right.0 right.1)
