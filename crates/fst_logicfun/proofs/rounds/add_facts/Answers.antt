use Rattle.std.proofs.Common.{◌∙◌, map, ap}
use Rattle.fst_logicfun.specs.Rounds.{each_of}
use Rattle.fst_program.specs.Plain.{plain_program}
use Rattle.fst_terms.specs.Cleared.{cleared}
use Rattle.fst_terms.specs.Formulas.{vars_from}
use Rattle.fst_terms.specs.Terms.{plain_term}
use Rattle.fst_logicfun.proofs.RoundLemmas.{facts-more, appended-is}
use Rattle.fst_logicfun.proofs.rounds.add_facts.Goals as goal

pub loop-term-preserved : goal.loop-term-preserved
loop-term-preserved c =
    let us = vars_from 0 c.args.n in
    let each = each_of (plain_program c.args.program.now) c.args.which.now in
    facts-more us each _ _ _ c.args.terms.now c.loop-term.term-index c.term-item.result c.loop-term-test.true c.loop-term.invariant
    (appended-is _ _ _ _ c.in_ok-append.ensures.ok (c.in_ok-more.ensures ∙ ap (λ t. map (cleared us) (each (plain_term t))) c.term-item.is))
