use Rattle.std.proofs.Common.{◌≡◌, [], map, ap, ◌∙◌, arith}
use Rattle.fst_logicfun.specs.Rounds.{each_of, next}
use Rattle.fst_program.specs.Plain.{plain_program}
use Rattle.fst_terms.specs.DataFacts.{again}
use Rattle.fst_terms.specs.Formulas.{vars_from}
use Rattle.fst_terms.specs.Terms.{plain_term}
use Rattle.fst_logicfun.proofs.RoundLemmas.{turn-start, turn-more}
use Rattle.fst_logicfun.proofs.rounds.rounds.Goals as goal

pub loop-turn-init : goal.loop-turn-init
loop-turn-init c =
    (omega arith, turn-start (vars_from 0 c.args.n) (each_of (plain_program c.args.program.now) c.args.which.now) (map plain_term c.args.formulas.now) _ _ _ c.new-applications.ensures c.new-facts.ensures c.in_ok-add_applications.ensures)

pub loop-turn-preserved : goal.loop-turn-preserved
loop-turn-preserved c =
    let phis = map plain_term c.args.formulas.now in (
      omega arith,
      turn-more (vars_from 0 c.args.n) (each_of (plain_program c.args.program.now) c.args.which.now) phis _ _ _ _ _ _ c.loop-turn.turn c.loop-turn.invariant.1 c.len-before.ensures (c.in_ok-round.ensures phis),
    )

pub returns : goal.returns
returns c =
    let last : c.loop-turn.turn ≡ c.args.count = omega arith in
    c.loop-turn.invariant.1.1 ∙ ap (λ k. again k (next (vars_from 0 c.args.n) (each_of (plain_program c.args.program.now) c.args.which.now) (map plain_term c.args.formulas.now)) []) last
