use Rattle.fst_terms.specs.Terms.{plain_term}
use Rattle.fst_logicfun.specs.Turns.{dm_arms_in}
use Rattle.fst_logicfun.proofs.DmForms.{match-by}
use Rattle.fst_logicfun.proofs.definition_turns.match_turn.Goals as goal

pub returns : goal.returns
returns c =
    match-by c.args.header.now c.args.at.now (plain_term c.args.term.now) (dm_arms_in c.args.arms.now) _ _ _ _ _ _ _ _ _ c.in_ok-term.ensures c.get.ensures c.in_ok-sort.ensures c.first_con.ensures
    c.get-2.ensures c.get-3.ensures c.in_ok-ways.ensures c.as_slice.ensures c.in_ok-arm_ways.ensures
