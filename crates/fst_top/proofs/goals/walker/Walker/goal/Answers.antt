use Rattle.fst_top.proofs.WayLemmas.{goal-made}
use Rattle.fst_top.proofs.goals.walker.Walker.goal.Goals as goal

pub returns : goal.returns
returns c = goal-made c.args.self.now.number c.args.self.now.fun.now c.args.way.now _ _ _ _ _ _ _ _ c.in_ok-choices.ensures c.as_slice-3.ensures c.in_ok-vars.ensures c.as_slice.ensures c.in_ok-hyps.ensures c.as_slice-2.ensures c.in_ok-goal.ensures
