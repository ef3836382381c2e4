use Rattle.fst_linear.proofs.LiftLemmas.{swept-lifted}
use Rattle.fst_linear.proofs.elimination.eliminate_one.Goals as goal

pub returns-clause-swept : goal.returns-clause-swept
returns-clause-swept c =
    let s = rw (c.as_slice.ensures.value, c.as_slice-2.ensures.value) at c.in_ok-signs.ensures in
    let w = rw (c.as_slice-3.ensures.value, c.as_slice-4.ensures.value) at c.in_ok-turn.ensures.swept in
    swept-lifted c.args.given.now c.args.made.now.items c.sweep_all.new.made.items c.args.unknown c.args.live.now.items _ _ _ c.sweep_all.new.after.items c.sweep_all.ensures.grows c.requires.lives s c.in_ok-turn.turn w
