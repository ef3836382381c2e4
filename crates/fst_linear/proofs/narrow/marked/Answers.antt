use Rattle.std.proofs.Common.{get_or, sym, subst}
use Rattle.std.specs.List.{All, Contains}
use Rattle.std.proofs.lemmas.List.Elements.{All-push, Contains-get_or}
use Rattle.fst_linear.proofs.narrow.marked.Goals as goal

pub loop-k-preserved : goal.loop-k-preserved
loop-k-preserved c =
    let live = c.args.live.now in
    let k = c.loop-k.k in
    subst (All (Contains live)) (sym c.in_ok-note.ensures)
    (All-push (Contains live) c.loop-k.places.items (get_or live k 0) c.loop-k.invariant (Contains-get_or live k 0 c.loop-k-test.true))
