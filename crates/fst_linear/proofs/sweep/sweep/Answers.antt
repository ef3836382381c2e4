use Rattle.std.proofs.Common.{arith, get_or, refl}
use Rattle.fst_linear.proofs.SweepLemmas.{grows-on, alive-grown, lives-grown, sweeps-more, opposite-grown, paired-new}
use Rattle.fst_linear.proofs.sweep.sweep.Goals as goal

pub loop-j-preserved : goal.loop-j-preserved
loop-j-preserved c =
    let given = c.args.given.now in
    let first = c.args.made.now.items in
    let old = c.loop-j.made.items in
    let new = c.cancel.new.made.items in
    let u = c.args.unknown in
    let i = c.args.i in
    let n = c.loop-j.j-index in
    let downs = c.args.downs.now in
    let j = get_or downs n 0 in
    let g = c.loop-j.invariant.grows in
    let p = paired-new given old new u i j c.in-New.k c.in_ok-k.field-0 c.in-New.is c.in_ok-k.ensures.paired in
    let li = c.requires.i in
    let lj = c.requires.lives.within n 0 (omega arith) in
    let e = sweeps-more given old new u i j c.in-New.k n downs c.args.after.now.items c.loop-j.after.items c.cancel.ensures.grows (omega (arith, li, g.longer)) (omega (arith, lj, g.longer))
    (alive-grown given first old u i g li c.requires.alive) (alive-grown given first old u j g lj (c.requires.lives.alive n 0 (omega arith)))
    (opposite-grown given first old u i j g li lj c.requires.up (c.requires.downs n 0 (omega arith)))
    p.0 p.1 p.2 (lives-grown given first old u downs g c.requires.lives) (omega arith) refl c.loop-j.invariant.sweeps in
    record {
      derives = c.cancel.ensures.derives;
      grows = grows-on given first old new g c.cancel.ensures.grows;
      sweeps = rw c.in_ok-note-in-New.ensures e;
    }
