use Rattle.std.proofs.Common.{arith, get_or, length}
use Rattle.fst_linear.specs.Living.{Sweeps}
use Rattle.fst_linear.proofs.SweepLemmas.{grows-on, lives-grown, sweeps-all-more, swept-done}
use Rattle.fst_linear.proofs.sweep.sweep_all.Goals as goal

pub loop-i-preserved : goal.loop-i-preserved
loop-i-preserved c =
    let given = c.args.given.now in
    let first = c.args.made.now.items in
    let old = c.loop-i.made.items in
    let new = c.sweep.new.made.items in
    let u = c.args.unknown in
    let m = c.loop-i.i-index in
    let ups = c.args.ups.now in
    let downs = c.args.downs.now in
    let i = get_or ups m 0 in
    let g = c.loop-i.invariant.grows in
    let s = swept-done given new (Sweeps given new u i downs (length downs) c.loop-i.after.items c.sweep.new.after.items) c.in_ok-sweep.field-0 c.in-Done.is c.in_ok-sweep.ensures.swept in
    record {
      derives = c.sweep.ensures.derives;
      grows = grows-on given first old new g c.sweep.ensures.grows;
      sweeps = sweeps-all-more given old new u m ups downs c.args.after.now.items c.loop-i.after.items c.sweep.new.after.items c.sweep.ensures.grows
          (lives-grown given first old u ups g c.requires.ups_live) (lives-grown given first old u downs g c.requires.downs_live) (omega arith) c.loop-i.invariant.sweeps s;
    }
