use Rattle.std.proofs.Common.{◌≡◌, ◌+◌, ◌≤◌, suc, ◌^◌, [], arith, rules, subst}
use Rattle.fst_linear.specs.Derivations.{given_rows}
use Rattle.fst_linear.specs.Living.{Lives}
use Rattle.fst_linear.specs.Lifts.{LiftsOut}
use Rattle.fst_linear.proofs.DerivationLemmas.{derives-start}
use Rattle.fst_linear.proofs.SweepLemmas.{swept-done}
use Rattle.fst_linear.proofs.StartLemmas.{start-lives, lives-later, lives-among, none-below}
use Rattle.fst_linear.proofs.narrow.narrow.Goals as goal

pub loop-unknown-init : goal.loop-unknown-init
loop-unknown-init c =
    let given = c.args.given.now in
    let e = c.new-made.ensures.items in
    let among = c.in_ok-live.ensures in
    record {
      derives = rw e (derives-start (given_rows given));
      lives = rw e (lives-among given [] 0 c.args.first.now c.in_ok-live.live.items (start-lives given c.args.first.now c.requires.starting c.requires.ordered) among);
      bound = omega arith;
    }

pub eliminate_one-requires-clause-lives : goal.eliminate_one-requires-clause-lives
eliminate_one-requires-clause-lives c =
    let given = c.args.given.now in
    let made = c.loop-unknown.made.items in
    let live = c.loop-unknown.live.items in
    let b = rw (c.as_slice-in-loop-unknown.ensures.value, c.as_slice-in-loop-unknown-2.ensures.value) at c.least_unknown.ensures in
    lives-later given made c.loop-unknown.from c.in-Some.unknown live c.loop-unknown.invariant.lives c.least_unknown.result c.in-Some.is b

pub loop-unknown-preserved : goal.loop-unknown-preserved
loop-unknown-preserved c =
    let given = c.args.given.now in
    let old = c.loop-unknown.made.items in
    let new = c.eliminate_one.new.made.items in
    let live = c.loop-unknown.live.items in
    let after = c.eliminate_one.new.live.items in
    let u = c.in-Some.unknown in
    let o = swept-done given new (LiftsOut given old new u live after) c.in_ok-eliminate_one.field-0 c.in-Done.is c.in_ok-eliminate_one.ensures.swept in
    let e : suc u ≡ c.from-from.result + 1 = omega (arith, c.from-from.ensures) in
    let among = rw c.as_slice-in-loop-unknown-4.ensures.value at c.in_ok-live-2.ensures in
    record {
      derives = c.eliminate_one.ensures.derives;
      lives = subst (λ k. Lives given new k c.in_ok-live-2.live.items) e (lives-among given new (suc u) after c.in_ok-live-2.live.items o.lives among);
      bound = (let f : u + 1 ≤ 2 ^ 32 = search rules in omega arith);
    }

pub returns-in-Refuted-clause-short : goal.returns-in-Refuted-clause-short
returns-in-Refuted-clause-short c = λ i l b. absurd (none-below c.args.given.now c.args.first.now c.requires.starting i l b)
