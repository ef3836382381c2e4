use Rattle.std.proofs.Common.{◌≡◌, ◌+◌, ◌≤◌, suc, ◌^◌, arith, rules, subst}
use Rattle.fst_linear.specs.Derivations.{given_rows}
use Rattle.fst_linear.specs.Living.{Lives}
use Rattle.fst_linear.specs.Lifts.{LiftsOut}
use Rattle.fst_linear.proofs.DerivationLemmas.{derives-start}
use Rattle.fst_linear.proofs.SweepLemmas.{swept-done}
use Rattle.fst_linear.proofs.StartLemmas.{start-lives, start-lifts, end-unrefuted, lives-later, lifts-on, none-below}
use Rattle.fst_linear.proofs.elimination.eliminate.Goals as goal

pub loop-unknown-init : goal.loop-unknown-init
loop-unknown-init c =
    let given = c.args.given.now in
    let live = c.args.first.items in
    let s = c.requires.starting in
    let e = c.new-made.ensures.items in
    record {
      derives = rw e (derives-start (given_rows given));
      lives = rw e (start-lives given live s c.requires.ordered);
      lifts = rw e (start-lifts given live s c.requires.ordered);
      bound = omega arith;
    }

pub returns-in_default-clause-answered : goal.returns-in_default-clause-answered
returns-in_default-clause-answered c =
    let given = c.args.given.now in
    let made = c.loop-unknown.made.items in
    let live = c.loop-unknown.live.items in
    let b = rw (c.as_slice.ensures.value, c.as_slice-in-loop-unknown.ensures.value) at c.least_unknown.ensures in
    end-unrefuted given made c.loop-unknown.from live c.loop-unknown.invariant.lives c.loop-unknown.invariant.lifts c.least_unknown.result c.in_default.is b

pub eliminate_one-requires-clause-lives : goal.eliminate_one-requires-clause-lives
eliminate_one-requires-clause-lives c =
    let given = c.args.given.now in
    let made = c.loop-unknown.made.items in
    let live = c.loop-unknown.live.items in
    let b = rw (c.as_slice.ensures.value, c.as_slice-in-loop-unknown.ensures.value) at c.least_unknown.ensures in
    lives-later given made c.loop-unknown.from c.in-Some.unknown live c.loop-unknown.invariant.lives c.least_unknown.result c.in-Some.is b

pub loop-unknown-preserved : goal.loop-unknown-preserved
loop-unknown-preserved c =
    let given = c.args.given.now in
    let old = c.loop-unknown.made.items in
    let new = c.eliminate_one.new.made.items in
    let live = c.loop-unknown.live.items in
    let after = c.eliminate_one.new.live.items in
    let u = c.in-Some.unknown in
    let o = swept-done given new (LiftsOut given old new u live after) c.in_ok-eliminate_one.field-0 c.in-Done.is c.in_ok-eliminate_one.ensures.swept in
    let e : suc u ≡ c.from-from.result + 1 = omega (arith, c.from-from.ensures) in
    record {
      derives = c.eliminate_one.ensures.derives;
      lives = subst (λ k. Lives given new k after) e o.lives;
      lifts = lifts-on given old new u live after c.loop-unknown.invariant.lifts o;
      bound = (let f : u + 1 ≤ 2 ^ 32 = search rules in omega arith);
    }

pub returns-in-Refuted-clause-short : goal.returns-in-Refuted-clause-short
returns-in-Refuted-clause-short c =
    λ i l b. absurd (none-below c.args.given.now c.args.first.items c.requires.starting i l b)
