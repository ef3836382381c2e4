use Rattle.std.proofs.Common.{◌∙◌, sym, arith}
use Rattle.fst_base.specs.Values.{same}
use Rattle.fst_cells.proofs.MakeLemmas.{and-false, and-true}
use Rattle.fst_cells.proofs.store.Store.+same.Goals as goal

pub returns-in_default : goal.returns-in_default
returns-in_default t c = λ v w k l. let h = c.parts.invariant.1 v w k l in absurd (c.in_default.ensures.value h.0 h.2.0)

pub returns-in_default-get : goal.returns-in_default-get
returns-in_default-get t c = λ v w k l. let h = c.parts.invariant.1 v w k l in absurd (c.in_default-get.ensures.value h.1 h.2.1)

pub returns-in-Same : goal.returns-in-Same
returns-in-Same t c = λ v w k l.
    let h = c.parts.invariant.1 v w k l in
    sym (h.2.2 ∙ c.in-Same.ensures.is c.args.self.now h.0 h.1 (c.in-Some.ensures.value h.0 h.2.0) (c.in-Some-get.ensures.value h.1 h.2.1))

pub returns-in-Other : goal.returns-in-Other
returns-in-Other t c = λ v w k l.
    let h = c.parts.invariant.1 v w k l in
    sym (h.2.2 ∙ c.in-Other.ensures.is c.args.self.now h.0 h.1 (c.in-Some.ensures.value h.0 h.2.0) (c.in-Some-get.ensures.value h.1 h.2.1))

pub parts-smaller-in-Parts : goal.parts-smaller-in-Parts
parts-smaller-in-Parts t c = c.in-Parts.ensures.below c.parts.a.at c.in-Some.ensures.below

pub parts-preserved-in-Parts : goal.parts-preserved-in-Parts
parts-preserved-in-Parts t c = (
  omega (arith, c.parts.invariant.0, c.in-Parts.ensures.below c.parts.a.at c.in-Some.ensures.below),
  λ v w k l.
      let h = c.parts.invariant.1 v w k l in
      let r = c.in-Parts.ensures.is c.args.self.now h.0 h.1 (c.in-Some.ensures.value h.0 h.2.0) (c.in-Some-get.ensures.value h.1 h.2.1) in
      (r.0, r.1, (r.2.0, r.2.1, h.2.2 ∙ r.2.2)),
)

pub same-requires : goal.same-requires
same-requires t c = (let b = c.in-TwoParts.ensures.below c.parts.a.at c.in-Some.ensures.below in omega (arith, c.parts.invariant.0, b.0), tt)

pub returns-then-not-same : goal.returns-then-not-same
returns-then-not-same t c = λ v w k l.
    let h = c.parts.invariant.1 v w k l in
    let r = c.in-TwoParts.ensures.is c.args.self.now h.0 h.1 (c.in-Some.ensures.value h.0 h.2.0) (c.in-Some-get.ensures.value h.1 h.2.1) in
    sym (h.2.2 ∙ r.4.4 ∙ and-false (same r.0 r.1) (same r.2 r.3) c.same.result (c.same.ensures r.0 r.1 r.4.0 r.4.1) c.if-not-same.true)

pub parts-smaller : goal.parts-smaller
parts-smaller t c = (c.in-TwoParts.ensures.below c.parts.a.at c.in-Some.ensures.below).1

pub parts-preserved : goal.parts-preserved
parts-preserved t c = (
  omega (arith, c.parts.invariant.0, (c.in-TwoParts.ensures.below c.parts.a.at c.in-Some.ensures.below).1),
  λ v w k l.
      let h = c.parts.invariant.1 v w k l in
      let r = c.in-TwoParts.ensures.is c.args.self.now h.0 h.1 (c.in-Some.ensures.value h.0 h.2.0) (c.in-Some-get.ensures.value h.1 h.2.1) in
      (r.2, r.3, (r.4.2, r.4.3, h.2.2 ∙ r.4.4 ∙ and-true (same r.0 r.1) (same r.2 r.3) c.same.result (c.same.ensures r.0 r.1 r.4.0 r.4.1) c.if-not-same.false)),
)
