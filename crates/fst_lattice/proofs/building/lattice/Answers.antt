use Rattle.std.proofs.Common.{rules, ◌≡◌, ◌⊎◌, ◌<◌, ◌≤◌, true, length, map, List, None, Some, get_or, slice_index_or, sym, ap, ◌∙◌, subst, arith}
use Rattle.std.proofs.lemmas.List.{length-map}
use Rattle.fst_base.specs.declared.rule.Rule.{Rule}
use Rattle.fst_base.specs.declared.rule.Rule.TheVariants as rule
use Rattle.fst_program.specs.declared.definition.EffectDef.{EffectDef}
use Rattle.fst_program.specs.Plain.{plain_effect, plain_lift}
use Rattle.fst_lattice.specs.Lattices.{AreWithin, Lowers}
use Rattle.fst_lattice.specs.Tables.{tabled, next_step, second_path}
use Rattle.fst_lattice.proofs.LatticeLemmas.{lift-at, place-at, next-added, refused-here, begun, ended}
use Rattle.fst_lattice.proofs.building.lattice.Goals as goal

pub loop-number-init : goal.loop-number-init
loop-number-init c =
    let Es = map plain_effect c.args.effects.now in
    let n : c.in-Ok.count ≡ length Es = c.in-Ok.ensures.1 ∙ c.len.ensures ∙ sym (length-map c.args.effects.now plain_effect) in
    let r : c.in_ok-rows.rows ≡ tabled (λ D. tabled (λ E. None) c.in-Ok.count) c.in-Ok.count = search rules in
    record { added = begun Es c.in-Ok.count c.in_ok-rows.rows n r; count = n }

pub returns-in-Some-clause-refused : goal.returns-in-Some-clause-refused
returns-in-Some-clause-refused c = λ broken at e.
    let Es = map plain_effect c.args.effects.now in
    let ls = map plain_lift c.args.lifts.now in
    let k = c.loop-number.number in
    let t = c.loop-number-test.true in
    let m = c.len-number-end.ensures in
    let less : k < length c.args.lifts.now = omega (arith, t, m) in
    let p = c.requires.places in
    let lesser : k < length c.args.places.now = omega (arith, less, p) in
    let l = plain_lift c.index-as_slice-number.result in
    let there = lift-at c.args.lifts.now k c.index-as_slice-number.result less (subst (λ xs. c.index-as_slice-number.result ≡ get_or xs k c.index-as_slice-number.result) c.as_slice.ensures c.index-as_slice-number.is) in
    let first : slice_index_or c.as_slice-in-Some.result.now k (record { at = 0 }) ≡ at = cc in
    let same : c.in-Some.rule ≡ broken = cc in
    let place = place-at c.args.places.now k (record { at = 0 }) lesser ∙ ap Some (ap (λ xs. slice_index_or xs k (record { at = 0 })) (sym c.as_slice-in-Some.ensures) ∙ first) in
    let Says : List EffectDef → Rule → Type 0 = λ es r. ((r ≡ rule.NoLift) × Lowers (map plain_effect es) l) ⊎ ((r ≡ rule.TwoPaths) × (Lowers (map plain_effect es) l → ⊥) × (second_path c.loop-number.rows l.from l.«to» c.in-Ok.count ≡ true)) in
    refused-here Es ls c.loop-number.rows k l there (subst (λ n. AreWithin n ls) (sym (length-map c.args.effects.now plain_effect)) c.requires.within) c.loop-number.invariant.added
    c.in-Ok.count c.loop-number.invariant.count c.args.places.now broken at place
    (subst (λ r. Says c.args.effects.now r) same (subst (λ es. Says es c.in-Some.rule) c.as_slice-in-loop-number.ensures c.in-Some.ensures))

pub loop-number-preserved : goal.loop-number-preserved
loop-number-preserved c =
    let Es = map plain_effect c.args.effects.now in
    let ls = map plain_lift c.args.lifts.now in
    let k = c.loop-number.number in
    let t = c.loop-number-test.true in
    let m = c.len-number-end.ensures in
    let less : k < length c.args.lifts.now = omega (arith, t, m) in
    let l = plain_lift c.index-as_slice-number.result in
    let there = lift-at c.args.lifts.now k c.index-as_slice-number.result less (subst (λ xs. c.index-as_slice-number.result ≡ get_or xs k c.index-as_slice-number.result) c.as_slice.ensures c.index-as_slice-number.is) in
    let made : c.in_ok-rows-2.rows ≡ tabled (λ D. tabled (λ E. next_step c.loop-number.rows c.in-Ok-try_from.index l.from l.«to» D E) c.in-Ok.count) c.in-Ok.count = search rules in
    record {
      added = next-added Es ls c.loop-number.rows k l there (subst (λ n. AreWithin n ls) (sym (length-map c.args.effects.now plain_effect)) c.requires.within) c.loop-number.invariant.added
          c.in-Ok.count c.in-Ok-try_from.index c.loop-number.invariant.count c.in-Ok-try_from.ensures.1 c.in_ok-rows-2.rows made
          (subst (λ es. Lowers (map plain_effect es) l → ⊥) c.as_slice-in-loop-number.ensures c.in_default-broken_by.ensures.0) c.in_default-broken_by.ensures.1;
      count = c.loop-number.invariant.count;
    }

pub returns-clause-ok : goal.returns-clause-ok
returns-clause-ok c =
    let ls = map plain_lift c.args.lifts.now in
    let t = c.loop-number-test.false in
    let m = c.len-number-end.ensures in
    let l = length-map c.args.lifts.now plain_lift in
    let all : length ls ≤ c.loop-number.number = omega (arith, t, m, l) in
    ended (map plain_effect c.args.effects.now) ls c.loop-number.rows c.loop-number.number all c.loop-number.invariant.added
