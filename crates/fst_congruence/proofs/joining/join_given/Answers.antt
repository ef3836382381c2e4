use Rattle.std.proofs.Common.{[], get_or, sym, subst, arith}
use Rattle.fst_congruence.specs.declared.equation.Equation.{Equation}
use Rattle.fst_congruence.specs.Steps.{SidesLabelled}
use Rattle.fst_congruence.proofs.StepLemmas.{step-none, step-step, found-more, item-found}
use Rattle.fst_congruence.proofs.joining.join_given.Goals as goal

pub loop-equation-init : goal.loop-equation-init
loop-equation-init c = record { step = λ ns. step-none _ _ _ c.requires.sound; found = λ e k lt. absurd (omega (arith, lt)) }

pub join_sides-requires-clause-sound : goal.join_sides-requires-clause-sound
join_sides-requires-clause-sound c = (c.loop-equation.invariant.step []).sound

pub join_sides-requires-clause-left : goal.join_sides-requires-clause-left
join_sides-requires-clause-left c =
    let within = (c.requires.within c.equation-item.result (c.loop-equation.equation-index, c.loop-equation-test.true, sym c.equation-item.is)).0 in
    let count = (c.loop-equation.invariant.step []).count in
    omega (arith, within, count)

pub join_sides-requires-clause-right : goal.join_sides-requires-clause-right
join_sides-requires-clause-right c =
    let within = (c.requires.within c.equation-item.result (c.loop-equation.equation-index, c.loop-equation-test.true, sym c.equation-item.is)).1 in
    let count = (c.loop-equation.invariant.step []).count in
    omega (arith, within, count)

pub loop-equation-preserved : goal.loop-equation-preserved
loop-equation-preserved c =
    record {
      step = λ ns. step-step ns c.args.equations.now c.args.classes.now c.loop-equation.classes c.join_sides.new.classes c.loop-equation.joined c.in_ok-joined.field-0 (c.loop-equation.invariant.step ns) (c.in_ok-joined.ensures ns c.args.equations.now (c.loop-equation.equation-index, c.loop-equation-test.true, sym c.equation-item.is)).0;
      found = found-more (λ labels k. (d : Equation) → SidesLabelled labels (get_or c.args.equations.now k d)) c.loop-equation.classes.labels _ c.loop-equation.equation-index c.loop-equation.joined c.in_ok-joined.field-0
          (c.in_ok-joined.ensures [] c.args.equations.now (c.loop-equation.equation-index, c.loop-equation-test.true, sym c.equation-item.is)).0.still c.loop-equation.invariant.found
          (λ e. item-found c.args.equations.now _ c.loop-equation.equation-index c.equation-item.result c.equation-item.is c.loop-equation-test.true ((c.in_ok-joined.ensures [] c.args.equations.now (c.loop-equation.equation-index, c.loop-equation-test.true, sym c.equation-item.is)).1 e));
    }

pub returns : goal.returns
returns c = λ ns. (c.loop-equation.invariant.step ns, λ e f h. subst (SidesLabelled c.loop-equation.classes.labels) h.2 (c.loop-equation.invariant.found e h.0 (let end = c.loop-equation-test.false in omega (arith, h.1, end)) f))
