-- From an answer to what it says of main's runs by the written meaning.
use Rattle.std.proofs.Common.{◌≡◌, ◌⊎◌, inl, inr, ℕ, ◌+◌, ◌<◌, ◌≤◌, true, List, reverse, refl, sym, ap, ◌∙◌, subst, arith}
use Rattle.fst_base.specs.Values.{Val, v_unit}
use Rattle.fst_terms.specs.Meaning.{Meaning}
use Rattle.fst_program.specs.declared.effect.Effect.TheVariants as effect
use Rattle.fst_program.specs.Erasure.{erased_run}
use Rattle.fst_program.specs.Good.{AllGood, GoodAt, HasInput, MayBeBounded, IsFine, Pre, Post}
use Rattle.fst_program.specs.Paths.{goals_of, GoalsValid}
use Rattle.fst_program.specs.Runs.{Outcome, Done, Out}
use Rattle.fst_top.specs.Built.{IsBuilt}
use Rattle.fst_top.specs.Answers.{Main, Entry, IsYes, IsRun, Ended, Ran}
use Rattle.fst_top.specs.Headline.{main_run, Meets, RunsWell, Gives, RunsOut}
use Rattle.fst_top.specs.Printed.{value_text, out_of_fuel_text}
use Rattle.fst_top.proofs.ArgumentLemmas.{arguments-have}
use Rattle.fst_top.proofs.CheckedLemmas.{reads-one}
use Rattle.fst_top.proofs.JoinLemmas.{all-good, reads-program}
use Rattle.fst_top.proofs.ProgramBuilt.{program-built}
use Rattle.fst_top.proofs.RunLemmas.{Ends, main-ends, takes-enough, takes-more, erased-takes, body-takes}

module _ (text : List ℕ) (words : List (List ℕ)) (e : Entry text words) where
  built : IsBuilt e.main.P
  built = program-built e.main.reads.decls e.main.P (reads-program text e.main.reads.decls e.main.P e.main.reads.first)

  ends : Ends e.main.fun.body (reverse e.values) v_unit
  ends = main-ends e.main.P e.main.number e.main.fun e.values built e.main.there

  gives : (M : Meaning) (fuel G : ℕ) → ends.units ≤ fuel → (left : ℕ) × (main_run text words e M fuel G ≡ Done ends.result left)
  gives M fuel G le = takes-enough ends.units ends.result (λ F. main_run text words e M F G) (body-takes e.main.P M e.main.fun e.values true G ends) fuel le

  runs-out : (M : Meaning) (fuel G : ℕ) → fuel < ends.units → main_run text words e M fuel G ≡ Out
  runs-out M fuel G less = takes-more ends.units ends.result (λ F. main_run text words e M F G) (body-takes e.main.P M e.main.fun e.values true G ends) fuel less

  erased-gives : (fuel : ℕ) → ends.units ≤ fuel → (left : ℕ) × (erased_run e.main.P e.main.number fuel e.values v_unit ≡ Done ends.result left)
  erased-gives fuel le = takes-enough ends.units ends.result (λ F. erased_run e.main.P e.main.number F e.values v_unit) (erased-takes e.main.P e.main.number e.main.fun e.values built e.main.there ends) fuel le

  erased-out : (fuel : ℕ) → fuel < ends.units → erased_run e.main.P e.main.number fuel e.values v_unit ≡ Out
  erased-out fuel less = takes-more ends.units ends.result (λ F. erased_run e.main.P e.main.number F e.values v_unit) (erased-takes e.main.P e.main.number e.main.fun e.values built e.main.there ends) fuel less

  module _ (valid : (M : Meaning) → GoalsValid M (goals_of e.main.P)) where
    good : (M : Meaning) → AllGood e.main.P M
    good = all-good e.main.P built valid

    -- main takes no input, and may be run bounded
    pure : e.main.fun.effect ≡ effect.Pure
    pure = (built.funs e.main.number e.main.fun e.main.there).pure

    good-at : (M : Meaning) → Pre M e.main.fun e.values v_unit → GoodAt e.main.P M e.main.fun e.values v_unit true
    good-at M pre = good M e.main.number e.main.fun e.main.there e.values v_unit true
        (arguments-have e.main.fun.params words e.values e.arguments)
        (subst (λ x. HasInput e.main.P x v_unit) (sym pure) refl)
        (subst (λ x. MayBeBounded x true) (sym pure) tt)
        pre

    meets : Meets text words e ends.result
    meets M pre =
        let settled = (good-at M pre).safe ends.units in
        let done = gives M ends.units settled.0 (omega arith) in
        subst (IsFine (Post M e.main.fun e.values v_unit)) done.1 (settled.1 settled.0 (omega arith))

    answered : (fuel : ℕ) → ends.units ≤ fuel → Ran text fuel words 0 (value_text ends.result)
    answered fuel le = inr (inr (inr (inr (record {
      entry = e;
      valid = valid;
      ended = subst (λ o. Ended o 0 (value_text ends.result)) (sym ((erased-gives fuel le).1)) (refl, refl);
    }))))

    unanswered : (fuel : ℕ) → fuel < ends.units → Ran text fuel words 4 out_of_fuel_text
    unanswered fuel less = inr (inr (inr (inr (record {
      entry = e;
      valid = valid;
      ended = subst (λ o. Ended o 4 out_of_fuel_text) (sym (erased-out fuel less)) (refl, refl);
    }))))

    well : RunsWell text words e
    well = record {
      units = ends.units;
      result = ends.result;
      meets = meets;
      gives = gives;
      runs_out = runs-out;
      answered = answered;
      unanswered = unanswered;
    }

  -- how the erased run ends at this fuel
  at-fuel : (fuel : ℕ) → ((fuel < ends.units) × (erased_run e.main.P e.main.number fuel e.values v_unit ≡ Out)) ⊎ ((left : ℕ) × ((fuel ≡ ends.units + left) × (erased_run e.main.P e.main.number fuel e.values v_unit ≡ Done ends.result left)))
  at-fuel fuel = erased-takes e.main.P e.main.number e.main.fun e.values built e.main.there ends fuel

-- after a yes main runs well
pub runs-well : (text printed : List ℕ) → IsYes text printed → (words : List (List ℕ)) (e : Entry text words) → RunsWell text words e
runs-well text printed y words e = well text words e (λ M. subst (λ P. GoalsValid M (goals_of P)) (reads-one text y.P e.main.P y.reads e.main.reads) (y.valid M))

module _ (text : List ℕ) (fuel : ℕ) (words : List (List ℕ)) (printed : List ℕ) where
  run-gives : IsRun text fuel words 0 printed → (v : Val) × (Gives text fuel words v × (printed ≡ value_text v))
  run-gives r = go (at-fuel text words r.entry fuel)
    where
      go : ((fuel < (ends text words r.entry).units) × (erased_run r.entry.main.P r.entry.main.number fuel r.entry.values v_unit ≡ Out))
          ⊎ ((left : ℕ) × ((fuel ≡ (ends text words r.entry).units + left) × (erased_run r.entry.main.P r.entry.main.number fuel r.entry.values v_unit ≡ Done (ends text words r.entry).result left)))
          → (v : Val) × (Gives text fuel words v × (printed ≡ value_text v))
      go (inl p) = let wrong = subst (λ o. Ended o 0 printed) p.1 r.ended in let zero_four = wrong.0 in absurd (omega (arith, zero_four))
      go (inr p) =
          let e = p.1.0 in
          let told = subst (λ o. Ended o 0 printed) p.1.1 r.ended in (
            (ends text words r.entry).result,
            (
              record {
                entry = r.entry;
                good = good text words r.entry r.valid;
                gives = λ M G. gives text words r.entry M fuel G (omega (arith, e));
                meets = meets text words r.entry r.valid;
              },
              told.1,
            ),
          )

  run-is-out : IsRun text fuel words 4 printed → RunsOut text fuel words × (printed ≡ out_of_fuel_text)
  run-is-out r = go (at-fuel text words r.entry fuel)
    where
      go : ((fuel < (ends text words r.entry).units) × (erased_run r.entry.main.P r.entry.main.number fuel r.entry.values v_unit ≡ Out))
          ⊎ ((left : ℕ) × ((fuel ≡ (ends text words r.entry).units + left) × (erased_run r.entry.main.P r.entry.main.number fuel r.entry.values v_unit ≡ Done (ends text words r.entry).result left)))
          → RunsOut text fuel words × (printed ≡ out_of_fuel_text)
      go (inl p) =
          let told = subst (λ o. Ended o 4 printed) p.1 r.ended in (
            record {
              entry = r.entry;
              good = good text words r.entry r.valid;
              runs_out = λ M G. runs-out text words r.entry M fuel G p.0;
            },
            told.1,
          )
      go (inr p) = let wrong = subst (λ o. Ended o 4 printed) p.1.1 r.ended in let four_zero = wrong.0 in absurd (omega (arith, four_zero))

  -- a run that is answered 0 gives its value, and one that is answered 4 is out of fuel
  pub ran-gives : Ran text fuel words 0 printed → (v : Val) × (Gives text fuel words v × (printed ≡ value_text v))
  ran-gives (inl h) = let e = h.0 in absurd (omega (arith, e))
  ran-gives (inr (inl h)) = let e = h.0 in absurd (omega (arith, e))
  ran-gives (inr (inr (inl h))) = let e = h.0 in absurd (omega (arith, e))
  ran-gives (inr (inr (inr (inl h)))) = let e = h.0 in absurd (omega (arith, e))
  ran-gives (inr (inr (inr (inr h)))) = run-gives h

  pub ran-is-out : Ran text fuel words 4 printed → RunsOut text fuel words × (printed ≡ out_of_fuel_text)
  ran-is-out (inl h) = let e = h.0 in absurd (omega (arith, e))
  ran-is-out (inr (inl h)) = let e = h.0 in absurd (omega (arith, e))
  ran-is-out (inr (inr (inl h))) = let e = h.0 in absurd (omega (arith, e))
  ran-is-out (inr (inr (inr (inl h)))) = let e = h.0 in absurd (omega (arith, e))
  ran-is-out (inr (inr (inr (inr h)))) = run-is-out h
