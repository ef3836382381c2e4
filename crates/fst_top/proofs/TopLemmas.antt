-- From what was given and delivered to what the top call promises.
use Rattle.std.proofs.Common.{◌≡◌, ◌⊎◌, inl, inr, ℕ, ◌<◌, List, [], Option, Some, None, take, refl, sym, ap, ap₂, ◌∙◌, subst, arith}
use Rattle.fst_outside.specs.Outside.{with_piece, IsOneMore}
use Rattle.fst_base.specs.Values.{Val}
use Rattle.fst_top.specs.Answers.{Command, help, version, check, run, bad_fuel, command_of, DueTo, IsFault, IsYes, Checked, Ran}
use Rattle.fst_top.specs.Headline.{Gives, RunsOut}
use Rattle.fst_top.specs.Help.{help_text, version_text}
use Rattle.fst_top.specs.Printed.{read_fault_text, value_text, out_of_fuel_text}
use Rattle.fst_top.specs.Promises.{Promises}
use Rattle.fst_top.specs.Outcomes.{Fetched, Given, SaysFault, Delivered}
use Rattle.fst_top.specs.Statuses.{number_of}
use Rattle.fst_top.specs.declared.status.Status.{Status}
use Rattle.fst_top.specs.declared.status.Status.TheVariants as status
use Rattle.fst_top.proofs.CheckedLemmas.{checked-one}
use Rattle.fst_top.proofs.HeadlineLemmas.{ran-gives, ran-is-out, runs-well}
use Rattle.fst_top.proofs.JoinLemmas.{yes-good}
use Rattle.fst_top.proofs.RanLemmas.{ran-one}

-- ---- answers

-- no status is that of a stuck run, or of one past 128 bits
pub never-five-or-six : (s : Status) → (number_of s ≡ 5 → ⊥) × (number_of s ≡ 6 → ⊥)
never-five-or-six status.Done = (λ e. omega (arith, e), λ e. omega (arith, e))
never-five-or-six status.NotProved = (λ e. omega (arith, e), λ e. omega (arith, e))
never-five-or-six status.Refused = (λ e. omega (arith, e), λ e. omega (arith, e))
never-five-or-six status.BadWords = (λ e. omega (arith, e), λ e. omega (arith, e))
never-five-or-six status.OutOfFuel = (λ e. omega (arith, e), λ e. omega (arith, e))
never-five-or-six status.ReadFault = (λ e. omega (arith, e), λ e. omega (arith, e))
never-five-or-six status.WriteFault = (λ e. omega (arith, e), λ e. omega (arith, e))
never-five-or-six status.NoMemory = (λ e. omega (arith, e), λ e. omega (arith, e))

-- one answer is due
pub due-one : (c : Option Command) (given : List ℕ → List ℕ) (s t : ℕ) (p q : List ℕ) → DueTo c given s p → DueTo c given t q → (s ≡ t) × (p ≡ q)
due-one None given s t p q h k = (h.0 ∙ sym k.0, h.1 ∙ sym k.1)
due-one (Some help) given s t p q h k = (h.0 ∙ sym k.0, h.1 ∙ sym k.1)
due-one (Some version) given s t p q h k = (h.0 ∙ sym k.0, h.1 ∙ sym k.1)
due-one (Some (check file)) given s t p q h k = checked-one (given file) s t p q h k
due-one (Some (run file fuel words)) given s t p q h k = ran-one (given file) words fuel s t p q h k
due-one (Some bad_fuel) given s t p q h k = (h.0 ∙ sym k.0, h.1 ∙ sym k.1)

module _ (c : Option Command) (given : List ℕ → List ℕ) (unread unwritten : Type 0) (old new : Option (List ℕ)) (text : List ℕ) (wanted ended : Status)
    (g : Given c given unread (number_of wanted) text) (d : Delivered old new unwritten text wanted ended) where
  -- the status and the text are due, where nothing failed
  answered : IsFault (number_of ended) ⊎ ((p : List ℕ) × (DueTo c given (number_of ended) p × (new ≡ with_piece old p)))
  answered = go g d
    where
      go : Given c given unread (number_of wanted) text → Delivered old new unwritten text wanted ended
          → IsFault (number_of ended) ⊎ ((p : List ℕ) × (DueTo c given (number_of ended) p × (new ≡ with_piece old p)))
      go (inl f) (inl d) = inl (inl (ap number_of d.0 ∙ f.1))
      go (inr g) (inl d) = inr (text, (subst (λ s. DueTo c given s text) (ap number_of (sym d.0)) g.1, d.1))
      go g (inr (inl d)) = inl (inr (inl (ap number_of d.0)))
      go g (inr (inr d)) = inl (inr (inr (ap number_of d.0)))

  -- the answer that is due is the one that is given, where nothing failed
  only-due : (s : ℕ) (p : List ℕ) → DueTo c given s p → IsFault (number_of ended) ⊎ ((number_of ended ≡ s) × (new ≡ with_piece old p))
  only-due s p due = go answered
    where
      go : IsFault (number_of ended) ⊎ ((p : List ℕ) × (DueTo c given (number_of ended) p × (new ≡ with_piece old p)))
          → IsFault (number_of ended) ⊎ ((number_of ended ≡ s) × (new ≡ with_piece old p))
      go (inl f) = inl f
      go (inr (q, (is, put))) = let e = due-one c given (number_of ended) s q p is due in inr (e.0, put ∙ ap (with_piece old) e.1)

  -- a status of 7 says that a fetch failed
  fetch-failed : number_of ended ≡ 7 → unread × (new ≡ with_piece old read_fault_text)
  fetch-failed = go g d
    where
      go : Given c given unread (number_of wanted) text → Delivered old new unwritten text wanted ended → number_of ended ≡ 7 → unread × (new ≡ with_piece old read_fault_text)
      go (inl f) (inl d) e = (f.0, d.1 ∙ ap (with_piece old) f.2)
      go (inr g) (inl d) e = let less = g.0 in let same = sym (ap number_of d.0) ∙ e in absurd (omega (arith, less, same))
      go g (inr (inl d)) e = let f : 8 ≡ 7 = sym (ap number_of d.0) ∙ e in absurd (omega (arith, f))
      go g (inr (inr d)) e = let f : 10 ≡ 7 = sym (ap number_of d.0) ∙ e in absurd (omega (arith, f))

  -- a status of 8 says that a put failed, and wrote a front of a text
  put-failed : number_of ended ≡ 8 → unwritten × ((p : List ℕ) × (n : ℕ) × (s : ℕ) × (Given c given unread s p × (new ≡ with_piece old (take n p))))
  put-failed = go g d
    where
      go : Given c given unread (number_of wanted) text → Delivered old new unwritten text wanted ended
          → number_of ended ≡ 8 → unwritten × ((p : List ℕ) × (n : ℕ) × (s : ℕ) × (Given c given unread s p × (new ≡ with_piece old (take n p))))
      go (inl f) (inl d) e = let g : 7 ≡ 8 = sym (ap number_of d.0 ∙ f.1) ∙ e in absurd (omega (arith, g))
      go (inr g) (inl d) e = let less = g.0 in let same = sym (ap number_of d.0) ∙ e in absurd (omega (arith, less, same))
      go g (inr (inl d)) e = (d.1.0, (text, d.1.1.0, number_of wanted, (g, d.1.1.1)))
      go g (inr (inr d)) e = let f : 10 ≡ 8 = sym (ap number_of d.0) ∙ e in absurd (omega (arith, f))

  -- a status of 10 says that nothing was written
  nothing-put : number_of ended ≡ 10 → new ≡ old
  nothing-put = go g d
    where
      go : Given c given unread (number_of wanted) text → Delivered old new unwritten text wanted ended → number_of ended ≡ 10 → new ≡ old
      go (inl f) (inl d) e = let g : 7 ≡ 10 = sym (ap number_of d.0 ∙ f.1) ∙ e in absurd (omega (arith, g))
      go (inr g) (inl d) e = let less = g.0 in let same = sym (ap number_of d.0) ∙ e in absurd (omega (arith, less, same))
      go g (inr (inl d)) e = let f : 8 ≡ 10 = sym (ap number_of d.0) ∙ e in absurd (omega (arith, f))
      go g (inr (inr d)) e = d.1

  -- a status below 7 is due, with the text that was put
  due-and-put : (s : ℕ) → s < 7 → number_of ended ≡ s → (p : List ℕ) × (DueTo c given s p × (new ≡ with_piece old p))
  due-and-put s less e = go answered
    where
      go : IsFault (number_of ended) ⊎ ((p : List ℕ) × (DueTo c given (number_of ended) p × (new ≡ with_piece old p))) → (p : List ℕ) × (DueTo c given s p × (new ≡ with_piece old p))
      go (inl (inl f)) = let g : 7 ≡ s = sym f ∙ e in absurd (omega (arith, g, less))
      go (inl (inr (inl f))) = let g : 8 ≡ s = sym f ∙ e in absurd (omega (arith, g, less))
      go (inl (inr (inr f))) = let g : 10 ≡ s = sym f ∙ e in absurd (omega (arith, g, less))
      go (inr (p, (due, put))) = (p, (subst (λ s. DueTo c given s p) e due, put))

  -- a status of 0 of `check` says that the goals are valid
  yes-given : (file : List ℕ) → number_of ended ≡ 0 → c ≡ Some (check file) → (p : List ℕ) × IsYes (given file) p
  yes-given file e q = let due = due-and-put 0 (omega arith) e in (due.0, yes due.0 (subst (λ x. DueTo x given 0 due.0) q due.1.0))
    where
      yes : (p : List ℕ) → Checked (given file) 0 p → IsYes (given file) p
      yes p (inl y) = y.1
      yes p (inr (inl n)) = let f = n.0 in absurd (omega (arith, f))
      yes p (inr (inr n)) = let f = n.0 in absurd (omega (arith, f))

  -- a status below 7 of `run`
  ran-given : (s : ℕ) → s < 7 → (file : List ℕ) (fuel : ℕ) (words : List (List ℕ)) → number_of ended ≡ s → c ≡ Some (run file fuel words)
      → (p : List ℕ) × (Ran (given file) fuel words s p × (new ≡ with_piece old p))
  ran-given s less file fuel words e q = let due = due-and-put s less e in (due.0, (subst (λ x. DueTo x given s due.0) q due.1.0, due.1.1))

  -- a value is given, and it was put
  value-given : (file : List ℕ) (fuel : ℕ) (words : List (List ℕ)) → number_of ended ≡ 0 → c ≡ Some (run file fuel words)
      → (v : Val) × (Gives (given file) fuel words v × (new ≡ with_piece old (value_text v)))
  value-given file fuel words e q =
      let ran = ran-given 0 (omega arith) file fuel words e q in
      let gives = ran-gives (given file) fuel words ran.0 ran.1.0 in
      (gives.0, (gives.1.0, ran.1.1 ∙ ap (with_piece old) gives.1.1))

  -- a run is out of fuel, and so it was put
  out-given : (file : List ℕ) (fuel : ℕ) (words : List (List ℕ)) → number_of ended ≡ 4 → c ≡ Some (run file fuel words)
      → RunsOut (given file) fuel words × (new ≡ with_piece old out_of_fuel_text)
  out-given file fuel words e q =
      let ran = ran-given 4 (omega arith) file fuel words e q in
      let out = ran-is-out (given file) fuel words ran.0 ran.1.0 in
      (out.0, ran.1.1 ∙ ap (with_piece old) out.1)

-- ---- what is promised

module _ (words : List (List ℕ)) (given : List ℕ → List ℕ) (unread unwritten : Type 0)
    (fetched_before fetched_after : Option (List (List ℕ))) (before after : Option (List ℕ)) (calls_before calls_after : Option ℕ) where
  -- an answer was given and handed to the sink
  pub promised : (text : List ℕ) (wanted ended : Status) → Given (command_of words) given unread (number_of wanted) text → Delivered before after unwritten text wanted ended
      → Fetched (command_of words) fetched_before fetched_after → IsOneMore calls_before calls_after
      → Promises words given unread unwritten fetched_before fetched_after before after calls_before calls_after (number_of ended)
  promised text wanted ended g d f o =
      let c = command_of words in
      let due = only-due c given unread unwritten before after text wanted ended g d in
      record {
        answer = answered c given unread unwritten before after text wanted ended g d;
        only = due;
        help = λ e. due 0 help_text (subst (λ x. DueTo x given 0 help_text) (sym e) (refl, refl));
        version = λ e. due 0 version_text (subst (λ x. DueTo x given 0 version_text) (sym e) (refl, refl));
        yes_is_good = λ e file q. let yes = yes-given c given unread unwritten before after text wanted ended g d file e q in yes-good (given file) yes.0 yes.1;
        main_runs_well = λ e file q. let yes = yes-given c given unread unwritten before after text wanted ended g d file e q in runs-well (given file) yes.0 yes.1;
        run_gives = λ e file fuel arguments q. value-given c given unread unwritten before after text wanted ended g d file fuel arguments e q;
        run_is_out = λ e file fuel arguments q. out-given c given unread unwritten before after text wanted ended g d file fuel arguments e q;
        never_stuck = never-five-or-six ended;
        read_fault = fetch-failed c given unread unwritten before after text wanted ended g d;
        write_fault = put-failed c given unread unwritten before after text wanted ended g d;
        no_memory = nothing-put c given unread unwritten before after text wanted ended g d;
        fetched = f;
        one_put = inr o;
      }

  -- memory was wanted before the sink was called
  pub promised-nothing : after ≡ before → calls_after ≡ calls_before → Fetched (command_of words) fetched_before fetched_after
      → Promises words given unread unwritten fetched_before fetched_after before after calls_before calls_after 10
  promised-nothing same calls f = record {
    answer = inl (inr (inr refl));
    only = λ s p d. inl (inr (inr refl));
    help = λ e. inl (inr (inr refl));
    version = λ e. inl (inr (inr refl));
    yes_is_good = λ e. absurd (omega (arith, e));
    main_runs_well = λ e. absurd (omega (arith, e));
    run_gives = λ e. absurd (omega (arith, e));
    run_is_out = λ e. absurd (omega (arith, e));
    never_stuck = (λ e. omega (arith, e), λ e. omega (arith, e));
    read_fault = λ e. absurd (omega (arith, e));
    write_fault = λ e. absurd (omega (arith, e));
    no_memory = λ e. same;
    fetched = f;
    one_put = inl calls;
  }
