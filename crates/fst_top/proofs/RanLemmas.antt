-- At most one answer of run is due for a text.
use Rattle.std.proofs.Common.{◌≡◌, ◌⊎◌, inl, inr, ℕ, List, Option, Some, None, refl, sym, ap, ap₂, ◌∙◌, subst}
use Rattle.fst_base.specs.Values.{Val, v_unit}
use Rattle.fst_program.specs.Entry.{main_of}
use Rattle.fst_program.specs.Erasure.{erased_run}
use Rattle.fst_program.specs.Paths.{goals_of, GoalsValid}
use Rattle.fst_program.specs.Runs.{Outcome, Done, Out, Wide, Stuck, GhostOut}
use Rattle.fst_program.specs.Texts.{Fn, Prog, fun_at}
use Rattle.fst_top.specs.Arguments.{AreArguments, IsBadArgument}
use Rattle.fst_top.specs.Answers.{Main, Entry, IsMainless, IsMisfit, IsUnproved, IsRun, Ended, IsUnread, IsNoOf, Reads, Ran}
use Rattle.fst_top.specs.Printed.{bad_argument_text}
use Rattle.fst_top.proofs.ArgumentLemmas.{arguments-one, bad-not-good, bad-one}
use Rattle.fst_top.proofs.CheckedLemmas.{reads-one, not-unread, unread-one, no-of-one}
use Rattle.fst_top.proofs.DueLemmas.{some_meaning, no-not-yes}

some-same : {A : Type 0} (o : Option A) (a b : A) → o ≡ Some a → o ≡ Some b → a ≡ b
some-same o a b e f = let g : Some a ≡ Some b = sym e ∙ f in cc (g)

-- ---- one main

module _ (text : List ℕ) where
  same-program : (m n : Main text) → m.P ≡ n.P
  same-program m n = reads-one text m.P n.P m.reads n.reads

  same-number : (m n : Main text) → m.number ≡ n.number
  same-number m n = some-same (main_of m.P) m.number n.number m.is_main (ap main_of (same-program m n) ∙ n.is_main)

  same-fun : (m n : Main text) → m.fun ≡ n.fun
  same-fun m n = some-same (fun_at m.P m.number) m.fun n.fun m.there (ap₂ fun_at (same-program m n) (same-number m n) ∙ n.there)

  main-not-none : (m : Main text) (printed : List ℕ) → IsMainless text printed → ⊥
  main-not-none m printed n = let e : Some m.number ≡ None = sym m.is_main ∙ ap main_of (reads-one text m.P n.P m.reads n.reads) ∙ n.none in cc (e)

  module _ (words : List (List ℕ)) where
    pub same-values : (e f : Entry text words) → e.values ≡ f.values
    same-values e f = arguments-one e.main.fun.params words e.values f.values e.arguments (subst (λ (g : Fn). AreArguments g.params words f.values) (sym (same-fun e.main f.main)) f.arguments)

    misfit-not-entry : (e : Entry text words) (printed : List ℕ) → IsMisfit text words printed → ⊥
    misfit-not-entry e printed m = bad-not-good e.main.fun.params words m.word e.values (subst (λ (g : Fn). IsBadArgument g.params words m.word) (sym (same-fun e.main m.main)) m.bad) e.arguments

    misfit-one : (p q : List ℕ) → IsMisfit text words p → IsMisfit text words q → p ≡ q
    misfit-one p q m n = m.text_is ∙ ap bad_argument_text (bad-one m.main.fun.params words m.word n.word m.bad (subst (λ (g : Fn). IsBadArgument g.params words n.word) (sym (same-fun m.main n.main)) n.bad)) ∙ sym n.text_is

    unproved-one : (p q : List ℕ) → IsUnproved text words p → IsUnproved text words q → p ≡ q
    unproved-one p q m n = no-of-one text p q n.entry.main.P (subst (λ P. IsNoOf P (goals_of P) text p) (same-program m.entry.main n.entry.main) m.no) n.no

    run-not-unproved : (fuel s : ℕ) (p q : List ℕ) → IsRun text fuel words s p → IsUnproved text words q → ⊥
    run-not-unproved fuel s p q r n = no-not-yes n.no.first.before n.no.goal n.no.first.after
        (subst (GoalsValid some_meaning) (ap goals_of (same-program r.entry.main n.entry.main) ∙ n.no.first.goals_are) (r.valid some_meaning))
        (n.no.first.fails some_meaning)

    ended-one : (o : Outcome) (s t : ℕ) (p q : List ℕ) → Ended o s p → Ended o t q → (s ≡ t) × (p ≡ q)
    ended-one (Done v left) s t p q h k = (h.0 ∙ sym k.0, h.1 ∙ sym k.1)
    ended-one Out s t p q h k = (h.0 ∙ sym k.0, h.1 ∙ sym k.1)
    ended-one Wide s t p q h k = absurd h
    ended-one (Stuck at) s t p q h k = absurd h
    ended-one GhostOut s t p q h k = absurd h

    same-run : (fuel : ℕ) (e f : Entry text words) → erased_run e.main.P e.main.number fuel e.values v_unit ≡ erased_run f.main.P f.main.number fuel f.values v_unit
    same-run fuel e f = rw (same-program e.main f.main, same-number e.main f.main, same-values e f) refl

    run-one : (fuel s t : ℕ) (p q : List ℕ) → IsRun text fuel words s p → IsRun text fuel words t q → (s ≡ t) × (p ≡ q)
    run-one fuel s t p q h k = ended-one (erased_run k.entry.main.P k.entry.main.number fuel k.entry.values v_unit) s t p q (subst (λ o. Ended o s p) (same-run fuel h.entry k.entry) h.ended) k.ended

    mainless-one : (p q : List ℕ) → IsMainless text p → IsMainless text q → p ≡ q
    mainless-one p q h k = h.text_is ∙ sym k.text_is

    pub ran-one : (fuel s t : ℕ) (p q : List ℕ) → Ran text fuel words s p → Ran text fuel words t q → (s ≡ t) × (p ≡ q)
    ran-one fuel s t p q (inl h) (inl k) = (h.0 ∙ sym k.0, unread-one text p q h.1 k.1)
    ran-one fuel s t p q (inl h) (inr (inl k)) = absurd (not-unread text k.1.P k.1.reads p h.1)
    ran-one fuel s t p q (inl h) (inr (inr (inl k))) = absurd (not-unread text k.1.main.P k.1.main.reads p h.1)
    ran-one fuel s t p q (inl h) (inr (inr (inr (inl k)))) = absurd (not-unread text k.1.entry.main.P k.1.entry.main.reads p h.1)
    ran-one fuel s t p q (inl h) (inr (inr (inr (inr k)))) = absurd (not-unread text k.entry.main.P k.entry.main.reads p h.1)
    ran-one fuel s t p q (inr (inl h)) (inl k) = absurd (not-unread text h.1.P h.1.reads q k.1)
    ran-one fuel s t p q (inr (inl h)) (inr (inl k)) = (h.0 ∙ sym k.0, mainless-one p q h.1 k.1)
    ran-one fuel s t p q (inr (inl h)) (inr (inr (inl k))) = absurd (main-not-none k.1.main p h.1)
    ran-one fuel s t p q (inr (inl h)) (inr (inr (inr (inl k)))) = absurd (main-not-none k.1.entry.main p h.1)
    ran-one fuel s t p q (inr (inl h)) (inr (inr (inr (inr k)))) = absurd (main-not-none k.entry.main p h.1)
    ran-one fuel s t p q (inr (inr (inl h))) (inl k) = absurd (not-unread text h.1.main.P h.1.main.reads q k.1)
    ran-one fuel s t p q (inr (inr (inl h))) (inr (inl k)) = absurd (main-not-none h.1.main q k.1)
    ran-one fuel s t p q (inr (inr (inl h))) (inr (inr (inl k))) = (h.0 ∙ sym k.0, misfit-one p q h.1 k.1)
    ran-one fuel s t p q (inr (inr (inl h))) (inr (inr (inr (inl k)))) = absurd (misfit-not-entry k.1.entry p h.1)
    ran-one fuel s t p q (inr (inr (inl h))) (inr (inr (inr (inr k)))) = absurd (misfit-not-entry k.entry p h.1)
    ran-one fuel s t p q (inr (inr (inr (inl h)))) (inl k) = absurd (not-unread text h.1.entry.main.P h.1.entry.main.reads q k.1)
    ran-one fuel s t p q (inr (inr (inr (inl h)))) (inr (inl k)) = absurd (main-not-none h.1.entry.main q k.1)
    ran-one fuel s t p q (inr (inr (inr (inl h)))) (inr (inr (inl k))) = absurd (misfit-not-entry h.1.entry q k.1)
    ran-one fuel s t p q (inr (inr (inr (inl h)))) (inr (inr (inr (inl k)))) = (h.0 ∙ sym k.0, unproved-one p q h.1 k.1)
    ran-one fuel s t p q (inr (inr (inr (inl h)))) (inr (inr (inr (inr k)))) = absurd (run-not-unproved fuel t q p k h.1)
    ran-one fuel s t p q (inr (inr (inr (inr h)))) (inl k) = absurd (not-unread text h.entry.main.P h.entry.main.reads q k.1)
    ran-one fuel s t p q (inr (inr (inr (inr h)))) (inr (inl k)) = absurd (main-not-none h.entry.main q k.1)
    ran-one fuel s t p q (inr (inr (inr (inr h)))) (inr (inr (inl k))) = absurd (misfit-not-entry h.entry q k.1)
    ran-one fuel s t p q (inr (inr (inr (inr h)))) (inr (inr (inr (inl k)))) = absurd (run-not-unproved fuel s p q h k.1)
    ran-one fuel s t p q (inr (inr (inr (inr h)))) (inr (inr (inr (inr k)))) = run-one fuel s t p q h k
