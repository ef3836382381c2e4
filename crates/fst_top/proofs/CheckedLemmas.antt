-- At most one answer of check is due for a text.
use Rattle.std.proofs.Common.{◌≡◌, ◌⊎◌, inl, inr, ℕ, ◌<◌, ◌≤◌, ◌^◌, Bool, true, false, List, [], ◌∷◌, ◌++◌, length, Option, Some, None, refl, sym, ap, ap₂, ◌∙◌, subst, arith}
use Rattle.fst_terms.specs.Meaning.{Meaning}
use Rattle.fst_terms.specs.declared.flat.Mark.{Mark}
use Rattle.fst_program.specs.Texts.{Prog}
use Rattle.fst_program.specs.Paths.{Gl, goals_of, GoalsValid}
use Rattle.fst_trees.specs.declared.word.Word.{Word}
use Rattle.fst_trees.specs.declared.decl.Decl.{Decl}
use Rattle.fst_syntax.specs.Program.{IsProgram}
use Rattle.fst_syntax.proofs.OneReadingLemmas.{one-reading}
use Rattle.fst_top.specs.Printed.{yes_text, no_text, refusal_text}
use Rattle.fst_top.specs.Answers.{program_in, Reads, IsYes, IsNo, IsNoOf, IsRefusal, IsUnbuilt, IsUnread, TooLong, longest, Checked}
use Rattle.fst_top.proofs.DueLemmas.{some_meaning, first-no-goal, first-no-marks, no-not-yes}

module _ (text : List ℕ) where
  same-decls : (a b : List (Decl Word)) → IsProgram text a → IsProgram text b → a ≡ b
  same-decls a b h k = (one-reading text).one_program a b h k

  some-one : (o : Option Prog) (P Q : Prog) → o ≡ Some P → o ≡ Some Q → P ≡ Q
  some-one o P Q e f = let g : Some P ≡ Some Q = sym e ∙ f in cc (g)

  pub reads-one : (P Q : Prog) → Reads text P → Reads text Q → P ≡ Q
  reads-one P Q h k = some-one (program_in text h.decls) P Q h.first (ap (program_in text) (same-decls h.decls k.decls h.program k.program) ∙ k.first)

  -- a program is no text that is too long, is not refused, and is built or not
  not-long : length text ≤ longest → longest < length text → ⊥
  not-long h k = omega (arith, h, k)

  module _ (P : Prog) (reads : Reads text P) where
    reads-not-long : longest < length text → ⊥
    reads-not-long k = not-long reads.program.short k

    reads-not-refused : (printed : List ℕ) → IsRefusal text printed → ⊥
    reads-not-refused printed r = (one-reading text).not_both reads.decls r.broken r.at reads.program r.refused

    reads-built : (printed : List ℕ) → IsUnbuilt text printed → ⊥
    reads-built printed u = let e : Some P ≡ None = sym reads.first ∙ ap (program_in text) (same-decls reads.decls u.decls reads.program u.program) ∙ u.other in cc (e)

    pub not-unread : (printed : List ℕ) → IsUnread text printed → ⊥
    not-unread printed (inl l) = reads-not-long l.0
    not-unread printed (inr (inl r)) = reads-not-refused printed r
    not-unread printed (inr (inr u)) = reads-built printed u

  module _ (p q : List ℕ) where
    yes-yes : IsYes text p → IsYes text q → p ≡ q
    yes-yes h k = h.text_is ∙ ap yes_text (reads-one h.P k.P h.reads k.reads) ∙ sym k.text_is

    yes-no : IsYes text p → IsNo text q → ⊥
    yes-no h k = no-not-yes k.no.first.before k.no.goal k.no.first.after
        (subst (GoalsValid some_meaning) (ap goals_of (reads-one h.P k.P h.reads k.reads) ∙ k.no.first.goals_are) (h.valid some_meaning))
        (k.no.first.fails some_meaning)

    pub no-of-one : (P : Prog) → IsNoOf P (goals_of P) text p → IsNoOf P (goals_of P) text q → p ≡ q
    no-of-one P h k =
        h.text_is
        ∙ ap₂ (λ g ms. no_text P g ms text) (first-no-goal (goals_of P) h.goal k.goal h.marks k.marks h.first k.first) (first-no-marks (goals_of P) h.goal k.goal h.marks k.marks h.first k.first)
        ∙ sym k.text_is

    no-no : IsNo text p → IsNo text q → p ≡ q
    no-no h k = no-of-one k.P (subst (λ P. IsNoOf P (goals_of P) text p) (reads-one h.P k.P h.reads k.reads) h.no) k.no

    pub unread-one : IsUnread text p → IsUnread text q → p ≡ q
    unread-one (inl l) (inl m) = l.1 ∙ sym m.1
    unread-one (inl l) (inr (inl r)) = absurd (not-long r.short l.0)
    unread-one (inl l) (inr (inr u)) = absurd (not-long u.program.short l.0)
    unread-one (inr (inl r)) (inl m) = absurd (not-long r.short m.0)
    unread-one (inr (inl r)) (inr (inl s)) =
        let e = (one-reading text).one_refusal r.broken s.broken r.at s.at r.refused s.refused in
        r.text_is ∙ ap₂ (λ x y. refusal_text x text y.at) e.0 e.1 ∙ sym s.text_is
    unread-one (inr (inl r)) (inr (inr u)) = absurd ((one-reading text).not_both u.decls r.broken r.at u.program r.refused)
    unread-one (inr (inr u)) (inl m) = absurd (not-long u.program.short m.0)
    unread-one (inr (inr u)) (inr (inl s)) = absurd ((one-reading text).not_both u.decls s.broken s.at u.program s.refused)
    unread-one (inr (inr u)) (inr (inr v)) = u.text_is ∙ sym v.text_is

  pub checked-one : (s t : ℕ) (p q : List ℕ) → Checked text s p → Checked text t q → (s ≡ t) × (p ≡ q)
  checked-one s t p q (inl h) (inl k) = (h.0 ∙ sym k.0, yes-yes p q h.1 k.1)
  checked-one s t p q (inl h) (inr (inl k)) = absurd (yes-no p q h.1 k.1)
  checked-one s t p q (inl h) (inr (inr k)) = absurd (not-unread h.1.P h.1.reads q k.1)
  checked-one s t p q (inr (inl h)) (inl k) = absurd (yes-no q p k.1 h.1)
  checked-one s t p q (inr (inl h)) (inr (inl k)) = (h.0 ∙ sym k.0, no-no p q h.1 k.1)
  checked-one s t p q (inr (inl h)) (inr (inr k)) = absurd (not-unread h.1.P h.1.reads q k.1)
  checked-one s t p q (inr (inr h)) (inl k) = absurd (not-unread k.1.P k.1.reads p h.1)
  checked-one s t p q (inr (inr h)) (inr (inl k)) = absurd (not-unread k.1.P k.1.reads p h.1)
  checked-one s t p q (inr (inr h)) (inr (inr k)) = (h.0 ∙ sym k.0, unread-one p q h.1 k.1)
