-- Claims on families of runs that each step of a run keeps. What a run does is walked once, for every such claim; the claims that are
-- needed, that runs end and that runs settle, are then two instances.
use Rattle.std.proofs.Common.{◌≡◌, ℕ, Bool, true, sym, subst, inl, inr, List}
use Rattle.fst_base.specs.Sorts.{Srt}
use Rattle.fst_base.specs.Values.{Val, Has, HasSorts}
use Rattle.fst_program.specs.Evaluation.{Got, Gots}
use Rattle.fst_program.specs.Runs.{Outcome, Done, Wide, spend, then_do, with_value, with_values}
use Rattle.fst_program.proofs.SortedLemmas.{GotHas, GotsHave}
use Rattle.fst_program.proofs.Evaluated.{Evaluates, EvaluateAll}

-- Ok Q r says of a family of runs r, by an index and fuel, that its results are of Q; GhostOk says it of ghost parts
pub record Modality (I : Type 0) (b : Bool) (Ok : (Val → Type 0) → (I → ℕ → Outcome) → Type 0) (GhostOk : (Val → Type 0) → (I → Outcome) → Type 0) : Type 1 where
  pub done : (Q : Val → Type 0) (v : Val) → Q v → Ok Q (λ i F. Done v F)
  pub wide : (Q : Val → Type 0) → b ≡ true → Ok Q (λ i F. Wide)
  pub unit : (Q : Val → Type 0) (r : I → ℕ → Outcome) → Ok Q r → Ok Q (λ i F. spend F (λ l. r i l))
  pub next : (Q R : Val → Type 0) (r : I → ℕ → Outcome) (k : I → Val → ℕ → Outcome) → Ok Q r → ((v : Val) → Q v → Ok R (λ i l. k i v l)) → Ok R (λ i F. then_do (r i F) (λ v l. k i v l))
  pub ghost : (Q R : Val → Type 0) (g : I → Outcome) (k : I → Val → ℕ → Outcome) → GhostOk Q g → ((v : Val) → Q v → Ok R (λ i F. k i v F)) → Ok R (λ i F. then_do (g i) (λ v r. k i v F))
  pub weaken : (Q R : Val → Type 0) (r : I → ℕ → Outcome) → ((v : Val) → Q v → R v) → Ok Q r → Ok R r

module _ (I : Type 0) (b : Bool) (Ok : (Val → Type 0) → (I → ℕ → Outcome) → Type 0) (GhostOk : (Val → Type 0) → (I → Outcome) → Type 0) (rules : Modality I b Ok GhostOk) where
  -- a term that is evaluated
  pub with-term : (R : Val → Type 0) (g : Got) (v : Val) (S : Srt) (k : I → Val → ℕ → Outcome) → Evaluates b g v → GotHas S g → (Has S v → Ok R (λ i l. k i v l)) → Ok R (λ i F. with_value g (λ v. k i v F))
  with-term R g v S k (inl p) h n = subst (λ g. Ok R (λ i F. with_value g (λ v. k i v F))) (sym p.1) (rules.wide R p.0)
  with-term R g v S k (inr p) h n = subst (λ g. Ok R (λ i F. with_value g (λ v. k i v F))) (sym p) (n (subst (GotHas S) p h))

  pub with-terms : (R : Val → Type 0) (g : Gots) (vs : List Val) (Ss : List Srt) (k : I → List Val → ℕ → Outcome) → EvaluateAll b g vs → GotsHave Ss g → (HasSorts Ss vs → Ok R (λ i l. k i vs l)) → Ok R (λ i F. with_values g (λ vs. k i vs F))
  with-terms R g vs Ss k (inl p) h n = subst (λ g. Ok R (λ i F. with_values g (λ v. k i v F))) (sym p.1) (rules.wide R p.0)
  with-terms R g vs Ss k (inr p) h n = subst (λ g. Ok R (λ i F. with_values g (λ v. k i v F))) (sym p) (n (subst (GotsHave Ss) p h))
