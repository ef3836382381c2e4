-- The two claims on runs. `Ends`: with enough fuel, allowance and open calls a run is done, with one result. `AllSettle`: for each fuel a
-- run has one fine outcome from some allowance on. Each keeps the rules of a modality.
use Rattle.std.proofs.Common.{◌≡◌, ℕ, zero, suc, ◌+◌, ◌≤◌, Bool, false, refl, sym, ap, ◌∙◌, arith}
use Rattle.fst_base.specs.Values.{Val}
use Rattle.fst_program.specs.Runs.{Outcome, Done, Out, Wide, Stuck, GhostOut, spend, then_do}
use Rattle.fst_program.specs.Good.{IsFine}
use Rattle.fst_program.proofs.Modality.{Modality}

-- ---- runs that end

-- an allowance, and a bound on open calls
pub record Level : Type 0 where
  pub allowance : ℕ
  pub open_calls : ℕ

-- with enough fuel, allowance and open calls the run is done with the same result
pub record Ends (Q : Val → Type 0) (r : Level → ℕ → Outcome) : Type 0 where
  pub enough : ℕ
  pub result : Val
  pub left : ℕ
  pub meets : Q result
  pub done : (i : Level) (d : ℕ) → enough ≤ i.allowance → enough ≤ i.open_calls → r i (enough + d) ≡ Done result (left + d)

pub record GhostEnds (Q : Val → Type 0) (g : Level → Outcome) : Type 0 where
  pub enough : ℕ
  pub result : Val
  pub meets : Q result
  pub done : (i : Level) → enough ≤ i.allowance → enough ≤ i.open_calls → g i ≡ Done result zero

ends-next : (Q R : Val → Type 0) (r : Level → ℕ → Outcome) (k : Level → Val → ℕ → Outcome) → Ends Q r → ((v : Val) → Q v → Ends R (λ i l. k i v l)) → Ends R (λ i F. then_do (r i F) (λ v l. k i v l))
ends-next Q R r k x y =
    let z = y x.result x.meets in
    record {
      enough = x.enough + z.enough;
      result = z.result;
      left = z.left + x.left;
      meets = z.meets;
      done = λ i d p q.
          let e1 : x.enough + z.enough + d ≡ x.enough + (z.enough + d) = omega arith in
          let e2 : x.left + (z.enough + d) ≡ z.enough + (x.left + d) = omega arith in
          let e3 : z.left + x.left + d ≡ z.left + (x.left + d) = omega arith in
          let first : r i (x.enough + z.enough + d) ≡ Done x.result (z.enough + (x.left + d)) = ap (r i) e1 ∙ x.done i (z.enough + d) (omega arith) (omega arith) ∙ ap (Done x.result) e2 in
          let last = z.done i (x.left + d) (omega arith) (omega arith) in
          ap (λ o. then_do o (λ v l. k i v l)) first ∙ last ∙ ap (Done z.result) (sym e3);
    }

ends-ghost : (Q R : Val → Type 0) (g : Level → Outcome) (k : Level → Val → ℕ → Outcome) → GhostEnds Q g → ((v : Val) → Q v → Ends R (λ i F. k i v F)) → Ends R (λ i F. then_do (g i) (λ v r. k i v F))
ends-ghost Q R g k x y =
    let z = y x.result x.meets in
    record {
      enough = x.enough + z.enough;
      result = z.result;
      left = z.left + x.enough;
      meets = z.meets;
      done = λ i d p q.
          let e1 : x.enough + z.enough + d ≡ z.enough + (x.enough + d) = omega arith in
          let e2 : z.left + x.enough + d ≡ z.left + (x.enough + d) = omega arith in
          ap (λ o. then_do o (λ v r. k i v (x.enough + z.enough + d))) (x.done i (omega arith) (omega arith)) ∙ ap (k i x.result) e1 ∙ z.done i (x.enough + d) (omega arith) (omega arith) ∙ ap (Done z.result) (sym e2);
    }

ends-unit : (Q : Val → Type 0) (r : Level → ℕ → Outcome) → Ends Q r → Ends Q (λ i F. spend F (λ l. r i l))
ends-unit Q r x = record {
  enough = suc x.enough;
  result = x.result;
  left = x.left;
  meets = x.meets;
  done = λ i d p q.
      let e : suc x.enough + d ≡ suc (x.enough + d) = omega arith in
      ap (λ F. spend F (λ l. r i l)) e ∙ x.done i d (omega arith) (omega arith);
}

pub ends-weaken : (Q R : Val → Type 0) (r : Level → ℕ → Outcome) → ((v : Val) → Q v → R v) → Ends Q r → Ends R r
ends-weaken Q R r h x = record { enough = x.enough; result = x.result; left = x.left; meets = h x.result x.meets; done = x.done }

pub ends-rules : Modality Level false Ends GhostEnds
ends-rules = record {
  done = λ Q v q. record { enough = 0; result = v; left = 0; meets = q; done = λ i d p q. refl };
  wide = λ Q e. cc;
  unit = ends-unit;
  next = ends-next;
  ghost = ends-ghost;
  weaken = ends-weaken;
}

-- ---- runs that settle

-- for this fuel, one outcome from some allowance on
pub record SettlesOn (Q : Val → Type 0) (r : ℕ → Outcome) : Type 0 where
  pub from : ℕ
  pub outcome : Outcome
  pub fine : IsFine Q outcome
  pub same : (G : ℕ) → from ≤ G → r G ≡ outcome

abbrev pub AllSettle : (Val → Type 0) → (ℕ → ℕ → Outcome) → Type 0
AllSettle Q r = (F : ℕ) → SettlesOn Q (λ G. r G F)

pub record GhostSettles (Q : Val → Type 0) (g : ℕ → Outcome) : Type 0 where
  pub from : ℕ
  pub result : Val
  pub meets : Q result
  pub same : (G : ℕ) → from ≤ G → g G ≡ Done result zero

settle-next : (Q R : Val → Type 0) (r : ℕ → Outcome) (k : ℕ → Val → ℕ → Outcome) → SettlesOn Q r → ((v : Val) → Q v → AllSettle R (λ G l. k G v l)) → SettlesOn R (λ G. then_do (r G) (λ v l. k G v l))
settle-next Q R r k x y = go x.outcome x.fine x.same
  where
    go : (o : Outcome) → IsFine Q o → ((G : ℕ) → x.from ≤ G → r G ≡ o) → SettlesOn R (λ G. then_do (r G) (λ v l. k G v l))
    go (Done v l) f same =
        let z = y v f l in
        record { from = x.from + z.from; outcome = z.outcome; fine = z.fine; same = λ G le. ap (λ o. then_do o (λ v l. k G v l)) (same G (omega arith)) ∙ z.same G (omega arith) }
    go Out f same = record { from = x.from; outcome = Out; fine = tt; same = λ G le. ap (λ o. then_do o (λ v l. k G v l)) (same G le) }
    go Wide f same = record { from = x.from; outcome = Wide; fine = tt; same = λ G le. ap (λ o. then_do o (λ v l. k G v l)) (same G le) }
    go (Stuck at) f same = absurd f
    go GhostOut f same = absurd f

settle-ghost : (Q R : Val → Type 0) (g : ℕ → Outcome) (k : ℕ → Val → ℕ → Outcome) → GhostSettles Q g → ((v : Val) → Q v → AllSettle R (λ G F. k G v F)) → AllSettle R (λ G F. then_do (g G) (λ v r. k G v F))
settle-ghost Q R g k x y F =
    let z = y x.result x.meets F in
    record { from = x.from + z.from; outcome = z.outcome; fine = z.fine; same = λ G le. ap (λ o. then_do o (λ v r. k G v F)) (x.same G (omega arith)) ∙ z.same G (omega arith) }

settle-unit : (Q : Val → Type 0) (r : ℕ → ℕ → Outcome) → AllSettle Q r → AllSettle Q (λ G F. spend F (λ l. r G l))
settle-unit Q r x zero = record { from = 0; outcome = Out; fine = tt; same = λ G le. refl }
settle-unit Q r x (suc l) = let z = x l in record { from = z.from; outcome = z.outcome; fine = z.fine; same = z.same }

pub fine-weaken : (Q R : Val → Type 0) → ((v : Val) → Q v → R v) → (o : Outcome) → IsFine Q o → IsFine R o
fine-weaken Q R h (Done v l) f = h v f
fine-weaken Q R h Out f = tt
fine-weaken Q R h Wide f = tt
fine-weaken Q R h (Stuck at) f = absurd f
fine-weaken Q R h GhostOut f = absurd f

pub settle-rules : (b : Bool) → Modality ℕ b AllSettle GhostSettles
settle-rules b = record {
  done = λ Q v q F. record { from = 0; outcome = Done v F; fine = q; same = λ G le. refl };
  wide = λ Q e F. record { from = 0; outcome = Wide; fine = tt; same = λ G le. refl };
  unit = settle-unit;
  next = λ Q R r k x y F. settle-next Q R (λ G. r G F) k (x F) y;
  ghost = settle-ghost;
  weaken = λ Q R r h x F. let z = x F in record { from = z.from; outcome = z.outcome; fine = fine-weaken Q R h z.outcome z.fine; same = z.same };
}
