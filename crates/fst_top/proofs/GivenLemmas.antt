-- What is due for a run is given, since its status is below that of a failed fetch.
use Rattle.std.proofs.Common.{◌≡◌, ◌⊎◌, inl, inr, ℕ, ◌<◌, List, Some, arith}
use Rattle.fst_program.specs.Runs.{Outcome, Done, Out, Wide, Stuck, GhostOut}
use Rattle.fst_top.specs.Answers.{run, Ran, Ended}
use Rattle.fst_top.specs.Outcomes.{Given}

ended-below : (o : Outcome) (s : ℕ) (p : List ℕ) → Ended o s p → s < 7
ended-below (Done v left) s p h = let e = h.0 in omega (arith, e)
ended-below Out s p h = let e = h.0 in omega (arith, e)
ended-below Wide s p h = absurd h
ended-below (Stuck at) s p h = absurd h
ended-below GhostOut s p h = absurd h

ran-below : (text : List ℕ) (fuel : ℕ) (words : List (List ℕ)) (s : ℕ) (p : List ℕ) → Ran text fuel words s p → s < 7
ran-below text fuel words s p (inl h) = let e = h.0 in omega (arith, e)
ran-below text fuel words s p (inr (inl h)) = let e = h.0 in omega (arith, e)
ran-below text fuel words s p (inr (inr (inl h))) = let e = h.0 in omega (arith, e)
ran-below text fuel words s p (inr (inr (inr (inl h)))) = let e = h.0 in omega (arith, e)
ran-below text fuel words s p (inr (inr (inr (inr r)))) = ended-below _ s p r.ended

pub run-given : (file : List ℕ) (fuel : ℕ) (words : List (List ℕ)) (given : List ℕ → List ℕ) (failed : Type 0) (s : ℕ) (p : List ℕ)
    → Ran (given file) fuel words s p → Given (Some (run file fuel words)) given failed s p
run-given file fuel words given failed s p h = inr (ran-below (given file) fuel words s p h, h)
