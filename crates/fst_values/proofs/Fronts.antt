-- What stands at the front of a list that is appended to.
use Rattle.std.proofs.Common.{◌≡◌, ℕ, List, [], ◌++◌, length, take, append_assoc, sym, ap, ◌∙◌}
use Rattle.std.proofs.Math.Seq.{take-append_seam}
use Rattle.std.proofs.lemmas.List.{append-nil}
use Rattle.fst_values.specs.Printing.{IsFront}

pub front-same : (xs ys : List ℕ) → ys ≡ xs → IsFront xs ys
front-same xs ys e = record { more = []; whole_is = e ∙ sym (append-nil xs) }

pub front-more : (xs ys part zs : List ℕ) → ys ≡ xs ++ part → IsFront ys zs → IsFront xs zs
front-more xs ys part zs e h = record { more = part ++ h.more; whole_is = h.whole_is ∙ ap (λ l. l ++ h.more) e ∙ append_assoc xs part h.more }

pub front-grow : (xs ys zs part : List ℕ) → IsFront xs ys → zs ≡ ys ++ part → IsFront xs zs
front-grow xs ys zs part h e = record { more = h.more ++ part; whole_is = e ∙ ap (λ l. l ++ part) h.whole_is ∙ append_assoc xs h.more part }

pub ruleset fronts = (front-same, front-more)

-- what is left where the rest is cut off
pub front-cut : (xs ys : List ℕ) → IsFront xs ys → take (length xs) ys ≡ xs
front-cut xs ys h = ap (take (length xs)) h.whole_is ∙ take-append_seam xs h.more
