-- A function value that reads a term, or a formula, of at most so many tokens.
use Rattle.std.specs.Prelude.{ℕ, ◌<◌, Bool, List, length, Result, OnOk}
use denote.Ref.{MutBor}
use Rattle.fst_syntax.specs.declared.stop.Stop.{Stop}
use Rattle.fst_syntax.specs.Tokens.{Token}
use Rattle.fst_syntax.specs.Trees.{Tree}
use Rattle.fst_syntax.specs.Reading.{Reads, reads}
use Rattle.fst_syntax.specs.Productions.{term}

pub record Nests (formula : Bool) (room : ℕ) (pre : Bool → MutBor (List Token) → ℕ → Type 0)
    (post : Bool → MutBor (List Token) → ℕ → Result Tree Stop → MutBor (List Token) → Type 0) : Type 0 where
  pub callable : (old : MutBor (List Token)) → length old.now < room → pre formula old room
  pub reads : (old new : MutBor (List Token)) (r : Result Tree Stop) → post formula old room r new → Reads (reads (term formula) old.now) r new.now
  pub shorter : (old new : MutBor (List Token)) (r : Result Tree Stop) → post formula old room r new → OnOk r (length new.now < length old.now)
