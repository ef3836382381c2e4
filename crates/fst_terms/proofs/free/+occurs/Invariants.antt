use Rattle.std.proofs.Common.{◌≡◌, ℕ, false, take}
use Rattle.fst_terms.specs.Indices.{Stands}
use Rattle.fst_terms.specs.Terms.{free_in_some, plain_terms}
use Rattle.fst_terms.proofs.free.+occurs.Given as goal

abbrev pub invariant-occurs_in_some-loop-term : goal.invariant-occurs_in_some-loop-term
invariant-occurs_in_some-loop-term l = (index : ℕ) → Stands l.number index → free_in_some index (plain_terms (take l.term-index l.terms)) ≡ false
