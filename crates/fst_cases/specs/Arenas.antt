-- Refutations by number, and the lines that each of them stands for.
use Rattle.std.specs.Prelude.{◌≡◌, ℕ, ◌<◌, ◌≤◌, List, [], ◌∷◌, ◌++◌, length, get_or}
use Rattle.fst_cert.specs.declared.line.Line.{Line}
use Rattle.fst_cert.specs.declared.line.Line.TheVariants as line
use Rattle.fst_cases.specs.declared.arena.Refutation.{Refutation}
use Rattle.fst_cases.specs.declared.arena.Rule.{Rule}
use Rattle.fst_cases.specs.declared.arena.Rule.TheVariants as rule
use Rattle.fst_cases.specs.declared.known.Known.{Known}
use Rattle.fst_cases.specs.Knowing.{joined, without}

abbrev pub no_refutation : Refutation
no_refutation = record { core = []; rule = rule.Ends [] }

-- the refutation of this number; the marks that it uses; how it ends a branch
abbrev pub refutation_at : List Refutation → ℕ → Refutation
refutation_at ns i = get_or ns i no_refutation

abbrev pub core_at : List Refutation → ℕ → List Known
core_at ns i = (refutation_at ns i).core

abbrev pub rule_at : List Refutation → ℕ → Rule
rule_at ns i = (refutation_at ns i).rule

-- the refutation that two of them give at an atom
abbrev pub branched : List Refutation → (ℕ → ℕ → ℕ → Rule) → (atom first second : ℕ) → Refutation
branched ns by a i j = record { core = joined (without (core_at ns i) a) (without (core_at ns j) a); rule = by a i j }

-- the refutation of this number stands for these lines; it stands on earlier ones
pub data Writes (ns : List Refutation) : ℕ → List Line → Type 0 where
  writes_end : (i : ℕ) (ls : List Line) → i < length ns → rule_at ns i ≡ rule.Ends ls → Writes ns i ls
  writes_split : (i a l r : ℕ) (ls ks : List Line) → i < length ns → rule_at ns i ≡ rule.Split a l r → l < i → r < i → Writes ns l ls → Writes ns r ks → Writes ns i (line.Split a ∷ ls ++ ks)
  writes_order : (i a l r : ℕ) (ls ks : List Line) → i < length ns → rule_at ns i ≡ rule.Order a l r → l < i → r < i → Writes ns l ls → Writes ns r ks → Writes ns i (line.Order a ∷ ls ++ ks)

-- the refutations stay where they are
pub record Grows (old new : List Refutation) : Type 0 where
  pub longer : length old ≤ length new
  pub same : (i : ℕ) → i < length old → refutation_at new i ≡ refutation_at old i
