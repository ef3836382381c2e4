-- The trail of a search: the marks that stand, and the refutations of the marks before them.
use Rattle.std.specs.Prelude.{◌≡◌, ℕ, zero, suc, ◌+◌, ◌<◌, ◌≤◌, Bool, if◌then◌else◌, List, [], ◌∷◌, ◌++◌, length, map, slice_get, Option, Some, None, IsTrue, ⊤}
use Rattle.fst_terms.specs.Terms.{Tm}
use Rattle.fst_terms.specs.Flats.{Flt}
use Rattle.fst_terms.specs.declared.flat.Mark.{Mark}
use Rattle.fst_terms.specs.declared.flat.Mark.TheVariants as mark
use Rattle.fst_terms.specs.Marks.{marks_of, var_sorts, fits}
use Rattle.fst_cert.specs.declared.line.Line.{Line}
use Rattle.fst_cases.specs.declared.arena.Refutation.{Refutation}
use Rattle.fst_cases.specs.declared.arena.Rule.TheVariants as by
use Rattle.fst_cases.specs.declared.trail.Retreat.{Retreat}
use Rattle.fst_cases.specs.declared.trail.Retreat.TheVariants as retreat
use Rattle.fst_cases.specs.declared.trail.Step.{Step}
use Rattle.fst_cases.specs.Arenas.{Grows, Writes, branched, core_at}
use Rattle.fst_cases.specs.Knowing.{Falls, look_of}
use Rattle.fst_cases.specs.Refuting.{Within, IsRefuted}

abbrev pub marks_in : List Step → List Mark
marks_in ss = map (λ (s : Step). s.mark) ss

-- the refutation of this number refutes the marks of these first atoms
pub record RefutesAt (f : Flt) (ns : List Refutation) (ms : List Mark) (i : ℕ) : Type 0 where
  pub there : i < length ns
  pub falls : Falls (length ms + 1) (core_at ns i)
  pub within : Within (look_of (core_at ns i)) (marks_of ms)
  pub lines : List Line
  pub written : Writes ns i lines
  pub refuted : IsRefuted f [] (length ms) (look_of (core_at ns i)) lines

-- the marks before this one of its atom are refuted
abbrev pub LeftAt : Flt → List Refutation → (ms : List Mark) → Mark → Step → Type 0
LeftAt f ns ms mark.True s = ⊤
LeftAt f ns ms mark.False s = RefutesAt f ns (ms ++ mark.True ∷ []) s.on_true
LeftAt f ns ms mark.Less s = RefutesAt f ns (ms ++ mark.True ∷ []) s.on_true
LeftAt f ns ms mark.Greater s = RefutesAt f ns (ms ++ mark.True ∷ []) s.on_true × RefutesAt f ns (ms ++ mark.Less ∷ []) s.on_less

-- each mark fits its atom, and the marks of its atom before it are refuted
pub data Trail (f : Flt) (ns : List Refutation) : List Step → Type 0 where
  trail_none : Trail f ns []
  trail_more : (ss : List Step) (s : Step) (t : Tm) → Trail f ns ss → slice_get f.atoms (length ss) ≡ Some t → IsTrue (fits (var_sorts f) t s.mark) → LeftAt f ns (marks_in ss) s.mark s → Trail f ns (ss ++ s ∷ [])

-- a mark that may stand
pub record NextStands (f : Flt) (ns : List Refutation) (ss : List Step) (s : Step) : Type 0 where
  pub atom : Tm
  pub at : slice_get f.atoms (length ss) ≡ Some atom
  pub fit : IsTrue (fits (var_sorts f) atom s.mark)
  pub left : LeftAt f ns (marks_in ss) s.mark s

-- a mark that stands, and a refutation of the marks up to it
pub record Standing (f : Flt) (ns : List Refutation) (ss : List Step) (s : Step) (i : ℕ) : Type 0 where
  pub atom : Tm
  pub at : slice_get f.atoms (length ss) ≡ Some atom
  pub fit : IsTrue (fits (var_sorts f) atom s.mark)
  pub left : LeftAt f ns (marks_in ss) s.mark s
  pub refuted : RefutesAt f ns (marks_in ss ++ s.mark ∷ []) i

-- ---- how many branches are left

-- five to the n, so that each atom has a digit: 4 without a mark, less with each mark that is tried
abbrev pub power : ℕ → ℕ
power zero = 1
power (suc n) = power n + power n + power n + power n + power n

-- the digit of a mark, times x
abbrev pub worth : Mark → ℕ → ℕ
worth mark.True x = x + x + x
worth mark.False x = x + x
worth mark.Less x = x + x
worth mark.Greater x = x

-- the number with these digits
abbrev pub branches : (atoms : ℕ) → List Mark → ℕ
branches zero ms = 0
branches (suc n) [] = power n + power n + power n + power n + branches n []
branches (suc n) (m ∷ ms) = worth m (power n) + branches n ms

-- the second mark is tried after the first
abbrev pub After : Mark → Mark → Type 0
After m n = (x : ℕ) → worth n x + x ≤ worth m x

-- ---- the next mark

abbrev pub step_to : Mark → (on_true on_less : ℕ) → Step
step_to m t l = record { mark = m; on_true = t; on_less = l }

abbrev pub next_by : Mark → Step → (is_number : Bool) → (used : Mark) → (node : ℕ) → Option Step
next_by mark.True s number used node = Some (step_to (if number then mark.Less else mark.False) node node)
next_by mark.Less s number mark.False node = None
next_by mark.Less s number used node = Some (step_to mark.Greater s.on_true node)
next_by m s number used node = None

-- the mark that is tried after one that is refuted
abbrev pub next_step : Step → (is_number : Bool) → (used : Mark) → (node : ℕ) → Option Step
next_step s number used node = next_by s.mark s number used node

-- one refutation was put there, from two
pub record Splits (old new : List Refutation) (a i j at : ℕ) : Type 0 where
  pub put : new ≡ old ++ branched old by.Split a i j ∷ []
  pub last : at ≡ length old

-- two were put there, from three
pub record Orders (old new : List Refutation) (a i j k at : ℕ) : Type 0 where
  pub between : List Refutation
  pub order : between ≡ old ++ branched old by.Order a j k ∷ []
  pub split : Splits between new a i (length old) at

-- what a refutation gives: a mark in place of the last one, or a refutation of the marks before it
abbrev pub Retreats : Flt → (old new : List Refutation) → List Step → Step → Retreat → Type 0
Retreats f old new ss s (retreat.Next n) = Grows old new × (NextStands f new ss n × After s.mark n.mark)
Retreats f old new ss s (retreat.Refuted i) = Grows old new × RefutesAt f new (marks_in ss) i

-- the search goes on below another mark, or all is refuted
abbrev pub Advanced : Flt → (old new : List Refutation) → (before after : List Step) → Option ℕ → Type 0
Advanced f old new before after None = Grows old new × (Trail f new after × (branches (length f.atoms) (marks_in after) < branches (length f.atoms) (marks_in before)))
Advanced f old new before after (Some i) = Grows old new × RefutesAt f new [] i

-- the refutation of all marks of an atom
abbrev pub closes_by : Mark → (used : Mark) → (old new : List Refutation) → (a : ℕ) → Step → (node at : ℕ) → Type 0
closes_by mark.Greater mark.False old new a s node at = Splits old new a s.on_true node at
closes_by mark.Greater used old new a s node at = Orders old new a s.on_true s.on_less node at
closes_by m used old new a s node at = Splits old new a s.on_true node at

abbrev pub closes : (old new : List Refutation) → (a : ℕ) → Step → (used : Mark) → (node at : ℕ) → Type 0
closes old new a s used node at = closes_by s.mark used old new a s node at

-- all atoms are marked, and no more branches are left than before
pub record Filled (f : Flt) (ns : List Refutation) (before after : List Step) : Type 0 where
  pub trail : Trail f ns after
  pub full : length after ≡ length f.atoms
  pub fewer : branches (length f.atoms) (marks_in after) ≤ branches (length f.atoms) (marks_in before)
