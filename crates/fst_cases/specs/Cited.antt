-- The marks that lines read, by a note for each atom.
use Rattle.std.specs.Prelude.{ℕ, zero, suc, ◌+◌, ◌≤◌, Bool, true, false, List, [], ◌∷◌, length, Option, Some, None, option_map, ⊤}
use Rattle.fst_terms.specs.declared.flat.Mark.{Mark}
use Rattle.fst_terms.specs.Marks.{Marking, marks_of, at_number}
use Rattle.fst_cases.specs.Closings.{Kept, AllKept}
use Rattle.fst_cases.specs.Knowing.{Falls, look_of}
use Rattle.fst_cases.specs.Refuting.{Within}
use Rattle.fst_cert.specs.Proving.{on}
use Rattle.fst_cert.specs.declared.line.Line.{Line}
use Rattle.fst_cert.specs.declared.line.Line.TheVariants as line
use Rattle.fst_cases.specs.Cores.{used}
use Rattle.fst_cases.specs.declared.cores.Want.{Want}
use Rattle.fst_cases.specs.declared.cores.Want.TheVariants as want
use Rattle.fst_cases.specs.declared.known.Known.{Known}

-- how much is read
abbrev pub rank_of : Want → ℕ
rank_of want.Nothing = 0
rank_of want.Truth = 1
rank_of want.Whole = 2

abbrev pub or_whole : Option Want → Want
or_whole None = want.Whole
or_whole (Some w) = w

-- what is read of the atom of this number; of a number that is none's, all
abbrev pub want_at : List Want → ℕ → Want
want_at ws a = or_whole (at_number ws a)

abbrev pub wanted_by : (whole : Bool) → Want
wanted_by true = want.Whole
wanted_by false = want.Truth

-- what the line reads is noted
abbrev pub Read : List Want → Line → Type 0
Read ws (line.Given a) = 2 ≤ rank_of (want_at ws a)
Read ws (line.Atom a k) = 2 ≤ rank_of (want_at ws a)
Read ws (line.Unequal a i) = 1 ≤ rank_of (want_at ws a)
Read ws l = ⊤

abbrev pub AllRead : List Want → List Line → Type 0
AllRead ws [] = ⊤
AllRead ws (l ∷ ls) = Read ws l × AllRead ws ls

-- what is read of a mark
abbrev pub mark_as : Want → Mark → Option Mark
mark_as want.Nothing m = None
mark_as want.Truth m = Some (used false m)
mark_as want.Whole m = Some m

-- the marks that are read
abbrev pub chosen : List Want → List Mark → Marking
chosen ws ms a = on (at_number ws a) (λ w. on (at_number ms a) (mark_as w))

abbrev pub known_as : ℕ → Mark → Known
known_as a m = record { atom = a; mark = m }

-- what is read of the mark at this place
abbrev pub entry_at : List Want → List Mark → ℕ → Option Known
entry_at ws ms k = option_map (known_as (suc k)) (chosen ws ms (suc k))

abbrev pub put_known : Option Known → List Known → List Known
put_known None ks = ks
put_known (Some k) ks = k ∷ ks

-- what is read of the first n marks, by falling atoms
abbrev pub core_list : List Want → List Mark → ℕ → List Known
core_list ws ms zero = []
core_list ws ms (suc n) = put_known (entry_at ws ms n) (core_list ws ms n)

-- marks of a branch with which these lines hold that hold in it
pub record IsCore (ms : List Mark) (core : List Known) (equations rows : List Line) (verdict : Line) : Type 0 where
  pub falls : Falls (length ms + 1) core
  pub within : Within (look_of core) (marks_of ms)
  pub equations_kept : AllKept (look_of core) (marks_of ms) equations
  pub rows_kept : AllKept (look_of core) (marks_of ms) rows
  pub verdict_kept : Kept (look_of core) (marks_of ms) verdict
