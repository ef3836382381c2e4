-- What the search answers, and what it is told of leaves.
use Rattle.std.specs.Prelude.{◌+◌, List, [], length}
use Rattle.fst_terms.specs.Flats.{Flt}
use Rattle.fst_terms.specs.declared.flat.Mark.{Mark}
use Rattle.fst_terms.specs.Marks.{marks_of}
use Rattle.fst_terms.specs.Branches.{IsOpen, IsTooWide}
use Rattle.fst_cert.specs.Proving.{Proves}
use Rattle.fst_cases.specs.declared.verdict.Leaf.{Leaf}
use Rattle.fst_cases.specs.declared.verdict.Leaf.TheVariants as leaf
use Rattle.fst_cases.specs.declared.verdict.Verdict.{Verdict}
use Rattle.fst_cases.specs.declared.verdict.Verdict.TheVariants as verdict
use Rattle.fst_cases.specs.Knowing.{Falls, look_of}
use Rattle.fst_cases.specs.Refuting.{Within, IsRefuted, LeftRefuted}

-- a leaf is refuted by lines that end every branch with some of its marks, or it is open, or too wide
abbrev pub IsOf : Flt → List Mark → Leaf → Type 0
IsOf f ms (leaf.Refuted core lines) = Falls (length ms + 1) core × (Within (look_of core) (marks_of ms) × IsRefuted f [] (length ms) (look_of core) lines)
IsOf f ms leaf.Open = IsOpen f ms
IsOf f ms leaf.TooWide = IsTooWide f ms

-- the lines of a proof prove the goal; a branch is open or too wide, and each mark before its own is refuted, atom by atom
abbrev pub Decided : Flt → Verdict → Type 0
Decided f (verdict.Proved p) = Proves f p.lines
Decided f (verdict.Open b) = IsOpen f b.marks × LeftRefuted f [] f.atoms b.marks
Decided f (verdict.TooWide b) = IsTooWide f b.marks × LeftRefuted f [] f.atoms b.marks
