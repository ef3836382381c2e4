-- Closings put together: explanations one after the other, and the marks that lines read.
use Rattle.std.specs.Prelude.{◌≡◌, ℕ, zero, suc, ◌+◌, List, [], ◌∷◌, map, option_map, ⊤}
use Rattle.fst_terms.specs.Flats.{truth_of}
use Rattle.fst_terms.specs.Marks.{Marking}
use Rattle.fst_cert.specs.declared.line.Line.{Line}
use Rattle.fst_cert.specs.declared.line.Line.TheVariants as line
use Rattle.fst_linear.specs.Refutations.{Stp}

-- the first marking has the mark that the line reads of the second, or its truth where this alone is read
abbrev pub Kept : (core look : Marking) → Line → Type 0
Kept core look (line.Given a) = core a ≡ look a
Kept core look (line.Atom a k) = core a ≡ look a
Kept core look (line.Unequal a i) = option_map truth_of (core a) ≡ option_map truth_of (look a)
Kept core look l = ⊤

abbrev pub AllKept : (core look : Marking) → List Line → Type 0
AllKept core look [] = ⊤
AllKept core look (l ∷ ls) = Kept core look l × AllKept core look ls

-- the number of an equation with k more before it; 0 stands for none
abbrev pub moved : ℕ → ℕ → ℕ
moved k zero = zero
moved k (suc n) = suc (n + k)

-- an equation line with k more equations before it
abbrev pub shifted : ℕ → Line → Line
shifted k (line.Flip i) = line.Flip (moved k i)
shifted k (line.Chain i j) = line.Chain (moved k i) (moved k j)
shifted k (line.Same t u ns) = line.Same t u (map (moved k) ns)
shifted k (line.Part i p) = line.Part (moved k i) p
shifted k l = l

-- the line of a step of a refutation of rows
abbrev pub add_line : Stp → Line
add_line s = line.Add s.p s.i s.q s.j
