-- A leaf that is apart and solved is an open branch; one whose rows meet a wide number is too wide.
use Rattle.std.proofs.Common.{◌≡◌, inl, inr, ℕ, zero, suc, ◌<◌, ℤ, Bool, true, false, if◌then◌else◌, List, [], ◌∷◌, ◌++◌, length, get_or, slice_index_or, Some, IsTrue, refl, sym, subst, arith}
use Rattle.std.specs.Prelude.{All, flat_map}
use Rattle.std.proofs.lemmas.Bool.{false≢true}
use Rattle.std.proofs.lemmas.List.Elements.{All-nil, All-cons, All-head, All-tail}
use Rattle.fst_base.specs.Sorts.{Srt}
use Rattle.fst_terms.specs.Terms.{Tm, t_unit, t_prim, t_if, t_app, listed}
use Rattle.fst_terms.specs.Same.{same_term, is_among}
use Rattle.fst_terms.specs.Flats.{Flt, parts_of, parts_of_each, literals}
use Rattle.fst_terms.specs.declared.flat.Mark.{Mark}
use Rattle.fst_terms.proofs.SameLemmas.{same_term-decides}
use Rattle.fst_terms.proofs.MemberLemmas.{all-at, Includes, firsts-include}
use Rattle.fst_terms.specs.Skeletons.{args_of, arg_of, rest_of}
use Rattle.fst_terms.specs.DataFacts.{subterms}
use Rattle.fst_terms.specs.FlatForms.{Fms, sorts, component_pair, number_all}
use Rattle.fst_terms.specs.Rows.{Rw, SolvesOver}
use Rattle.fst_terms.specs.Elimination.{MeetsWide}
use Rattle.fst_terms.specs.Linear.{Ineq, row_of, is_wide_ineq}
use Rattle.fst_terms.specs.Marks.{Marking, marks_of, at_number, term_number}
use Rattle.fst_terms.specs.Branches.{IsNumbered, Clash, Given, AreRows, Contradictory, IsLeft, IsOpen, IsTooWide}
use Rattle.fst_terms.specs.Solutions.{Solvable}
use Rattle.fst_terms.specs.Sentences.{IsFlat, AnswersOpen, AnswersTooWide}
use Rattle.fst_cases.specs.Refuting.{LeftRefuted}
use Rattle.fst_cases.specs.Leaves.{AreApart, IsLeaf, IsSolved, HoldsEach}
use Rattle.fst_terms.proofs.NumberLemmas.{ArgsAmong, atoms-numbered, numbered-closed}
use Rattle.fst_terms.proofs.LineTruths.{number-among}
use Rattle.fst_terms.proofs.WitnessLemmas.{solvable-consistent}
use Rattle.fst_cases.proofs.BeforeLemmas.{left-refuted-before}

-- ---- the sides of an atom are numbered

module _ (m : Fms) where
  abbrev f : Flt
  f = number_all m

  pub literals-numbered : Includes literals f.terms
  literals-numbered = right (flat_map (component_pair (sorts m)) (subterms f.atoms)) literals (firsts-include (subterms f.atoms) (flat_map (component_pair (sorts m)) (subterms f.atoms) ++ literals))
    where
      right : (ts us : List Tm) → Includes (ts ++ us) f.terms → Includes us f.terms
      right [] us h = h
      right (t ∷ ts) us h = right ts us h.1

  pub nth-numbered : (t : Tm) (k : ℕ) → IsNumbered f t → IsNumbered f (get_or (listed (args_of t)) k t_unit)
  nth-numbered t k h = go (listed (args_of t)) k (all-at (ArgsAmong f.terms) f.terms t (numbered-closed (sorts m) f.atoms) h)
    where
      go : (us : List Tm) (k : ℕ) → Includes us f.terms → IsNumbered f (get_or us k t_unit)
      go [] k i = literals-numbered.1.1.0
      go (u ∷ us) zero i = i.0
      go (u ∷ us) (suc k) i = go us k i.1

  pub atom-numbered : (a : ℕ) (t : Tm) → at_number f.atoms a ≡ Some t → IsNumbered f t
  atom-numbered a t h = go f.atoms (number-among f.atoms a t h) (atoms-numbered (sorts m) f.atoms)
    where
      head-in : (u : Tm) (us ws : List Tm) → Includes (parts_of u ++ us) ws → IsTrue (is_among u ws)
      head-in (t_prim o S ts at) us ws i = i.0
      head-in (t_if c v w) us ws i = i.0
      head-in (t_app k S ts) us ws i = i.0
      head-in u us ws i = i.0

      rest-in : (ts us ws : List Tm) → Includes (ts ++ us) ws → Includes us ws
      rest-in [] us ws i = i
      rest-in (t ∷ ts) us ws i = rest-in ts us ws i.1

      go : (us : List Tm) → IsTrue (is_among t us) → Includes (parts_of_each us) f.terms → IsNumbered f t
      go [] k i = absurd (false≢true k)
      go (u ∷ us) k i = by (λ w. go us w (rest-in (parts_of u) (parts_of_each us) f.terms i)) (same_term t u) refl k
        where
          by : (IsTrue (is_among t us) → IsNumbered f t) → (b : Bool) → same_term t u ≡ b → IsTrue (if b then true else is_among t us) → IsNumbered f t
          by ih true q w = subst (IsNumbered f) (sym ((same_term-decides t u).0 q)) (head-in u (parts_of_each us) f.terms i)
          by ih false q w = ih w

  pub made-sides : (a : ℕ) (t : Tm) → at_number f.atoms a ≡ Some t → IsNumbered f (arg_of t) × IsNumbered f (rest_of t)
  made-sides a t h = let n = atom-numbered a t h in (nth-numbered t 0 n, nth-numbered t 1 n)

pub sides-numbered : (Applies : (k : ℕ) → List Srt → (S : Srt) → Type 0) (f : Flt) → IsFlat Applies f → (a : ℕ) (t : Tm) → at_number f.atoms a ≡ Some t → IsNumbered f (arg_of t) × IsNumbered f (rest_of t)
sides-numbered Applies f flat = subst (λ g. (a : ℕ) (t : Tm) → at_number g.atoms a ≡ Some t → IsNumbered g (arg_of t) × IsNumbered g (rest_of t)) (sym flat.is) (made-sides flat.made)

module _ (f : Flt) where
  -- ---- no clash

  module _ (sides : (a : ℕ) (t : Tm) → at_number f.atoms a ≡ Some t → IsNumbered f (arg_of t) × IsNumbered f (rest_of t)) where
    apart-free : (look : Marking) (label : Tm → ℕ) → AreApart f look label → Clash f look → ⊥
    apart-free look label a (inl c) = a.different c.first c.second c.first_numbered c.second_numbered c.different (a.joined c.first c.second c.first_numbered c.second_numbered c.joined)
    apart-free look label a (inr c) =
        let s = sides c.number c.atom c.has.atom in
        a.unequal c.number c.atom c.mark c.has c.equation c.false (a.joined _ _ s.0 s.1 c.sides)

    pub leaf-left : (ms : List Mark) → IsLeaf f ms → IsLeft f ms
    leaf-left ms l = record { marked = l.marked; formulas = l.formulas; goal = l.goal; no_clash = apart-free (marks_of ms) l.label l.apart }

  -- ---- no contradiction

  IsRowOf : Marking → Rw → Type 0
  IsRowOf look r = (d : Ineq) × (Given f look d × (r ≡ row_of (term_number f) d))

  all-solved : (look : Marking) (s : IsSolved f look) (rows : List Rw) → AreRows f look rows → All (SolvesOver s.scale s.values) rows
  all-solved look s [] h = All-nil (SolvesOver s.scale s.values)
  all-solved look s (r ∷ rows) h =
      let w = All-head (λ r. (d : Ineq) × (Given f look d × (r ≡ row_of (term_number f) d))) r rows h in
      All-cons (SolvesOver s.scale s.values) r rows (subst (SolvesOver s.scale s.values) (sym w.1.1) (s.solves w.0 w.1.0)) (all-solved look s rows (All-tail (λ r. (d : Ineq) × (Given f look d × (r ≡ row_of (term_number f) d))) r rows h))

  pub solved-consistent : (look : Marking) → IsSolved f look → Contradictory f look → ⊥
  solved-consistent look s c = solvable-consistent c.0 (record { scale = s.scale; positive = s.positive; values = s.values; solves = all-solved look s c.0 c.1.0 }) c.1.1

  contained : (s : ℕ) (x : ℕ → ℤ) (rows : List Rw) (r : Rw) → All (SolvesOver s x) rows → (k : ℕ) → k < length rows → slice_index_or rows k r ≡ r → SolvesOver s x r
  contained s x [] r h k l q = absurd (omega (arith, l))
  contained s x (a ∷ rows) r h zero l q = subst (SolvesOver s x) q (All-head (SolvesOver s x) a rows h)
  contained s x (a ∷ rows) r h (suc k) l q = contained s x rows r (All-tail (SolvesOver s x) a rows h) k (omega (arith, l)) q

  -- a solution of a list that holds each row of the marking
  pub rows-solved : (look : Marking) (rows : List Rw) → HoldsEach f look rows → Solvable rows → IsSolved f look
  rows-solved look rows each w = record {
    scale = w.scale;
    positive = w.positive;
    values = w.values;
    solves = λ d g. let c = each d g in contained w.scale w.values rows (row_of (term_number f) d) w.solves c.0 c.1 c.2;
  }

  -- ---- what a leaf of a flat form whose atoms' sides are numbered is

  module _ (sides : (a : ℕ) (t : Tm) → at_number f.atoms a ≡ Some t → IsNumbered f (arg_of t) × IsNumbered f (rest_of t)) where
    pub leaf-open : (ms : List Mark) → IsLeaf f ms → IsSolved f (marks_of ms) → IsOpen f ms
    leaf-open ms l s = record { left = leaf-left sides ms l; no_contradiction = solved-consistent (marks_of ms) s }

    pub leaf-wide-row : (ms : List Mark) → IsLeaf f ms → (d : Ineq) → Given f (marks_of ms) d → IsTrue (is_wide_ineq (term_number f) d) → IsTooWide f ms
    leaf-wide-row ms l d g w = record { left = leaf-left sides ms l; wide = inl (d, (g, w)) }

    -- some rows of the marking are enough
    pub leaf-wide-sum : (ms : List Mark) → IsLeaf f ms → (rows : List Rw) → AreRows f (marks_of ms) rows → MeetsWide rows → IsTooWide f ms
    leaf-wide-sum ms l rows are w = record { left = leaf-left sides ms l; wide = inr (rows, (are, w)) }

module _ (Applies : (k : ℕ) → List Srt → (S : Srt) → Type 0) (f : Flt) (flat : IsFlat Applies f) where
  -- ---- the answers

  pub answers-open : (ms : List Mark) → LeftRefuted f [] f.atoms ms → IsLeaf f ms → IsSolved f (marks_of ms) → AnswersOpen Applies f ms
  answers-open ms left l s = record {
    opens = leaf-open f (sides-numbered Applies f flat) ms l s;
    none_before = left-refuted-before Applies f flat ms left;
  }

  pub answers-wide-row : (ms : List Mark) → LeftRefuted f [] f.atoms ms → IsLeaf f ms → (d : Ineq) → Given f (marks_of ms) d → IsTrue (is_wide_ineq (term_number f) d) → AnswersTooWide Applies f ms
  answers-wide-row ms left l d g w = record {
    too_wide = leaf-wide-row f (sides-numbered Applies f flat) ms l d g w;
    none_before = left-refuted-before Applies f flat ms left;
  }

  pub answers-wide-sum : (ms : List Mark) → LeftRefuted f [] f.atoms ms → IsLeaf f ms → (rows : List Rw) → AreRows f (marks_of ms) rows → MeetsWide rows → AnswersTooWide Applies f ms
  answers-wide-sum ms left l rows are w = record {
    too_wide = leaf-wide-sum f (sides-numbered Applies f flat) ms l rows are w;
    none_before = left-refuted-before Applies f flat ms left;
  }
