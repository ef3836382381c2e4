-- What a closure of terms gives a leaf: labels that are apart, and closings from its explanations.
use Rattle.std.proofs.Common.{◌≡◌, ℕ, ◌-◌, subst, Bool, true, false, not, ◌&&◌, List, [], length, refl, sym, ap, ◌∙◌, arith}
use Rattle.std.specs.Prelude.{IsTrue}
use Rattle.fst_terms.specs.Terms.{Tm, t_unit}
use Rattle.fst_terms.specs.Flats.{Flt, truth_of}
use Rattle.fst_terms.specs.Same.{same_term}
use Rattle.fst_terms.specs.declared.flat.Mark.{Mark}
use Rattle.fst_terms.specs.Skeletons.{arg_of, rest_of}
use Rattle.fst_terms.specs.Marks.{Marking, at_number, is_equation}
use Rattle.fst_terms.specs.Branches.{IsNumbered, HasMark, Joined, differ}
use Rattle.fst_terms.proofs.SameLemmas.{same_term-decides}
use Rattle.fst_cert.specs.declared.line.Line.{Line}
use Rattle.fst_cert.specs.declared.line.Line.TheVariants as line
use Rattle.fst_cert.specs.Proving.{holds, Eqn, is_eqn, is_verdict}
use Rattle.fst_congruence.specs.declared.equation.Equation.{Equation}
use Rattle.fst_congruence.specs.Classes.{label_at}
use Rattle.fst_congruence.specs.Closures.{IsExact}
use Rattle.fst_congruence.specs.Numbered.{nodes_of, number_of, term_at, IsNumber, IsNumbering}
use Rattle.fst_congruence.specs.Explained.{AreEquations, Gives}
use Rattle.fst_congruence.proofs.HeadLemmas.{Hit, place-hit, term-of-number}
use Rattle.fst_congruence.proofs.JoinedLemmas.{numbered-number, joined-terms}
use Rattle.fst_congruence.proofs.NumberedLemmas.{nodes-count}
use Rattle.fst_cases.specs.Clashes.{label_of}
use Rattle.fst_cases.specs.Leaves.{AreApart}
use Rattle.fst_cases.specs.Refuting.{Closes}

-- the number that is found of a numbered term is its number
pub number-found : (f : Flt) (t : Tm) → IsNumbered f t → IsNumber f.terms (number_of f.terms t) × (term_at f.terms (number_of f.terms t) ≡ t)
number-found f t n =
    let at = numbered-number f t n in
    let p = at.1.0 in
    let hit : Hit (same_term t) 1 f.terms = place-hit (same_term t) 1 f.terms (at.0 - 1) t_unit (omega (arith, p.counted, p.within)) ((same_term-decides t (term_at f.terms at.0)).1 (sym at.1.1)) in
    (record { counted = omega (arith, hit.is); within = omega (arith, hit.is, hit.within) }, term-of-number f.terms at.0 t at.1.0 at.1.1)

-- under the equations of a marking joined terms have one label
pub joined-labels : (f : Flt) (look : Marking) (es : List Equation) (labels : List ℕ) → IsNumbering f.terms → AreEquations f look es → IsExact (nodes_of f.terms) es labels → (t u : Tm) → IsNumbered f t → IsNumbered f u → Joined f look t u → label_of f labels t ≡ label_of f labels u
joined-labels f look es labels is equations exact t u n m h =
    let first = number-found f t n in
    let second = number-found f u m in
    let count = nodes-count f.terms in
    let same : Joined f look (term_at f.terms (number_of f.terms t)) (term_at f.terms (number_of f.terms u)) = subst (λ x. Joined f look x (term_at f.terms (number_of f.terms u))) (sym first.1) (subst (λ x. Joined f look t x) (sym second.1) h) in
    (exact (number_of f.terms t) (number_of f.terms u) (let le = first.0.within in omega (arith, le, count)) (let le = second.0.within in omega (arith, le, count))).1
    ((joined-terms f look es is equations (number_of f.terms t) (number_of f.terms u) first.0 second.0).1 same)

-- labels of a closure are apart where no two constructors and no sides of a false equation have one label
pub labels-apart : (f : Flt) (look : Marking) (es : List Equation) (labels : List ℕ) → IsNumbering f.terms → AreEquations f look es → IsExact (nodes_of f.terms) es labels
    → ((t u : Tm) → IsNumbered f t → IsNumbered f u → IsTrue (differ t u) → label_of f labels t ≡ label_of f labels u → ⊥)
    → ((a : ℕ) (t : Tm) (m : Mark) → HasMark f look a t m → IsTrue (is_equation t) → truth_of m ≡ false → label_of f labels (arg_of t) ≡ label_of f labels (rest_of t) → ⊥) → AreApart f look (label_of f labels)
labels-apart f look es labels is equations exact different unequal = record { joined = joined-labels f look es labels is equations exact; different = different; unequal = unequal }

-- ---- closings

both-on : (a b : Bool) → a ≡ true → b ≡ true → (a && b) ≡ true
both-on a b p q = rw (p, q) refl

-- two joined terms with different constructors
pub closes-differ : (f : Flt) (look : Marking) (ls : List Line) (t u : Tm) → (g : Gives f look ls t u) → differ t u ≡ true → Closes f look ls [] (line.Differ (length g.equations))
closes-differ f look ls t u g d = record { gives = g.equations; sums = []; equations_hold = g.hold; rows_hold = refl; ends = ap (λ o. holds o (λ (e : Eqn). differ e.left e.right)) g.last ∙ d }

-- the sides of a false equation
pub closes-unequal : (f : Flt) (look : Marking) (a : ℕ) (t : Tm) (m : Mark) (ls : List Line) → HasMark f look a t m → is_equation t ≡ true → truth_of m ≡ false → (g : Gives f look ls (arg_of t) (rest_of t)) → Closes f look ls [] (line.Unequal a (length g.equations))
closes-unequal f look a t m ls h e n g = record { gives = g.equations; sums = []; equations_hold = g.hold; rows_hold = refl; ends = ends }
  where
    sides : holds (at_number g.equations (length g.equations)) (is_eqn (arg_of t) (rest_of t)) ≡ true
    sides = ap (λ o. holds o (is_eqn (arg_of t) (rest_of t))) g.last ∙ both-on _ _ ((same_term-decides (arg_of t) (arg_of t)).1 refl) ((same_term-decides (rest_of t) (rest_of t)).1 refl)

    marked : holds (look a) (λ k. not (truth_of k)) ≡ true
    marked = ap (λ o. holds o (λ k. not (truth_of k))) h.mark ∙ ap not n

    ends : is_verdict f look g.equations [] (line.Unequal a (length g.equations)) ≡ true
    ends = ap (λ o. holds o (λ u. is_equation u && holds (look a) (λ k. not (truth_of k)) && holds (at_number g.equations (length g.equations)) (is_eqn (arg_of u) (rest_of u)))) h.atom ∙ both-on _ _ (both-on _ _ e marked) sides
