-- One more step of a derivation.
use Rattle.std.proofs.Common.{◌≡◌, ℕ, ◌+◌, ◌<◌, false, List, [], ◌∷◌, ◌++◌, append_assoc, append-nil, length, length-append, get_or, ℤ, pos, ◌≤ℤ◌, refl, sym, ap, ◌∙◌, subst, arith, Result, Ok, Err, OnOk, OnErr}
use Rattle.std.proofs.lemmas.List.{map-append, length-map}
use Rattle.fst_terms.specs.Rows.{Rw, combined, is_wide, IsBelow}
use Rattle.fst_terms.specs.Elimination.{no_row}
use Rattle.fst_linear.specs.Refutations.{Stp, IsStep, AreSteps, replay, made_by, numbered, Refutes}
use Rattle.fst_rows.specs.declared.row.Row.{Row}
use Rattle.fst_rows.specs.Plain.{plain_row}
use Rattle.fst_linear.specs.declared.derivation.Made.{Made}
use Rattle.fst_linear.specs.Steps.{plain_step}
use Rattle.fst_linear.specs.Derivations.{Derives, given_rows, made_rows, made_steps, all_rows, at}

pub replay-more : (rows : List Rw) (ss : List Stp) (s : Stp) → replay rows (ss ++ s ∷ []) ≡ replay rows ss ++ made_by (replay rows ss) s ∷ []
replay-more rows [] s = refl
replay-more rows (t ∷ ss) s = replay-more (rows ++ made_by rows t ∷ []) ss s

pub steps-more : (rows : List Rw) (ss : List Stp) (s : Stp) → AreSteps rows ss → IsStep (replay rows ss) s → AreSteps rows (ss ++ s ∷ [])
steps-more rows [] s h k = (k, tt)
steps-more rows (t ∷ ss) s h k = (h.0, steps-more (rows ++ made_by rows t ∷ []) ss s h.1 k)

pub derives-start : (given : List Rw) → Derives given [] []
derives-start given = record { steps = tt; made = append-nil given }

pub derives-more : (given rows : List Rw) (ss : List Stp) (s : Stp) → Derives given rows ss → IsStep (given ++ rows) s → Derives given (rows ++ made_by (given ++ rows) s ∷ []) (ss ++ s ∷ [])
derives-more given rows ss s d h = record {
  steps = steps-more given ss s d.steps (subst (λ t. IsStep t s) d.made h);
  made = sym (append_assoc given rows (made_by (given ++ rows) s ∷ [])) ∙ ap (λ t. t ++ made_by t s ∷ []) d.made ∙ sym (replay-more given ss s);
}

-- a derivation whose last step makes a row 0 <= c with negative c refutes the given rows
pub derived-refutes : (given rows : List Rw) (ss : List Stp) → Derives given rows ss → 0 < length ss → IsBelow (numbered (given ++ rows) (length (given ++ rows))) → Refutes given ss
derived-refutes given rows [] d p b = absurd (omega arith)
derived-refutes given rows (s ∷ ss) d p b = record { steps = d.steps; ends = subst (λ t. IsBelow (numbered t (length t))) d.made b }

-- ---- the rows of the code

pub same-at : (given : List Row) (made : List Made) (i : ℕ) → numbered (all_rows given made) (i + 1) ≡ at given made i
same-at given made i = ap (λ k. get_or (all_rows given made) k no_row) (omega arith)

pub length-all : (given : List Row) (made : List Made) → length (all_rows given made) ≡ length given + length made
length-all given made = length-append (given_rows given) (made_rows made) ∙ simp length-map

pub added : (given : List Row) (made : List Made) (r : Row) (p q : ℤ) (i j a b : ℕ)
    → plain_row r ≡ combined p (at given made i) q (at given made j) → is_wide p (at given made i) q (at given made j) ≡ false
    → a ≡ i + 1 → b ≡ j + 1 → pos 1 ≤ℤ p → pos 1 ≤ℤ q → i < length given + length made → j < length given + length made
    → Derives (given_rows given) (made_rows made) (made_steps made)
    → Derives (given_rows given) (made_rows (made ++ record { row = r; step = record { p = p; i = a; q = q; j = b } } ∷ [])) (made_steps (made ++ record { row = r; step = record { p = p; i = a; q = q; j = b } } ∷ []))
added given made r p q i j a b e n f g hp hq hi hj d =
    let s : Stp = record { p = p; i = a; q = q; j = b } in
    let fi : numbered (all_rows given made) a ≡ at given made i = ap (numbered (all_rows given made)) f ∙ same-at given made i in
    let gj : numbered (all_rows given made) b ≡ at given made j = ap (numbered (all_rows given made)) g ∙ same-at given made j in
    let k : IsStep (all_rows given made) s = record {
      p = hp;
      i = (omega arith, omega (arith, length-all given made));
      q = hq;
      j = (omega arith, omega (arith, length-all given made));
      narrow = rw (fi, gj) n;
    } in
    let x : Made = record { row = r; step = record { p = p; i = a; q = q; j = b } } in
    let o : made_by (all_rows given made) s ≡ plain_row r = rw (fi, gj) (sym e) in
    let m = subst (λ t. Derives (given_rows given) (made_rows made ++ t ∷ []) (made_steps made ++ s ∷ [])) o (derives-more (given_rows given) (made_rows made) (made_steps made) s d k) in
    rw (map-append (λ (y : Made). plain_row y.row) made (x ∷ []), map-append (λ (y : Made). plain_step y.step) made (x ∷ [])) m

pub added-or-not : {T E : Type 0} (result : Result T E) (given : List Row) (made new more : List Made) → OnOk result (new ≡ more) → OnErr result (new ≡ made)
    → Derives (given_rows given) (made_rows more) (made_steps more) → Derives (given_rows given) (made_rows made) (made_steps made) → Derives (given_rows given) (made_rows new) (made_steps new)
added-or-not (Ok t) given made new more g h d e = rw g d
added-or-not (Err x) given made new more g h d e = rw h e

pub rows-of : (given : List Row) (made new : List Made) (x : Made) (A B : Rw) (p q : ℤ) → plain_row x.row ≡ combined p A q B → new ≡ made ++ x ∷ [] → made_rows new ≡ made_rows made ++ combined p A q B ∷ []
rows-of given made new x A B p q e f = ap made_rows f ∙ map-append (λ (y : Made). plain_row y.row) made (x ∷ []) ∙ ap (λ t. made_rows made ++ t ∷ []) e

pub rows-or-not : {T E : Type 0} (result : Result T E) (given : List Row) (made new : List Made) (x : Made) (A B C D : Rw) (p q : ℤ) → plain_row x.row ≡ combined p A q B → A ≡ C → B ≡ D
    → OnOk result (new ≡ made ++ x ∷ []) → OnOk result (made_rows new ≡ made_rows made ++ combined p C q D ∷ [])
rows-or-not (Ok t) given made new x A B C D p q e a b f = rows-of given made new x C D p q (rw (a, b) at e) f
rows-or-not (Err y) given made new x A B C D p q e a b f = tt
