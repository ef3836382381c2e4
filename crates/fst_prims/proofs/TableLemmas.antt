-- The row that a table has for a primitive.
use Rattle.std.proofs.Common.{ℕ, ◌<◌, true, ◌≡◌, List, [], ◌∷◌, length, get_or, zero, suc, refl, sym, subst, arith}
use Rattle.std.proofs.lemmas.Bool.{and_parts, false≢true}
use Rattle.std.proofs.lemmas.Slice.Eq.{slice_eq-Decides}
use Rattle.std.specs.Cmp.Lexicographic.{same_text}
use Rattle.fst_base.proofs.SortLemmas.{same_sort-decides}
use Rattle.fst_base.specs.declared.op.Op.{Op}
use Rattle.fst_base.specs.declared.op.Op.TheVariants as op
use Rattle.fst_base.specs.contracts.op.Op.{the_type}
use denote.Enum.Declared.{tag_of}
use Rattle.fst_prims.specs.declared.table.Row.{Row}
use Rattle.fst_prims.specs.Table.{all_ops, are_rows, is_row, IsRow}

-- the test says that the row is that of the primitive
is_row-true : (o : Op) (r : Row) → is_row o r ≡ true → IsRow o r
is_row-true o r e =
    let halves = and_parts _ _ e in
    let front = and_parts _ _ halves.0 in
    record {
      name = same_text _ _ (sym front.0);
      args = (slice_eq-Decides same_sort-decides _ _ _ refl).0 front.1;
      result = (same_sort-decides _ _).0 halves.1;
    }

row_at : (os : List Op) (rs : List Row) (k : ℕ) (o : Op) (d : Row) → k < length os → are_rows os rs ≡ true → IsRow (get_or os k o) (get_or rs k d)
row_at [] rs k o d h e = absurd (omega arith)
row_at (p ∷ os) [] k o d h e = absurd (false≢true e)
row_at (p ∷ os) (r ∷ rs) zero o d h e = is_row-true p r (and_parts _ _ e).0
row_at (p ∷ os) (r ∷ rs) (suc k) o d h e = row_at os rs k o d (omega arith) (and_parts _ _ e).1

op_at : (o : Op) → get_or all_ops (tag_of the_type o) op.Add ≡ o
op_at op.Add = refl
op_at o = refl

tag_small : (o : Op) → tag_of the_type o < length all_ops
tag_small op.Add = omega arith
tag_small o = omega arith

-- the row of a primitive stands at its number
pub row_of : (rows : List Row) → are_rows all_ops rows ≡ true → (o : Op) (d : Row) → IsRow o (get_or rows (tag_of the_type o) d)
row_of rows e o d = subst (λ p. IsRow p (get_or rows (tag_of the_type o) d)) (op_at o) (row_at all_ops rows _ op.Add d (tag_small o) e)
