-- The law speaks of worked programs: a recursive function with a measure, an equation with its application, and a user effect.
use Rattle.std.proofs.Common.{◌≡◌, ℕ, ◌+◌, Bool, true, false, [], ◌∷◌, refl, ap, ap₂, ◌∙◌, arith, pos}
use Rattle.std.specs.Prelude.{int_lt, int_le, ◌+ℤ◌}
use Rattle.std.proofs.lemmas.Int.{ints}
use Rattle.fst_base.specs.declared.op.Op.TheVariants as op
use Rattle.fst_base.specs.Sorts.{s_unit, s_int, s_list}
use Rattle.fst_base.specs.Values.{Val, v_unit, v_bool, v_int, v_pair, v_nil, v_cons, HasSorts, same}
use Rattle.fst_base.specs.Primitives.{len_of, int_of, fst_of, snd_of}
use Rattle.fst_base.proofs.ValueLemmas.{same-decides}
use Rattle.fst_terms.specs.Terms.{Tm, t_unit}
use Rattle.fst_terms.specs.Meaning.{Env, Meaning, AllTrue, Truth, lookup}
use Rattle.fst_terms.specs.Formulas.{both, equation, at_most, less, nought}
use Rattle.fst_program.specs.Good.{AllGood}
use Rattle.fst_program.specs.Applications.{IsMeaning}
use Rattle.fst_program.specs.Paths.{goals_of, GoalsValid}
use Rattle.fst_program.proofs.WorkedPrograms.{v, num, one, two, plus, is, pair, sum}
use Rattle.fst_program.proofs.WorkedEffects.{st}
use Rattle.fst_program.proofs.WorkedSorts.{sum-sorted, st-sorted}
use Rattle.fst_program.proofs.WorkedDiscipline.{sum-disciplined, st-disciplined}
use Rattle.fst_goodness.proofs.Settling.{good-law}

not-below : (n : ℕ) → int_le (pos 0) (pos n) ≡ true
not-below n = go (int_le (pos 0) (pos n)) refl
  where
    go : (b : Bool) → int_le (pos 0) (pos n) ≡ b → b ≡ true
    go true e = refl
    go false e = absurd (omega (arith, ints))

below-next : (n : ℕ) → int_lt (pos n) (pos (n + 1)) ≡ true
below-next n = go (int_lt (pos n) (pos (n + 1))) refl
  where
    go : (b : Bool) → int_lt (pos n) (pos (n + 1)) ≡ b → b ≡ true
    go true e = refl
    go false e = absurd (omega (arith, ints))

abbrev tail : Tm
tail = one op.Tl (s_list s_int) (v 0)

shorter : (M : Meaning) (e : Env) → HasSorts (s_list s_int ∷ []) e → AllTrue M (equation (v 0) (two op.Cons (s_list s_int) (one op.Hd s_int (v 0)) tail) ∷ []) e
    → Truth M (both (at_most nought (one op.Len s_int tail)) (less (one op.Len s_int tail) (one op.Len s_int (v 0)))) e
shorter M [] have hyps = absurd have
shorter M (x ∷ y ∷ e) have hyps = absurd have.1
shorter M (v_nil ∷ []) have hyps = let bad = hyps.0 in absurd (let z : v_bool false ≡ v_bool true = bad in cc)
shorter M (v_cons a b ∷ []) have hyps = rw (not-below (len_of b), below-next (len_of b)) refl
shorter M (x ∷ []) have hyps = absurd have.0

valid : (M : Meaning) → GoalsValid M (goals_of sum)
valid M = (shorter M, (λ e have hyps. hyps.0, tt))

-- both functions of the program are good, the first by its measure
pub sum-good : (M : Meaning) → IsMeaning sum M → AllGood sum M
sum-good M means = good-law sum sum-sorted sum-disciplined M means (valid M)

-- ---- a user effect

equal : (x y : Val) → x ≡ y → v_bool (same x y) ≡ v_bool true
equal x y p = ap v_bool ((same-decides x y).1 p)

equal-values : (x y : Val) → v_bool (same x y) ≡ v_bool true → x ≡ y
equal-values x y h = (same-decides x y).0 (let z : same x y ≡ true = cc in z)

state-kept : (M : Meaning) (e : Env) → AllTrue M (is (v 0) (pair s_unit s_int t_unit (plus (one op.Fst s_int (v 1)) (num 1))) ∷ is (v 1) (pair s_int s_int (v 2) (v 2)) ∷ []) e
    → Truth M (is (pair s_int s_int (one op.Fst s_int (v 1)) (one op.Snd s_int (v 0))) (pair s_int s_int (v 2) (plus (v 2) (num 1)))) e
state-kept M e h =
    let get = equal-values (lookup e 1) (v_pair (lookup e 2) (lookup e 2)) h.1.0 in
    let put = equal-values (lookup e 0) (v_pair v_unit (v_int (int_of (fst_of s_int (lookup e 1)) +ℤ pos 1))) h.0 in
    equal (v_pair (fst_of s_int (lookup e 1)) (snd_of s_int (lookup e 0))) (v_pair (lookup e 2) (v_int (int_of (lookup e 2) +ℤ pos 1)))
    (ap₂ v_pair (ap (fst_of s_int) get) (ap (snd_of s_int) put ∙ ap (λ x. v_int (int_of (fst_of s_int x) +ℤ pos 1)) get))

st-valid : (M : Meaning) → GoalsValid M (goals_of st)
st-valid M = ((λ e have hyps. equal (v_pair (lookup e 0) (lookup e 0)) (v_pair (lookup e 0) (lookup e 0)) refl), ((λ e have hyps. equal (v_pair v_unit (lookup e 1)) (v_pair v_unit (lookup e 1)) refl), ((λ e have hyps. state-kept M e (hyps.1.0, (hyps.0, tt))), tt)))

-- the functions of a program with a user effect are good
pub st-good : (M : Meaning) → IsMeaning st M → AllGood st M
st-good M means = good-law st st-sorted st-disciplined M means (st-valid M)
