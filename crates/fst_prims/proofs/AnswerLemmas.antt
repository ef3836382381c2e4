-- What equality and length answer.
use Rattle.std.proofs.Common.{ℕ, ◌+◌, ◌<◌, ◌^◌, Bool, true, false, List, [], ◌∷◌, map, length, ℤ, pos, Ok, ◌≡◌, ◌↔◌, IsTrue, refl, sym, ap, subst, ◌∙◌, not, rules, arith}
use Rattle.std.proofs.lemmas.Bool.{false≢true}
use Rattle.std.proofs.lemmas.Int.{ints}
use Rattle.fst_base.specs.Sorts.{Srt}
use Rattle.fst_base.specs.Values.{Val, v_bool, v_int, chain, plain_value}
use Rattle.fst_base.specs.Primitives.{In128, is_wide, len_of}
use Rattle.fst_base.specs.declared.op.Op.TheVariants as op
use Rattle.fst_base.specs.declared.value.Value.{Value}
use Rattle.fst_base.specs.declared.value.Value as W
use Rattle.fst_base.specs.declared.value.Value.TheVariants as V
use Rattle.fst_base.proofs.ValueLemmas.{same-values}
use Rattle.fst_base.proofs.PrimitiveLemmas.{in128-decides}
use Rattle.fst_prims.specs.Answers.{Answers}

-- two tests of one fact are one
one_test : {A : Type 0} (t u : Bool) → (IsTrue t ↔ A) → (IsTrue u ↔ A) → t ≡ u
one_test true true d e = refl
one_test true false d e = absurd (false≢true (e.1 (d.0 refl)))
one_test false true d e = absurd (false≢true (d.1 (e.0 refl)))
one_test false false d e = refl

pub eq_answers : (a b : Value) (t : Bool) (S : Srt) (vs : List Val)
    → (IsTrue t ↔ (a ≡ b)) → vs ≡ plain_value a ∷ plain_value b ∷ [] → Answers op.Eq S vs (Ok (V.Bool t))
eq_answers a b t S vs d e = subst (λ us. Answers op.Eq S us (Ok (V.Bool t))) (sym e) (record {
  value = search (rules, W.the_lemmas) ∙ ap v_bool (one_test _ _ d (same-values a b));
  past = ((λ h. cc), (λ h. cc));
  zero = ((λ h. cc), (λ h. cc));
})

len_of-chain : (xs : List Value) → len_of (chain (map plain_value xs)) ≡ length xs
len_of-chain [] = refl
len_of-chain (x ∷ xs) = ap (λ n. n + 1) (len_of-chain xs) ∙ omega arith

length-narrow : (n : ℕ) → n < 2 ^ 64 → is_wide (v_int (pos n)) ≡ false
length-narrow n h =
    let within : In128 (pos n) = (omega (arith, ints), omega (arith, ints)) in
    ap not ((in128-decides (pos n)).1 within)

pub len_answers : (xs : List Value) (n : ℤ) (S : Srt) (vs : List Val)
    → n ≡ pos (length xs) → length xs < 2 ^ 64 → vs ≡ chain (map plain_value xs) ∷ [] → Answers op.Len S vs (Ok (V.Int n))
len_answers xs n S vs e h f = subst (λ us. Answers op.Len S us (Ok (V.Int n))) (sym f) (record {
  value = search (rules, W.the_lemmas) ∙ ap v_int (e ∙ ap pos (sym (len_of-chain xs)));
  past = ((λ g. cc), (λ g. absurd (false≢true (sym (ap (λ k. is_wide (v_int (pos k))) (len_of-chain xs) ∙ length-narrow _ h) ∙ g))));
  zero = ((λ g. cc), (λ g. cc));
})
