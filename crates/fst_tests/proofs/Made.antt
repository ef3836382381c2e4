-- Arguments of each row, made.
use Rattle.std.proofs.Common.{ℤ, List, [], ◌∷◌, map, ◌≡◌, ◌⊎◌, inl, inr, refl, sym, ap, subst, ◌∙◌, rules}
use Rattle.fst_base.specs.Rows.{row_args, row_result}
use Rattle.fst_base.specs.Sorts.{Srt, s_unit, s_int, s_a, s_list, put_sorts, plain_sort}
use Rattle.fst_base.specs.Values.{Val, v_nil, chain, plain_value, Has, HasSorts}
use Rattle.fst_base.specs.declared.op.Op.{Op}
use Rattle.fst_base.specs.declared.op.Op.TheVariants as op
use Rattle.fst_base.specs.declared.sort.Sort as D
use Rattle.fst_base.specs.declared.sort.Sort.{Sort}
use Rattle.fst_base.specs.declared.value.Value as W
use Rattle.fst_base.specs.declared.value.Value.{Value}
use Rattle.fst_base.specs.declared.value.Value.TheVariants as V
use Rattle.fst_base.proofs.ValueLemmas.{plain-value-List}
use Rattle.fst_prims.specs.Arguments.{AreArguments}

-- values of the row's sorts at A and B, and the sort of its result there
pub made : (o : Op) (A B : Srt) (vs : List Val) (S : Srt) → S ≡ put_sorts A B (row_result o) → HasSorts (map (put_sorts A B) (row_args o)) vs → AreArguments o vs S
made o A B vs S e h = record { sorts = _; have = h; fit = record { first = A; second = B; args = refl; result = e } }

chain-any : (vs : List Val) → Has (s_list s_a) (chain vs)
chain-any [] = tt
chain-any (v ∷ vs) = (tt, chain-any vs)

-- every list is one of a
pub any_list : (xs : List Value) → Has (s_list s_a) (plain_value (V.List xs))
any_list xs = subst (Has (s_list s_a)) (sym (plain-value-List xs)) (chain-any (map plain_value xs))

pub empty_list : (xs : List Value) → xs ≡ [] → plain_value (V.List xs) ≡ v_nil
empty_list xs e = plain-value-List xs ∙ ap (λ ys. chain (map plain_value ys)) e

-- a value has the sorts of the tree that its plain tree is said to be
pub has_along : (S : Srt) (v w : Val) → v ≡ w → Has S w → Has S v
has_along S v w e h = subst (Has S) (sym e) h

-- two numbers, for the rows of two numbers

module _ (a b : ℤ) where
  ints : HasSorts (s_int ∷ s_int ∷ []) (plain_value (V.Int a) ∷ plain_value (V.Int b) ∷ [])
  ints = (search (rules, W.the_lemmas), (search (rules, W.the_lemmas), tt))

  at : (o p : Op) (S : Sort) → o ≡ p → AreArguments p (plain_value (V.Int a) ∷ plain_value (V.Int b) ∷ []) (plain_sort S) → AreArguments o (plain_value (V.Int a) ∷ plain_value (V.Int b) ∷ []) (plain_sort S)
  at o p S e h = subst (λ q. AreArguments q (plain_value (V.Int a) ∷ plain_value (V.Int b) ∷ []) (plain_sort S)) (sym e) h

  pub to_number : (o : Op) → (o ≡ op.Add) ⊎ ((o ≡ op.Sub) ⊎ ((o ≡ op.Mul) ⊎ ((o ≡ op.Div) ⊎ (o ≡ op.Rem))))
      → AreArguments o (plain_value (V.Int a) ∷ plain_value (V.Int b) ∷ []) (plain_sort D.Int)
  to_number o (inl e) = at o op.Add D.Int e (made op.Add s_unit s_unit _ _ (search (rules, D.the_lemmas)) ints)
  to_number o (inr (inl e)) = at o op.Sub D.Int e (made op.Sub s_unit s_unit _ _ (search (rules, D.the_lemmas)) ints)
  to_number o (inr (inr (inl e))) = at o op.Mul D.Int e (made op.Mul s_unit s_unit _ _ (search (rules, D.the_lemmas)) ints)
  to_number o (inr (inr (inr (inl e)))) = at o op.Div D.Int e (made op.Div s_unit s_unit _ _ (search (rules, D.the_lemmas)) ints)
  to_number o (inr (inr (inr (inr e)))) = at o op.Rem D.Int e (made op.Rem s_unit s_unit _ _ (search (rules, D.the_lemmas)) ints)

  pub to_truth : (o : Op) → (o ≡ op.Le) ⊎ (o ≡ op.Lt)
      → AreArguments o (plain_value (V.Int a) ∷ plain_value (V.Int b) ∷ []) (plain_sort D.Bool)
  to_truth o (inl e) = at o op.Le D.Bool e (made op.Le s_unit s_unit _ _ (search (rules, D.the_lemmas)) ints)
  to_truth o (inr e) = at o op.Lt D.Bool e (made op.Lt s_unit s_unit _ _ (search (rules, D.the_lemmas)) ints)
