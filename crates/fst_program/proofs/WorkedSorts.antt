-- Worked programs are well sorted, one with a user effect among them, so the laws speak of their runs.
use Rattle.std.proofs.Common.{◌≡◌, ℕ, zero, suc, [], ◌∷◌, List, Some, refl, subst, slice_get}
use Rattle.fst_base.specs.Sorts.{Srt, s_unit, s_int, s_bool, s_a, s_pair, s_list}
use Rattle.fst_terms.specs.Terms.{Tm, t_unit}
use Rattle.fst_program.specs.Texts.{EffDef, LftDef, Fn, Prog, effect_at, fun_at}
use Rattle.fst_program.specs.Sorted.{FormSorted, EffectSorted, LiftSorted, FunSorted, IsSorted}
use Rattle.fst_program.proofs.WorkedPrograms.{v, num, plus, is, pair, sum}
use Rattle.fst_program.proofs.WorkedEffects.{state, st}

pub same-fun : (f g : Fn) → Some f ≡ Some g → f ≡ g
same-fun f g q = cc

pub pair-sorted : (P : Prog) (Ss : List Srt) (S T : Srt) (t u : Tm) → FormSorted P Ss t S → FormSorted P Ss u T → FormSorted P Ss (pair S T t u) (s_pair S T)
pair-sorted P Ss S T t u h k = (refl, (S ∷ T ∷ [], (record { first = S; second = T; args = refl; result = refl }, (S, (T ∷ [], (refl, h, (T, ([], (refl, k, refl)))))))))

pub plus-sorted : (P : Prog) (Ss : List Srt) (t u : Tm) → FormSorted P Ss t s_int → FormSorted P Ss u s_int → FormSorted P Ss (plus t u) s_int
plus-sorted P Ss t u h k = (refl, (s_int ∷ s_int ∷ [], (record { first = s_int; second = s_int; args = refl; result = refl }, (s_int, (s_int ∷ [], (refl, h, (s_int, ([], (refl, k, refl)))))))))

pub is-sorted : (P : Prog) (Ss : List Srt) (S : Srt) (t u : Tm) → FormSorted P Ss t S → FormSorted P Ss u S → FormSorted P Ss (is t u) s_bool
is-sorted P Ss S t u h k = (refl, (S ∷ S ∷ [], (record { first = S; second = S; args = refl; result = refl }, (S, (S ∷ [], (refl, h, (S, ([], (refl, k, refl)))))))))

state-sorted : EffectSorted st state
state-sorted = record {
  input_without_a = refl;
  input_without_b = refl;
  result_without_b = refl;
  returns = (pair-sorted st (s_int ∷ s_a ∷ []) s_a s_int (v 1) (v 0) refl refl, refl);
  binds = (s_pair s_a s_int, (((refl, refl), refl), (s_pair s_a s_int, ((refl, refl), (tt, refl, ((refl, refl), (refl, refl), refl), tt)))));
}

at-effect : (E : ℕ) (d : EffDef) → effect_at st E ≡ Some d → EffectSorted st d
at-effect zero d q = let e : state ≡ d = cc in subst (EffectSorted st) e state-sorted
at-effect (suc E) d q = cc

no-lift : (n : ℕ) (l : LftDef) → slice_get st.lifts n ≡ Some l → LiftSorted st l
no-lift n l q = cc

get-sorted : (f : Fn) → fun_at st 0 ≡ Some f → FunSorted st f
get-sorted f q = subst (FunSorted st) (same-fun _ f q) (record {
  refines = tt;
  needs = tt;
  gives = is-sorted st (s_pair s_int s_int ∷ s_int ∷ []) (s_pair s_int s_int) (v 0) (pair s_int s_int (v 1) (v 1)) refl (pair-sorted st (s_pair s_int s_int ∷ s_int ∷ []) s_int s_int (v 1) (v 1) refl refl);
  measures = tt;
  body = (refl, refl, (refl, (pair-sorted st (s_int ∷ []) s_int s_int (v 0) (v 0) refl refl, refl)));
})

put-sorted : (f : Fn) → fun_at st 1 ≡ Some f → FunSorted st f
put-sorted f q = subst (FunSorted st) (same-fun _ f q) (record {
  refines = (tt, tt);
  needs = tt;
  gives = is-sorted st (s_pair s_unit s_int ∷ s_int ∷ s_int ∷ []) (s_pair s_unit s_int) (v 0) (pair s_unit s_int t_unit (v 2)) refl (pair-sorted st (s_pair s_unit s_int ∷ s_int ∷ s_int ∷ []) s_unit s_int t_unit (v 2) refl refl);
  measures = tt;
  body = (refl, refl, (refl, (pair-sorted st (s_int ∷ s_int ∷ []) s_unit s_int t_unit (v 1) refl refl, refl)));
})

main-sorted : (f : Fn) → fun_at st 2 ≡ Some f → FunSorted st f
main-sorted f q = subst (FunSorted st) (same-fun _ f q) (record {
  refines = tt;
  needs = tt;
  gives = is-sorted st (s_pair s_int s_int ∷ s_int ∷ []) (s_pair s_int s_int) (v 0) (pair s_int s_int (v 1) (plus (v 1) (num 1))) refl (pair-sorted st (s_pair s_int s_int ∷ s_int ∷ []) s_int s_int (v 1) (plus (v 1) (num 1)) refl (plus-sorted st (s_pair s_int s_int ∷ s_int ∷ []) (v 1) (num 1) refl refl));
  measures = tt;
  body = (refl, (s_int, ((refl, refl, refl, refl), (refl, (s_unit, ((refl, refl, (s_int, ([], (refl, plus-sorted st (s_int ∷ []) (v 0) (num 1) refl refl, refl))), refl), (refl, (refl, (refl, refl)))))))));
})

at-fun : (k : ℕ) (f : Fn) → fun_at st k ≡ Some f → FunSorted st f
at-fun zero f q = get-sorted f q
at-fun (suc zero) f q = put-sorted f q
at-fun (suc (suc zero)) f q = main-sorted f q
at-fun (suc (suc (suc k))) f q = cc

pub st-sorted : IsSorted st
st-sorted = record { effects = at-effect; lifts = no-lift; funs = at-fun }

-- ---- a recursive function

sum-none : (E : ℕ) (d : EffDef) → effect_at sum E ≡ Some d → ⊥
sum-none E d q = cc

sum-no-lift : (n : ℕ) (l : LftDef) → slice_get sum.lifts n ≡ Some l → ⊥
sum-no-lift n l q = cc

sum-first : (f : Fn) → fun_at sum 0 ≡ Some f → FunSorted sum f
sum-first f q = subst (FunSorted sum) (same-fun _ f q) (record {
  refines = (tt, tt);
  needs = tt;
  gives = tt;
  measures = ((refl, (s_list s_int ∷ [], (record { first = s_int; second = s_int; args = refl; result = refl }, (s_list s_int, ([], (refl, refl, refl)))))), tt);
  body = (
    s_list s_int,
    (
      (refl, refl),
      (
        tt,
        refl,
        (refl, (refl, refl)),
        (tt, refl, (s_int, ((refl, refl, (s_list s_int, ([], (refl, refl, refl))), refl), (refl, (plus-sorted sum (s_int ∷ s_list s_int ∷ s_int ∷ s_list s_int ∷ []) (v 2) (v 0) refl refl, refl)))), tt),
      ),
    ),
  );
})

sum-second : (f : Fn) → fun_at sum 1 ≡ Some f → FunSorted sum f
sum-second f q = subst (FunSorted sum) (same-fun _ f q) (record {
  refines = (tt, tt);
  needs = tt;
  gives = (refl, (s_int ∷ s_int ∷ [], (record { first = s_int; second = s_int; args = refl; result = refl }, (s_int, (s_int ∷ [], (refl, refl, (s_int, ([], (refl, (refl, (s_list s_int ∷ [], ((refl, refl), (s_list s_int, ([], (refl, refl, refl)))))), refl)))))))));
  measures = tt;
  body = (refl, refl, (s_list s_int, ([], (refl, refl, refl))), refl);
})

sum-at : (k : ℕ) (f : Fn) → fun_at sum k ≡ Some f → FunSorted sum f
sum-at zero f q = sum-first f q
sum-at (suc zero) f q = sum-second f q
sum-at (suc (suc k)) f q = cc

pub sum-sorted : IsSorted sum
sum-sorted = record { effects = λ E d q. absurd (sum-none E d q); lifts = λ n l q. absurd (sum-no-lift n l q); funs = sum-at }
