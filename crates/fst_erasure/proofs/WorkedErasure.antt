-- The laws speak of a program with a ghost part: its premises are met, and its erased runs are those of the program.
use Rattle.std.proofs.Common.{◌≡◌, ◌≤◌, ℕ, zero, suc, [], ◌∷◌, Some, None, IsTrue, refl, subst, arith}
use Rattle.fst_base.specs.Sorts.{s_int}
use Rattle.fst_base.specs.Values.{Val, v_unit}
use Rattle.fst_terms.specs.Meaning.{Meaning}
use Rattle.fst_program.specs.declared.effect.Effect.TheVariants as effect
use Rattle.fst_program.specs.Texts.{c_ret, c_ghost, Fn, fun_at}
use Rattle.fst_program.specs.Erasure.{erased}
use Rattle.fst_program.specs.Good.{HaveAll, Post, IsFine, IsOver, Good, AllGood, body_run}
use Rattle.fst_program.specs.Sorted.{FunSorted, IsSorted}
use Rattle.fst_program.specs.Full.{CmFull}
use Rattle.fst_program.specs.Discipline.{FunDisciplined, IsDisciplined}
use Rattle.fst_program.proofs.WorkedPrograms.{word_g, word_main, word_x, v, num, plus, param, fun_of, ghostly}
use Rattle.fst_program.proofs.WorkedSorts.{same-fun, plus-sorted}
use Rattle.fst_program.proofs.WorkedDiscipline.{no-path}
use Rattle.fst_code.specs.Sound.{is_sound}
use Rattle.fst_erasure.specs.ErasureLaws.{IsKept}
use Rattle.fst_erasure.proofs.ErasureLemmas.{erasure-keeps}
use Rattle.fst_erasure.proofs.ErasedSound.{erased-sound}

-- one function, which is main
only-fun : (Q : Fn → Type 0) → ((f : Fn) → fun_at ghostly 0 ≡ Some f → Q f) → (k : ℕ) (f : Fn) → fun_at ghostly k ≡ Some f → Q f
only-fun Q h zero f q = h f q
only-fun Q h (suc k) f q = cc

ghostly-sorted : IsSorted ghostly
ghostly-sorted = record {
  effects = λ E d q. cc;
  lifts = λ n l q. cc;
  funs = only-fun (FunSorted ghostly) (λ f q. subst (FunSorted ghostly) (same-fun _ f q) (record {
    refines = (tt, tt);
    needs = tt;
    gives = tt;
    measures = tt;
    body = (s_int, ((refl, (plus-sorted ghostly (s_int ∷ []) (v 0) (num 1) refl refl, refl)), (refl, (refl, refl))));
  }));
}

ghostly-disciplined : IsDisciplined ghostly
ghostly-disciplined = record {
  full = record { returns = λ E d q. cc; binds = λ E d q. cc; lifts = λ n l q. cc; bodies = only-fun (λ f. CmFull f.body) (λ f q. subst (λ f. CmFull f.body) (same-fun _ f q) (tt, tt)) };
  headers = record { returns = λ E d q. cc; binds = λ E d q. cc; lifts = λ n l q. cc };
  bases = λ E d q. cc;
  lifts = λ n l q. cc;
  paths = no-path;
  groups = λ k f q. let e = group-is k f q in omega (arith, e);
  order = λ j k f g p q lt. let e = group-is k g q in omega (arith, e, lt);
  funs = only-fun (FunDisciplined ghostly) (λ f q. subst (FunDisciplined ghostly) (same-fun _ f q) (record { effect_there = tt; places = (tt, refl); refines = (tt, tt); needs = tt; gives = tt; measures = tt; calls = (tt, tt) }));
}
  where
    group-is : (k : ℕ) (f : Fn) → fun_at ghostly k ≡ Some f → f.group ≡ 0
    group-is = only-fun (λ f. f.group ≡ 0) (λ f q. subst (λ f. f.group ≡ 0) (same-fun _ f q) refl)

-- fun main (x : int) : PURE int { ghost let g = x + 1 in x }
abbrev main : Fn
main = fun_of word_main 0 (param word_x s_int ∷ []) effect.Pure s_int None None (c_ghost word_g (c_ret (plus (v 0) (num 1))) (c_ret (v 1)))

-- a unit of allowance ends the ghost part, and a unit of fuel the run
main-good : (M : Meaning) → Good ghostly M main
main-good M [] s b have input may pre = absurd have
main-good M (x ∷ y ∷ vs) s b have input may pre = absurd have.1
main-good M (x ∷ []) s b have input may pre = record { safe = λ F. (1, λ G le. fine F G le); ends = λ t. (1, (1, λ G le. over G le)) }
  where
    fine : (F G : ℕ) → 1 ≤ G → IsFine (Post M main (x ∷ []) s) (body_run ghostly M main (x ∷ []) s b F G)
    fine F zero le = absurd (omega (arith, le))
    fine zero (suc G) le = tt
    fine (suc F) (suc G) le = tt

    over : (G : ℕ) → 1 ≤ G → IsOver (body_run ghostly M main (x ∷ []) s b 1 G)
    over zero le = absurd (omega (arith, le))
    over (suc G) le = tt

ghostly-good : (M : Meaning) → AllGood ghostly M
ghostly-good M = only-fun (Good ghostly M) (λ f q. subst (Good ghostly M) (same-fun main f q) (main-good M))

-- so the laws speak of it
pub ghostly-kept : (M : Meaning) (x : Val) → HaveAll main.params (x ∷ []) → IsKept ghostly M 0 main (x ∷ []) v_unit
ghostly-kept M x have = erasure-keeps ghostly ghostly-sorted ghostly-disciplined M (ghostly-good M) 0 main (x ∷ []) v_unit refl refl have refl ((tt, tt), tt)

pub ghostly-sound : IsTrue (is_sound (erased ghostly))
ghostly-sound = erased-sound ghostly ghostly-sorted ghostly-disciplined
