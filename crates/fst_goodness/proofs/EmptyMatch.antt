-- A match must have an arm: fun f (x : bool) : PURE bool { match x with end } has no goal, and each run of it is stuck.
use Rattle.std.proofs.Common.{◌≡◌, ℕ, zero, suc, false, [], ◌∷◌, Some, None, slice_get, refl, subst, arith}
use Rattle.fst_base.specs.Sorts.{s_bool}
use Rattle.fst_base.specs.Values.{v_unit, v_bool}
use Rattle.fst_terms.specs.Meaning.{Meaning}
use Rattle.fst_program.specs.declared.effect.Effect.TheVariants as effect
use Rattle.fst_program.specs.Texts.{c_match, c_end, EffDef, LftDef, Fn, Prog, fun_at, effect_at}
use Rattle.fst_program.specs.Good.{AllGood}
use Rattle.fst_program.specs.Paths.{goals_of, GoalsValid}
use Rattle.fst_program.specs.Sorted.{FunSorted, IsSorted}
use Rattle.fst_program.proofs.WorkedSorts.{same-fun}
use Rattle.fst_program.proofs.WorkedPrograms.{v, word_f, word_x, param, fun_of, only}

abbrev empty : Prog
empty = record { effects = []; lifts = []; funs = only (fun_of word_f 0 (param word_x s_bool ∷ []) effect.Pure s_bool None None (c_match (v 0) 0 c_end) ∷ []) }

no-effect : (E : ℕ) (d : EffDef) → effect_at empty E ≡ Some d → ⊥
no-effect E d q = cc

no-lift : (n : ℕ) (l : LftDef) → slice_get empty.lifts n ≡ Some l → ⊥
no-lift n l q = cc

pub empty-sorted : IsSorted empty
empty-sorted = record { effects = λ E d q. absurd (no-effect E d q); lifts = λ n l q. absurd (no-lift n l q); funs = at-fun }
  where
    at-fun : (k : ℕ) (f : Fn) → fun_at empty k ≡ Some f → FunSorted empty f
    at-fun zero f q = subst (FunSorted empty) (same-fun _ f q) (record { refines = (tt, tt); needs = tt; gives = tt; measures = tt; body = (s_bool, ((refl, refl), tt)) })
    at-fun (suc k) f q = cc

pub empty-valid : (M : Meaning) → GoalsValid M (goals_of empty)
empty-valid M = tt

pub empty-not-good : (M : Meaning) → AllGood empty M → ⊥
empty-not-good M good =
    let settles = (good 0 _ refl (v_bool false ∷ []) v_unit false (tt, tt) refl tt ((tt, tt), tt)).safe 1 in
    settles.1 settles.0 (omega arith)
