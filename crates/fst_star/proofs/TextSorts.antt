-- The value sort of well-sorted text is that of its first tail.
use Rattle.std.proofs.Common.{◌≡◌, ℕ, List, ◌∷◌, ◌++◌, map, Option, Some, None, IsTrue, sym, ap, ◌∙◌, slice_get}
use Rattle.fst_base.specs.Sorts.{Srt, s_unit}
use Rattle.fst_terms.specs.Sorted.{TmsSorted, are_run}
use Rattle.fst_program.specs.Texts.{Cm, CmArms, c_ret, c_let, c_bind, c_ghost, c_assert, c_if, c_match, c_call, c_reify, c_reflect, c_return, c_lift, c_end, c_arm, Fn, LftDef, Prog, if_there, fun_at}
use Rattle.fst_program.specs.Paths.{text_sort, arms_sort, part_sorts}
use Rattle.fst_program.specs.Sorted.{place_of, Applies, CmSorted, ArmsSorted}
use Rattle.fst_program.specs.Full.{HasArm, CmFull, ArmsFull}
use Rattle.fst_program.proofs.SortedTerms.{sort-is}

module _ (P : Prog) where
  mutual
    pub text-sort-is : (c : Cm) (Ss : List Srt) (x : Option ℕ) (S : Srt) → CmSorted P Ss x c S → CmFull c → text_sort P Ss c ≡ S
    text-sort-is (c_ret t) Ss x S h a = sort-is (Applies P) Ss t S h.1.0
    text-sort-is (c_let y c1 c2) Ss x S h a = ap (λ T. text_sort P (T ∷ Ss) c2) (text-sort-is c1 Ss None h.0 h.1.0 a.0) ∙ text-sort-is c2 (h.0 ∷ Ss) x S h.1.1 a.1
    text-sort-is (c_bind E y c1 c2) Ss x S h a = ap (λ T. text_sort P (T ∷ Ss) c2) (text-sort-is c1 Ss x h.1.0 h.1.1.0 a.0) ∙ text-sort-is c2 (h.1.0 ∷ Ss) x S h.1.1.1 a.1
    text-sort-is (c_ghost y c1 c2) Ss x S h a = ap (λ T. text_sort P (T ∷ Ss) c2) (text-sort-is c1 Ss None h.0 h.1.0 a.0) ∙ text-sort-is c2 (h.0 ∷ Ss) x S h.1.1 a.1
    text-sort-is (c_assert phi at c) Ss x S h a = text-sort-is c Ss x S h.1 a
    text-sort-is (c_if t c1 c2) Ss x S h a = text-sort-is c1 Ss x S h.1 a.0
    text-sort-is (c_match t at arms) Ss x S h a = ap (λ T. arms_sort P Ss T arms) (sort-is (Applies P) Ss t h.0 h.1.0.0) ∙ arms-sort-is arms Ss x h.0 S h.1.1 a.0 a.1
    text-sort-is (c_call j ts at) Ss x S h a = go (fun_at P j) h
      where
        go : (o : Option Fn) → if_there o (λ f. (x ≡ place_of f.effect) × (S ≡ f.sort) × TmsSorted (Applies P) Ss ts (map (λ p. p.sort) f.params) × IsTrue (are_run ts)) ⊥ → if_there o (λ f. f.sort) s_unit ≡ S
        go None h = absurd h
        go (Some f) h = sym h.1
    text-sort-is (c_reify E T c t) Ss x S h a = sym h.1
    text-sort-is (c_reflect E T y c) Ss x S h a = sym h.1
    text-sort-is (c_return E c) Ss x S h a = text-sort-is c Ss None S h.1 a
    text-sort-is (c_lift n c) Ss x S h a = go (λ l k. text-sort-is c Ss (Some l.from) S k a) (slice_get P.lifts n) h
      where
        go : ((l : LftDef) → CmSorted P Ss (Some l.from) c S → text_sort P Ss c ≡ S) → (o : Option LftDef) → if_there o (λ l. (x ≡ Some l.«to») × CmSorted P Ss (Some l.from) c S) ⊥ → text_sort P Ss c ≡ S
        go ih None h = absurd h
        go ih (Some l) h = ih l h.1

    arms-sort-is : (arms : CmArms) (Ss : List Srt) (x : Option ℕ) (T S : Srt) → ArmsSorted P Ss x T arms S → HasArm arms → ArmsFull arms → arms_sort P Ss T arms ≡ S
    arms-sort-is c_end Ss x T S h n a = absurd n
    arms-sort-is (c_arm c ys body more) Ss x T S h n a = text-sort-is body (part_sorts c T ++ Ss) x S h.2 a.0
