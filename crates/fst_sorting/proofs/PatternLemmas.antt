-- Patterns: where one fits, it binds variables of the sorts of the constructor's parts. Arguments of calls.
use Rattle.std.proofs.Common.{◌≡◌, ℕ, ◌+◌, Bool, true, ◌||◌, List, [], ◌∷◌, ◌++◌, map, length, Option, Some, None, refl, arith}
use Rattle.fst_base.specs.Sorts.{Srt, s_bool, s_pair, s_opt, s_list, s_either}
use Rattle.fst_terms.specs.Sorted.{TmsSorted}
use Rattle.fst_trees.specs.declared.pattern.ConWord.{ConWord}
use Rattle.fst_trees.specs.declared.pattern.ConWord.TheVariants as word
use Rattle.fst_program.specs.Paths as paths
use Rattle.fst_program.specs.Sorted.{ConOf}
use Rattle.fst_names.specs.declared.reference.Ref.{Ref}
use Rattle.fst_names.specs.declared.broken.Broken.{Broken}
use Rattle.fst_names.specs.Names.{count_forms}
use Rattle.fst_names.specs.Trees.{WForms, f_end, f_more}
use Rattle.fst_effects.specs.Known.{Entry, Ctx, Callee, Known}
use Rattle.fst_effects.specs.TermSorts.{cores, broken, visible, wants_of, is_pure_or_ghost}
use Rattle.fst_effects.specs.Patterns.{part_sorts, core_con, under, in_pattern}
use Rattle.fst_effects.specs.TextSorts.{broken_args}
use Rattle.fst_sorting.specs.Written.{binds}
use Rattle.fst_sorting.proofs.Scoped.{FormsScoped}
use Rattle.fst_sorting.proofs.BasicLemmas.{none-left, none-right}
use Rattle.fst_sorting.proofs.TermLemmas.{sorts_of, term-sorted}

abbrev pub Pattern : ConWord → Srt → Ctx → Type 0
Pattern con T xs =
    ConOf (core_con con) T × (length (paths.part_sorts (core_con con) T) ≡ binds con)
    × (sorts_of (under (part_sorts con T) xs) ≡ paths.part_sorts (core_con con) T ++ sorts_of xs)
    × (length (under (part_sorts con T) xs) ≡ binds con + length xs)

-- a pattern that isn't refused fits
pub pattern : (at : ℕ) (con : ConWord) (T : Srt) (xs : Ctx) (k : List Srt → List Broken) → in_pattern at (part_sorts con T) k ≡ [] → Pattern con T xs
pattern at word.True s_bool xs k h = (tt, refl, refl, omega arith)
pattern at word.False s_bool xs k h = (tt, refl, refl, omega arith)
pattern at word.Empty (s_opt S) xs k h = (tt, refl, refl, omega arith)
pattern at word.Full (s_opt S) xs k h = (tt, refl, refl, omega arith)
pattern at word.Nil (s_list S) xs k h = (tt, refl, refl, omega arith)
pattern at word.Cons (s_list S) xs k h = (tt, refl, refl, omega arith)
pattern at word.Left (s_either S T) xs k h = (tt, refl, refl, omega arith)
pattern at word.Right (s_either S T) xs k h = (tt, refl, refl, omega arith)
pattern at word.Pair (s_pair S T) xs k h = (tt, refl, refl, omega arith)
pattern at con T xs k h = cc

-- what is broken under a pattern that fits
pub pattern-broken : (at : ℕ) (o : Option (List Srt)) (xs : Ctx) (k : Ctx → List Broken) → in_pattern at o (λ ys. k (map visible ys ++ xs)) ≡ [] → k (under o xs) ≡ []
pattern-broken at None xs k h = cc
pattern-broken at (Some ys) xs k h = h

module _ (K : Known) (Applies : (k : ℕ) → List Srt → (S : Srt) → Type 0)
    (applies : (r : Ref) (c : Callee) → K.applied r ≡ Some c → is_pure_or_ghost c.effect ≡ true → Applies r.index (sorts_of c.args) c.sort) where
  -- the arguments of a call have the sorts of the parameters
  pub args-sorted : (gh l : Bool) (xs : Ctx) (fs : WForms Ref) (ps : List Entry)
      → FormsScoped K l (length xs) fs → count_forms fs ≡ length ps → broken_args K gh xs fs ps ≡ [] → TmsSorted Applies (sorts_of xs) (cores K.applied xs fs (wants_of ps)) (sorts_of ps)
  args-sorted gh l xs f_end [] s n b = refl
  args-sorted gh l xs (f_more f fs) [] s n b = cc
  args-sorted gh l xs f_end (p ∷ ps) s n b = cc
  args-sorted gh l xs (f_more f fs) (p ∷ ps) s n b =
      let first = none-left (broken K.applied (gh || p.hidden) xs f (Some p.sort)) _ b in
      let more : count_forms fs ≡ length ps = cc in (
        p.sort,
        (
          sorts_of ps,
          (
            refl,
            term-sorted K Applies applies (gh || p.hidden) l xs f (Some p.sort) p.sort s.0 first refl,
            args-sorted gh l xs fs ps s.1 more (none-right (broken K.applied (gh || p.hidden) xs f (Some p.sort)) _ b),
          ),
        ),
      )
