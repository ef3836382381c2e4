-- Sorts that are written, a variant of the tree at a time.
use Rattle.std.proofs.Common.{◌≡◌, Some, None, refl, ap, ◌∙◌}
use Rattle.fst_base.specs.Sorts.{Srt, s_unit, s_bool, s_int, s_a, s_b, s_pair, s_opt, s_list, s_either}
use Rattle.fst_effects.proofs.PlainLemmas as P
use Rattle.fst_trees.specs.declared.sort.SortTree.{SortTree}
use Rattle.fst_trees.specs.declared.sort.SortTree.TheVariants as V
use Rattle.fst_names.specs.declared.reference.Ref.{Ref}
use Rattle.fst_names.specs.declared.reference.RefKind.{RefKind}
use Rattle.fst_names.specs.declared.reference.RefKind.TheVariants as kind
use Rattle.fst_names.proofs.CheckSortLemmas.{plain-Unit, plain-Bool, plain-Int, plain-Pair, plain-Opt, plain-List, plain-Either, plain-Ident}
use Rattle.fst_effects.specs.Known.{sort_of}
use Rattle.fst_sorting.specs.Sites.{note_of, written_sort}

pub written-Unit : written_sort V.Unit ≡ s_unit
unfolding written_sort
written-Unit = ap sort_of plain-Unit

pub written-Bool : written_sort V.Bool ≡ s_bool
unfolding written_sort
written-Bool = ap sort_of plain-Bool

pub written-Int : written_sort V.Int ≡ s_int
unfolding written_sort
written-Int = ap sort_of plain-Int

pub written-Pair : (s t : SortTree Ref) → written_sort (V.Pair s t) ≡ s_pair (written_sort s) (written_sort t)
unfolding written_sort
written-Pair s t = ap sort_of (plain-Pair s t)

pub written-Opt : (s : SortTree Ref) → written_sort (V.Opt s) ≡ s_opt (written_sort s)
unfolding written_sort
written-Opt s = ap sort_of (plain-Opt s)

pub written-List : (s : SortTree Ref) → written_sort (V.List s) ≡ s_list (written_sort s)
unfolding written_sort
written-List s = ap sort_of (plain-List s)

pub written-Either : (s t : SortTree Ref) → written_sort (V.Either s t) ≡ s_either (written_sort s) (written_sort t)
unfolding written_sort
written-Either s t = ap sort_of (plain-Either s t)

pub ruleset sorts = (P.sorts, written-Unit, written-Bool, written-Int, written-Pair, written-Opt, written-List, written-Either)

-- ---- names of sorts

abbrev chosen : RefKind → Srt
chosen kind.SortA = s_a
chosen _ = s_b

pub written-Ident : (r : Ref) → written_sort (V.Ident r) ≡ chosen r.kind
unfolding written_sort
written-Ident r = ap sort_of (plain-Ident r) ∙ go r.kind
  where
    go : (k : RefKind) → (elim k [
      | kind.Local ↦ s_b
      | kind.Fun ↦ s_b
      | kind.Effect ↦ s_b
      | kind.SortA ↦ s_a
      | kind.SortB ↦ s_b
      | kind.RunF ↦ s_b
      | kind.RunG ↦ s_b
    ]) ≡ chosen k
    go kind.SortA = refl
    go _ = refl

pub ruleset names = (P.sorts, written-Ident)

-- ---- notes

pub note-None : note_of None ≡ None
unfolding note_of
note-None = refl

pub note-Some : (s : SortTree Ref) → note_of (Some s) ≡ Some (written_sort s)
unfolding note_of written_sort
note-Some s = refl

pub ruleset notes = (note-None, note-Some)

pub ruleset plain_sorts = (P.sorts)
