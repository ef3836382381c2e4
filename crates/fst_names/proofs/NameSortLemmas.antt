-- Sorts with their names looked up, a variant of the tree at a time.
use Rattle.std.proofs.Common.{◌≡◌, Some, None, refl, ap}
use Rattle.fst_trees.specs.declared.word.Word.{Word}
use Rattle.fst_trees.specs.declared.sort.SortTree.{SortTree}
use Rattle.fst_trees.specs.declared.sort.SortTree.TheVariants as V
use Rattle.fst_names.specs.Trees.{w_unit, w_bool, w_int, w_pair, w_opt, w_list, w_either, w_name}
use Rattle.fst_names.specs.Names.{Tables, named_sort, kind_or_a, variable_kind, refer}
use Rattle.fst_names.specs.Namings.{sort_named, note_named}
use Rattle.fst_names.proofs.CheckSortLemmas.{plain-Unit, plain-Bool, plain-Int, plain-Pair, plain-Opt, plain-List, plain-Either, plain-Ident}

pub name-Unit : (T : Tables) → sort_named T V.Unit ≡ w_unit
unfolding sort_named
name-Unit T = ap (named_sort T) plain-Unit

pub name-Bool : (T : Tables) → sort_named T V.Bool ≡ w_bool
unfolding sort_named
name-Bool T = ap (named_sort T) plain-Bool

pub name-Int : (T : Tables) → sort_named T V.Int ≡ w_int
unfolding sort_named
name-Int T = ap (named_sort T) plain-Int

pub name-Pair : (T : Tables) (s t : SortTree Word) → sort_named T (V.Pair s t) ≡ w_pair (sort_named T s) (sort_named T t)
unfolding sort_named
name-Pair T s t = ap (named_sort T) (plain-Pair s t)

pub name-Opt : (T : Tables) (s : SortTree Word) → sort_named T (V.Opt s) ≡ w_opt (sort_named T s)
unfolding sort_named
name-Opt T s = ap (named_sort T) (plain-Opt s)

pub name-List : (T : Tables) (s : SortTree Word) → sort_named T (V.List s) ≡ w_list (sort_named T s)
unfolding sort_named
name-List T s = ap (named_sort T) (plain-List s)

pub name-Either : (T : Tables) (s t : SortTree Word) → sort_named T (V.Either s t) ≡ w_either (sort_named T s) (sort_named T t)
unfolding sort_named
name-Either T s t = ap (named_sort T) (plain-Either s t)

pub name-Ident : (T : Tables) (w : Word) → sort_named T (V.Ident w) ≡ w_name (refer (kind_or_a T (variable_kind T w.text)) 0 w)
unfolding sort_named
name-Ident T w = ap (named_sort T) (plain-Ident w)

pub ruleset name_sorts = (name-Unit, name-Bool, name-Int, name-Pair, name-Opt, name-List, name-Either, name-Ident, plain-Unit, plain-Bool, plain-Int, plain-Pair, plain-Opt, plain-List, plain-Either, plain-Ident)

pub note-None : (T : Tables) → note_named T None ≡ None
unfolding note_named
note-None T = refl

pub note-Some : (T : Tables) (s : SortTree Word) → note_named T (Some s) ≡ Some (sort_named T s)
unfolding note_named sort_named
note-Some T s = refl

pub ruleset name_notes = (note-None, note-Some)
