-- The sort that a tree is, a variant at a time.
use Rattle.std.proofs.Common.{◌≡◌, Some, None, rules}
use Rattle.fst_base.specs.Sorts.{s_unit, s_bool}
use Rattle.fst_trees.specs.declared.word.Word.{Word}
use Rattle.fst_trees.specs.declared.sort.SortTree as D
use Rattle.fst_trees.specs.declared.sort.SortTree.{SortTree}
use Rattle.fst_trees.specs.declared.sort.SortTree.TheVariants as V
use Rattle.fst_top.specs.Elaboration.{sort_of_tree}

pub sort-Unit : sort_of_tree V.Unit ≡ Some s_unit
sort-Unit = search (rules, D.the_lemmas)

pub sort-Bool : sort_of_tree V.Bool ≡ Some s_bool
sort-Bool = search (rules, D.the_lemmas)

pub sort-Int : sort_of_tree V.Int ≡ None
sort-Int = search (rules, D.the_lemmas)

pub sort-Pair : (a b : SortTree Word) → sort_of_tree (V.Pair a b) ≡ None
sort-Pair a b = search (rules, D.the_lemmas)

pub sort-Opt : (a : SortTree Word) → sort_of_tree (V.Opt a) ≡ None
sort-Opt a = search (rules, D.the_lemmas)

pub sort-List : (a : SortTree Word) → sort_of_tree (V.List a) ≡ None
sort-List a = search (rules, D.the_lemmas)

pub sort-Either : (a b : SortTree Word) → sort_of_tree (V.Either a b) ≡ None
sort-Either a b = search (rules, D.the_lemmas)

pub sort-Ident : (w : Word) → sort_of_tree (V.Ident w) ≡ None
sort-Ident w = search (rules, D.the_lemmas)

pub ruleset sorts = (sort-Unit, sort-Bool, sort-Int, sort-Pair, sort-Opt, sort-List, sort-Either, sort-Ident)
