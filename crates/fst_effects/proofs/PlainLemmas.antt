-- The plain tree of each variant of a sort.
use Rattle.std.proofs.Common.{◌≡◌, ap, rules, Decides}
use Rattle.fst_base.specs.Sorts.{plain_sort, same_sort, s_unit, s_bool, s_int, s_a, s_b}
use Rattle.fst_base.specs.declared.sort.Sort as D
use Rattle.fst_base.specs.declared.sort.Sort.TheVariants as S
use Rattle.fst_base.proofs.SortLemmas.{same_sort-decides, sort-injective, plain-sort-Pair, plain-sort-Opt, plain-sort-List, plain-sort-Either}

pub plain-sort-Unit : plain_sort S.Unit ≡ s_unit
plain-sort-Unit = search (rules, D.the_lemmas)

pub plain-sort-Bool : plain_sort S.Bool ≡ s_bool
plain-sort-Bool = search (rules, D.the_lemmas)

pub plain-sort-Int : plain_sort S.Int ≡ s_int
plain-sort-Int = search (rules, D.the_lemmas)

pub plain-sort-VarA : plain_sort S.VarA ≡ s_a
plain-sort-VarA = search (rules, D.the_lemmas)

pub plain-sort-VarB : plain_sort S.VarB ≡ s_b
plain-sort-VarB = search (rules, D.the_lemmas)

pub ruleset sorts = (plain-sort-Unit, plain-sort-Bool, plain-sort-Int, plain-sort-VarA, plain-sort-VarB, plain-sort-Pair, plain-sort-Opt, plain-sort-List, plain-sort-Either)

-- two sorts are one where their plain trees are
pub same-plain : (S T : D.Sort) → Decides (same_sort (plain_sort S) (plain_sort T)) (S ≡ T)
same-plain S T = let d = same_sort-decides (plain_sort S) (plain_sort T) in ((λ e. sort-injective S T (d.0 e)), (λ e. d.1 (ap plain_sort e)))
