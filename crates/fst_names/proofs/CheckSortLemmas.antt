-- What answers among the rules that a sort breaks, a variant of the tree at a time.
use Rattle.std.proofs.Common.{◌≡◌, Some, None, rules, refl, ap, ◌∙◌}
use Rattle.fst_base.specs.declared.rule.Rule.TheVariants as rule
use Rattle.fst_trees.specs.declared.word.Word.{Word}
use Rattle.fst_trees.specs.declared.sort.SortTree.{SortTree}
use Rattle.fst_trees.specs.declared.sort.SortTree as D
use Rattle.fst_trees.specs.declared.sort.SortTree.TheVariants as V
use Rattle.fst_names.specs.Broken.{first_broken, least, breaks}
use Rattle.fst_names.specs.Trees.{w_unit, w_bool, w_int, w_pair, w_opt, w_list, w_either, w_name, plain_wsort}
use Rattle.fst_names.specs.Names.{Tables, broken_sort, variable_kind, is_some, unless}
use Rattle.fst_names.specs.Checks.{sort_breaks, note_breaks}
use Rattle.fst_names.proofs.BrokenLemmas.{first-append}

pub plain-Pair : {R : Type 0} → (s t : SortTree R) → plain_wsort (V.Pair s t) ≡ w_pair (plain_wsort s) (plain_wsort t)
plain-Pair s t = search (rules, D.the_lemmas)

pub plain-Either : {R : Type 0} → (s t : SortTree R) → plain_wsort (V.Either s t) ≡ w_either (plain_wsort s) (plain_wsort t)
plain-Either s t = search (rules, D.the_lemmas)

pub plain-Opt : {R : Type 0} → (s : SortTree R) → plain_wsort (V.Opt s) ≡ w_opt (plain_wsort s)
plain-Opt s = search (rules, D.the_lemmas)

pub plain-List : {R : Type 0} → (s : SortTree R) → plain_wsort (V.List s) ≡ w_list (plain_wsort s)
plain-List s = search (rules, D.the_lemmas)

pub plain-Ident : {R : Type 0} → (w : R) → plain_wsort (V.Ident w) ≡ w_name w
plain-Ident w = search (rules, D.the_lemmas)

pub plain-Unit : {R : Type 0} → plain_wsort {R = R} V.Unit ≡ w_unit
plain-Unit = search (rules, D.the_lemmas)

pub plain-Bool : {R : Type 0} → plain_wsort {R = R} V.Bool ≡ w_bool
plain-Bool = search (rules, D.the_lemmas)

pub plain-Int : {R : Type 0} → plain_wsort {R = R} V.Int ≡ w_int
plain-Int = search (rules, D.the_lemmas)

pub sort-Unit : (T : Tables) → sort_breaks T V.Unit ≡ None
unfolding sort_breaks
sort-Unit T = ap (λ s. first_broken (broken_sort T s)) plain-Unit

pub sort-Bool : (T : Tables) → sort_breaks T V.Bool ≡ None
unfolding sort_breaks
sort-Bool T = ap (λ s. first_broken (broken_sort T s)) plain-Bool

pub sort-Int : (T : Tables) → sort_breaks T V.Int ≡ None
unfolding sort_breaks
sort-Int T = ap (λ s. first_broken (broken_sort T s)) plain-Int

pub sort-Pair : (T : Tables) (s t : SortTree Word) → sort_breaks T (V.Pair s t) ≡ least (sort_breaks T s) (sort_breaks T t)
unfolding sort_breaks
sort-Pair T s t = ap (λ s. first_broken (broken_sort T s)) (plain-Pair s t) ∙ first-append (broken_sort T (plain_wsort s)) (broken_sort T (plain_wsort t))

pub sort-Either : (T : Tables) (s t : SortTree Word) → sort_breaks T (V.Either s t) ≡ least (sort_breaks T s) (sort_breaks T t)
unfolding sort_breaks
sort-Either T s t = ap (λ s. first_broken (broken_sort T s)) (plain-Either s t) ∙ first-append (broken_sort T (plain_wsort s)) (broken_sort T (plain_wsort t))

pub sort-Opt : (T : Tables) (s : SortTree Word) → sort_breaks T (V.Opt s) ≡ sort_breaks T s
unfolding sort_breaks
sort-Opt T s = ap (λ s. first_broken (broken_sort T s)) (plain-Opt s)

pub sort-List : (T : Tables) (s : SortTree Word) → sort_breaks T (V.List s) ≡ sort_breaks T s
unfolding sort_breaks
sort-List T s = ap (λ s. first_broken (broken_sort T s)) (plain-List s)

pub sort-Ident : (T : Tables) (w : Word) → sort_breaks T (V.Ident w) ≡ first_broken (unless (is_some (variable_kind T w.text)) (breaks rule.Unknown w.at.at))
unfolding sort_breaks
sort-Ident T w = ap (λ s. first_broken (broken_sort T s)) (plain-Ident w)

pub ruleset sorts = (sort-Unit, sort-Bool, sort-Int, sort-Pair, sort-Either, sort-Opt, sort-List, sort-Ident)

pub note-None : (T : Tables) → note_breaks T None ≡ None
unfolding note_breaks
note-None T = refl

pub note-Some : (T : Tables) (s : SortTree Word) → note_breaks T (Some s) ≡ sort_breaks T s
unfolding note_breaks sort_breaks
note-Some T s = refl

pub ruleset notes = (note-None, note-Some)
