-- The sorts of terms for variables, from the sorts of the terms in order.
use Rattle.std.proofs.Common.{◌≡◌, List, [], ◌∷◌, map, reverse, refl, sym, ap, ◌∙◌}
use mathlib.Core.List.{reverse_aux}
use Rattle.fst_base.specs.declared.sort.Sort.{Sort}
use Rattle.fst_base.specs.Sorts.{Srt, plain_sort}
use Rattle.fst_terms.specs.declared.term.Term.{Term}
use Rattle.fst_terms.specs.Formulas.{sort_of}
use Rattle.fst_terms.specs.Terms.{Tm, plain_term}
use Rattle.fst_scopes.specs.Scopes.{sorts_in, terms_for}

map-twice : {A B C : Type 0} (f : A → B) (g : B → C) (xs : List A) → map (λ x. g (f x)) xs ≡ map g (map f xs)
map-twice f g [] = refl
map-twice f g (x ∷ xs) = ap (λ ys. g (f x) ∷ ys) (map-twice f g xs)

turned : {A B : Type 0} (g : A → B) (xs ys : List A) → map g (reverse_aux xs ys) ≡ reverse_aux (map g xs) (map g ys)
turned g [] ys = refl
turned g (x ∷ xs) ys = turned g xs (x ∷ ys)

pub sorts-turned : (Ss : List Srt) (made : List Sort) (ts : List Term) → map plain_sort made ≡ map (λ t. sort_of Ss (plain_term t)) ts → sorts_in made ≡ map (sort_of Ss) (terms_for ts)
sorts-turned Ss made ts e = ap reverse (e ∙ map-twice plain_term (sort_of Ss) ts) ∙ sym (turned (sort_of Ss) (map plain_term ts) [])
