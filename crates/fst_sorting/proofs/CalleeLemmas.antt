-- Functions as texts call them and as formulas apply them, from what the code holds of them.
use Rattle.std.proofs.Common.{◌≡◌, ℕ, List, [], ◌∷◌, map, Option, Some, None, refl, ap, ◌∙◌}
use Rattle.fst_base.specs.Sorts.{Srt}
use Rattle.fst_program.specs.declared.effect.Effect.{Effect}
use Rattle.fst_program.specs.declared.effect.Effect.TheVariants as effect
use Rattle.fst_trees.specs.declared.decl.ParamTree.{ParamTree}
use Rattle.fst_trees.specs.declared.decl.FunTree.{FunTree}
use Rattle.fst_names.specs.declared.reference.Ref.{Ref}
use Rattle.fst_names.specs.Trees.{plain_wparam}
use Rattle.fst_effects.specs.Known.{EffectSorts}
use Rattle.fst_sorting.specs.Functions.{effect_of, param_entry, results}
use Rattle.fst_sorting.specs.Listed.{entry_of_param, entries_of, called_of, applied_of, own_effect, with_results, head_results}
use Rattle.fst_sorting.specs.Sites.{written_sort}

pub entry-param : (p : ParamTree Ref) → entry_of_param p ≡ record { sort = written_sort p.sort; hidden = p.hidden }
unfolding entry_of_param written_sort
entry-param p = refl

pub ruleset params = (entry-param)

pub entries-plain : (ps : List (ParamTree Ref)) → map param_entry (map plain_wparam ps) ≡ entries_of ps
unfolding entry_of_param
entries-plain [] = refl
entries-plain (p ∷ ps) = ap (λ es. param_entry (plain_wparam p) ∷ es) (entries-plain ps)

there-results : (o : Option EffectSorts) (x : Effect) (E : ℕ) (es : ℕ → Option EffectSorts) (S : Srt) → x ≡ effect.User E → es E ≡ o → results (effect.User E) es S ≡ with_results (es E) S
there-results None x E es S p q = rw q refl
there-results (Some e) x E es S p q = rw q refl

pub results-own : (x : Effect) (es : ℕ → Option EffectSorts) (S : Srt) → results x es S ≡ with_results (own_effect es x) S
results-own effect.Pure es S = refl
results-own effect.Ghost es S = refl
results-own effect.Div es S = refl
results-own (effect.User E) es S = there-results (es E) (effect.User E) E es S refl refl

pub called-is : (f : FunTree Ref) → called_of f ≡ record { args = entries_of f.head.params; sort = written_sort f.head.sort; effect = effect_of f.head.effect }
unfolding called_of written_sort
called-is f = ap (λ es. record { args = es; sort = written_sort f.head.sort; effect = effect_of f.head.effect }) (entries-plain f.head.params)

pub applied-is : (es : ℕ → Option EffectSorts) (f : FunTree Ref) → applied_of es f ≡ record { args = entries_of f.head.params; sort = head_results es f.head; effect = effect_of f.head.effect }
unfolding applied_of written_sort
applied-is es f =
    ap (λ bs. record { args = bs; sort = results (effect_of f.head.effect) es (written_sort f.head.sort); effect = effect_of f.head.effect }) (entries-plain f.head.params)
    ∙ ap (λ S. record { args = entries_of f.head.params; sort = S; effect = effect_of f.head.effect }) (results-own (effect_of f.head.effect) es (written_sort f.head.sort))

pub ruleset callees = (called-is, applied-is)
