use Rattle.std.proofs.Common.{◌≡◌, List, [], ◌∷◌, ◌++◌, map, Option, Some, refl, ◌∙◌, ap, subst, rules, arith}
use Rattle.std.proofs.lemmas.Grind.{common_steps}
use Rattle.std.proofs.lemmas.List.{map-append}
use Rattle.fst_syntax.specs.Tokens.{Token}
use Rattle.fst_syntax.specs.Lexemes.{bad}
use Rattle.fst_syntax.proofs.Texts.{all_texts_pushed}
use Rattle.fst_term_reader.proofs.lexeme.lexemes.Goals as goal

last_bad : {A B : Type 0} (f : A → Token) (g : B → Token) (xs ys : List A) (x : A) (ts : List B) (fault : Option _) (at : _) (all : List Token)
    → map f xs ++ (map g ts ++ bad fault) ≡ all → ts ≡ [] → fault ≡ Some at → ys ≡ xs ++ (x ∷ []) → f x ∷ [] ≡ bad (Some at) → map f ys ≡ all
last_bad f g xs ys x ts fault at all e h k l m =
    ap (map f) l ∙ map-append f xs (x ∷ []) ∙ ap (λ us. map f xs ++ us) m
    ∙ subst (λ us. map f xs ++ (map g us ++ bad (Some at)) ≡ all) h (subst (λ o. map f xs ++ (map g ts ++ bad o) ≡ all) k e)

pub returns-in-Err-clause-value : goal.returns-in-Err-clause-value
returns-in-Err-clause-value c = let left = (c.in-Err.ensures.err c.in-Err.at).0 refl in
    last_bad _ _ _ _ c.bad.result _ _ _ _ c.tokens.invariant.so_far left.0 left.1 c.in_ok-push-in-Err.ensures.items (ap (λ t. t ∷ []) c.bad.ensures.value)

pub returns-in-Err-clause-utf8 : goal.returns-in-Err-clause-utf8
returns-in-Err-clause-utf8 c = all_texts_pushed _ _ _ c.tokens.invariant.utf8 c.bad.ensures.utf8 c.in_ok-push-in-Err.ensures.items

pub tokens-preserved : goal.tokens-preserved
tokens-preserved c = record {
  so_far = first_of (search rules, grind (arith, common_steps));
  text = first_of (search rules, grind (arith, common_steps));
  utf8 = all_texts_pushed _ _ _ c.tokens.invariant.utf8 c.lexed.ensures.utf8 c.in_ok-push-in-Ok-Some.ensures.items;
}
