-- Trails of the code.
use Rattle.std.proofs.Common.{◌≡◌, ℕ, List, [], ◌∷◌, ◌++◌, map, reverse, refl, ap, ap₂, ◌∙◌}
use Rattle.std.proofs.lemmas.List.{reverse-append}
use Rattle.fst_base.specs.declared.sort.Sort.{Sort}
use Rattle.fst_base.specs.Sorts.{plain_sort}
use Rattle.fst_terms.specs.declared.sequent.Var.{Var}
use Rattle.fst_terms.specs.declared.term.Term.{Term}
use Rattle.fst_terms.specs.Meaning.{Vr, plain_var}
use Rattle.fst_terms.specs.Terms.{Tm, plain_term, shift}
use Rattle.fst_program.specs.declared.goal.Choice.{Choice}
use Rattle.fst_program.specs.Paths.{Way as Stand, fresh}
use Rattle.fst_star.specs.declared.trail.Trail.{Trail}
use Rattle.fst_star.specs.Met.{plain_trail}
use Rattle.fst_scopes.specs.Scopes.{terms_for}
use Rattle.fst_star.proofs.WayLemmas.{raised-terms}

abbrev at_stand : List Vr → List Tm → List Choice → Stand
at_stand vars hyps choices = record { vars = vars; hyps = hyps; choices = choices }

pub stand-made : (vars vars' : List Vr) (hyps hyps' : List Tm) (choices choices' : List Choice) → vars ≡ vars' → hyps ≡ hyps' → choices ≡ choices' → at_stand vars hyps choices ≡ at_stand vars' hyps' choices'
stand-made vars vars' hyps hyps' choices choices' p q r = ap₂ (λ vs hs. at_stand vs hs choices) p q ∙ ap (at_stand vars' hyps') r

pub map-end : {A B : Type 0} (f : A → B) (xs : List A) (x : A) → map f (xs ++ x ∷ []) ≡ map f xs ++ f x ∷ []
map-end f [] x = refl
map-end f (y ∷ xs) x = ap (λ ys. f y ∷ ys) (map-end f xs x)

vars-end : (vs : List Var) (v : Var) → reverse (map plain_var (vs ++ v ∷ [])) ≡ plain_var v ∷ reverse (map plain_var vs)
vars-end vs v = ap reverse (map-end plain_var vs v) ∙ reverse-append (map plain_var vs) (plain_var v ∷ [])

pub fresh-made : (w : Trail) (vars' : List Var) (hyps hyps' : List Term) (choices choices' : List Choice) (x x' : List ℕ) (S S' : Sort)
    → vars' ≡ w.vars ++ record { name = x'; sort = S' } ∷ [] → x' ≡ x → S' ≡ S → map plain_term hyps' ≡ map (shift 0 1) (map plain_term hyps) → hyps ≡ w.hyps → choices' ≡ choices → choices ≡ w.choices
    → plain_trail (record { vars = vars'; hyps = hyps'; choices = choices' }) ≡ fresh x (plain_sort S) (plain_trail w)
fresh-made w vars' hyps hyps' choices choices' x x' S S' p q r e a b d =
    stand-made _ _ _ _ _ _
    (ap (λ vs. reverse (map plain_var vs)) p ∙ vars-end w.vars (record { name = x'; sort = S' }) ∙ ap₂ (λ x S. record { name = x; sort = plain_sort S } ∷ reverse (map plain_var w.vars)) q r)
    (raised-terms hyps hyps' e ∙ ap (λ ts. map (shift 0 1) (terms_for ts)) a)
    (ap reverse (b ∙ d))
