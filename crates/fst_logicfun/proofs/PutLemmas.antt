-- Terms for variables, and scopes under one variable more, from the answers for their parts.
use Rattle.std.proofs.Common.{◌≡◌, ℕ, List, [], ◌∷◌, ◌++◌, map, reverse, refl, sym, ap, ap₂, ◌∙◌}
use Rattle.std.proofs.lemmas.List.{map-append, reverse-append}
use Rattle.fst_base.specs.declared.op.Op.{Op}
use Rattle.fst_base.specs.declared.place.Pos.{Pos}
use Rattle.fst_base.specs.declared.sort.Sort.{Sort}
use Rattle.fst_base.specs.Sorts.{plain_sort}
use Rattle.fst_terms.specs.Terms.{Tm, t_var, t_app, t_more, row, shift, plain_term, plain_terms}
use Rattle.fst_terms.specs.Formulas.{make, put, puts}
use Rattle.fst_terms.specs.declared.term.Term.{Term}
use Rattle.fst_terms.specs.declared.term.Term.TheVariants as T
use Rattle.fst_terms.proofs.PlainLemmas.{plain-term-Prim, plain-term-App}
use Rattle.fst_scopes.specs.Scopes.{terms_for}
use Rattle.fst_logicfun.proofs.ClearLemmas.{scope-push}

pub put-row : (us : List Tm) (ts : List Term) → row (map (λ t. put us (plain_term t)) ts) ≡ puts us (plain_terms ts)
put-row us [] = refl
put-row us (t ∷ ts) = ap (t_more (put us (plain_term t))) (put-row us ts)

args-put : (us : List Tm) (ts args vs : List Term) → args ≡ ts → map plain_term vs ≡ map (λ t. put us (plain_term t)) args → plain_terms vs ≡ puts us (plain_terms ts)
args-put us ts args vs e f = ap row f ∙ put-row us args ∙ ap (λ ts. puts us (plain_terms ts)) e

pub put-Prim-by : (us : List Tm) (o : Op) (S : Sort) (ts args vs : List Term) (p : Pos) (t : Term)
    → t ≡ T.Prim o S ts p → args ≡ ts → map plain_term vs ≡ map (λ t. put us (plain_term t)) args → make o (plain_sort S) (plain_terms vs) p.at ≡ put us (plain_term t)
put-Prim-by us o S ts args vs p t is e f =
    ap (λ vs. make o (plain_sort S) vs p.at) (args-put us ts args vs e f) ∙ sym (ap (λ t. put us (plain_term t)) is ∙ ap (put us) (plain-term-Prim o S ts p))

pub put-App-by : (us : List Tm) (k : ℕ) (S S' : Sort) (ts args vs : List Term) (t : Term)
    → t ≡ T.App k S ts → S' ≡ S → args ≡ ts → map plain_term vs ≡ map (λ t. put us (plain_term t)) args → plain_term (T.App k S' vs) ≡ put us (plain_term t)
put-App-by us k S S' ts args vs t is s e f =
    plain-term-App k S' vs ∙ ap₂ (t_app k) (ap plain_sort s) (args-put us ts args vs e f) ∙ sym (ap (λ t. put us (plain_term t)) is ∙ ap (put us) (plain-term-App k S ts))

-- ---- scopes under one variable more

pub map-reverse : {A B : Type 0} (f : A → B) (ts : List A) → map f (reverse ts) ≡ reverse (map f ts)
map-reverse f [] = refl
map-reverse f (t ∷ ts) =
    ap (map f) (reverse-append (t ∷ []) ts) ∙ map-append f (reverse ts) (t ∷ []) ∙ ap (λ us. us ++ f t ∷ []) (map-reverse f ts) ∙ sym (reverse-append (f t ∷ []) (map f ts))

pub map-map : (f : Tm → Tm) (ts : List Term) → map (λ t. f (plain_term t)) ts ≡ map f (map plain_term ts)
map-map f [] = refl
map-map f (t ∷ ts) = ap (λ us. f (plain_term t) ∷ us) (map-map f ts)

pub scope-under : (ts rs inner : List Term) (v : Term) → map plain_term rs ≡ map (λ t. shift 0 1 (plain_term t)) ts → inner ≡ rs ++ v ∷ [] → plain_term v ≡ t_var 0 → terms_for inner ≡ t_var 0 ∷ map (shift 0 1) (terms_for ts)
scope-under ts rs inner v e f g =
    ap terms_for f ∙ scope-push rs v ∙ ap₂ (λ v us. v ∷ us) g (ap reverse (e ∙ map-map (shift 0 1) ts) ∙ sym (map-reverse (shift 0 1) (map plain_term ts)))
