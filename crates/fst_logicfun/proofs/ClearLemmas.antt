-- Made terms and cleared terms, from the answers for their parts.
use Rattle.std.proofs.Common.{◌≡◌, ℕ, suc, ◌+◌, ◌-◌, ◌≤◌, true, if◌then◌else◌, List, [], ◌∷◌, ◌++◌, map, reverse, Some, None, refl, sym, ap, ap₂, ◌∙◌, arith}
use Rattle.std.proofs.lemmas.List.{map-append, reverse-append}
use Rattle.fst_base.specs.declared.op.Op.{Op}
use Rattle.fst_base.specs.declared.place.Pos.{Pos}
use Rattle.fst_base.specs.declared.sort.Sort.{Sort}
use Rattle.fst_base.specs.Sorts.{plain_sort}
use Rattle.fst_base.specs.Rows.{same_op}
use Rattle.fst_terms.specs.Terms.{Tm, t_var, t_app, t_more, row, listed, plain_term, plain_terms}
use Rattle.fst_terms.specs.Formulas.{make, vars_from}
use Rattle.fst_terms.specs.declared.term.Term.{Term}
use Rattle.fst_terms.specs.declared.term.Term.TheVariants as T
use Rattle.fst_terms.proofs.PlainLemmas.{plain-term-Prim, plain-term-App, plain-term-Let}
use Rattle.fst_terms.proofs.FirstsLemmas.{listed-row}
use Rattle.fst_terms.specs.Cleared.{cleared, all_cleared}
use Rattle.fst_logicfun.specs.Parts.{parts_from}
use Rattle.fst_scopes.specs.Scopes.{terms_for}

-- ---- made terms

pub parts-from-Prim : (o m : Op) (S : Sort) (ts us : List Term) (p : Pos) (t : Term) → t ≡ T.Prim o S ts p → same_op o m ≡ true → us ≡ ts → Some (map plain_term us) ≡ parts_from m (plain_term t)
parts-from-Prim o m S ts us p t is e f =
    ap Some (ap (map plain_term) f ∙ sym (listed-row (map plain_term ts))) ∙ sym (ap (parts_from m) (ap plain_term is ∙ plain-term-Prim o S ts p) ∙ ap (λ b. if b then Some (listed (plain_terms ts)) else None) e)

-- ---- scopes

pub scope-push : (ts : List Term) (t : Term) → terms_for (ts ++ t ∷ []) ≡ plain_term t ∷ terms_for ts
scope-push ts t = ap reverse (map-append plain_term ts (t ∷ [])) ∙ reverse-append (map plain_term ts) (plain_term t ∷ [])

pub vars_from-step : (i l n : ℕ) → i + 1 ≡ l → l ≤ n → t_var i ∷ vars_from l (n - l) ≡ vars_from i (n - i)
vars_from-step i l n e h =
    let after : suc i ≡ l = omega (arith, e) in
    let more : n - i ≡ suc (n - l) = omega (arith, e, h) in
    sym (ap (vars_from i) more ∙ ap (λ k. t_var i ∷ vars_from k (n - l)) after)

-- ---- cleared terms

pub cleared-row : (us : List Tm) (ts : List Term) → row (map (λ t. cleared us (plain_term t)) ts) ≡ all_cleared us (plain_terms ts)
cleared-row us [] = refl
cleared-row us (t ∷ ts) = ap (t_more (cleared us (plain_term t))) (cleared-row us ts)

args-cleared : (us : List Tm) (ts args vs : List Term) → args ≡ ts → map plain_term vs ≡ map (λ t. cleared us (plain_term t)) args → plain_terms vs ≡ all_cleared us (plain_terms ts)
args-cleared us ts args vs e f = ap row f ∙ cleared-row us args ∙ ap (λ ts. all_cleared us (plain_terms ts)) e

pub clear-Prim-by : (us : List Tm) (o : Op) (S : Sort) (ts args vs : List Term) (p : Pos) (t : Term)
    → t ≡ T.Prim o S ts p → args ≡ ts → map plain_term vs ≡ map (λ t. cleared us (plain_term t)) args → make o (plain_sort S) (plain_terms vs) 0 ≡ cleared us (plain_term t)
clear-Prim-by us o S ts args vs p t is e f =
    ap (λ vs. make o (plain_sort S) vs 0) (args-cleared us ts args vs e f) ∙ sym (ap (λ t. cleared us (plain_term t)) is ∙ ap (cleared us) (plain-term-Prim o S ts p))

pub clear-App-by : (us : List Tm) (k : ℕ) (S S' : Sort) (ts args vs : List Term) (t : Term)
    → t ≡ T.App k S ts → S' ≡ S → args ≡ ts → map plain_term vs ≡ map (λ t. cleared us (plain_term t)) args → plain_term (T.App k S' vs) ≡ cleared us (plain_term t)
clear-App-by us k S S' ts args vs t is s e f =
    plain-term-App k S' vs ∙ ap₂ (t_app k) (ap plain_sort s) (args-cleared us ts args vs e f) ∙ sym (ap (λ t. cleared us (plain_term t)) is ∙ ap (cleared us) (plain-term-App k S ts))

pub clear-Let-by : (x : List ℕ) (t u t' u' w bound made : Term) (scope xs ys : List Term)
    → w ≡ T.Let x t u → t' ≡ t → u' ≡ u → plain_term bound ≡ cleared (terms_for scope) (plain_term t') → xs ≡ scope → ys ≡ xs ++ bound ∷ []
    → plain_term made ≡ cleared (terms_for ys) (plain_term u') → plain_term made ≡ cleared (terms_for scope) (plain_term w)
clear-Let-by x t u t' u' w bound made scope xs ys is e f b k g h =
    let inner : terms_for ys ≡ cleared (terms_for scope) (plain_term t) ∷ terms_for scope =
    ap terms_for (g ∙ ap (λ xs. xs ++ bound ∷ []) k) ∙ scope-push scope bound ∙ ap (λ v. v ∷ terms_for scope) (b ∙ ap (λ t. cleared (terms_for scope) (plain_term t)) e) in
    h ∙ ap₂ (λ us u. cleared us (plain_term u)) inner f ∙ sym (ap (λ t. cleared (terms_for scope) (plain_term t)) is ∙ ap (cleared (terms_for scope)) (plain-term-Let x t u))
