-- Terms put in for the variables of a term, from the answers for its parts.
use Rattle.std.proofs.Common.{◌≡◌, ℕ, List, [], ◌∷◌, map, refl, sym, ap, ap₂, ◌∙◌}
use Rattle.fst_base.specs.declared.op.Op.{Op}
use Rattle.fst_base.specs.declared.place.Pos.{Pos}
use Rattle.fst_base.specs.declared.sort.Sort.{Sort}
use Rattle.fst_base.specs.Sorts.{plain_sort}
use Rattle.fst_terms.specs.declared.term.Term.{Term}
use Rattle.fst_terms.specs.declared.term.Term.TheVariants as T
use Rattle.fst_terms.specs.Terms.{Tm, t_app, t_more, row, plain_term, plain_terms}
use Rattle.fst_terms.specs.Formulas.{make, put, puts}
use Rattle.fst_terms.proofs.PlainLemmas.{plain-term-Prim, plain-term-App}

puts-row : (us : List Tm) (ts : List Term) → row (map (λ t. put us (plain_term t)) ts) ≡ puts us (plain_terms ts)
puts-row us [] = refl
puts-row us (t ∷ ts) = ap₂ (λ u vs. t_more u vs) refl (puts-row us ts)

pub put-Prim-by : (us : List Tm) (o : Op) (S S' : Sort) (ts ts' made : List Term) (at : Pos) (t : Term) (m : Tm)
    → t ≡ T.Prim o S ts at → S' ≡ S → ts' ≡ ts → map plain_term made ≡ map (λ t. put us (plain_term t)) ts' → m ≡ make o (plain_sort S') (plain_terms made) at.at → m ≡ put us (plain_term t)
put-Prim-by us o S S' ts ts' made at t m e p q r h =
    let sides : plain_terms made ≡ puts us (plain_terms ts) = ap row r ∙ puts-row us ts' ∙ ap (λ vs. puts us (plain_terms vs)) q in
    h ∙ ap₂ (λ T vs. make o (plain_sort T) vs at.at) p sides ∙ sym (ap (put us) (ap plain_term e ∙ plain-term-Prim o S ts at))

pub put-App-by : (us : List Tm) (k : ℕ) (S S' : Sort) (ts ts' made : List Term) (t : Term)
    → t ≡ T.App k S ts → S' ≡ S → ts' ≡ ts → map plain_term made ≡ map (λ t. put us (plain_term t)) ts' → plain_term (T.App k S' made) ≡ put us (plain_term t)
put-App-by us k S S' ts ts' made t e p q r =
    let sides : plain_terms made ≡ puts us (plain_terms ts) = ap row r ∙ puts-row us ts' ∙ ap (λ vs. puts us (plain_terms vs)) q in
    plain-term-App k S' made ∙ ap₂ (λ T vs. t_app k (plain_sort T) vs) p sides ∙ sym (ap (put us) (ap plain_term e ∙ plain-term-App k S ts))
