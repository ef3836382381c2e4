-- Terms put in for the variables of simple terms, over the code's own lists.
use Rattle.std.proofs.Common.{◌≡◌, ℕ, zero, suc, ◌<◌, List, [], ◌∷◌, map, length, get_or, refl, sym, ap, ap₂, ◌∙◌, subst, arith}
use Rattle.fst_base.specs.declared.op.Op.{Op}
use Rattle.fst_base.specs.declared.op.Op.TheVariants as op
use Rattle.fst_base.specs.declared.place.Pos.{Pos}
use Rattle.fst_base.specs.declared.sort.Sort.{Sort}
use Rattle.fst_base.specs.Sorts.{Srt, plain_sort}
use Rattle.fst_terms.specs.declared.term.Term.{Term}
use Rattle.fst_terms.specs.declared.term.Term.TheVariants as T
use Rattle.fst_terms.specs.Terms.{Tm, Tms, t_prim, t_more, row, plain_term, plain_terms}
use Rattle.fst_terms.specs.Formulas.{make, put, puts}
use Rattle.fst_terms.proofs.PlainLemmas.{plain-term-Prim}
use Rattle.fst_top.specs.Goals.{TmSimple, AllSimple}

-- an equation is no selector
equation-stays : (o : Op) (S : Srt) (ts us : Tms) (at : ℕ) → TmSimple (t_prim o S ts at) → make o S us at ≡ t_prim o S us at
equation-stays op.Eq S ts us at h = refl
equation-stays o S ts us at h = absurd h

puts-row : (us : List Tm) (ts : List Term) → row (map (λ t. put us (plain_term t)) ts) ≡ puts us (plain_terms ts)
puts-row us [] = refl
puts-row us (t ∷ ts) = ap₂ (λ u vs. t_more u vs) refl (puts-row us ts)

pub put-Prim-by : (us : List Tm) (o : Op) (S S' : Sort) (ts ts' made : List Term) (at : Pos) (t : Term)
    → t ≡ T.Prim o S ts at → S' ≡ S → ts' ≡ ts → map plain_term made ≡ map (λ t. put us (plain_term t)) ts' → TmSimple (plain_term t) → plain_term (T.Prim o S' made at) ≡ put us (plain_term t)
put-Prim-by us o S S' ts ts' made at t e p q m h =
    let plain : plain_term t ≡ t_prim o (plain_sort S) (plain_terms ts) at.at = ap plain_term e ∙ plain-term-Prim o S ts at in
    let sides : plain_terms made ≡ puts us (plain_terms ts) = ap row m ∙ puts-row us ts' ∙ ap (λ vs. puts us (plain_terms vs)) q in
    plain-term-Prim o S' made at ∙ ap₂ (λ T vs. t_prim o (plain_sort T) vs at.at) p sides
    ∙ sym (equation-stays o (plain_sort S) (plain_terms ts) (puts us (plain_terms ts)) at.at (subst TmSimple plain h))
    ∙ sym (ap (put us) plain)

pub all-simple-at : (ts : List Term) (k : ℕ) (d : Term) → k < length ts → AllSimple (plain_terms ts) → TmSimple (plain_term (get_or ts k d))
all-simple-at (t ∷ ts) zero d lt h = h.0
all-simple-at (t ∷ ts) (suc k) d lt h = all-simple-at ts k d (omega (arith, lt)) h.1
all-simple-at [] k d lt h = absurd (omega (arith, lt))
