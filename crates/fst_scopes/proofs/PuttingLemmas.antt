-- Terms and definition text with sorts put in, from the answers for their parts.
use Rattle.std.proofs.Common.{◌≡◌, ℕ, zero, suc, ◌+◌, ◌<◌, List, [], ◌∷◌, ◌++◌, map, take, get_or, length, refl, sym, ap, ap₂, ◌∙◌, arith, add-one}
use Rattle.fst_base.specs.declared.op.Op.{Op}
use Rattle.fst_base.specs.declared.place.Pos.{Pos}
use Rattle.fst_base.specs.declared.sort.Sort.{Sort}
use Rattle.fst_base.specs.Sorts.{Srt, plain_sort, put_sorts}
use Rattle.fst_terms.specs.Terms.{t_app, t_prim, t_more, row, plain_term, plain_terms}
use Rattle.fst_terms.specs.Formulas.{term_at, terms_at}
use Rattle.fst_terms.specs.declared.term.Term.{Term}
use Rattle.fst_terms.specs.declared.term.Term.TheVariants as T
use Rattle.fst_terms.proofs.PlainLemmas.{plain-term-Prim, plain-term-App}
use Rattle.fst_program.specs.declared.comp.Arm.{Arm}
use Rattle.fst_program.specs.declared.definition.DmTerm.{DmTerm}
use Rattle.fst_program.specs.Paths.{dm_at, dm_arms_at}
use Rattle.fst_program.specs.Plain.{plain_dm}
use Rattle.fst_program.specs.Texts.{DmArms, d_end, d_arm}
use Rattle.fst_program.proofs.PlainLemmas.{plain_dm_arms}

row-at : (A B : Srt) (ts : List Term) → row (map (λ t. term_at A B (plain_term t)) ts) ≡ terms_at A B (plain_terms ts)
row-at A B [] = refl
row-at A B (t ∷ ts) = ap (t_more (term_at A B (plain_term t))) (row-at A B ts)

args-at : (A B : Srt) (ts args vs : List Term) → args ≡ ts → map plain_term vs ≡ map (λ t. term_at A B (plain_term t)) args → plain_terms vs ≡ terms_at A B (plain_terms ts)
args-at A B ts args vs e f = ap row f ∙ row-at A B args ∙ ap (λ ts. terms_at A B (plain_terms ts)) e

pub at-Prim-by : (A B : Srt) (o : Op) (S S' : Sort) (ts args vs : List Term) (p : Pos) (t : Term)
    → t ≡ T.Prim o S ts p → args ≡ ts → plain_sort S' ≡ put_sorts A B (plain_sort S) → map plain_term vs ≡ map (λ t. term_at A B (plain_term t)) args → plain_term (T.Prim o S' vs p) ≡ term_at A B (plain_term t)
at-Prim-by A B o S S' ts args vs p t is e s f =
    plain-term-Prim o S' vs p ∙ ap₂ (λ S vs. t_prim o S vs p.at) s (args-at A B ts args vs e f) ∙ sym (ap (λ t. term_at A B (plain_term t)) is ∙ ap (term_at A B) (plain-term-Prim o S ts p))

pub at-App-by : (A B : Srt) (k : ℕ) (S S' : Sort) (ts args vs : List Term) (t : Term)
    → t ≡ T.App k S ts → args ≡ ts → plain_sort S' ≡ put_sorts A B (plain_sort S) → map plain_term vs ≡ map (λ t. term_at A B (plain_term t)) args → plain_term (T.App k S' vs) ≡ term_at A B (plain_term t)
at-App-by A B k S S' ts args vs t is e s f =
    plain-term-App k S' vs ∙ ap₂ (t_app k) s (args-at A B ts args vs e f) ∙ sym (ap (λ t. term_at A B (plain_term t)) is ∙ ap (term_at A B) (plain-term-App k S ts))

-- ---- arms

take-suc : {A : Type 0} (xs : List A) (k : ℕ) (d : A) → k < length xs → take (suc k) xs ≡ take k xs ++ get_or xs k d ∷ []
take-suc [] k d h = absurd (omega arith)
take-suc (x ∷ xs) zero d h = refl
take-suc (x ∷ xs) (suc k) d h = ap (λ ys. x ∷ ys) (take-suc xs k d (omega arith))

take-more : {A : Type 0} (xs : List A) (k : ℕ) (d : A) → k < length xs → take (k + 1) xs ≡ take k xs ++ get_or xs k d ∷ []
take-more xs k d h = rw add-one (take-suc xs k d h)

-- arms after arms
abbrev joined_arms : DmArms → DmArms → DmArms
joined_arms d_end es = es
joined_arms (d_arm c xs d more) es = d_arm c xs d (joined_arms more es)

plain-arms-joined : (xs ys : List (Arm DmTerm)) → plain_dm_arms (xs ++ ys) ≡ joined_arms (plain_dm_arms xs) (plain_dm_arms ys)
plain-arms-joined [] ys = refl
plain-arms-joined (x ∷ xs) ys = ap (d_arm x.con x.names (plain_dm x.body)) (plain-arms-joined xs ys)

arms-at-joined : (A B : Srt) (ds es : DmArms) → dm_arms_at A B (joined_arms ds es) ≡ joined_arms (dm_arms_at A B ds) (dm_arms_at A B es)
arms-at-joined A B d_end es = refl
arms-at-joined A B (d_arm c xs d more) es = ap (d_arm c xs (dm_at A B d)) (arms-at-joined A B more es)

-- one arm more
pub arms-at-more : (A B : Srt) (made new arms : List (Arm DmTerm)) (k : ℕ) (x y : Arm DmTerm) → k < length arms → x ≡ get_or arms k x → plain_dm_arms made ≡ dm_arms_at A B (plain_dm_arms (take k arms))
    → new ≡ made ++ y ∷ [] → y.con ≡ x.con → y.names ≡ x.names → plain_dm y.body ≡ dm_at A B (plain_dm x.body)
    → plain_dm_arms new ≡ dm_arms_at A B (plain_dm_arms (take (k + 1) arms))
arms-at-more A B made new arms k x y h is e p a n b =
    ap plain_dm_arms p ∙ plain-arms-joined made (y ∷ []) ∙ ap₂ joined_arms e (ap₂ (λ c xs. d_arm c xs (plain_dm y.body) d_end) a n ∙ ap (λ d. d_arm x.con x.names d d_end) b)
    ∙ sym (arms-at-joined A B (plain_dm_arms (take k arms)) (plain_dm_arms (x ∷ [])))
    ∙ ap (dm_arms_at A B) (sym (plain-arms-joined (take k arms) (x ∷ [])))
    ∙ ap (λ y. dm_arms_at A B (plain_dm_arms (take k arms ++ y ∷ []))) is
    ∙ ap (λ l. dm_arms_at A B (plain_dm_arms l)) (sym (take-more arms k x h))
