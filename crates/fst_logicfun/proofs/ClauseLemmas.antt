-- Clauses at the arguments of an application.
use Rattle.std.proofs.Common.{◌≡◌, ℕ, zero, suc, ◌+◌, ◌-◌, ◌<◌, ◌≤◌, List, [], ◌∷◌, ◌++◌, map, take, drop, length, get_or, option_map, Some, refl, sym, ap, ap₂, ◌∙◌, arith}
use Rattle.std.proofs.lemmas.List.{append-nil, append_assoc}
use Rattle.fst_base.specs.declared.sort.Sort.{Sort}
use Rattle.fst_base.specs.Sorts.{plain_sort}
use Rattle.fst_terms.specs.Terms.{Tm, t_app, listed, plain_term, plain_terms}
use Rattle.fst_terms.specs.DataFacts.{implies}
use Rattle.fst_terms.specs.Formulas.{joined, put}
use Rattle.fst_terms.specs.declared.term.Term.{Term}
use Rattle.fst_terms.specs.declared.term.Term.TheVariants as T
use Rattle.fst_terms.proofs.FirstsLemmas.{listed-row}
use Rattle.fst_terms.proofs.PlainLemmas.{plain-term-App}
use Rattle.fst_program.specs.FunctionFacts.{but_last, last_term, of_application, own_args, own_input, posted}
use Rattle.fst_program.specs.Paths.{clause_terms, demands_of, given, refinements}
use Rattle.fst_program.specs.Plain.{plain_fun, plain_param}
use Rattle.fst_program.specs.Texts.{Fn, Prog, if_there, fun_at}
use Rattle.fst_program.specs.declared.fun.Fun.{Fun}
use Rattle.fst_program.specs.declared.fun.Param.{Param}
use Rattle.fst_scopes.specs.Scopes.{terms_for}
use Rattle.fst_logicfun.proofs.ClearLemmas.{scope-push}

-- ---- the last argument

pub but-last : (ts us : List Term) (n : ℕ) → 0 < length ts → n ≡ length ts - 1 → us ≡ take n ts → map plain_term us ≡ but_last (map plain_term ts)
but-last ts us n h e f = ap (map plain_term) (f ∙ ap (λ n. take n ts) e) ∙ go ts h
  where
    go : (ts : List Term) → 0 < length ts → map plain_term (take (length ts - 1) ts) ≡ but_last (map plain_term ts)
    go [] h = absurd (omega arith)
    go (t ∷ []) h = refl
    go (t ∷ u ∷ ts) h =
        let n : suc (suc (length ts)) - 1 ≡ suc (suc (length ts) - 1) = omega arith in
        ap (λ n. map plain_term (take n (t ∷ u ∷ ts))) n ∙ ap (λ us. plain_term t ∷ us) (go (u ∷ ts) (omega arith))

pub last-term : (ts : List Term) (n : ℕ) (d : Term) → 0 < length ts → n ≡ length ts - 1 → plain_term (get_or ts n d) ≡ last_term (map plain_term ts)
last-term ts n d h e = ap (λ n. plain_term (get_or ts n d)) e ∙ go ts h
  where
    go : (ts : List Term) → 0 < length ts → plain_term (get_or ts (length ts - 1) d) ≡ last_term (map plain_term ts)
    go [] h = absurd (omega arith)
    go (t ∷ []) h = refl
    go (t ∷ u ∷ ts) h =
        let n : suc (suc (length ts)) - 1 ≡ suc (suc (length ts) - 1) = omega arith in
        ap (λ n. plain_term (get_or (t ∷ u ∷ ts) n d)) n ∙ go (u ∷ ts) (omega arith)

-- ---- refinements

-- those of the parameters and arguments from one place on
abbrev pub refined_from : (ps : List Param) (ts : List Term) (at : ℕ) → List Tm
refined_from ps ts at = refinements (map plain_param (drop at ps)) (map plain_term (drop at ts)) (terms_for (take at ts))

drop-item : {X : Type 0} (xs : List X) (i : ℕ) (d : X) → i < length xs → drop i xs ≡ get_or xs i d ∷ drop (suc i) xs
drop-item [] i d h = absurd (omega (arith, h))
drop-item (x ∷ xs) zero d h = refl
drop-item (x ∷ xs) (suc i) d h = drop-item xs i d (omega (arith, h))

take-item : {X : Type 0} (xs : List X) (i : ℕ) (d : X) → i < length xs → take (suc i) xs ≡ take i xs ++ get_or xs i d ∷ []
take-item [] i d h = absurd (omega (arith, h))
take-item (x ∷ xs) zero d h = refl
take-item (x ∷ xs) (suc i) d h = ap (λ ys. x ∷ ys) (take-item xs i d (omega (arith, h)))

drop-all : {X : Type 0} (xs : List X) (i : ℕ) → length xs ≤ i → drop i xs ≡ []
drop-all [] zero h = refl
drop-all [] (suc i) h = refl
drop-all (x ∷ xs) zero h = absurd (omega (arith, h))
drop-all (x ∷ xs) (suc i) h = drop-all xs i (omega (arith, h))

pub refined-next : (ps : List Param) (ts upto : List Term) (i n : ℕ) (p : Param) (t : Term) → i < length ps → i < length ts → p ≡ get_or ps i p → n ≡ i + 1 → upto ≡ take n ts
    → refined_from ps ts i ≡ given (option_map plain_term p.refine) (terms_for upto) ++ refined_from ps ts (i + 1)
refined-next ps ts upto i n p t hp ht is e f =
    let k : i + 1 ≡ suc i = omega arith in
    let us : upto ≡ take (suc i) ts = f ∙ ap (λ n. take n ts) (e ∙ k) in
    let x : Term = get_or ts i t in
    let inner : terms_for (take (suc i) ts) ≡ plain_term x ∷ terms_for (take i ts) = ap terms_for (take-item ts i t ht) ∙ scope-push (take i ts) x in
    ap₂ (λ qs vs. refinements (map plain_param qs) (map plain_term vs) (terms_for (take i ts))) (drop-item ps i p hp ∙ ap (λ p. p ∷ drop (suc i) ps) (sym is)) (drop-item ts i t ht)
    ∙ ap (λ us. given (option_map plain_term p.refine) us ++ refinements (map plain_param (drop (suc i) ps)) (map plain_term (drop (suc i) ts)) us) (sym inner)
    ∙ ap₂ (λ us n. given (option_map plain_term p.refine) (terms_for us) ++ refined_from ps ts n) (sym us) (sym k)

pub refined-past : (ps : List Param) (ts : List Term) (i : ℕ) → length ts ≤ i → refined_from ps ts i ≡ []
refined-past ps ts i h = ap (λ ts'. refinements (map plain_param (drop i ps)) (map plain_term ts') (terms_for (take i ts))) (drop-all ts i h) ∙ go (drop i ps)
  where
    go : (ps : List Param) → refinements (map plain_param ps) [] (terms_for (take i ts)) ≡ []
    go [] = refl
    go (p ∷ ps) = refl

pub refined-end : (ps : List Param) (ts : List Term) (i : ℕ) → length ps ≤ i → refined_from ps ts i ≡ []
refined-end ps ts i h = ap (λ ps. refinements (map plain_param ps) (map plain_term (drop i ts)) (terms_for (take i ts))) (drop-all ps i h)

-- one step of a list that grows while what is left shrinks
pub grown : (made made' : List Tm) (now left left' whole : List Tm) → made' ≡ made ++ now → left ≡ now ++ left' → made ++ left ≡ whole → made' ++ left' ≡ whole
grown made made' now left left' whole e f h = ap (λ ts. ts ++ left') e ∙ append_assoc made now left' ∙ ap (λ ts. made ++ ts) (sym f) ∙ h

pub refined-start : (ps : List Param) (ts made : List Term) → made ≡ [] → map plain_term made ++ refined_from ps ts 0 ≡ refinements (map plain_param ps) (map plain_term ts) []
refined-start ps ts made e = ap (λ made. map plain_term made ++ refined_from ps ts 0) e ∙ go ps ts
  where
    go : (ps : List Param) (ts : List Term) → refined_from ps ts 0 ≡ refinements (map plain_param ps) (map plain_term ts) []
    go [] [] = refl
    go [] (t ∷ ts) = refl
    go (p ∷ ps) [] = refl
    go (p ∷ ps) (t ∷ ts) = refl

-- nothing is left
pub refined-done : (made : List Tm) (left whole : List Tm) → left ≡ [] → made ++ left ≡ whole → made ≡ whole
refined-done made left whole e h = sym (append-nil made) ∙ ap (λ ts. made ++ ts) (sym e) ∙ h

-- ---- the facts of an application

-- the ensures under what is demanded, as the code makes it
pub posted-by : (t : Term) (f : Fun) (gives : Term) (args : List Term) (input : Term) (ds dslice scope inner slice made : List Term) (t' x : Term)
    → f.gives ≡ Some gives → map plain_term ds ≡ demands_of (plain_fun f) (map plain_term args) (plain_term input) → dslice ≡ ds → terms_for scope ≡ clause_terms f.effect (map plain_term args) (plain_term input)
    → t' ≡ t → inner ≡ scope ++ t' ∷ [] → slice ≡ inner → plain_term x ≡ implies (joined (map plain_term dslice)) (put (terms_for slice) (plain_term gives)) → made ≡ x ∷ []
    → map plain_term made ≡ posted (plain_term t) (plain_fun f) (map plain_term args) (plain_term input)
posted-by t f gives args input ds dslice scope inner slice made t' x is d ds' c t'' i s e m =
    let D : List Tm = demands_of (plain_fun f) (map plain_term args) (plain_term input) in
    let C : List Tm = clause_terms f.effect (map plain_term args) (plain_term input) in
    let us : terms_for slice ≡ plain_term t ∷ C = ap terms_for (s ∙ i) ∙ scope-push scope t' ∙ ap₂ (λ v vs. v ∷ vs) (ap plain_term t'') c in
    ap (map plain_term) m ∙ ap (λ v. v ∷ []) (e ∙ ap₂ (λ qs vs. implies (joined qs) (put vs (plain_term gives))) (ap (map plain_term) ds' ∙ d) us)
    ∙ sym (ap (λ o. map (implies (joined D)) (given (option_map plain_term o) (plain_term t ∷ C))) is)

-- those of an application of a function of the program
pub facts-by : (F : Tm → Fn → List Tm → Tm → List Tm) (P : Prog) (k : ℕ) (S : Sort) (ts args : List Term) (t : Term) (f : Fn) (made : List Tm) → t ≡ T.App k S ts → Some f ≡ fun_at P k → args ≡ ts
    → made ≡ F (plain_term t) f (own_args f.effect (map plain_term args)) (own_input f.effect (map plain_term args)) → made ≡ of_application P F (plain_term t)
facts-by F P k S ts args t f made is found e h =
    let self : plain_term t ≡ t_app k (plain_sort S) (plain_terms ts) = ap plain_term is ∙ plain-term-App k S ts in
    h ∙ ap₂ (λ u vs. F u f (own_args f.effect vs) (own_input f.effect vs)) self (ap (map plain_term) e ∙ sym (listed-row (map plain_term ts)))
    ∙ ap (λ o. if_there o (λ g. F (t_app k (plain_sort S) (plain_terms ts)) g (own_args g.effect (listed (plain_terms ts))) (own_input g.effect (listed (plain_terms ts)))) []) found
    ∙ sym (ap (of_application P F) self)
