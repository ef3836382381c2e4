-- The atoms and the parts of terms, as the code goes over them.
use Rattle.std.proofs.Common.{◌≡◌, Bool, true, false, not, ℕ, zero, suc, ◌+◌, ◌-◌, ◌<◌, List, [], ◌∷◌, ◌++◌, length, get_or, take, map, refl, sym, ap, ap₂, ◌∙◌, arith, add-one}
use Rattle.std.proofs.lemmas.List.{append-nil, append_assoc, get_or-reverse}
use Rattle.std.proofs.lemmas.Bool.{false≢true}
use Rattle.fst_base.specs.declared.op.Op.{Op}
use Rattle.fst_base.specs.declared.op.Op.TheVariants as op
use Rattle.fst_base.specs.declared.place.Pos.{Pos}
use Rattle.fst_base.specs.declared.sort.Sort.{Sort}
use Rattle.fst_base.specs.Rows.{same_op}
use Rattle.fst_base.specs.Sorts.{Srt, s_unit, s_bool, s_int, s_a, s_b, s_pair, s_opt, s_list, s_either, plain_sort}
use Rattle.fst_terms.specs.Terms.{Tm, Tms, t_prim, t_if, t_app, t_end, t_more, row, listed, plain_term, plain_terms}
use Rattle.fst_terms.specs.Formulas.{sort_of}
use Rattle.fst_terms.specs.Same.{firsts}
use Rattle.fst_terms.specs.Flats.{equation_atoms, atoms_in, all_atoms_in, parts_of, parts_of_all, parts_of_each, sorts_of_vars}
use Rattle.fst_terms.specs.Meaning.{plain_var}
use Rattle.fst_terms.specs.Preparing.{equation_at, operator_form}
use Rattle.fst_terms.specs.declared.atoms.Equation.{Equation}
use Rattle.fst_terms.specs.declared.atoms.Equation.TheVariants as equation
use Rattle.fst_terms.specs.declared.sequent.Var.{Var}
use Rattle.fst_terms.specs.declared.term.Term.{Term}
use Rattle.fst_terms.specs.declared.term.Term.TheVariants as T
use Rattle.fst_terms.proofs.PlainLemmas.{plain-term-Prim, plain-term-If, plain-term-App}
use Rattle.fst_terms.proofs.SameLemmas.{same_op-decides}
use Rattle.fst_terms.proofs.FirstsLemmas.{listed-row, firsts-append}

-- ---- lists

pub all-atoms-append : (Ss : List Srt) (ts us : List Tm) → all_atoms_in Ss (ts ++ us) ≡ all_atoms_in Ss ts ++ all_atoms_in Ss us
all-atoms-append Ss [] us = refl
all-atoms-append Ss (t ∷ ts) us = ap (◌++◌ (atoms_in Ss t)) (all-atoms-append Ss ts us) ∙ sym (append_assoc (atoms_in Ss t) (all_atoms_in Ss ts) (all_atoms_in Ss us))

-- a list of terms goes by its first ones
module _ (each : Tm → List Tm) (all : List Tm → List Tm) (none : all [] ≡ []) (more : (t : Tm) (ts : List Tm) → all (t ∷ ts) ≡ each t ++ all ts) where
  all-suc : (ts : List Term) (k : ℕ) (d : Term) → k < length ts → all (map plain_term (take (suc k) ts)) ≡ all (map plain_term (take k ts)) ++ each (plain_term (get_or ts k d))
  all-suc [] k d h = absurd (omega arith)
  all-suc (t ∷ ts) zero d h = more (plain_term t) [] ∙ ap (◌++◌ (each (plain_term t))) none ∙ append-nil (each (plain_term t)) ∙ ap (λ us. us ++ each (plain_term t)) (sym none)
  all-suc (t ∷ ts) (suc k) d h =
      more (plain_term t) (map plain_term (take (suc k) ts))
      ∙ ap (◌++◌ (each (plain_term t))) (all-suc ts k d (omega arith))
      ∙ sym (append_assoc (each (plain_term t)) (all (map plain_term (take k ts))) (each (plain_term (get_or ts k d))))
      ∙ ap (λ us. us ++ each (plain_term (get_or ts k d))) (sym (more (plain_term t) (map plain_term (take k ts))))

  all-more : (old now new : List Tm) (ts : List Term) (k : ℕ) (d : Term) → k < length ts → now ≡ firsts old (all (map plain_term (take k ts))) → new ≡ firsts now (each (plain_term (get_or ts k d))) → new ≡ firsts old (all (map plain_term (take (k + 1) ts)))
  all-more old now new ts k d h e f = rw add-one (f ∙ ap (λ us. firsts us (each (plain_term (get_or ts k d)))) e ∙ sym (firsts-append old (all (map plain_term (take k ts))) (each (plain_term (get_or ts k d)))) ∙ ap (firsts old) (sym (all-suc ts k d h)))

pub atoms-more : (Ss : List Srt) (old now new : List Tm) (ts : List Term) (k : ℕ) (d : Term) → k < length ts → now ≡ firsts old (all_atoms_in Ss (map plain_term (take k ts))) → new ≡ firsts now (atoms_in Ss (plain_term (get_or ts k d))) → new ≡ firsts old (all_atoms_in Ss (map plain_term (take (k + 1) ts)))
atoms-more Ss = all-more (atoms_in Ss) (all_atoms_in Ss) refl (λ t ts. refl)

pub parts-more : (old now new : List Tm) (ts : List Term) (k : ℕ) (d : Term) → k < length ts → now ≡ firsts old (parts_of_each (map plain_term (take k ts))) → new ≡ firsts now (parts_of (plain_term (get_or ts k d))) → new ≡ firsts old (parts_of_each (map plain_term (take (k + 1) ts)))
parts-more = all-more parts_of parts_of_each refl (λ t ts. refl)

-- ---- variables

sorts-at : (vars : List Var) (k : ℕ) (d : Var) → k < length vars → get_or (map (λ x. x.sort) (map plain_var vars)) k s_unit ≡ plain_sort (get_or vars k d).sort
sorts-at [] k d h = absurd (omega arith)
sorts-at (x ∷ xs) zero d h = refl
sorts-at (x ∷ xs) (suc k) d h = sorts-at xs k d (omega arith)

sorts-length : (vars : List Var) → length (map (λ x. x.sort) (map plain_var vars)) ≡ length vars
sorts-length [] = refl
sorts-length (x ∷ xs) = ap suc (sorts-length xs)

-- the sort of the variable of an index
pub sort-of-index : (vars : List Var) (i : ℕ) (d : Var) → i < length vars → get_or (sorts_of_vars (map plain_var vars)) i s_unit ≡ plain_sort (get_or vars (length vars - 1 - i) d).sort
sort-of-index vars i d h =
    let sorts : List Srt = map (λ x. x.sort) (map plain_var vars) in
    let long = sorts-length vars in
    get_or-reverse sorts i s_unit (omega (arith, long)) ∙ ap (λ n. get_or sorts (n - 1 - i) s_unit) long ∙ sorts-at vars (length vars - 1 - i) d (omega arith)

-- ---- operators

abbrev by_form : Equation → (both : List Tm) → Tm → List Tm
by_form equation.Units both t = []
by_form equation.Bools both t = both
by_form equation.Atom both t = t ∷ []

equation-form : (S : Srt) (both : List Tm) (t : Tm) → equation_atoms S both t ≡ by_form (equation_at S) both t
equation-form s_unit both t = refl
equation-form s_bool both t = refl
equation-form s_int both t = refl
equation-form s_a both t = refl
equation-form s_b both t = refl
equation-form (s_pair S T) both t = refl
equation-form (s_opt S) both t = refl
equation-form (s_list S) both t = refl
equation-form (s_either S T) both t = refl

-- the atoms of a term of an operator go by its form
atoms-form : (Ss : List Srt) (o : Op) (S : Srt) (ts : Tms) (at : ℕ) → atoms_in Ss (t_prim o S ts at) ≡ by_form (operator_form Ss o ts) (all_atoms_in Ss (listed ts)) (t_prim o S ts at)
atoms-form Ss op.Eq S t_end at = refl
atoms-form Ss op.Eq S (t_more t t_end) at = refl
atoms-form Ss op.Eq S (t_more t (t_more u t_end)) at =
    ap (λ us. equation_atoms (sort_of Ss t) (atoms_in Ss t ++ us) (t_prim op.Eq S (t_more t (t_more u t_end)) at)) (sym (append-nil (atoms_in Ss u)))
    ∙ equation-form (sort_of Ss t) (atoms_in Ss t ++ (atoms_in Ss u ++ [])) (t_prim op.Eq S (t_more t (t_more u t_end)) at)
atoms-form Ss op.Eq S (t_more t (t_more u (t_more v ts))) at = refl
atoms-form Ss o S ts at = refl

not-true : (x : Bool) → not x ≡ false → x ≡ true
not-true true e = refl
not-true false e = absurd (false≢true (sym e))

-- what the test of two operators says
pub op-differs : (o p : Op) (b : Bool) → b ≡ not (same_op o p) → b ≡ true → (o ≡ p) → ⊥
op-differs o p b e f g = false≢true (sym (ap not ((same_op-decides o p).1 g)) ∙ sym e ∙ f)

pub op-same : (o p : Op) (b : Bool) → b ≡ not (same_op o p) → b ≡ false → o ≡ p
op-same o p b e f = (same_op-decides o p).0 (not-true (same_op o p) (sym e ∙ f))

-- another operator, and another number of sides
pub form-other : (Ss : List Srt) (o : Op) (ts : Tms) → (o ≡ op.Eq → ⊥) → equation.Atom ≡ operator_form Ss o ts
form-other Ss op.Eq ts n = absurd (n refl)
form-other Ss o ts n = refl

pub form-sides : (Ss : List Srt) (o : Op) (ts : List Term) → (length ts ≡ 2 → ⊥) → equation.Atom ≡ operator_form Ss o (plain_terms ts)
form-sides Ss op.Eq [] n = refl
form-sides Ss op.Eq (t ∷ []) n = refl
form-sides Ss op.Eq (t ∷ u ∷ []) n = absurd (n refl)
form-sides Ss op.Eq (t ∷ u ∷ v ∷ ts) n = refl
form-sides Ss o ts n = refl

pub form-equation : (Ss : List Srt) (o : Op) (ts : List Term) (d : Term) → o ≡ op.Eq → length ts ≡ 2 → equation_at (sort_of Ss (plain_term (get_or ts 0 d))) ≡ operator_form Ss o (plain_terms ts)
form-equation Ss o ts d e l = two ts l ∙ ap (λ o. operator_form Ss o (plain_terms ts)) (sym e)
  where
    two : (ts : List Term) → length ts ≡ 2 → equation_at (sort_of Ss (plain_term (get_or ts 0 d))) ≡ operator_form Ss op.Eq (plain_terms ts)
    two [] l = absurd (omega arith)
    two (t ∷ []) l = absurd (omega arith)
    two (t ∷ u ∷ []) l = refl
    two (t ∷ u ∷ v ∷ ts) l = absurd (omega arith)

module _ (Ss : List Srt) (o : Op) (S : Sort) (ts args : List Term) (p : Pos) (w : Term) (is : w ≡ T.Prim o S ts p) (same : args ≡ ts) where
  atoms-Prim : (form : Equation) → form ≡ operator_form Ss o (plain_terms args) → atoms_in Ss (plain_term w) ≡ by_form form (all_atoms_in Ss (map plain_term args)) (plain_term w)
  atoms-Prim form e =
      ap (λ t. atoms_in Ss (plain_term t)) is ∙ ap (atoms_in Ss) (plain-term-Prim o S ts p)
      ∙ atoms-form Ss o (plain_sort S) (plain_terms ts) p.at
      ∙ ap₂ (λ us t. by_form (operator_form Ss o (plain_terms ts)) (all_atoms_in Ss us) t) (listed-row (map plain_term ts)) (sym (plain-term-Prim o S ts p) ∙ sym (ap plain_term is))
      ∙ ap (λ us. by_form (operator_form Ss o (plain_terms us)) (all_atoms_in Ss (map plain_term us)) (plain_term w)) (sym same)
      ∙ ap (λ f. by_form f (all_atoms_in Ss (map plain_term args)) (plain_term w)) (sym e)

  pub atoms-Units : (form : Equation) → form ≡ operator_form Ss o (plain_terms args) → form ≡ equation.Units → atoms_in Ss (plain_term w) ≡ []
  atoms-Units form e f = atoms-Prim form e ∙ ap (λ g. by_form g (all_atoms_in Ss (map plain_term args)) (plain_term w)) f

  pub atoms-Bools : (form : Equation) → form ≡ operator_form Ss o (plain_terms args) → form ≡ equation.Bools → atoms_in Ss (plain_term w) ≡ all_atoms_in Ss (map plain_term args)
  atoms-Bools form e f = atoms-Prim form e ∙ ap (λ g. by_form g (all_atoms_in Ss (map plain_term args)) (plain_term w)) f

  pub atoms-Atom : (form : Equation) → form ≡ operator_form Ss o (plain_terms args) → form ≡ equation.Atom → atoms_in Ss (plain_term w) ≡ plain_term w ∷ []
  atoms-Atom form e f = atoms-Prim form e ∙ ap (λ g. by_form g (all_atoms_in Ss (map plain_term args)) (plain_term w)) f

-- ---- choices

three-more : (a b c : List Tm) (old m1 m2 m3 : List Tm) → m1 ≡ firsts old a → m2 ≡ firsts m1 b → m3 ≡ firsts m2 c → m3 ≡ firsts old (a ++ b ++ c)
three-more a b c old m1 m2 m3 e f g = g ∙ ap (λ m. firsts m c) (f ∙ ap (λ m. firsts m b) e ∙ sym (firsts-append old a b)) ∙ sym (firsts-append old (a ++ b) c)

-- the choice of three terms
choice-of : (c c' t t' u u' w : Term) → w ≡ T.If c t u → c' ≡ c → t' ≡ t → u' ≡ u → plain_term w ≡ t_if (plain_term c') (plain_term t') (plain_term u')
choice-of c c' t t' u u' w is p q r = let e : w ≡ T.If c' t' u' = cc in ap plain_term e ∙ plain-term-If c' t' u'

pub atoms-If : (Ss : List Srt) (old m1 m2 m3 : List Tm) (c c' t t' u u' w : Term) → w ≡ T.If c t u → c' ≡ c → t' ≡ t → u' ≡ u
    → m1 ≡ firsts old (atoms_in Ss (plain_term c')) → m2 ≡ firsts m1 (atoms_in Ss (plain_term t')) → m3 ≡ firsts m2 (atoms_in Ss (plain_term u')) → m3 ≡ firsts old (atoms_in Ss (plain_term w))
atoms-If Ss old m1 m2 m3 c c' t t' u u' w is p q r e f g =
    three-more (atoms_in Ss (plain_term c')) (atoms_in Ss (plain_term t')) (atoms_in Ss (plain_term u')) old m1 m2 m3 e f g
    ∙ ap (λ v. firsts old (atoms_in Ss v)) (sym (choice-of c c' t t' u u' w is p q r))

pub parts-If : (old m0 m1 m2 m3 : List Tm) (c c' t t' u u' w : Term) → w ≡ T.If c t u → c' ≡ c → t' ≡ t → u' ≡ u
    → m0 ≡ firsts old (plain_term w ∷ []) → m1 ≡ firsts m0 (parts_of (plain_term c')) → m2 ≡ firsts m1 (parts_of (plain_term t')) → m3 ≡ firsts m2 (parts_of (plain_term u')) → m3 ≡ firsts old (parts_of (plain_term w))
parts-If old m0 m1 m2 m3 c c' t t' u u' w is p q r s e f g =
    let open_w = choice-of c c' t t' u u' w is p q r in
    three-more (plain_term w ∷ parts_of (plain_term c')) (parts_of (plain_term t')) (parts_of (plain_term u')) old m1 m2 m3
    (e ∙ ap (λ m. firsts m (parts_of (plain_term c'))) s ∙ sym (firsts-append old (plain_term w ∷ []) (parts_of (plain_term c')))) f g
    ∙ ap (λ v. firsts old ((v ∷ parts_of (plain_term c')) ++ parts_of (plain_term t') ++ parts_of (plain_term u'))) open_w
    ∙ ap (λ v. firsts old (parts_of v)) (sym open_w)

-- ---- parts

parts-row : (ts : List Tm) → parts_of_all (row ts) ≡ parts_of_each ts
parts-row [] = refl
parts-row (t ∷ ts) = ap (◌++◌ (parts_of t)) (parts-row ts)

-- a term's own, and then its arguments'
pub parts-Prim : (old m1 m2 : List Tm) (o : Op) (S : Sort) (ts args : List Term) (p : Pos) (w : Term) → w ≡ T.Prim o S ts p → args ≡ ts → m1 ≡ firsts old (plain_term w ∷ []) → m2 ≡ firsts m1 (parts_of_each (map plain_term args)) → m2 ≡ firsts old (parts_of (plain_term w))
parts-Prim old m1 m2 o S ts args p w is same e f =
    let open_w : plain_term w ≡ t_prim o (plain_sort S) (plain_terms ts) p.at = ap plain_term is ∙ plain-term-Prim o S ts p in
    f ∙ ap (λ m. firsts m (parts_of_each (map plain_term args))) e ∙ sym (firsts-append old (plain_term w ∷ []) (parts_of_each (map plain_term args)))
    ∙ ap₂ (λ t us. firsts old (t ∷ us)) open_w (ap (λ us. parts_of_each (map plain_term us)) same ∙ sym (parts-row (map plain_term ts)))
    ∙ ap (λ t. firsts old (parts_of t)) (sym open_w)

pub parts-App : (old m1 m2 : List Tm) (k : ℕ) (S : Sort) (ts args : List Term) (w : Term) → w ≡ T.App k S ts → args ≡ ts → m1 ≡ firsts old (plain_term w ∷ []) → m2 ≡ firsts m1 (parts_of_each (map plain_term args)) → m2 ≡ firsts old (parts_of (plain_term w))
parts-App old m1 m2 k S ts args w is same e f =
    let open_w : plain_term w ≡ t_app k (plain_sort S) (plain_terms ts) = ap plain_term is ∙ plain-term-App k S ts in
    f ∙ ap (λ m. firsts m (parts_of_each (map plain_term args))) e ∙ sym (firsts-append old (plain_term w ∷ []) (parts_of_each (map plain_term args)))
    ∙ ap₂ (λ t us. firsts old (t ∷ us)) open_w (ap (λ us. parts_of_each (map plain_term us)) same ∙ sym (parts-row (map plain_term ts)))
    ∙ ap (λ t. firsts old (parts_of t)) (sym open_w)
