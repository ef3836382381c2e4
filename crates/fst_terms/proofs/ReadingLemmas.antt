-- What a formula is under marks, as the code reads it; more marks change no value.
use Rattle.std.proofs.Common.{◌≡◌, ℕ, zero, suc, ◌+◌, ◌<◌, ◌≤◌, Bool, true, false, if◌then◌else◌, List, [], ◌∷◌, ◌++◌, length, get_or, drop, map, Option, Some, None, refl, sym, ap, ap₂, ◌∙◌, arith, add-one}
use denote.Enum.Bare.{sameb}
use Rattle.fst_terms.specs.contracts.flat.Mark.{the_type}
use Rattle.fst_terms.specs.declared.flat.Mark.TheVariants as mark
use Rattle.fst_base.specs.declared.op.Op.{Op}
use Rattle.fst_base.specs.declared.op.Op.TheVariants as op
use Rattle.fst_base.specs.declared.place.Pos.{Pos}
use Rattle.fst_base.specs.declared.sort.Sort.{Sort}
use Rattle.fst_base.specs.Sorts.{Srt, s_unit, s_bool, s_int, s_a, s_b, s_pair, s_opt, s_list, s_either, plain_sort}
use Rattle.fst_terms.specs.Terms.{Tm, Tms, t_var, t_int, t_bool, t_unit, t_prim, t_if, t_app, t_let, t_end, t_more, plain_term, plain_terms}
use Rattle.fst_terms.specs.Formulas.{sort_of}
use Rattle.fst_terms.specs.Same.{same_term}
use Rattle.fst_terms.specs.Flats.{Flt, truth_of, mark_of, common, chosen, agree, equation_reading, reading, reads, sorts_of_vars}
use Rattle.fst_terms.specs.Preparing.{equation_at, operator_form, read_equation}
use Rattle.fst_terms.specs.declared.atoms.Equation.{Equation}
use Rattle.fst_terms.specs.declared.atoms.Equation.TheVariants as equation
use Rattle.fst_terms.specs.declared.flat.Mark.{Mark}
use Rattle.fst_terms.specs.declared.term.Term.{Term}
use Rattle.fst_terms.specs.declared.term.Term.TheVariants as T
use Rattle.fst_terms.proofs.PlainLemmas.{plain-term-Prim}

-- ---- the mark of an atom

-- the test of a mark says its truth value
pub truth-test : (m : Mark) → sameb the_type m mark.True ≡ truth_of m
truth-test mark.True = refl
truth-test mark.False = refl
truth-test mark.Less = refl
truth-test mark.Greater = refl

mark-step : (us : List Term) (ms : List Mark) (t d : Term) (m : Mark) (k : ℕ) → k < length us → k < length ms
    → mark_of (map plain_term (drop k us)) (drop k ms) (plain_term t) ≡ (if same_term (plain_term t) (plain_term (get_or us k d)) then Some (truth_of (get_or ms k m)) else mark_of (map plain_term (drop (suc k) us)) (drop (suc k) ms) (plain_term t))
mark-step [] ms t d m k h g = absurd (omega arith)
mark-step (u ∷ us) [] t d m k h g = absurd (omega arith)
mark-step (u ∷ us) (n ∷ ms) t d m zero h g = refl
mark-step (u ∷ us) (n ∷ ms) t d m (suc k) h g = mark-step us ms t d m k (omega arith) (omega arith)

pub mark-found : (us : List Term) (ms : List Mark) (t d : Term) (m : Mark) (k : ℕ) → k < length us → k < length ms → same_term (plain_term t) (plain_term (get_or us k d)) ≡ true
    → mark_of (map plain_term (drop k us)) (drop k ms) (plain_term t) ≡ Some (truth_of (get_or ms k m))
mark-found us ms t d m k h g e = mark-step us ms t d m k h g ∙ ap (λ b. if b then Some (truth_of (get_or ms k m)) else mark_of (map plain_term (drop (suc k) us)) (drop (suc k) ms) (plain_term t)) e

pub mark-passed : (us : List Term) (ms : List Mark) (t d : Term) (m : Mark) (k : ℕ) → k < length us → k < length ms → same_term (plain_term t) (plain_term (get_or us k d)) ≡ false
    → mark_of (map plain_term (drop k us)) (drop k ms) (plain_term t) ≡ mark_of (map plain_term (drop (k + 1) us)) (drop (k + 1) ms) (plain_term t)
mark-passed us ms t d m k h g e = rw add-one (mark-step us ms t d m k h g ∙ ap (λ b. if b then Some (truth_of (get_or ms k m)) else mark_of (map plain_term (drop (suc k) us)) (drop (suc k) ms) (plain_term t)) e)

no-marks : (us : List Tm) (t : Tm) → mark_of us [] t ≡ None
no-marks [] t = refl
no-marks (u ∷ us) t = refl

pub mark-past : (us : List Tm) (ms : List Mark) (t : Tm) (k : ℕ) → length ms ≤ k → mark_of us (drop k ms) t ≡ None
mark-past us [] t zero h = no-marks us t
mark-past us [] t (suc k) h = no-marks us t
mark-past us (m ∷ ms) t zero h = absurd (omega arith)
mark-past us (m ∷ ms) t (suc k) h = mark-past us ms t k (omega arith)

-- ---- operators

module _ (f : Flt) (ms : List Mark) where
  abbrev Ss : List Srt
  Ss = sorts_of_vars f.vars

  abbrev by_form : Equation → (both atom : Option Bool) → Option Bool
  by_form equation.Units both atom = Some true
  by_form equation.Bools both atom = both
  by_form equation.Atom both atom = atom

  equation-form : (S : Srt) (both atom : Option Bool) → equation_reading S both atom ≡ by_form (equation_at S) both atom
  equation-form s_unit both atom = refl
  equation-form s_bool both atom = refl
  equation-form s_int both atom = refl
  equation-form s_a both atom = refl
  equation-form s_b both atom = refl
  equation-form (s_pair S T) both atom = refl
  equation-form (s_opt S) both atom = refl
  equation-form (s_list S) both atom = refl
  equation-form (s_either S T) both atom = refl

  -- a term of an operator is read by its form
  reads-form : (o : Op) (S : Srt) (ts : Tms) (at : ℕ) → reads f ms (t_prim o S ts at) ≡ by_form (operator_form Ss o ts) (read_equation f ms ts) (mark_of f.atoms ms (t_prim o S ts at))
  reads-form op.Eq S t_end at = refl
  reads-form op.Eq S (t_more t t_end) at = refl
  reads-form op.Eq S (t_more t (t_more u t_end)) at = equation-form (sort_of Ss t) (agree (reads f ms t) (reads f ms u)) (mark_of f.atoms ms (t_prim op.Eq S (t_more t (t_more u t_end)) at))
  reads-form op.Eq S (t_more t (t_more u (t_more v ts))) at = refl
  reads-form o S ts at = refl

  module _ (o : Op) (S : Sort) (ts args : List Term) (p : Pos) (w : Term) (is : w ≡ T.Prim o S ts p) (same : args ≡ ts) where
    reads-Prim : (form : Equation) → form ≡ operator_form Ss o (plain_terms args) → reads f ms (plain_term w) ≡ by_form form (read_equation f ms (plain_terms args)) (mark_of f.atoms ms (plain_term w))
    reads-Prim form e =
        let open_w : plain_term w ≡ t_prim o (plain_sort S) (plain_terms ts) p.at = ap plain_term is ∙ plain-term-Prim o S ts p in
        ap (reads f ms) open_w ∙ reads-form o (plain_sort S) (plain_terms ts) p.at
        ∙ ap (λ t. by_form (operator_form Ss o (plain_terms ts)) (read_equation f ms (plain_terms ts)) (mark_of f.atoms ms t)) (sym open_w)
        ∙ ap (λ us. by_form (operator_form Ss o (plain_terms us)) (read_equation f ms (plain_terms us)) (mark_of f.atoms ms (plain_term w))) (sym same)
        ∙ ap (λ g. by_form g (read_equation f ms (plain_terms args)) (mark_of f.atoms ms (plain_term w))) (sym e)

    pub reads-Units : (form : Equation) → form ≡ operator_form Ss o (plain_terms args) → form ≡ equation.Units → reads f ms (plain_term w) ≡ Some true
    reads-Units form e g = reads-Prim form e ∙ ap (λ h. by_form h (read_equation f ms (plain_terms args)) (mark_of f.atoms ms (plain_term w))) g

    pub reads-Bools : (form : Equation) → form ≡ operator_form Ss o (plain_terms args) → form ≡ equation.Bools → reads f ms (plain_term w) ≡ read_equation f ms (plain_terms args)
    reads-Bools form e g = reads-Prim form e ∙ ap (λ h. by_form h (read_equation f ms (plain_terms args)) (mark_of f.atoms ms (plain_term w))) g

    pub reads-Atom : (form : Equation) → form ≡ operator_form Ss o (plain_terms args) → form ≡ equation.Atom → reads f ms (plain_term w) ≡ mark_of f.atoms ms (plain_term w)
    reads-Atom form e g = reads-Prim form e ∙ ap (λ h. by_form h (read_equation f ms (plain_terms args)) (mark_of f.atoms ms (plain_term w))) g

-- an equation that is read through has two sides
pub two-sides : (Ss : List Srt) (o : Op) (ts : List Term) → equation.Bools ≡ operator_form Ss o (plain_terms ts) → length ts ≡ 2
two-sides Ss op.Eq [] e = cc
two-sides Ss op.Eq (t ∷ []) e = cc
two-sides Ss op.Eq (t ∷ u ∷ []) e = refl
two-sides Ss op.Eq (t ∷ u ∷ v ∷ ts) e = cc
two-sides Ss o ts e = cc

pub reads-two : (f : Flt) (ms : List Mark) (ts : List Term) (d d' : Term) → length ts ≡ 2 → read_equation f ms (plain_terms ts) ≡ agree (reads f ms (plain_term (get_or ts 0 d))) (reads f ms (plain_term (get_or ts 1 d')))
reads-two f ms [] d d' l = absurd (omega arith)
reads-two f ms (t ∷ []) d d' l = absurd (omega arith)
reads-two f ms (t ∷ u ∷ []) d d' l = refl
reads-two f ms (t ∷ u ∷ v ∷ ts) d d' l = absurd (omega arith)

-- ---- more marks

pub mark-more : (us : List Tm) (ms rest : List Mark) (t : Tm) (b : Bool) → mark_of us ms t ≡ Some b → mark_of us (ms ++ rest) t ≡ Some b
mark-more [] ms rest t b e = cc
mark-more (u ∷ us) [] rest t b e = cc
mark-more (u ∷ us) (m ∷ ms) rest t b e = go (mark-more us ms rest t b) (same_term t u) e
  where
    go : (mark_of us ms t ≡ Some b → mark_of us (ms ++ rest) t ≡ Some b) → (c : Bool) → (if c then Some (truth_of m) else mark_of us ms t) ≡ Some b → (if c then Some (truth_of m) else mark_of us (ms ++ rest) t) ≡ Some b
    go ih true k = k
    go ih false k = ih k

-- the second has the value of the first, where that has one
abbrev Keeps : Option Bool → Option Bool → Type 0
Keeps p q = (b : Bool) → p ≡ Some b → q ≡ Some b

common-keeps : (p q p' q' : Option Bool) → Keeps p p' → Keeps q q' → Keeps (common p q) (common p' q')
common-keeps (Some a) (Some c) p' q' h k b e = rw (h a refl, k c refl) e
common-keeps (Some a) None p' q' h k b e = cc
common-keeps None q p' q' h k b e = cc

chosen-keeps : (o p q o' p' q' : Option Bool) → Keeps o o' → Keeps p p' → Keeps q q' → Keeps (chosen o p q) (chosen o' p' q')
chosen-keeps (Some true) p q o' p' q' g h k b e = rw (g true refl) (h b e)
chosen-keeps (Some false) p q o' p' q' g h k b e = rw (g false refl) (k b e)
chosen-keeps None p q o' p' q' g h k b e = any o'
  where
    both : (p q : Option Bool) → Keeps p p' → Keeps q q' → common p q ≡ Some b → (p' ≡ Some b) × (q' ≡ Some b)
    both (Some a) (Some c) h k e = same a c (h a refl) (k c refl) e
      where
        same : (a c : Bool) → p' ≡ Some a → q' ≡ Some c → common (Some a) (Some c) ≡ Some b → (p' ≡ Some b) × (q' ≡ Some b)
        same true true i j e = (i ∙ e, j ∙ e)
        same true false i j e = cc
        same false true i j e = cc
        same false false i j e = (i ∙ e, j ∙ e)
    both (Some a) None h k e = cc
    both None q h k e = cc

    twice : (b : Bool) → common (Some b) (Some b) ≡ Some b
    twice true = refl
    twice false = refl

    any : (o' : Option Bool) → chosen o' p' q' ≡ Some b
    any (Some true) = (both p q h k e).0
    any (Some false) = (both p q h k e).1
    any None = ap₂ common (both p q h k e).0 (both p q h k e).1 ∙ twice b

agree-keeps : (p q p' q' : Option Bool) → Keeps p p' → Keeps q q' → Keeps (agree p q) (agree p' q')
agree-keeps (Some a) (Some c) p' q' h k b e = rw (h a refl, k c refl) e
agree-keeps (Some a) None p' q' h k b e = cc
agree-keeps None q p' q' h k b e = cc

equation-keeps : (S : Srt) (p q p' q' : Option Bool) → Keeps p p' → Keeps q q' → Keeps (equation_reading S p q) (equation_reading S p' q')
equation-keeps s_unit p q p' q' h k b e = e
equation-keeps s_bool p q p' q' h k b e = h b e
equation-keeps S p q p' q' h k b e = k b e

module _ (Ss : List Srt) (look look' : Tm → Option Bool) (keeps : (t : Tm) → Keeps (look t) (look' t)) where
  pub reading-keeps : (t : Tm) → Keeps (reading Ss look t) (reading Ss look' t)
  reading-keeps (t_var i) = keeps (t_var i)
  reading-keeps (t_int n) = keeps (t_int n)
  reading-keeps (t_bool c) = λ b e. e
  reading-keeps t_unit = keeps t_unit
  reading-keeps (t_prim op.Eq S (t_more t (t_more u t_end)) at) = equation-keeps (sort_of Ss t) _ _ _ _ (agree-keeps _ _ _ _ (reading-keeps t) (reading-keeps u)) (keeps (t_prim op.Eq S (t_more t (t_more u t_end)) at))
  reading-keeps (t_prim o S ts at) = keeps (t_prim o S ts at)
  reading-keeps (t_if c t u) = chosen-keeps _ _ _ _ _ _ (reading-keeps c) (reading-keeps t) (reading-keeps u)
  reading-keeps (t_app k S ts) = keeps (t_app k S ts)
  reading-keeps (t_let x t u) = keeps (t_let x t u)

-- more marks change no value that a formula has
pub reads-more : (f : Flt) (ms rest : List Mark) (t : Tm) (b : Bool) → reads f ms t ≡ Some b → reads f (ms ++ rest) t ≡ Some b
reads-more f ms rest t b e = reading-keeps (sorts_of_vars f.vars) (mark_of f.atoms ms) (mark_of f.atoms (ms ++ rest)) (λ u c k. mark-more f.atoms ms rest u c k) t b e
