-- A propositional sequent is valid exactly where no branch of its flat form is open.
use Rattle.std.proofs.Common.{◌≡◌, Bool, true, false, if◌then◌else◌, List, [], ◌∷◌, ◌++◌, map, slice_get, Some, IsTrue, refl, sym, ap, ◌∙◌, subst, inl, inr}
use Rattle.fst_base.specs.declared.op.Op.TheVariants as op
use Rattle.fst_base.specs.Sorts.{Srt, s_unit, s_bool}
use Rattle.fst_base.specs.Values.{v_unit, v_bool, HasSorts}
use Rattle.fst_base.specs.Primitives.{is_true}
use Rattle.fst_terms.specs.Terms.{Tm, t_var, t_int, t_bool, t_unit, t_prim, t_if, t_app, t_let, t_end, t_more}
use Rattle.fst_terms.specs.Meaning.{Env, Meaning, value, lookup}
use Rattle.fst_terms.specs.Formulas.{sort_of}
use Rattle.fst_terms.specs.Same.{same_term, is_among}
use Rattle.fst_terms.specs.declared.flat.Mark.{Mark}
use Rattle.fst_terms.specs.declared.flat.Mark.TheVariants as mark
use Rattle.fst_terms.specs.Flats.{Flt, atoms_in, all_atoms_in, equation_atoms, parts_of_each, literals, sorts_of_vars, truth_of, mark_of, Marked, Joined, joined_same, joined_flip, joined_chain, joined_atom, joined_unit, is_truth, AreTruths}
use Rattle.fst_terms.specs.Propositional.{SortPropositional, TmPropositional, FormulasPropositional}
use Rattle.fst_terms.proofs.SameLemmas.{same_term-decides}
use Rattle.fst_terms.proofs.MemberLemmas.{Includes, AllTm, all-append, all-at}
use Rattle.fst_terms.proofs.PropositionalLemmas.{sort-is, value-has, bool-value, Agrees}

-- ---- the atoms of propositional formulas are variables of sort bool

-- a variable of sort bool
abbrev pub BoolVar : List Srt → Tm → Type 0
BoolVar Ss (t_var i) = slice_get Ss i ≡ Some s_bool
BoolVar Ss _ = ⊥

atoms-are : (Ss : List Srt) (t : Tm) → TmPropositional Ss t s_bool → AllTm (BoolVar Ss) (atoms_in Ss t)
atoms-are Ss (t_var i) h = (h, tt)
atoms-are Ss (t_int n) h = absurd h
atoms-are Ss (t_bool b) h = tt
atoms-are Ss t_unit h = cc
atoms-are Ss (t_prim op.Eq T (t_more t (t_more u t_end)) at) h = go h.2.0 h.2.1.0 (sort-is Ss t h.2.0 h.2.1.1) (λ e. atoms-are Ss t (subst (TmPropositional Ss t) e h.2.1.1)) (λ e. atoms-are Ss u (subst (TmPropositional Ss u) e h.2.1.2))
  where
    go : (U : Srt) → SortPropositional U → sort_of Ss t ≡ U → (U ≡ s_bool → AllTm (BoolVar Ss) (atoms_in Ss t)) → (U ≡ s_bool → AllTm (BoolVar Ss) (atoms_in Ss u)) → AllTm (BoolVar Ss) (equation_atoms (sort_of Ss t) (atoms_in Ss t ++ atoms_in Ss u) (t_prim op.Eq T (t_more t (t_more u t_end)) at))
    go s_bool p e f g = subst (λ S. AllTm (BoolVar Ss) (equation_atoms S (atoms_in Ss t ++ atoms_in Ss u) (t_prim op.Eq T (t_more t (t_more u t_end)) at))) (sym e) (all-append (BoolVar Ss) (atoms_in Ss t) (atoms_in Ss u) (f refl) (g refl))
    go s_unit p e f g = subst (λ S. AllTm (BoolVar Ss) (equation_atoms S (atoms_in Ss t ++ atoms_in Ss u) (t_prim op.Eq T (t_more t (t_more u t_end)) at))) (sym e) tt
    go U p e f g = absurd p
atoms-are Ss (t_prim o T ts at) h = absurd h
atoms-are Ss (t_if c t u) h = all-append (BoolVar Ss) (atoms_in Ss c ++ atoms_in Ss t) (atoms_in Ss u) (all-append (BoolVar Ss) (atoms_in Ss c) (atoms_in Ss t) (atoms-are Ss c h.1) (atoms-are Ss t h.2)) (atoms-are Ss u h.3)
atoms-are Ss (t_app k T ts) h = absurd h
atoms-are Ss (t_let x t u) h = absurd h

pub all-atoms-are : (Ss : List Srt) (ts : List Tm) → FormulasPropositional Ss ts → AllTm (BoolVar Ss) (all_atoms_in Ss ts)
all-atoms-are Ss [] h = tt
all-atoms-are Ss (t ∷ ts) h = all-append (BoolVar Ss) (atoms_in Ss t) (all_atoms_in Ss ts) (atoms-are Ss t h.0) (all-atoms-are Ss ts h.1)

-- ---- marks that an environment gives

module _ (M : Meaning) (e : Env) where
  abbrev pub mark_at : Tm → Mark
  mark_at t = if is_true (value M t e) then mark.True else mark.False

  abbrev pub marks_at : List Tm → List Mark
  marks_at ts = map mark_at ts

  truth-at : (b : Bool) → truth_of (if b then mark.True else mark.False) ≡ b
  truth-at true = refl
  truth-at false = refl

  mark-of-at : (us : List Tm) (t : Tm) → IsTrue (is_among t us) → mark_of us (marks_at us) t ≡ Some (is_true (value M t e))
  mark-of-at [] t h = cc
  mark-of-at (u ∷ us) t h = go (λ k. mark-of-at us t k) (same_term t u) refl h
    where
      go : (IsTrue (is_among t us) → mark_of us (marks_at us) t ≡ Some (is_true (value M t e))) → (b : Bool) → same_term t u ≡ b → IsTrue (if b then true else is_among t us) → (if b then Some (truth_of (mark_at u)) else mark_of us (marks_at us) t) ≡ Some (is_true (value M t e))
      go ih true p k = ap Some (truth-at (is_true (value M u e)) ∙ ap (λ x. is_true (value M x e)) (sym ((same_term-decides t u).0 p)))
      go ih false p k = ih k

  -- each atom's mark is the truth value that it has
  pub marks-agree : (Ss : List Srt) (have : HasSorts Ss e) (us ts : List Tm) → Includes ts us → Agrees M Ss e have (mark_of us (marks_at us)) ts
  marks-agree Ss have us [] h = tt
  marks-agree Ss have us (t ∷ ts) h = (mark-of-at us t h.0, marks-agree Ss have us ts h.1)

  pub marks-truths : (us : List Tm) → AreTruths (marks_at us)
  marks-truths [] = tt
  marks-truths (u ∷ us) = (go (is_true (value M u e)), marks-truths us)
    where
      go : (b : Bool) → IsTrue (is_truth (if b then mark.True else mark.False))
      go true = refl
      go false = refl

  bool-var-value : (Ss : List Srt) → HasSorts Ss e → (t : Tm) → BoolVar Ss t → value M t e ≡ v_bool (truth_of (mark_at t))
  bool-var-value Ss have (t_var i) q = bool-value (lookup e i) (value-has M Ss e have (t_var i) s_bool q) ∙ ap v_bool (sym (truth-at (is_true (lookup e i))))
  bool-var-value Ss have t q = absurd q

  marked-value : (Ss : List Srt) → HasSorts Ss e → (us : List Tm) (t : Tm) (m : Mark) → AllTm (BoolVar Ss) us → Marked us (marks_at us) t m → value M t e ≡ v_bool (truth_of m)
  marked-value Ss have [] t m h k = absurd k
  marked-value Ss have (u ∷ us) t m h (inl p) = ap (λ x. value M x e) p.0 ∙ bool-var-value Ss have u h.0 ∙ ap (λ n. v_bool (truth_of n)) (sym p.1)
  marked-value Ss have (u ∷ us) t m h (inr k) = marked-value Ss have us t m h.1 k

  -- what a numbered term of sort unit has for a value
  abbrev pub UnitIs : List Srt → Tm → Type 0
  UnitIs Ss t = sort_of Ss t ≡ s_unit → value M t e ≡ v_unit

  pub atoms-no-units : (Ss : List Srt) (us : List Tm) → AllTm (BoolVar Ss) us → AllTm (UnitIs Ss) (parts_of_each us)
  atoms-no-units Ss [] h = tt
  atoms-no-units Ss (t_var i ∷ us) h = (λ q. absurd (cc_units (sym (sort-is Ss (t_var i) s_bool h.0) ∙ q)), atoms-no-units Ss us h.1)
    where
      cc_units : s_bool ≡ s_unit → ⊥
      cc_units q = cc
  atoms-no-units Ss (t ∷ us) h = absurd h.0

  pub literals-units : (Ss : List Srt) → AllTm (UnitIs Ss) literals
  literals-units Ss = (λ q. cc, (λ q. cc, (λ q. refl, tt)))

  -- joined terms have one value
  pub joined-values : (f : Flt) (ms : List Mark) → HasSorts (sorts_of_vars f.vars) e → ms ≡ marks_at f.atoms → AllTm (BoolVar (sorts_of_vars f.vars)) f.atoms → AllTm (UnitIs (sorts_of_vars f.vars)) f.terms → (t u : Tm) → Joined f ms t u → value M t e ≡ value M u e
  joined-values f ms have q h k t u joined_same = refl
  joined-values f ms have q h k t u (joined_flip j) = sym (joined-values f ms have q h k u t j)
  joined-values f ms have q h k t u (joined_chain i j) = joined-values f ms have q h k t _ i ∙ joined-values f ms have q h k _ u j
  joined-values f ms have q h k t u (joined_atom m a) = marked-value (sorts_of_vars f.vars) have f.atoms t m h (subst (λ ns. Marked f.atoms ns t m) q a)
  joined-values f ms have q h k t u (joined_unit a s) = all-at (UnitIs (sorts_of_vars f.vars)) f.terms t k a s
