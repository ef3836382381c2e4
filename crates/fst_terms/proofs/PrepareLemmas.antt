-- From a propositional sequent to its flat form, step by step.
use Rattle.std.proofs.Common.{◌≡◌, ℕ, ◌+◌, ◌<◌, List, [], ◌∷◌, ◌++◌, length, get_or, take, map, refl, sym, ap, ap₂, ◌∙◌, subst, arith, Result, Ok, IfOk}
use Rattle.std.proofs.lemmas.List.{map-append, length-map, take_more}
use Rattle.fst_base.specs.declared.op.Op.TheVariants as op
use Rattle.fst_base.specs.Sorts.{Srt, s_bool}
use Rattle.fst_terms.specs.Terms.{Tm, t_var, t_int, t_bool, t_unit, t_prim, t_if, t_app, t_let, t_end, t_more, row, plain_term, plain_terms}
use Rattle.fst_terms.specs.Indices.{lets, lets_of}
use Rattle.fst_terms.specs.Meaning.{Vr, plain_var, plain_sequent}
use Rattle.fst_terms.specs.Same.{firsts}
use Rattle.fst_terms.specs.Flats.{Flt, cleared, atoms_in, all_atoms_in, parts_of_each, literals, sorts_of_vars, plain_flat, flat_of}
use Rattle.fst_terms.specs.Preparing.{atoms_with, numbered}
use Rattle.fst_terms.specs.Propositional.{TmPropositional, FormulasPropositional}
use Rattle.fst_terms.specs.declared.flat.Flat.{Flat}
use Rattle.fst_terms.specs.declared.sequent.Sequent.{Sequent}
use Rattle.fst_terms.specs.declared.sequent.Var.{Var}
use Rattle.fst_terms.specs.declared.term.Term.{Term}
use Rattle.fst_terms.proofs.FirstsLemmas.{firsts-append}
use Rattle.fst_terms.proofs.AtomLemmas.{all-atoms-append}
use Rattle.fst_terms.proofs.PropositionalLemmas.{cleared-propositional}

-- what is known of an answer that is there
pub given : {A E : Type 0} (P : A → Type 0) (r : Result A E) (x : A) → IfOk r P → r ≡ Ok x → P x
given P r x h e = subst (λ r. IfOk r P) e h

-- the goal and the hypotheses with cleared places, as they are handed on
pub goal-cleared : {E : Type 0} (t made goal : Term) (result : Result Term E) → IfOk result (λ made. (n : ℕ) → plain_term made ≡ cleared n (plain_term t)) → result ≡ Ok made → goal ≡ made → (n : ℕ) → plain_term goal ≡ cleared n (plain_term t)
goal-cleared t made goal result h e f n = ap plain_term f ∙ given (λ made. (n : ℕ) → plain_term made ≡ cleared n (plain_term t)) result made h e n

pub hyps-cleared : {E : Type 0} (ts items made : List Term) (result : Result (List Term) E) → IfOk result (λ made. (n : ℕ) → map plain_term made ≡ map (λ t. cleared n (plain_term t)) items) → result ≡ Ok made → items ≡ ts → (n : ℕ) → map plain_term made ≡ map (λ t. cleared n (plain_term t)) ts
hyps-cleared ts items made result h e f n = given (λ made. (n : ℕ) → map plain_term made ≡ map (λ t. cleared n (plain_term t)) items) result made h e n ∙ ap (map (λ t. cleared n (plain_term t))) f

-- ---- propositional terms hold no let

pub no-lets : (Ss : List Srt) (t : Tm) (S : Srt) → TmPropositional Ss t S → lets t ≡ 0
no-lets Ss (t_var i) S h = refl
no-lets Ss (t_int n) S h = absurd h
no-lets Ss (t_bool b) S h = refl
no-lets Ss t_unit S h = refl
no-lets Ss (t_prim op.Eq T (t_more t (t_more u t_end)) at) S h =
    let p = no-lets Ss t h.2.0 h.2.1.1 in
    let q = no-lets Ss u h.2.0 h.2.1.2 in
    omega arith
no-lets Ss (t_prim o T ts at) S h = absurd h
no-lets Ss (t_if c t u) S h =
    let p = no-lets Ss c s_bool h.1 in
    let q = no-lets Ss t s_bool h.2 in
    let r = no-lets Ss u s_bool h.3 in
    omega arith
no-lets Ss (t_app k T ts) S h = absurd h
no-lets Ss (t_let x t u) S h = absurd h

pub no-lets-each : (Ss : List Srt) (ts : List Tm) → FormulasPropositional Ss ts → lets_of (row ts) ≡ 0
no-lets-each Ss [] h = refl
no-lets-each Ss (t ∷ ts) h =
    let p = no-lets Ss t s_bool h.0 in
    let q = no-lets-each Ss ts h.1 in
    omega arith

each-cleared : (Ss : List Srt) (n : ℕ) (ts : List Term) → FormulasPropositional Ss (map plain_term ts) → FormulasPropositional Ss (map (λ t. cleared n (plain_term t)) ts)
each-cleared Ss n [] h = tt
each-cleared Ss n (t ∷ ts) h = (cleared-propositional Ss n (plain_term t) s_bool h.0, each-cleared Ss n ts h.1)

-- nor do those with cleared places
pub no-lets-cleared : (Ss : List Srt) (t made : Term) → TmPropositional Ss (plain_term t) s_bool → plain_term made ≡ cleared 0 (plain_term t) → lets (plain_term made) ≡ 0
no-lets-cleared Ss t made h e = ap lets e ∙ no-lets Ss (cleared 0 (plain_term t)) s_bool (cleared-propositional Ss 0 (plain_term t) s_bool h)

pub no-lets-each-cleared : (Ss : List Srt) (ts made : List Term) → FormulasPropositional Ss (map plain_term ts) → map plain_term made ≡ map (λ t. cleared 0 (plain_term t)) ts → lets_of (plain_terms made) ≡ 0
no-lets-each-cleared Ss ts made h e = ap (λ us. lets_of (row us)) e ∙ no-lets-each Ss (map (λ t. cleared 0 (plain_term t)) ts) (each-cleared Ss 0 ts h)

-- ---- the steps

-- one more cleared term
pub cleared-more : (n : ℕ) (made new : List Term) (x : Term) (ts : List Term) (k : ℕ) (d : Term) → k < length ts → map plain_term made ≡ map (λ t. cleared n (plain_term t)) (take k ts) → plain_term x ≡ cleared n (plain_term (get_or ts k d)) → new ≡ made ++ x ∷ [] → map plain_term new ≡ map (λ t. cleared n (plain_term t)) (take (k + 1) ts)
cleared-more n made new x ts k d h e f g =
    ap (map plain_term) g ∙ map-append plain_term made (x ∷ []) ∙ ap₂ (λ us u. us ++ u ∷ []) e f
    ∙ sym (ap (map (λ t. cleared n (plain_term t))) (take_more ts k d h) ∙ map-append (λ t. cleared n (plain_term t)) (take k ts) (get_or ts k d ∷ []))

-- the atoms of hypotheses, of a goal and of facts, one after the other
atoms-three : (Ss : List Srt) (a0 a1 a2 a3 hyps : List Tm) (goal : Tm) (extra : List Tm) → a1 ≡ firsts a0 (all_atoms_in Ss hyps) → a2 ≡ firsts a1 (atoms_in Ss goal) → a3 ≡ firsts a2 (all_atoms_in Ss extra) → a3 ≡ firsts a0 (all_atoms_in Ss (hyps ++ goal ∷ extra))
atoms-three Ss a0 a1 a2 a3 hyps goal extra e f g =
    g ∙ ap (λ m. firsts m (all_atoms_in Ss extra)) (f ∙ ap (λ m. firsts m (atoms_in Ss goal)) e)
    ∙ sym (firsts-append (firsts a0 (all_atoms_in Ss hyps)) (atoms_in Ss goal) (all_atoms_in Ss extra))
    ∙ sym (firsts-append a0 (all_atoms_in Ss hyps) (atoms_in Ss goal ++ all_atoms_in Ss extra))
    ∙ ap (firsts a0) (sym (all-atoms-append Ss hyps (goal ∷ extra)))

module _ (f : Flat) (extra : List Term) where
  abbrev Ss : List Srt
  Ss = sorts_of_vars (map plain_var f.vars)

  abbrev with_lists : (formulas terms atoms : List Tm) → Flt
  with_lists formulas terms atoms = record { vars = map plain_var f.vars; formulas = formulas; hyps = f.hyps; goal = plain_term f.goal; terms = terms; atoms = atoms }

  abbrev all_atoms : List Tm
  all_atoms = atoms_with (plain_flat f) (map plain_term extra)

  pub numbered-by : (vars : List Var) (hyps formulas terms1 terms2 atoms1 atoms2 atoms3 atoms4 : List Term) → vars ≡ f.vars → hyps ≡ f.formulas → atoms4 ≡ atoms3
      → map plain_term atoms1 ≡ firsts (map plain_term f.atoms) (all_atoms_in (sorts_of_vars (map plain_var vars)) (map plain_term hyps))
      → map plain_term atoms2 ≡ firsts (map plain_term atoms1) (atoms_in (sorts_of_vars (map plain_var vars)) (plain_term f.goal))
      → map plain_term atoms3 ≡ firsts (map plain_term atoms2) (all_atoms_in (sorts_of_vars (map plain_var vars)) (map plain_term extra))
      → map plain_term terms1 ≡ firsts (map plain_term f.terms) (parts_of_each (map plain_term atoms4))
      → map plain_term terms2 ≡ firsts (map plain_term terms1) literals
      → formulas ≡ f.formulas ++ extra
      → with_lists (map plain_term formulas) (map plain_term terms2) (map plain_term atoms3) ≡ numbered (plain_flat f) (map plain_term extra)
  numbered-by vars hyps formulas terms1 terms2 atoms1 atoms2 atoms3 atoms4 p q r e1 e2 e3 e4 e5 e6 =
      let three : map plain_term atoms3 ≡ all_atoms = atoms-three (sorts_of_vars (map plain_var vars)) _ _ _ _ (map plain_term hyps) (plain_term f.goal) (map plain_term extra) e1 e2 e3
      ∙ ap₂ (λ vs hs. firsts (map plain_term f.atoms) (all_atoms_in (sorts_of_vars (map plain_var vs)) (map plain_term hs ++ plain_term f.goal ∷ map plain_term extra))) p q in
      let parts : map plain_term terms2 ≡ firsts (map plain_term f.terms) (parts_of_each all_atoms ++ literals) = e5 ∙ ap (λ m. firsts m literals) e4 ∙ sym (firsts-append (map plain_term f.terms) (parts_of_each (map plain_term atoms4)) literals)
      ∙ ap (λ us. firsts (map plain_term f.terms) (parts_of_each us ++ literals)) (ap (map plain_term) r ∙ three) in
      ap₂ (λ fs ts. with_lists fs ts (map plain_term atoms3)) (ap (map plain_term) e6 ∙ map-append plain_term f.formulas extra) parts
      ∙ ap (with_lists (map plain_term f.formulas ++ map plain_term extra) (firsts (map plain_term f.terms) (parts_of_each all_atoms ++ literals))) three

cleared-twice : (n : ℕ) (ts : List Term) → map (λ t. cleared n (plain_term t)) ts ≡ map (cleared n) (map plain_term ts)
cleared-twice n [] = refl
cleared-twice n (t ∷ ts) = ap (◌∷◌ (cleared n (plain_term t))) (cleared-twice n ts)

-- the flat form that is numbered is that of the sequent
pub numbered-flat : (s : Sequent) (begun : Flat) (extra : List Tm) → begun.vars ≡ s.vars → begun.hyps ≡ length s.hyps
    → ((n : ℕ) → map plain_term begun.formulas ≡ map (λ t. cleared n (plain_term t)) s.hyps) → ((n : ℕ) → plain_term begun.goal ≡ cleared n (plain_term s.goal))
    → begun.terms ≡ [] → begun.atoms ≡ [] → numbered (plain_flat begun) extra ≡ flat_of (plain_sequent s) extra
numbered-flat s begun extra p q f g terms atoms =
    let n = length (map plain_var s.vars) in
    let make : List Vr → List Tm → Tm → ℕ → List Tm → List Tm → Flt = λ vs fs t h ts us. numbered (record { vars = vs; formulas = fs; hyps = h; goal = t; terms = ts; atoms = us }) extra in
    let vars : List Vr = map plain_var s.vars in
    let hyps : List Tm = map (cleared n) (map plain_term s.hyps) in
    ap₂ (λ vs fs. make vs fs (plain_term begun.goal) begun.hyps (map plain_term begun.terms) (map plain_term begun.atoms)) (ap (map plain_var) p) (f n ∙ cleared-twice n s.hyps)
    ∙ ap₂ (λ t h. make vars hyps t h (map plain_term begun.terms) (map plain_term begun.atoms)) (g n) (q ∙ sym (length-map s.hyps plain_term))
    ∙ ap₂ (make vars hyps (cleared n (plain_term s.goal)) (length (map plain_term s.hyps))) (ap (map plain_term) terms) (ap (map plain_term) atoms)
