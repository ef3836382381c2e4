-- A propositional sequent is valid exactly where no branch of its flat form is open.
use Rattle.std.proofs.Common.{◌≡◌, ℕ, zero, suc, ◌+◌, Bool, true, false, if◌then◌else◌, List, [], ◌∷◌, ◌++◌, map, length, slice_get, Option, Some, IsTrue, refl, sym, ap, ◌∙◌, arith}
use Rattle.std.specs.Prelude.{⊤, unwrap_or}
use Rattle.fst_base.specs.Sorts.{Srt, s_unit, s_bool}
use Rattle.fst_base.specs.Values.{Val, v_unit, v_bool, Has, HasSorts}
use Rattle.fst_base.specs.Primitives.{is_true}
use mathlib.Core.List.{reverse_aux}
use Rattle.fst_terms.specs.Terms.{Tm, t_var, t_bool}
use Rattle.fst_terms.specs.Meaning.{Env, Meaning, value, lookup, Truth, AllTrue, IsValid, Vr, Sqt}
use Rattle.fst_terms.specs.Same.{same_term, is_among}
use Rattle.fst_terms.specs.declared.flat.Mark.{Mark}
use Rattle.fst_terms.specs.Flats.{Flt, cleared, atoms_in, all_atoms_in, parts_of_each, literals, sorts_of_vars, flat_of, truth_of, mark_of, reads, AllRead, IsOpen}
use Rattle.fst_terms.specs.Propositional.{SortPropositional, TmPropositional, FormulasPropositional, VarsPropositional, IsPropositional}
use Rattle.fst_terms.proofs.MemberLemmas.{Includes, AllTm, all-append, firsts-include, firsts-all, all-at}
use Rattle.fst_terms.proofs.PropositionalLemmas.{value-has, bool-value, cleared-propositional, cleared-value, Agrees, reading-is}
use Rattle.fst_terms.proofs.BranchLemmas.{BoolVar, all-atoms-are, marks_at, marks-agree, marks-truths, UnitIs, atoms-no-units, literals-units, joined-values}

-- ---- lists of formulas

includes-left : (ts us ws : List Tm) → Includes (ts ++ us) ws → Includes ts ws
includes-left [] us ws h = tt
includes-left (t ∷ ts) us ws h = (h.0, includes-left ts us ws h.1)

includes-right : (ts us ws : List Tm) → Includes (ts ++ us) ws → Includes us ws
includes-right [] us ws h = h
includes-right (t ∷ ts) us ws h = includes-right ts us ws h.1

-- the atoms of a formula are among these
abbrev pub AtomsAmong : List Srt → List Tm → Tm → Type 0
AtomsAmong Ss us t = Includes (atoms_in Ss t) us

each-among : (Ss : List Srt) (us ts : List Tm) → Includes (all_atoms_in Ss ts) us → AllTm (AtomsAmong Ss us) ts
each-among Ss us [] h = tt
each-among Ss us (t ∷ ts) h = (includes-left (atoms_in Ss t) (all_atoms_in Ss ts) us h, each-among Ss us ts (includes-right (atoms_in Ss t) (all_atoms_in Ss ts) us h))

all-left : (Q : Tm → Type 0) (ts us : List Tm) → AllTm Q (ts ++ us) → AllTm Q ts
all-left Q [] us h = tt
all-left Q (t ∷ ts) us h = (h.0, all-left Q ts us h.1)

all-right : (Q : Tm → Type 0) (ts us : List Tm) → AllTm Q (ts ++ us) → AllTm Q us
all-right Q [] us h = h
all-right Q (t ∷ ts) us h = all-right Q ts us h.1

formulas-append : (Ss : List Srt) (ts us : List Tm) → FormulasPropositional Ss ts → FormulasPropositional Ss us → FormulasPropositional Ss (ts ++ us)
formulas-append Ss [] us h k = k
formulas-append Ss (t ∷ ts) us h k = (h.0, formulas-append Ss ts us h.1 k)

formulas-cleared : (Ss : List Srt) (n : ℕ) (ts : List Tm) → FormulasPropositional Ss ts → FormulasPropositional Ss (map (cleared n) ts)
formulas-cleared Ss n [] h = tt
formulas-cleared Ss n (t ∷ ts) h = (cleared-propositional Ss n t s_bool h.0, formulas-cleared Ss n ts h.1)

true-cleared : (M : Meaning) (Ss : List Srt) (n : ℕ) (ts : List Tm) (e : Env) → FormulasPropositional Ss ts → AllTrue M ts e → AllTrue M (map (cleared n) ts) e
true-cleared M Ss n [] e h k = tt
true-cleared M Ss n (t ∷ ts) e h k = (cleared-value M Ss n t s_bool e h.0 ∙ k.0, true-cleared M Ss n ts e h.1 k.1)

true-restored : (M : Meaning) (Ss : List Srt) (n : ℕ) (ts : List Tm) (e : Env) → FormulasPropositional Ss ts → AllTrue M (map (cleared n) ts) e → AllTrue M ts e
true-restored M Ss n [] e h k = tt
true-restored M Ss n (t ∷ ts) e h k = (sym (cleared-value M Ss n t s_bool e h.0) ∙ k.0, true-restored M Ss n ts e h.1 k.1)

-- ---- the flat form of a propositional sequent

module _ (s : Sqt) (prop : IsPropositional s) where
  abbrev pub sorts : List Srt
  sorts = sorts_of_vars s.vars

  abbrev pub flat : Flt
  flat = flat_of s []

  pub formulas-prop : FormulasPropositional sorts flat.formulas
  formulas-prop = formulas-append sorts (map (cleared (length s.vars)) s.hyps) [] (formulas-cleared sorts (length s.vars) s.hyps prop.hyps) tt

  pub goal-prop : TmPropositional sorts flat.goal s_bool
  goal-prop = cleared-propositional sorts (length s.vars) s.goal s_bool prop.goal

  every-among : AllTm (AtomsAmong sorts flat.atoms) (map (cleared (length s.vars)) s.hyps ++ flat.goal ∷ [])
  every-among = each-among sorts flat.atoms _ (firsts-include [] (all_atoms_in sorts (map (cleared (length s.vars)) s.hyps ++ flat.goal ∷ [])))

  pub formulas-among : AllTm (AtomsAmong sorts flat.atoms) flat.formulas
  formulas-among = all-append (AtomsAmong sorts flat.atoms) (map (cleared (length s.vars)) s.hyps) [] (all-left (AtomsAmong sorts flat.atoms) (map (cleared (length s.vars)) s.hyps) (flat.goal ∷ []) every-among) tt

  pub goal-among : AtomsAmong sorts flat.atoms flat.goal
  goal-among = (all-right (AtomsAmong sorts flat.atoms) (map (cleared (length s.vars)) s.hyps) (flat.goal ∷ []) every-among).0

  pub atoms-bool : AllTm (BoolVar sorts) flat.atoms
  atoms-bool = firsts-all (BoolVar sorts) [] _ tt (all-atoms-are sorts (map (cleared (length s.vars)) s.hyps ++ flat.goal ∷ []) (formulas-append sorts (map (cleared (length s.vars)) s.hyps) (flat.goal ∷ []) (formulas-cleared sorts (length s.vars) s.hyps prop.hyps) (goal-prop, tt)))

  pub terms-units : (M : Meaning) (e : Env) → AllTm (UnitIs M e sorts) flat.terms
  terms-units M e = firsts-all (UnitIs M e sorts) [] (parts_of_each flat.atoms ++ literals) tt (all-append (UnitIs M e sorts) (parts_of_each flat.atoms) literals (atoms-no-units M e sorts flat.atoms atoms-bool) (literals-units M e sorts))

  -- ---- an environment gives marks

  module _ (M : Meaning) (e : Env) (have : HasSorts sorts e) where
    abbrev marks : List Mark
    marks = marks_at M e flat.atoms

    formula-reads : (t : Tm) → TmPropositional sorts t s_bool → AtomsAmong sorts flat.atoms t → reads flat marks t ≡ Some (is_true (value M t e))
    formula-reads t h k = reading-is M sorts e have (mark_of flat.atoms marks) t h (marks-agree M e sorts have flat.atoms (atoms_in sorts t) k)

    all-read : (ts : List Tm) → FormulasPropositional sorts ts → AllTm (AtomsAmong sorts flat.atoms) ts → AllTrue M ts e → AllRead flat marks ts
    all-read [] h a k = tt
    all-read (t ∷ ts) h a k = (formula-reads t h.0 a.0 ∙ ap (λ v. Some (is_true v)) k.0, all-read ts h.1 a.1 k.1)

    long : (us : List Tm) → length (marks_at M e us) ≡ length us
    long [] = refl
    long (u ∷ us) = ap suc (long us)

    no-clash : (v_bool true ≡ v_bool false) → ⊥
    no-clash q = cc

    true-append : (ts us : List Tm) → AllTrue M ts e → AllTrue M us e → AllTrue M (ts ++ us) e
    true-append [] us h k = k
    true-append (t ∷ ts) us h k = (h.0, true-append ts us h.1 k)

    opens : AllTrue M s.hyps e → is_true (value M flat.goal e) ≡ false → IsOpen flat marks
    opens hyps goal = record {
      marked = long flat.atoms;
      truths = marks-truths M e flat.atoms;
      formulas = all-read flat.formulas formulas-prop formulas-among (true-append _ [] (true-cleared M sorts (length s.vars) s.hyps e prop.hyps hyps) tt);
      goal = formula-reads flat.goal goal-prop goal-among ∙ ap Some goal;
      no_clash = λ j. no-clash (joined-values M e flat marks have refl atoms-bool (terms-units M e) (t_bool true) (t_bool false) j);
    }

    goal-true : ((ms : List Mark) → IsOpen flat ms → ⊥) → AllTrue M s.hyps e → (b : Bool) → is_true (value M flat.goal e) ≡ b → Truth M s.goal e
    goal-true closed hyps true q = sym (cleared-value M sorts (length s.vars) s.goal s_bool e prop.goal) ∙ bool-value (value M flat.goal e) (value-has M sorts e have flat.goal s_bool goal-prop) ∙ ap v_bool q
    goal-true closed hyps false q = absurd (closed marks (opens hyps q))

-- where no branch is open, the sequent is valid
pub valid-closed : (M : Meaning) (s : Sqt) → IsPropositional s → ((ms : List Mark) → IsOpen (flat_of s []) ms → ⊥) → IsValid M s
valid-closed M s prop closed = λ e have hyps. goal-true s prop M e have closed hyps _ refl

-- ---- marks give an environment

module _ (look : Tm → Option Bool) where
  -- a variable's value: of a bool its mark
  abbrev var_value : Srt → ℕ → Val
  var_value s_unit i = v_unit
  var_value _ i = v_bool (unwrap_or (look (t_var i)) false)

  -- the values of the variables from i on
  abbrev env_from : ℕ → List Srt → Env
  env_from i [] = []
  env_from i (S ∷ Ss) = var_value S i ∷ env_from (suc i) Ss

  var-value-has : (S : Srt) (i : ℕ) → SortPropositional S → Has S (var_value S i)
  var-value-has s_unit i h = tt
  var-value-has s_bool i h = tt
  var-value-has S i h = absurd h

  -- all these sorts are bool or unit
  abbrev AllPropositional : List Srt → Type 0
  AllPropositional [] = ⊤
  AllPropositional (S ∷ Ss) = SortPropositional S × AllPropositional Ss

  env-has : (i : ℕ) (Ss : List Srt) → AllPropositional Ss → HasSorts Ss (env_from i Ss)
  env-has i [] h = tt
  env-has i (S ∷ Ss) h = (var-value-has S i h.0, env-has (suc i) Ss h.1)

  env-lookup : (i j : ℕ) (Ss : List Srt) → slice_get Ss j ≡ Some s_bool → lookup (env_from i Ss) j ≡ v_bool (unwrap_or (look (t_var (i + j))) false)
  env-lookup i j [] q = cc
  env-lookup i zero (S ∷ Ss) q = let e : S ≡ s_bool = cc in let z : i + 0 ≡ i = omega arith in rw (e, z) refl
  env-lookup i (suc j) (S ∷ Ss) q = let z : suc i + j ≡ i + suc j = omega arith in env-lookup (suc i) j Ss q ∙ ap (λ k. v_bool (unwrap_or (look (t_var k)) false)) z

mark-there : (us : List Tm) (ms : List Mark) (t : Tm) → length ms ≡ length us → IsTrue (is_among t us) → (b : Bool) × (mark_of us ms t ≡ Some b)
mark-there [] ms t e h = cc
mark-there (u ∷ us) [] t e h = absurd (no e)
  where
    no : 0 ≡ suc (length us) → ⊥
    no q = omega (arith, q)
mark-there (u ∷ us) (m ∷ ms) t e h = go (λ k. mark-there us ms t (omega (arith, e)) k) (same_term t u) h
  where
    go : (IsTrue (is_among t us) → (b : Bool) × (mark_of us ms t ≡ Some b)) → (c : Bool) → IsTrue (if c then true else is_among t us) → (b : Bool) × ((if c then Some (truth_of m) else mark_of us ms t) ≡ Some b)
    go ih true k = (truth_of m, refl)
    go ih false k = ih k

turned-propositional : (look : Tm → Option Bool) (xs : List Vr) (Ss : List Srt) → VarsPropositional xs → AllPropositional look Ss → AllPropositional look (reverse_aux (map (λ x. x.sort) xs) Ss)
turned-propositional look [] Ss h k = k
turned-propositional look (x ∷ xs) Ss h k = turned-propositional look xs (x.sort ∷ Ss) h.1 (h.0, k)

module _ (s : Sqt) (prop : IsPropositional s) (ms : List Mark) (marked : length ms ≡ length (flat_of s []).atoms) (M : Meaning) where
  -- what the marks say of an atom, and the environment that they give
  abbrev pub look : Tm → Option Bool
  look = mark_of (flat s prop).atoms ms

  abbrev pub world : Env
  world = env_from look 0 (sorts s prop)

  pub world-has : HasSorts (sorts s prop) world
  world-has = env-has look 0 (sorts s prop) (turned-propositional look s.vars [] prop.vars tt)

  pub atom-value : (t : Tm) → BoolVar (sorts s prop) t → (b : Bool) → look t ≡ Some b → look t ≡ Some (is_true (value M t world))
  atom-value (t_var i) h b q = q ∙ ap Some (sym (ap is_true (env-lookup look 0 i (sorts s prop) h ∙ ap (λ j. v_bool (unwrap_or (look (t_var j)) false)) (omega arith)) ∙ ap (λ o. unwrap_or o false) q))
  atom-value t h b q = absurd h

  branch-agrees : (ts : List Tm) → Includes ts (flat s prop).atoms → Agrees M (sorts s prop) world world-has look ts
  branch-agrees [] h = tt
  branch-agrees (t ∷ ts) h =
      let there = mark-there (flat s prop).atoms ms t marked h.0 in
      (atom-value t (all-at (BoolVar (sorts s prop)) (flat s prop).atoms t (atoms-bool s prop) h.0) there.0 there.1, branch-agrees ts h.1)

  -- a formula has its value in that environment
  pub branch-reads : (t : Tm) → TmPropositional (sorts s prop) t s_bool → AtomsAmong (sorts s prop) (flat s prop).atoms t → reads (flat s prop) ms t ≡ Some (is_true (value M t world))
  branch-reads t h k = reading-is M (sorts s prop) world world-has look t h (branch-agrees (atoms_in (sorts s prop) t) k)

  some-same : (a b : Bool) → Some a ≡ Some b → a ≡ b
  some-same a b q = cc

  branch-true : (ts : List Tm) → FormulasPropositional (sorts s prop) ts → AllTm (AtomsAmong (sorts s prop) (flat s prop).atoms) ts → AllRead (flat s prop) ms ts → AllTrue M ts world
  branch-true [] h a k = tt
  branch-true (t ∷ ts) h a k =
      (bool-value (value M t world) (value-has M (sorts s prop) world world-has t s_bool h.0) ∙ ap v_bool (some-same _ _ (sym (branch-reads t h.0 a.0) ∙ k.0)), branch-true ts h.1 a.1 k.1)

  true-left : (ts us : List Tm) → AllTrue M (ts ++ us) world → AllTrue M ts world
  true-left [] us h = tt
  true-left (t ∷ ts) us h = (h.0, true-left ts us h.1)

  world-hyps : AllRead (flat s prop) ms (flat s prop).formulas → AllTrue M s.hyps world
  world-hyps read = true-restored M (sorts s prop) (length s.vars) s.hyps world prop.hyps (true-left _ [] (branch-true (flat s prop).formulas (formulas-prop s prop) (formulas-among s prop) read))

  goal-false : reads (flat s prop) ms (flat s prop).goal ≡ Some false → is_true (value M s.goal world) ≡ false
  goal-false read = ap is_true (sym (cleared-value M (sorts s prop) (length s.vars) s.goal s_bool world prop.goal)) ∙ some-same _ _ (sym (branch-reads (flat s prop).goal (goal-prop s prop) (goal-among s prop)) ∙ read)

  not-valid : IsOpen (flat s prop) ms → IsValid M s → ⊥
  not-valid opens valid = no (sym (ap is_true (valid world world-has (world-hyps opens.formulas))) ∙ goal-false opens.goal)
    where
      no : true ≡ false → ⊥
      no q = cc

-- where a branch is open, the sequent isn't valid
pub open-refutes : (M : Meaning) (s : Sqt) → IsPropositional s → (ms : List Mark) → IsOpen (flat_of s []) ms → IsValid M s → ⊥
open-refutes M s prop ms h valid = not-valid s prop ms h.marked M h valid
