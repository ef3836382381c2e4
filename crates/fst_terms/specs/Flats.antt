-- Flat forms of propositional sequents: atoms and numbered terms; what a formula is under marks; open branches.
use Rattle.std.specs.Prelude.{◌≡◌, ◌⊎◌, ℕ, suc, ◌<◌, Bool, true, false, if◌then◌else◌, List, [], ◌∷◌, ◌++◌, map, length, reverse, Option, Some, None, IsTrue, ⊤}
use Rattle.fst_base.specs.declared.op.Op.TheVariants as op
use Rattle.fst_base.specs.Sorts.{Srt, s_unit, s_bool}
use Rattle.fst_base.specs.Values.{same_bool}
use Rattle.fst_terms.specs.Terms.{Tm, Tms, t_bool, t_unit, t_prim, t_if, t_app, t_let, t_end, t_more, plain_term}
use Rattle.fst_terms.specs.Meaning.{Vr, Sqt, plain_var}
use Rattle.fst_terms.specs.Formulas.{put, vars_from, sort_of}
use Rattle.fst_terms.specs.Same.{same_term, is_among, firsts}
use Rattle.fst_terms.specs.declared.flat.Flat.{Flat}
use Rattle.fst_terms.specs.declared.flat.Mark.{Mark}
use Rattle.fst_terms.specs.declared.flat.Mark.TheVariants as mark

-- a flat form: the first `hyps` formulas are the hypotheses, the others are facts
pub record Flt : Type 0 where
  pub vars : List Vr
  pub formulas : List Tm
  pub hyps : ℕ
  pub goal : Tm
  pub terms : List Tm
  pub atoms : List Tm

-- the plain tree of a flat form
abbrev pub plain_flat : Flat → Flt
plain_flat f = record { vars = map plain_var f.vars; formulas = map plain_term f.formulas; hyps = f.hyps; goal = plain_term f.goal; terms = map plain_term f.terms; atoms = map plain_term f.atoms }

-- ---- lets and places

-- the term, over n variables, with its lets substituted away and every place 0
abbrev mutual
  pub cleared : (n : ℕ) → Tm → Tm
  cleared n (t_prim o S ts at) = t_prim o S (all_cleared n ts) 0
  cleared n (t_if c t u) = t_if (cleared n c) (cleared n t) (cleared n u)
  cleared n (t_app k S ts) = t_app k S (all_cleared n ts)
  cleared n (t_let x t u) = put (cleared n t ∷ vars_from 0 n) (cleared (suc n) u)
  cleared n t = t

  pub all_cleared : (n : ℕ) → Tms → Tms
  all_cleared n t_end = t_end
  all_cleared n (t_more t ts) = t_more (cleared n t) (all_cleared n ts)

-- ---- the skeleton of a formula

-- the atoms of an equation of terms of this sort: none of units, those of both sides of bools, else the equation itself
abbrev pub equation_atoms : Srt → (both : List Tm) → (equation : Tm) → List Tm
equation_atoms s_unit both t = []
equation_atoms s_bool both t = both
equation_atoms _ both t = t ∷ []

-- the atoms of a formula from left to right: an `if` is read through; Ss are the sorts of the variables
abbrev pub atoms_in : (Ss : List Srt) → Tm → List Tm
atoms_in Ss (t_bool b) = []
atoms_in Ss (t_if c t u) = atoms_in Ss c ++ atoms_in Ss t ++ atoms_in Ss u
atoms_in Ss (t_prim op.Eq S (t_more t (t_more u t_end)) at) =
    equation_atoms (sort_of Ss t) (atoms_in Ss t ++ atoms_in Ss u) (t_prim op.Eq S (t_more t (t_more u t_end)) at)
atoms_in Ss t = t ∷ []

abbrev pub all_atoms_in : (Ss : List Srt) → List Tm → List Tm
all_atoms_in Ss [] = []
all_atoms_in Ss (t ∷ ts) = atoms_in Ss t ++ all_atoms_in Ss ts

-- a term and its parts, an outer term before its parts, from left to right
abbrev mutual
  pub parts_of : Tm → List Tm
  parts_of (t_prim o S ts at) = t_prim o S ts at ∷ parts_of_all ts
  parts_of (t_if c t u) = t_if c t u ∷ parts_of c ++ parts_of t ++ parts_of u
  parts_of (t_app k S ts) = t_app k S ts ∷ parts_of_all ts
  parts_of t = t ∷ []

  pub parts_of_all : Tms → List Tm
  parts_of_all t_end = []
  parts_of_all (t_more t ts) = parts_of t ++ parts_of_all ts

abbrev pub parts_of_each : List Tm → List Tm
parts_of_each [] = []
parts_of_each (t ∷ ts) = parts_of t ++ parts_of_each ts

-- true, false and () are numbered where they are missing
abbrev pub literals : List Tm
literals = t_bool true ∷ t_bool false ∷ t_unit ∷ []

abbrev pub sorts_of_vars : List Vr → List Srt
sorts_of_vars xs = reverse (map (λ x. x.sort) xs)

-- the flat form of a sequent, with the facts `extra`
abbrev pub flat_of : Sqt → (extra : List Tm) → Flt
flat_of s extra =
    let n = length s.vars in
    let hyps = map (cleared n) s.hyps in
    let goal = cleared n s.goal in
    let atoms = firsts [] (all_atoms_in (sorts_of_vars s.vars) (hyps ++ goal ∷ extra)) in
    record { vars = s.vars; formulas = hyps ++ extra; hyps = length s.hyps; goal = goal; terms = firsts [] (parts_of_each atoms ++ literals); atoms = atoms }

-- ---- marks

-- the truth value that a mark gives: an equation marked less or greater is false
abbrev pub truth_of : Mark → Bool
truth_of mark.True = true
truth_of _ = false

-- the truth value of an atom, where it is marked; a list of marks that is too short marks the first atoms
abbrev pub mark_of : (atoms : List Tm) → List Mark → Tm → Option Bool
mark_of [] ms t = None
mark_of (u ∷ us) [] t = None
mark_of (u ∷ us) (m ∷ ms) t = if same_term t u then Some (truth_of m) else mark_of us ms t

-- a side where the condition has a value, and else the value that both sides have
abbrev pub common : Option Bool → Option Bool → Option Bool
common (Some a) (Some b) = if same_bool a b then Some a else None
common _ _ = None

abbrev pub chosen : Option Bool → Option Bool → Option Bool → Option Bool
chosen (Some true) p q = p
chosen (Some false) p q = q
chosen None p q = common p q

-- both or neither
abbrev pub agree : Option Bool → Option Bool → Option Bool
agree (Some a) (Some b) = Some (same_bool a b)
agree _ _ = None

-- an equation of units is true, one of bools has a value where both sides have one, and another one is an atom
abbrev pub equation_reading : Srt → (both atom : Option Bool) → Option Bool
equation_reading s_unit both atom = Some true
equation_reading s_bool both atom = both
equation_reading _ both atom = atom

-- the value of a formula under marks, where it has one
abbrev pub reading : (Ss : List Srt) → (look : Tm → Option Bool) → Tm → Option Bool
reading Ss look (t_bool b) = Some b
reading Ss look (t_if c t u) = chosen (reading Ss look c) (reading Ss look t) (reading Ss look u)
reading Ss look (t_prim op.Eq S (t_more t (t_more u t_end)) at) =
    equation_reading (sort_of Ss t) (agree (reading Ss look t) (reading Ss look u)) (look (t_prim op.Eq S (t_more t (t_more u t_end)) at))
reading Ss look t = look t

-- the value of a formula of the flat form under marks of its first atoms
abbrev pub reads : Flt → List Mark → Tm → Option Bool
reads f ms t = reading (sorts_of_vars f.vars) (mark_of f.atoms ms) t

-- ---- branches

-- the term is one of the atoms, and has the mark
abbrev pub Marked : (atoms : List Tm) → List Mark → Tm → Mark → Type 0
Marked (u ∷ us) (m ∷ ms) t n = ((t ≡ u) × (n ≡ m)) ⊎ Marked us ms t n
Marked _ _ t n = ⊥

-- the least congruence that holds the truth values of the marked atoms and the equations of unit terms with (); no numbered term of
-- these sorts has parts
pub data Joined : Flt → List Mark → Tm → Tm → Type 0 where
  joined_same : {f : Flt} {ms : List Mark} {t : Tm} → Joined f ms t t
  joined_flip : {f : Flt} {ms : List Mark} {t u : Tm} → Joined f ms t u → Joined f ms u t
  joined_chain : {f : Flt} {ms : List Mark} {t u v : Tm} → Joined f ms t u → Joined f ms u v → Joined f ms t v
  joined_atom : {f : Flt} {ms : List Mark} {t : Tm} → (m : Mark) → Marked f.atoms ms t m → Joined f ms t (t_bool (truth_of m))
  joined_unit : {f : Flt} {ms : List Mark} {t : Tm} → IsTrue (is_among t f.terms) → sort_of (sorts_of_vars f.vars) t ≡ s_unit → Joined f ms t t_unit

-- two different constructors are joined: true and false
abbrev pub Clash : Flt → List Mark → Type 0
Clash f ms = Joined f ms (t_bool true) (t_bool false)

-- every formula has this value
abbrev pub AllRead : Flt → List Mark → List Tm → Type 0
AllRead f ms [] = ⊤
AllRead f ms (t ∷ ts) = (reads f ms t ≡ Some true) × AllRead f ms ts

-- a mark of an atom that is no equation of numbers
abbrev pub is_truth : Mark → Bool
is_truth mark.True = true
is_truth mark.False = true
is_truth _ = false

abbrev pub AreTruths : List Mark → Type 0
AreTruths [] = ⊤
AreTruths (m ∷ ms) = IsTrue (is_truth m) × AreTruths ms

-- an open branch: every atom is marked, all formulas are true and the goal is false under the marks, and there is no clash
pub record IsOpen (f : Flt) (ms : List Mark) : Type 0 where
  pub marked : length ms ≡ length f.atoms
  pub truths : AreTruths ms
  pub formulas : AllRead f ms f.formulas
  pub goal : reads f ms f.goal ≡ Some false
  pub no_clash : Clash f ms → ⊥

-- the order in which marks are tried
abbrev pub rank : Mark → ℕ
rank mark.True = 0
rank mark.False = 1
rank mark.Less = 2
rank mark.Greater = 3

-- the first branch comes before the second, atom by atom
abbrev pub Earlier : List Mark → List Mark → Type 0
Earlier (m ∷ ms) (n ∷ ns) = (rank m < rank n) ⊎ ((m ≡ n) × Earlier ms ns)
Earlier _ _ = ⊥

-- the branch is open, and none before it is
pub record IsFirstOpen (f : Flt) (ms : List Mark) : Type 0 where
  pub opens : IsOpen f ms
  pub none_before : (ns : List Mark) → Earlier ns ms → IsOpen f ns → ⊥
