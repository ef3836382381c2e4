-- The steps of preparing a sequent, from what their parts give.
use Rattle.std.proofs.Common.{◌≡◌, ℕ, false, List, [], ◌∷◌, ◌++◌, length, map, flat_map, Result, Ok, Err, IfOk, refl, sym, ap, ap₂, ◌∙◌}
use Rattle.std.proofs.lemmas.List.{append_assoc, length-map, map-append}
use Rattle.std.proofs.lemmas.Grind.{flat_map-append}
use Rattle.fst_base.specs.Sorts.{Srt, plain_sort}
use Rattle.fst_base.specs.declared.sort.Sort.{Sort}
use Rattle.fst_terms.specs.Terms.{Tm, plain_term}
use Rattle.fst_terms.specs.Meaning.{Vr, Sqt, plain_var}
use Rattle.fst_terms.specs.declared.sequent.Var.{Var}
use Rattle.fst_terms.specs.Formulas.{vars_from}
use Rattle.fst_terms.specs.Same.{firsts}
use Rattle.fst_terms.specs.Flats.{Flt, literals, parts_of_each, plain_flat, sorts_of_vars}
use Rattle.fst_terms.specs.Cleared.{cleared}
use Rattle.fst_terms.specs.Naming.{name_facts, name_var, named_in, names_of, renamed}
use Rattle.fst_terms.specs.Skeletons.{atoms_of, first_atoms}
use Rattle.fst_terms.specs.DataFacts.{again, arrangements, data_facts, len_sorts, next_facts, subterms}
use Rattle.fst_terms.specs.FlatForms.{Fms, sorts, formulas, clear, name_all, add_data_facts, add_arrangements, component_pair, flat_of, number_all, numbered_terms}
use Rattle.fst_base.specs.declared.memory.OutOfMemory.{OutOfMemory}
use Rattle.fst_terms.specs.declared.flat.Flat.{Flat}
use Rattle.fst_terms.specs.declared.term.Term.{Term}
use Rattle.fst_terms.proofs.FirstsLemmas.{firsts-append}
use Rattle.fst_flats.specs.Relations.{atoms_of_formula}
use Rattle.fst_flats.specs.Preparing.{scope_of}
use Rattle.fst_flats.specs.Rounds.{Begun}
use Rattle.fst_flats.specs.Steps.{added_facts, assembled, completed, finished, plain_forms}
use Rattle.fst_flats.specs.declared.forms.Forms.{Forms}
use Rattle.fst_flats.specs.declared.numbering.Numbering.{Numbering}
use Rattle.fst_flats.proofs.RoundLemmas.{atoms-more, first_atoms-append}

-- hypotheses, then the goal, then facts
module _ (each : Tm → List Tm) (join : List Tm → List Tm → List Tm) (law : (met ts us : List Tm) → join met (ts ++ us) ≡ join (join met ts) us) where
  in-order : (hyps facts n1 n2 n3 : List Tm) (goal : Tm) → n1 ≡ join [] (flat_map each hyps) → n2 ≡ join n1 (each goal) → n3 ≡ join n2 (flat_map each facts)
      → n3 ≡ join [] (flat_map each (hyps ++ goal ∷ facts))
  in-order hyps facts n1 n2 n3 goal e f g =
      g ∙ ap (λ m. join m (flat_map each facts)) (f ∙ ap (λ m. join m (each goal)) e)
      ∙ sym (law (join [] (flat_map each hyps)) (each goal) (flat_map each facts))
      ∙ sym (law [] (flat_map each hyps) (each goal ++ flat_map each facts))
      ∙ ap (join []) (sym (flat_map-append each hyps (goal ∷ facts)))

pub names-are : (Ss : List Srt) (hyps facts n1 n2 n3 : List Tm) (goal : Tm) → n1 ≡ firsts [] (flat_map (named_in Ss false) hyps) → n2 ≡ firsts n1 (named_in Ss false goal)
    → n3 ≡ firsts n2 (flat_map (named_in Ss false) facts) → n3 ≡ names_of Ss (hyps ++ goal ∷ facts)
names-are Ss = in-order (named_in Ss false) firsts firsts-append

pub atoms-are : (Ss : List Srt) (hyps facts n1 n2 n3 : List Tm) (goal : Tm) → n1 ≡ first_atoms [] (flat_map (atoms_of_formula Ss) hyps) → n2 ≡ first_atoms n1 (atoms_of_formula Ss goal)
    → n3 ≡ first_atoms n2 (flat_map (atoms_of_formula Ss) facts) → n3 ≡ atoms_of Ss (hyps ++ goal ∷ facts)
atoms-are Ss = in-order (atoms_of_formula Ss) first_atoms first_atoms-append

-- ---- formulas

abbrev pub forms : List Vr → List Tm → Tm → List Tm → Fms
forms vars hyps goal facts = record { vars = vars; hyps = hyps; goal = goal; facts = facts }

same-forms : (vars vars' : List Vr) (hyps hyps' : List Tm) (goal goal' : Tm) (facts facts' : List Tm) → vars ≡ vars' → hyps ≡ hyps' → goal ≡ goal' → facts ≡ facts' → forms vars hyps goal facts ≡ forms vars' hyps' goal' facts'
same-forms vars vars' hyps hyps' goal goal' facts facts' e f g h =
    ap₂ (λ vars hyps. forms vars hyps goal facts) e f ∙ ap₂ (λ goal facts. forms vars' hyps' goal facts) g h

map-each : (f : Tm → Tm) (ts : List Term) → map (λ t. f (plain_term t)) ts ≡ map f (map plain_term ts)
map-each f [] = refl
map-each f (t ∷ ts) = ap (λ us. f (plain_term t) ∷ us) (map-each f ts)

pub cleared-is : (vars vars' : List Vr) (us hyps' facts' : List Tm) (hyps facts : List Term) (goal goal' : Tm) → vars' ≡ vars → us ≡ vars_from 0 (length vars)
    → hyps' ≡ map (λ t. cleared us (plain_term t)) hyps → goal' ≡ cleared us goal → facts' ≡ map (λ t. cleared us (plain_term t)) facts
    → forms vars' hyps' goal' facts' ≡ clear (record { vars = vars; hyps = map plain_term hyps; goal = goal }) (map plain_term facts)
cleared-is vars vars' us hyps' facts' hyps facts goal goal' v u e f g =
    same-forms _ _ _ _ _ _ _ _ v (e ∙ ap (λ us. map (λ t. cleared us (plain_term t)) hyps) u ∙ map-each (cleared (vars_from 0 (length vars))) hyps) (f ∙ ap (λ us. cleared us goal) u)
    (g ∙ ap (λ us. map (λ t. cleared us (plain_term t)) facts) u ∙ map-each (cleared (vars_from 0 (length vars))) facts)

pub named-is : (vars vars' : List Vr) (Ss : List Srt) (ns hyps' facts1 facts2 : List Tm) (hyps facts : List Term) (goal goal' : Tm) → Ss ≡ sorts_of_vars vars
    → ns ≡ names_of Ss (map plain_term hyps ++ goal ∷ map plain_term facts) → vars' ≡ vars ++ map (name_var Ss) ns → hyps' ≡ map (λ t. renamed Ss ns false (plain_term t)) hyps
    → goal' ≡ renamed Ss ns false goal → facts1 ≡ map (λ t. renamed Ss ns false (plain_term t)) facts → facts2 ≡ facts1 ++ name_facts Ss ns
    → forms vars' hyps' goal' facts2 ≡ name_all (forms vars (map plain_term hyps) goal (map plain_term facts))
named-is vars vars' Ss ns hyps' facts1 facts2 hyps facts goal goal' s n v e f g h =
    let m : Fms = forms vars (map plain_term hyps) goal (map plain_term facts) in
    let names : ns ≡ names_of (sorts m) (formulas m) = n ∙ ap (λ Ss. names_of Ss (formulas m)) s in
    same-forms _ _ _ _ _ _ _ _
    (v ∙ ap₂ (λ Ss ns. vars ++ map (name_var Ss) ns) s names)
    (e ∙ map-each (renamed Ss ns false) hyps ∙ ap₂ (λ Ss ns. map (renamed Ss ns false) (map plain_term hyps)) s names)
    (f ∙ ap₂ (λ Ss ns. renamed Ss ns false goal) s names)
    (h ∙ ap (λ fs. fs ++ name_facts Ss ns) (g ∙ map-each (renamed Ss ns false) facts) ∙ ap₂ (λ Ss ns. map (renamed Ss ns false) (map plain_term facts) ++ name_facts Ss ns) s names)

-- ---- the flat form

abbrev pub flat : List Vr → List Tm → ℕ → Tm → List Tm → List Tm → Flt
flat vars formulas hyps goal terms atoms = record { vars = vars; formulas = formulas; hyps = hyps; goal = goal; terms = terms; atoms = atoms }

same-flat : (vars : List Vr) (hyps : ℕ) (goal : Tm) (formulas formulas' terms terms' atoms atoms' : List Tm) → formulas ≡ formulas' → terms ≡ terms' → atoms ≡ atoms'
    → flat vars formulas hyps goal terms atoms ≡ flat vars formulas' hyps goal terms' atoms'
same-flat vars hyps goal formulas formulas' terms terms' atoms atoms' e f g =
    ap (λ formulas. flat vars formulas hyps goal terms atoms) e ∙ ap₂ (λ terms atoms. flat vars formulas' hyps goal terms atoms) f g

pub numbered-is : (m : Fms) (F atoms terms : List Tm) → F ≡ added_facts (sorts m) (formulas m) → atoms ≡ atoms_of (sorts m) (formulas m ++ F) → terms ≡ numbered_terms (sorts m) atoms
    → flat m.vars (m.hyps ++ m.facts ++ F) (length m.hyps) m.goal terms atoms ≡ number_all (add_arrangements (add_data_facts m))
numbered-is m F atoms terms e f g =
    let Ss : List Srt = sorts m in
    let D : List Tm = data_facts Ss (formulas m) in
    let with_D : formulas (add_data_facts m) ≡ formulas m ++ D = sym (append_assoc m.hyps (m.goal ∷ m.facts) D) in
    let A : List Tm = arrangements Ss (subterms (atoms_of Ss (formulas (add_data_facts m)))) in
    let F_is : F ≡ D ++ A = e ∙ ap (λ phis. D ++ arrangements Ss (subterms (atoms_of Ss phis))) (sym with_D) in
    let all : m.hyps ++ m.facts ++ F ≡ m.hyps ++ (m.facts ++ D ++ A) =
    append_assoc m.hyps m.facts F ∙ ap (λ F. m.hyps ++ (m.facts ++ F)) F_is ∙ ap (λ fs. m.hyps ++ fs) (sym (append_assoc m.facts D A)) in
    let with_A : formulas m ++ F ≡ m.hyps ++ m.goal ∷ (m.facts ++ D ++ A) =
    append_assoc m.hyps (m.goal ∷ m.facts) F ∙ ap (λ F. m.hyps ++ m.goal ∷ (m.facts ++ F)) F_is ∙ ap (λ fs. m.hyps ++ m.goal ∷ fs) (sym (append_assoc m.facts D A)) in
    let atoms_are : atoms ≡ atoms_of Ss (m.hyps ++ m.goal ∷ (m.facts ++ D ++ A)) = f ∙ ap (atoms_of Ss) with_A in
    same-flat m.vars (length m.hyps) m.goal _ _ _ _ _ _ all (g ∙ ap (numbered_terms Ss) atoms_are) atoms_are

-- ---- as the code does it

module _ (vars vs vars' : List Var) (hyps hs hyps' facts facts' : List Term) (goal goal' : Term) where
  pub cleared-from : (scope scope1 scope2 : List Term) (n m : ℕ) → m ≡ length vars → n ≡ m → scope_of scope ≡ vars_from 0 n → vs ≡ vars → vars' ≡ vs → hs ≡ hyps
      → map plain_term hyps' ≡ map (λ t. cleared (scope_of scope) (plain_term t)) hs → scope1 ≡ scope → plain_term goal' ≡ cleared (scope_of scope1) (plain_term goal) → scope2 ≡ scope1
      → map plain_term facts' ≡ map (λ t. cleared (scope_of scope2) (plain_term t)) facts
      → forms (map plain_var vars') (map plain_term hyps') (plain_term goal') (map plain_term facts')
      ≡ clear (record { vars = map plain_var vars; hyps = map plain_term hyps; goal = plain_term goal }) (map plain_term facts)
  cleared-from scope scope1 scope2 n m l k s v w h e q f r g =
      let long : n ≡ length (map plain_var vars) = k ∙ l ∙ sym (length-map vars plain_var) in
      let us : scope_of scope ≡ vars_from 0 (length (map plain_var vars)) = s ∙ ap (vars_from 0) long in
      cleared-is (map plain_var vars) (map plain_var vars') (scope_of scope) (map plain_term hyps') (map plain_term facts') hyps facts (plain_term goal) (plain_term goal')
      (ap (map plain_var) (w ∙ v)) us (e ∙ ap (map (λ t. cleared (scope_of scope) (plain_term t))) h) (f ∙ ap (λ sc. cleared (scope_of sc) (plain_term goal)) q)
      (g ∙ ap (λ sc. map (λ t. cleared (scope_of sc) (plain_term t)) facts) (r ∙ q))

module _ (Ss : List Srt) (hyps hs facts fs : List Term) (goal g : Term) where
  pub names-from : (names0 names1 names2 names3 : List Term) → names0 ≡ [] → hs ≡ hyps → map plain_term names1 ≡ firsts (map plain_term names0) (flat_map (named_in Ss false) (map plain_term hs))
      → g ≡ goal → map plain_term names2 ≡ firsts (map plain_term names1) (named_in Ss false (plain_term g)) → fs ≡ facts
      → map plain_term names3 ≡ firsts (map plain_term names2) (flat_map (named_in Ss false) (map plain_term fs))
      → map plain_term names3 ≡ names_of Ss (map plain_term hyps ++ plain_term goal ∷ map plain_term facts)
  names-from names0 names1 names2 names3 z h e q f r k =
      names-are Ss (map plain_term hyps) (map plain_term facts) (map plain_term names1) (map plain_term names2) (map plain_term names3) (plain_term goal)
      (e ∙ ap₂ (λ ns hs. firsts (map plain_term ns) (flat_map (named_in Ss false) (map plain_term hs))) z h)
      (f ∙ ap (λ g. firsts (map plain_term names1) (named_in Ss false (plain_term g))) q)
      (k ∙ ap (λ fs. firsts (map plain_term names2) (flat_map (named_in Ss false) (map plain_term fs))) r)

  pub begun-from : (atoms0 atoms1 atoms2 atoms3 slice terms0 terms1 : List Term) → atoms0 ≡ [] → hs ≡ hyps
      → map plain_term atoms1 ≡ first_atoms (map plain_term atoms0) (flat_map (atoms_of_formula Ss) (map plain_term hs))
      → g ≡ goal → map plain_term atoms2 ≡ first_atoms (map plain_term atoms1) (atoms_of_formula Ss (plain_term g)) → fs ≡ facts
      → map plain_term atoms3 ≡ first_atoms (map plain_term atoms2) (flat_map (atoms_of_formula Ss) (map plain_term fs))
      → slice ≡ atoms3 → terms0 ≡ [] → map plain_term terms1 ≡ firsts (map plain_term terms0) (parts_of_each (map plain_term slice))
      → Begun Ss (map plain_term hyps ++ plain_term goal ∷ map plain_term facts) (map plain_term atoms3) (map plain_term terms1)
  begun-from atoms0 atoms1 atoms2 atoms3 slice terms0 terms1 z h e q f r k s y t =
      let atoms : map plain_term atoms3 ≡ atoms_of Ss (map plain_term hyps ++ plain_term goal ∷ map plain_term facts) =
      atoms-are Ss (map plain_term hyps) (map plain_term facts) (map plain_term atoms1) (map plain_term atoms2) (map plain_term atoms3) (plain_term goal)
      (e ∙ ap₂ (λ ns hs. first_atoms (map plain_term ns) (flat_map (atoms_of_formula Ss) (map plain_term hs))) z h)
      (f ∙ ap (λ g. first_atoms (map plain_term atoms1) (atoms_of_formula Ss (plain_term g))) q)
      (k ∙ ap (λ fs. first_atoms (map plain_term atoms2) (flat_map (atoms_of_formula Ss) (map plain_term fs))) r) in
      let terms : map plain_term terms1 ≡ subterms (map plain_term atoms3) = t ∙ ap₂ (λ ms us. firsts (map plain_term ms) (parts_of_each (map plain_term us))) y s in
      record { atoms_are = atoms; terms_are = terms }

-- the numbered terms
pub completed-from : (Ss : List Srt) (terms slice pairs pslice terms1 terms2 : List Term) → slice ≡ terms → parts_of_each (map plain_term pairs) ≡ flat_map (component_pair Ss) (map plain_term slice)
    → pslice ≡ pairs → map plain_term terms1 ≡ firsts (map plain_term terms) (parts_of_each (map plain_term pslice)) → map plain_term terms2 ≡ firsts (map plain_term terms1) literals
    → map plain_term terms2 ≡ completed Ss (map plain_term terms)
completed-from Ss terms slice pairs pslice terms1 terms2 s p q e f =
    let parts : parts_of_each (map plain_term pslice) ≡ flat_map (component_pair Ss) (map plain_term terms) =
    ap (λ ps. parts_of_each (map plain_term ps)) q ∙ p ∙ ap (λ ts. flat_map (component_pair Ss) (map plain_term ts)) s in
    f ∙ ap (λ m. firsts m literals) (e ∙ ap (firsts (map plain_term terms)) parts) ∙ sym (firsts-append (map plain_term terms) (flat_map (component_pair Ss) (map plain_term terms)) literals)

module _ (Ss lens : List Srt) (phis A0 T0 A1 T1 F R : List Tm) (b : Begun Ss phis A0 T0) (l : lens ≡ len_sorts Ss T0) (f : F ≡ again 6 (next_facts Ss lens phis) []) (c : Begun Ss (phis ++ F) A1 T1) where
  facts-are : F ≡ data_facts Ss phis
  facts-are = f ∙ ap (λ lens. again 6 (next_facts Ss lens phis) []) (l ∙ ap (len_sorts Ss) (b.terms_are ∙ ap subterms b.atoms_are))

  pub added-are : R ≡ arrangements Ss T1 → F ++ R ≡ added_facts Ss phis
  added-are r =
      ap₂ (λ F R. F ++ R) facts-are (r ∙ ap (arrangements Ss) (c.terms_are ∙ ap subterms c.atoms_are) ∙ ap (λ F. arrangements Ss (subterms (atoms_of Ss (phis ++ F)))) facts-are)

  pub all-atoms-are : (A2 : List Tm) → A2 ≡ first_atoms A1 (flat_map (atoms_of_formula Ss) R) → A2 ≡ atoms_of Ss (phis ++ (F ++ R))
  all-atoms-are A2 e = e ∙ ap (λ m. first_atoms m (flat_map (atoms_of_formula Ss) R)) c.atoms_are ∙ sym (atoms-more Ss lens phis F R)

pub named-from : (Ss : List Srt) (vars vs vars1 vars2 : List Var) (hyps hs hyps' facts fs facts1 facts2 names ns : List Term) (goal goal' : Term) → Ss ≡ sorts_of_vars (map plain_var vars)
    → map plain_term names ≡ names_of Ss (map plain_term hyps ++ plain_term goal ∷ map plain_term facts) → vs ≡ vars → vars1 ≡ vs → ns ≡ names
    → map plain_var vars2 ≡ map plain_var vars1 ++ map (name_var Ss) (map plain_term ns) → hs ≡ hyps → map plain_term hyps' ≡ map (λ t. renamed Ss (map plain_term names) false (plain_term t)) hs
    → plain_term goal' ≡ renamed Ss (map plain_term names) false (plain_term goal) → fs ≡ facts → map plain_term facts1 ≡ map (λ t. renamed Ss (map plain_term names) false (plain_term t)) fs
    → map plain_term facts2 ≡ map plain_term facts1 ++ name_facts Ss (map plain_term names)
    → forms (map plain_var vars2) (map plain_term hyps') (plain_term goal') (map plain_term facts2) ≡ name_all (forms (map plain_var vars) (map plain_term hyps) (plain_term goal) (map plain_term facts))
named-from Ss vars vs vars1 vars2 hyps hs hyps' facts fs facts1 facts2 names ns goal goal' s n v w p e h f g q k l =
    named-is (map plain_var vars) (map plain_var vars2) Ss (map plain_term names) (map plain_term hyps') (map plain_term facts1) (map plain_term facts2) hyps facts (plain_term goal) (plain_term goal') s n
    (e ∙ ap₂ (λ vs ns. map plain_var vs ++ map (name_var Ss) (map plain_term ns)) (w ∙ v) p)
    (f ∙ ap (map (λ t. renamed Ss (map plain_term names) false (plain_term t))) h) g
    (k ∙ ap (map (λ t. renamed Ss (map plain_term names) false (plain_term t))) q) l

-- the further facts and the atoms of all, from the steps of the code
module _ (Ss : List Srt) (phis : List Tm) (atoms terms tslice atoms1 terms1 tslice1 facts moved arranged aslice atoms2 all : List Term) (lens lslice : List Sort)
    (b : Begun Ss phis (map plain_term atoms) (map plain_term terms)) (p : tslice ≡ terms) (l : map plain_sort lens ≡ len_sorts Ss (map plain_term tslice)) (q : lslice ≡ lens)
    (f : map plain_term facts ≡ again 6 (next_facts Ss (map plain_sort lslice) phis) []) (c : Begun Ss (phis ++ map plain_term facts) (map plain_term atoms1) (map plain_term terms1))
    (r : tslice1 ≡ terms1) (a : map plain_term arranged ≡ arrangements Ss (map plain_term tslice1)) (m : moved ≡ facts) (j : all ≡ moved ++ arranged) where
  lens-are : map plain_sort lslice ≡ len_sorts Ss (map plain_term terms)
  lens-are = ap (map plain_sort) q ∙ l ∙ ap (λ ts. len_sorts Ss (map plain_term ts)) p

  all-is : map plain_term all ≡ map plain_term facts ++ map plain_term arranged
  all-is = ap (map plain_term) j ∙ map-append plain_term moved arranged ∙ ap (λ fs. map plain_term fs ++ map plain_term arranged) m

  pub added-from : map plain_term all ≡ added_facts Ss phis
  added-from =
      all-is ∙ added-are Ss (map plain_sort lslice) phis (map plain_term atoms) (map plain_term terms) (map plain_term atoms1) (map plain_term terms1) (map plain_term facts) (map plain_term arranged)
      b lens-are f c (a ∙ ap (λ ts. arrangements Ss (map plain_term ts)) r)

  pub atoms-from : aslice ≡ arranged → map plain_term atoms2 ≡ first_atoms (map plain_term atoms1) (flat_map (atoms_of_formula Ss) (map plain_term aslice)) → map plain_term atoms2 ≡ atoms_of Ss (phis ++ map plain_term all)
  atoms-from s e =
      all-atoms-are Ss (map plain_sort lslice) phis (map plain_term atoms) (map plain_term terms) (map plain_term atoms1) (map plain_term terms1) (map plain_term facts) (map plain_term arranged)
      b lens-are f c (map plain_term atoms2) (e ∙ ap (λ ts. first_atoms (map plain_term atoms1) (flat_map (atoms_of_formula Ss) (map plain_term ts))) s)
      ∙ ap (λ fs. atoms_of Ss (phis ++ fs)) (sym all-is)

pub numbered-from : (m : Forms) (n : Numbering) (Ss : List Srt) → Ss ≡ sorts (plain_forms m) → map plain_term n.facts ≡ added_facts Ss (formulas (plain_forms m))
    → map plain_term n.atoms ≡ atoms_of Ss (formulas (plain_forms m) ++ map plain_term n.facts) → map plain_term n.terms ≡ numbered_terms Ss (map plain_term n.atoms)
    → assembled m n ≡ finished (plain_forms m)
unfolding finished
numbered-from m n Ss s e f g =
    let phis : List Tm = formulas (plain_forms m) in
    ap (λ k. flat (map plain_var m.vars) (map plain_term m.hyps ++ map plain_term m.facts ++ map plain_term n.facts) k (plain_term m.goal) (map plain_term n.terms) (map plain_term n.atoms)) (sym (length-map m.hyps plain_term))
    ∙ numbered-is (plain_forms m) (map plain_term n.facts) (map plain_term n.atoms) (map plain_term n.terms) (e ∙ ap (λ Ss. added_facts Ss phis) s)
    (f ∙ ap (λ Ss. atoms_of Ss (phis ++ map plain_term n.facts)) s) (g ∙ ap (λ Ss. numbered_terms Ss (map plain_term n.atoms)) s)

-- a flat form that was made is this one too
pub made-too : (r : Result Flat OutOfMemory) (f g : Flt) → f ≡ g → IfOk r (λ flat. plain_flat flat ≡ f) → IfOk r (λ flat. plain_flat flat ≡ g)
made-too (Ok flat) f g e h = h ∙ e
made-too (Err d) f g e h = tt

finished-is : (s : Sqt) (extra : List Tm) → finished (name_all (clear s extra)) ≡ flat_of s extra
unfolding finished
finished-is s extra = refl

pub prepared-is : (s : Sqt) (extra es : List Tm) (m1 m2 : Fms) → es ≡ extra → m1 ≡ clear s es → m2 ≡ name_all m1 → finished m2 ≡ flat_of s extra
prepared-is s extra es m1 m2 e f g = ap finished (g ∙ ap name_all (f ∙ ap (clear s) e)) ∙ finished-is s extra
