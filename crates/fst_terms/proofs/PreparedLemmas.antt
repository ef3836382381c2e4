-- Every environment of a sequent extends to its flat form so that all facts are true.
use Rattle.std.proofs.Common.{◌≡◌, ◌↔◌, ℕ, zero, suc, ◌+◌, false, List, [], ◌∷◌, ◌++◌, map, length, get_or, slice_get, take, drop, Some, refl, sym, ap, ◌∙◌, subst, arith}
use Rattle.std.specs.Prelude.{flat_map, All}
use Rattle.std.proofs.lemmas.List.Elements.{All-nil, All-cons}
use Rattle.std.proofs.lemmas.List.{length-reverse, length-map}
use Rattle.fst_base.specs.Sorts.{Srt, s_bool}
use Rattle.fst_base.specs.Values.{Val, HasSorts}
use Rattle.fst_terms.specs.Terms.{Tm, t_var, t_unit}
use Rattle.fst_terms.specs.Meaning.{Env, Meaning, value, lookup, Truth, AllTrue, Sqt, HasVars}
use Rattle.fst_terms.specs.Formulas.{vars_from}
use Rattle.fst_terms.specs.Sorted.{TmSorted}
use Rattle.fst_terms.specs.Flats.{Flt, sorts_of_vars}
use Rattle.fst_terms.proofs.MemberLemmas.{AllTm, all-append, firsts-all, Includes, firsts-include, among-here, among-back}
use Rattle.fst_terms.proofs.PutLemmas.{put_values}
use Rattle.fst_terms.specs.Cleared.{cleared}
use Rattle.fst_terms.specs.Naming.{named_in, names_of, renamed, name_facts}
use Rattle.fst_terms.specs.Skeletons.{atoms_of}
use Rattle.fst_terms.specs.DataFacts.{subterms, data_facts, arrangements}
use Rattle.fst_terms.specs.FlatForms.{Fms, sorts, formulas, clear, name_all, add_data_facts, add_arrangements, flat_of}
use Rattle.fst_terms.specs.Sentences.{KeepsSorts, AreFormulas, IsSequent, IsFlat, Extends, FactsTrue}
use Rattle.fst_terms.proofs.SortedFactLemmas.{HasSort, IsFormula, all-given}
use Rattle.fst_terms.proofs.FactLemmas.{arrangements-true}
use Rattle.fst_terms.proofs.AtomSortLemmas.{atom-parts-sorted, data-facts-sorted, data-facts-true}
use Rattle.fst_terms.proofs.ArrangementSorts.{arrangements-sorted}
use Rattle.fst_terms.proofs.ClearedLemmas.{cleared-value, cleared-sorted, own-values, PutSorted}
use Rattle.fst_terms.proofs.NamingLemmas.{NoLet, cleared-plain, includes-left, includes-right, names-closed, names-plain, named_env, renamed-value, facts-of-names}
use Rattle.fst_terms.proofs.NamedSortLemmas.{names-sorted, named_sorts, sorts-named, named-has, renamed-sorted, facts-of-names-sorted}

-- ---- lists

take-front : {A : Type 0} (xs ys : List A) → take (length xs) (xs ++ ys) ≡ xs
take-front [] ys = refl
take-front (x ∷ xs) ys = ap (λ zs. x ∷ zs) (take-front xs ys)

drop-front : {A : Type 0} (xs ys : List A) → drop (length xs) (xs ++ ys) ≡ ys
drop-front [] ys = refl
drop-front (x ∷ xs) ys = drop-front xs ys

all-map : (R Q : Tm → Type 0) (g : Tm → Tm) (ts : List Tm) → ((t : Tm) → R t → Q (g t)) → AllTm R ts → AllTm Q (map g ts)
all-map R Q g [] h k = tt
all-map R Q g (t ∷ ts) h k = (h t k.0, all-map R Q g ts h k.1)

all-of : (Q : Tm → Type 0) (ts : List Tm) → ((t : Tm) → Q t) → AllTm Q ts
all-of Q [] h = tt
all-of Q (t ∷ ts) h = (h t, all-of Q ts h)

all-and : (R Q : Tm → Type 0) (ts : List Tm) → AllTm R ts → AllTm Q ts → AllTm (λ t. R t × Q t) ts
all-and R Q [] h k = tt
all-and R Q (t ∷ ts) h k = ((h.0, k.0), all-and R Q ts h.1 k.1)

all-left : (Q : Tm → Type 0) (ts us : List Tm) → AllTm Q (ts ++ us) → AllTm Q ts
all-left Q [] us h = tt
all-left Q (t ∷ ts) us h = (h.0, all-left Q ts us h.1)

all-right : (Q : Tm → Type 0) (ts us : List Tm) → AllTm Q (ts ++ us) → AllTm Q us
all-right Q [] us h = h
all-right Q (t ∷ ts) us h = all-right Q ts us h.1

-- the lists that f gives of each of these terms lie in ws
includes-each : (f : Tm → List Tm) (ts ws : List Tm) → Includes (flat_map f ts) ws → AllTm (λ t. Includes (f t) ws) ts
includes-each f [] ws h = tt
includes-each f (t ∷ ts) ws h = (includes-left (f t) (flat_map f ts) ws h, includes-each f ts ws (includes-right (f t) (flat_map f ts) ws h))

flat-all : (R Q : Tm → Type 0) (f : Tm → List Tm) (ts : List Tm) → ((t : Tm) → R t → AllTm Q (f t)) → AllTm R ts → AllTm Q (flat_map f ts)
flat-all R Q f [] h k = tt
flat-all R Q f (t ∷ ts) h k = all-append Q (f t) (flat_map f ts) (h t k.0) (flat-all R Q f ts h k.1)

includes-later : (u : Tm) (us ws : List Tm) → Includes us ws → Includes us (u ∷ ws)
includes-later u [] ws h = tt
includes-later u (t ∷ us) ws h = (among-back t (u ∷ []) ws h.0, includes-later u us ws h.1)

includes-self : (us : List Tm) → Includes us us
includes-self [] = tt
includes-self (u ∷ us) = (among-here u us, includes-later u us us (includes-self us))

-- formulas with the same values are true together
same-truth : (M : Meaning) (g : Tm → Tm) (e f : Env) (phis : List Tm) → AllTm (λ phi. value M (g phi) f ≡ value M phi e) phis → AllTrue M phis e ↔ AllTrue M (map g phis) f
same-truth M g e f [] h = (λ k. tt, λ k. tt)
same-truth M g e f (phi ∷ phis) h =
    let ih = same-truth M g e f phis h.1 in
    (λ k. (h.0 ∙ k.0, ih.0 k.1), λ k. (sym h.0 ∙ k.0, ih.1 k.1))

pub true-append : (M : Meaning) (e : Env) (phis psis : List Tm) → AllTrue M phis e → AllTrue M psis e → AllTrue M (phis ++ psis) e
true-append M e [] psis h k = k
true-append M e (phi ∷ phis) psis h k = (h.0, true-append M e phis psis h.1 k)

-- ---- the sequent's own variables

vars-at : (Ss : List Srt) (k i : ℕ) (S : Srt) → slice_get Ss i ≡ Some S → get_or (vars_from k (length Ss)) i t_unit ≡ t_var (k + i)
vars-at [] k i S h = cc
vars-at (T ∷ Ss) k zero S h = ap t_var (omega arith)
vars-at (T ∷ Ss) k (suc i) S h = vars-at Ss (suc k) i S h ∙ ap t_var (omega arith)

-- the values of the names, the last first, before others
abbrev front : (M : Meaning) (e0 : Env) (us : List Tm) → List Val → List Val
front M e0 [] vs = vs
front M e0 (u ∷ us) vs = front M e0 us (value M u e0 ∷ vs)

front-env : (M : Meaning) (e0 : Env) (us : List Tm) (vs : List Val) (e : Env) → named_env M e0 us (vs ++ e) ≡ front M e0 us vs ++ e
front-env M e0 [] vs e = refl
front-env M e0 (u ∷ us) vs e = front-env M e0 us (value M u e0 ∷ vs) e

module _ (Applies : (k : ℕ) → List Srt → (S : Srt) → Type 0) (M : Meaning) (keeps : KeepsSorts Applies M) (s : Sqt) (extra : List Tm) (formed : IsSequent Applies s extra) (e : Env) (has : HasVars s.vars e) where
  abbrev pub Ss : List Srt
  Ss = sorts_of_vars s.vars

  abbrev pub own : List Tm
  own = vars_from 0 (length s.vars)

  as-many : length s.vars ≡ length Ss
  as-many = sym (length-reverse (map (λ x. x.sort) s.vars) ∙ length-map s.vars (λ x. x.sort))

  pub own-sorted : PutSorted Applies Ss own Ss
  own-sorted i S h = subst (λ n. TmSorted Applies Ss (get_or (vars_from 0 n) i t_unit) S) (sym as-many) (subst (λ t. TmSorted Applies Ss t S) (sym (vars-at Ss 0 i S h)) (subst (λ j. slice_get Ss j ≡ Some S) (omega arith) h))

  own-plain : AllTm NoLet own
  own-plain = go 0 (length s.vars)
    where
      go : (i n : ℕ) → AllTm NoLet (vars_from i n)
      go i zero = tt
      go i (suc n) = (tt, go (suc i) n)

  pub own-are : put_values M own e ≡ e
  own-are = subst (λ n. put_values M (vars_from 0 n) e ≡ e) (sym as-many) (own-values M Ss [] e has e 0 (λ i. ap (lookup e) (omega arith)))

  pub clear-value : (phi : Tm) → value M (cleared own phi) e ≡ value M phi e
  clear-value phi = cleared-value M own phi e ∙ ap (value M phi) own-are

  -- ---- after clearing

  abbrev m1 : Fms
  m1 = clear s extra

  abbrev Plain : Tm → Type 0
  Plain phi = IsFormula Applies Ss phi × NoLet phi

  clear-all : (phis : List Tm) → AreFormulas Applies Ss phis → AllTm Plain (map (cleared own) phis)
  clear-all phis h =
      all-map (IsFormula Applies Ss) Plain (cleared own) phis (λ t i. (cleared-sorted Applies Ss own Ss t s_bool own-sorted i, cleared-plain own t own-plain))
      (all-given Applies Ss (IsFormula Applies Ss) phis h)

  goal-plain : Plain m1.goal
  goal-plain = (cleared-sorted Applies Ss own Ss s.goal s_bool own-sorted formed.goal, cleared-plain own s.goal own-plain)

  formulas-plain : AllTm Plain (formulas m1)
  formulas-plain = all-append Plain m1.hyps (m1.goal ∷ m1.facts) (clear-all s.hyps formed.hyps) (goal-plain, clear-all extra formed.facts)

  -- ---- names

  abbrev ns : List Tm
  ns = names_of Ss (formulas m1)

  abbrev all-named : List Tm
  all-named = flat_map (named_in Ss false) (formulas m1)

  named-inside : AllTm (λ phi. Includes (named_in Ss false phi) ns) (formulas m1)
  named-inside = includes-each (named_in Ss false) (formulas m1) ns (firsts-include [] all-named)

  names-well : AllTm (HasSort Applies Ss) ns
  names-well = firsts-all (HasSort Applies Ss) [] all-named tt (flat-all Plain (HasSort Applies Ss) (named_in Ss false) (formulas m1) (λ t p. names-sorted Applies Ss false t s_bool p.0) formulas-plain)

  names-let-free : AllTm NoLet ns
  names-let-free = firsts-all NoLet [] all-named tt (flat-all Plain NoLet (named_in Ss false) (formulas m1) (λ t p. names-plain Ss false t p.1) formulas-plain)

  abbrev Closed : Tm → Type 0
  Closed u = Includes (named_in Ss false u) ns

  names-are-closed : AllTm Closed ns
  names-are-closed = firsts-all Closed [] all-named tt (flat-all Closed Closed (named_in Ss false) (formulas m1) (λ t h. names-closed Ss false t ns h) named-inside)

  -- ---- after naming

  abbrev m2 : Fms
  m2 = name_all m1

  abbrev Rs : List Srt
  Rs = named_sorts Applies Ss ns Ss

  abbrev env : Env
  env = named_env M e ns e

  sorts-are : sorts m2 ≡ Rs
  sorts-are = sorts-named Applies Ss s.vars ns

  env-has : HasSorts (sorts m2) env
  env-has = subst (λ Ts. HasSorts Ts env) (sym sorts-are) (named-has Applies Ss M keeps e has ns Ss e names-well has)

  abbrev Known : Tm → Type 0
  Known phi = Plain phi × Closed phi

  hyps-known : AllTm Known m1.hyps
  hyps-known = all-and Plain Closed m1.hyps (all-left Plain m1.hyps (m1.goal ∷ m1.facts) formulas-plain) (all-left Closed m1.hyps (m1.goal ∷ m1.facts) named-inside)

  rest-known : AllTm Known (m1.goal ∷ m1.facts)
  rest-known = all-and Plain Closed (m1.goal ∷ m1.facts) (all-right Plain m1.hyps (m1.goal ∷ m1.facts) formulas-plain) (all-right Closed m1.hyps (m1.goal ∷ m1.facts) named-inside)

  known-value : (phi : Tm) → Known phi → value M (renamed Ss ns false phi) env ≡ value M phi e
  known-value phi k = renamed-value M e Ss ns false phi k.0.1 k.1

  known-sorted : (phi : Tm) → Known phi → IsFormula Applies Rs (renamed Ss ns false phi)
  known-sorted phi k = renamed-sorted Applies Ss ns false phi s_bool k.0.0 k.0.1 k.1

  abbrev Formula2 : Tm → Type 0
  Formula2 phi = IsFormula Applies Rs phi

  facts-sorted : AllTm Formula2 m2.facts
  facts-sorted =
      all-append Formula2 (map (renamed Ss ns false) m1.facts) (name_facts Ss ns) (all-map Known Formula2 (renamed Ss ns false) m1.facts known-sorted rest-known.1)
      (facts-of-names-sorted Applies Ss ns ns names-well names-let-free names-are-closed (includes-self ns))

  formulas-sorted : AllTm (IsFormula Applies (sorts m2)) (formulas m2)
  formulas-sorted =
      subst (λ Ts. AllTm (IsFormula Applies Ts) (formulas m2)) (sym sorts-are)
      (all-append Formula2 m2.hyps (m2.goal ∷ m2.facts) (all-map Known Formula2 (renamed Ss ns false) m1.hyps known-sorted hyps-known) (known-sorted m1.goal rest-known.0, facts-sorted))

  -- ---- the facts are true

  extra-true : AllTrue M extra e → AllTrue M (map (renamed Ss ns false) m1.facts) env
  extra-true h =
      (same-truth M (renamed Ss ns false) e env m1.facts (all-map-known m1.facts rest-known.1)).0
      ((same-truth M (cleared own) e e extra (all-of (λ phi. value M (cleared own phi) e ≡ value M phi e) extra clear-value)).0 h)
    where
      all-map-known : (phis : List Tm) → AllTm Known phis → AllTm (λ phi. value M (renamed Ss ns false phi) env ≡ value M phi e) phis
      all-map-known [] k = tt
      all-map-known (phi ∷ phis) k = (known-value phi k.0, all-map-known phis k.1)

  abbrev m3 : Fms
  m3 = add_data_facts m2

  abbrev m4 : Fms
  m4 = add_arrangements m3

  all-facts-true : AllTrue M extra e → AllTrue M m4.facts env
  all-facts-true h =
      true-append M env m3.facts (arrangements (sorts m3) (subterms (atoms_of (sorts m3) (formulas m3))))
      (true-append M env m2.facts (data_facts (sorts m2) (formulas m2))
      (true-append M env (map (renamed Ss ns false) m1.facts) (name_facts Ss ns) (extra-true h) (facts-of-names M e Ss ns ns names-let-free names-are-closed (includes-self ns)))
      (data-facts-true Applies (sorts m2) M keeps env env-has (formulas m2) formulas-sorted))
      (arrangements-true M env (sorts m3) (subterms (atoms_of (sorts m3) (formulas m3))))

  hyps-same : AllTrue M s.hyps e ↔ AllTrue M m4.hyps env
  hyps-same =
      let one = same-truth M (cleared own) e e s.hyps (all-of (λ phi. value M (cleared own phi) e ≡ value M phi e) s.hyps clear-value) in
      let two = same-truth M (renamed Ss ns false) e env m1.hyps (each m1.hyps hyps-known) in
      (λ h. two.0 (one.0 h), λ h. one.1 (two.1 h))
    where
      each : (phis : List Tm) → AllTm Known phis → AllTm (λ phi. value M (renamed Ss ns false phi) env ≡ value M phi e) phis
      each [] k = tt
      each (phi ∷ phis) k = (known-value phi k.0, each phis k.1)

  goal-same : Truth M s.goal e ↔ Truth M m4.goal env
  goal-same = let p = known-value m1.goal rest-known.0 ∙ clear-value s.goal in (λ h. p ∙ h, λ h. sym p ∙ h)

  abbrev f : Flt
  f = flat_of s extra

  names-before : env ≡ front M e ns [] ++ e
  names-before = front-env M e ns [] e

  -- the flat form is one of well-sorted formulas
  m3-sorted : AllTm (IsFormula Applies (sorts m2)) (formulas m3)
  m3-sorted =
      let here = formulas-sorted in
      let rest = all-right (IsFormula Applies (sorts m2)) m2.hyps (m2.goal ∷ m2.facts) here in
      all-append (IsFormula Applies (sorts m2)) m2.hyps (m2.goal ∷ m3.facts) (all-left (IsFormula Applies (sorts m2)) m2.hyps (m2.goal ∷ m2.facts) here)
      (rest.0, all-append (IsFormula Applies (sorts m2)) m2.facts (data_facts (sorts m2) (formulas m2)) rest.1 (data-facts-sorted Applies (sorts m2) (formulas m2) here))

  m4-sorted : AllTm (IsFormula Applies (sorts m2)) (formulas m4)
  m4-sorted =
      let rest = all-right (IsFormula Applies (sorts m2)) m3.hyps (m3.goal ∷ m3.facts) m3-sorted in
      all-append (IsFormula Applies (sorts m2)) m3.hyps (m3.goal ∷ m4.facts) (all-left (IsFormula Applies (sorts m2)) m3.hyps (m3.goal ∷ m3.facts) m3-sorted) (
        rest.0,
        all-append (IsFormula Applies (sorts m2)) m3.facts (arrangements (sorts m3) (subterms (atoms_of (sorts m3) (formulas m3)))) rest.1
            (arrangements-sorted Applies (sorts m3) (subterms (atoms_of (sorts m3) (formulas m3))) (atom-parts-sorted Applies (sorts m3) (formulas m3) m3-sorted)),
      )

  all-there : (Q : Tm → Type 0) (ts : List Tm) → AllTm Q ts → All Q ts
  all-there Q [] h = All-nil Q
  all-there Q (t ∷ ts) h = All-cons Q t ts h.0 (all-there Q ts h.1)

  pub is-flat : IsFlat Applies f
  is-flat = record { made = m4; formed = all-there (IsFormula Applies (sorts m2)) (formulas m4) m4-sorted; is = refl }

  pub extended : AllTrue M extra e → Extends Applies M s f e
  extended h = record {
    names = front M e ns [];
    sorts = subst (λ w. HasVars f.vars w) names-before env-has;
    facts = subst (λ w. AllTrue M (drop f.hyps f.formulas) w) names-before (subst (λ phis. AllTrue M phis env) (sym (drop-front m4.hyps m4.facts)) (all-facts-true h));
    hyps = subst (λ w. AllTrue M s.hyps e ↔ AllTrue M (take f.hyps f.formulas) w) names-before (subst (λ phis. AllTrue M s.hyps e ↔ AllTrue M phis env) (sym (take-front m4.hyps m4.facts)) hyps-same);
    goal = subst (λ w. Truth M s.goal e ↔ Truth M f.goal w) names-before goal-same;
  }

pub facts-hold : (Applies : (k : ℕ) → List Srt → (S : Srt) → Type 0) → FactsTrue Applies
facts-hold Applies M keeps s extra formed e has h = extended Applies M keeps s extra formed e has h
