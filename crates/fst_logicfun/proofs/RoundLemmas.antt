-- A round of facts, from what its two steps add.
use Rattle.std.proofs.Common.{◌≡◌, ℕ, zero, suc, ◌+◌, ◌<◌, Bool, true, false, if◌then◌else◌, List, [], ◌∷◌, ◌++◌, length, get_or, map, reverse, take, drop, flat_map, Some, refl, sym, subst, ap, ap₂, ◌∙◌, add-one}
use Rattle.std.proofs.lemmas.List.{append-nil, append_assoc, length-map, map-append, take-append-drop}
use Rattle.std.proofs.lemmas.Grind.{flat_map-append}
use Rattle.fst_terms.specs.Terms.{Tm, plain_term}
use Rattle.fst_terms.specs.Cleared.{cleared}
use Rattle.fst_terms.specs.Same.{is_among, firsts}
use Rattle.fst_terms.specs.Flats.{parts_of_each}
use Rattle.fst_terms.specs.DataFacts.{again}
use Rattle.fst_terms.specs.Formulas.{vars_from}
use Rattle.fst_terms.specs.Meaning.{Sqt, plain_var, plain_sequent}
use Rattle.fst_terms.specs.declared.sequent.Var.{Var}
use Rattle.fst_terms.specs.declared.sequent.Sequent.{Sequent}
use Rattle.fst_terms.specs.declared.term.Term.{Term}
use Rattle.fst_program.specs.FunctionFacts.{all_clear, applications, function_facts, of_application, posted, postconditions, unfolded, unfoldings}
use Rattle.fst_program.specs.Plain.{plain_fun, plain_program}
use Rattle.fst_program.specs.Texts.{Prog}
use Rattle.fst_program.specs.declared.fun.Program.{Program}
use Rattle.fst_logicfun.specs.Rounds.{next, Gathered, Moved}
use Rattle.fst_logicfun.proofs.ApplicationLemmas.{picked_out, applications-more, all-more}
use Rattle.fst_logicfun.proofs.PutLemmas.{map-map}

-- what is added to the terms that were met
abbrev new_firsts : (met : List Tm) → List Tm → List Tm
new_firsts met [] = []
new_firsts met (t ∷ ts) = if is_among t met then new_firsts met ts else t ∷ new_firsts (met ++ t ∷ []) ts

one-more : (b : Bool) (t : Tm) (met xs ys : List Tm) (f : List Tm → List Tm) → f met ≡ met ++ xs → f (met ++ t ∷ []) ≡ (met ++ t ∷ []) ++ ys
    → f (if b then met else met ++ t ∷ []) ≡ met ++ (if b then xs else t ∷ ys)
one-more true t met xs ys f e g = e
one-more false t met xs ys f e g = g ∙ append_assoc met (t ∷ []) ys

firsts-adds : (met ts : List Tm) → firsts met ts ≡ met ++ new_firsts met ts
firsts-adds met [] = sym (append-nil met)
firsts-adds met (t ∷ ts) = one-more (is_among t met) t met (new_firsts met ts) (new_firsts (met ++ t ∷ []) ts) (λ met. firsts met ts) (firsts-adds met ts) (firsts-adds (met ++ t ∷ []) ts)

drop-front : (xs ys : List Tm) → drop (length xs) (xs ++ ys) ≡ ys
drop-front [] ys = refl
drop-front (x ∷ xs) ys = drop-front xs ys

take-front : (xs ys : List Tm) → take (length xs) (xs ++ ys) ≡ xs
take-front [] ys = refl
take-front (x ∷ xs) ys = ap (λ zs. x ∷ zs) (take-front xs ys)

map-drop : (k : ℕ) (ts : List Term) → map plain_term (drop k ts) ≡ drop k (map plain_term ts)
map-drop zero ts = refl
map-drop (suc k) [] = refl
map-drop (suc k) (t ∷ ts) = map-drop k ts

module _ (us : List Tm) (each : Tm → List Tm) where
  -- the facts of these applications, without lets and places
  abbrev pub facts_in : List Tm → List Tm
  facts_in ts = map (cleared us) (flat_map each ts)

  facts-append : (ts vs : List Tm) → facts_in (ts ++ vs) ≡ facts_in ts ++ facts_in vs
  facts-append ts vs = ap (map (cleared us)) (flat_map-append each ts vs) ∙ map-append (cleared us) (flat_map each ts) (flat_map each vs)

  -- the facts of one application more
  pub facts-more : (old now new : List Tm) (ts : List Term) (k : ℕ) (d : Term) → k < length ts → now ≡ old ++ facts_in (map plain_term (take k ts))
      → new ≡ now ++ map (cleared us) (each (plain_term (get_or ts k d))) → new ≡ old ++ facts_in (map plain_term (take (k + 1) ts))
  facts-more =
      all-more (λ (t : Term). map (cleared us) (each (plain_term t))) (λ ts. facts_in (map plain_term ts)) refl
      (λ t ts. map-append (cleared us) (each (plain_term t)) (flat_map each (map plain_term ts))) (λ met ts. met ++ ts) (λ met ts us. sym (append_assoc met ts us))

  module _ (phis : List Tm) where
    round-by : (A F A' F' : List Tm) (used : ℕ) → Gathered us each phis A F used → F' ≡ F ++ facts_in (drop used A) → A' ≡ firsts A (picked_out (parts_of_each (drop (length F) F'))) → Moved us each phis F (length A) A' F'
    round-by A F A' F' used g e f =
        let N : List Tm = facts_in (drop used A) in
        let all : F' ≡ facts_in A = e ∙ ap (λ fs. fs ++ N) g.facts_are ∙ sym (facts-append (take used A) (drop used A)) ∙ ap facts_in (take-append-drop used A) in
        let behind : drop (length F) F' ≡ N = ap (drop (length F)) e ∙ drop-front F N in
        let more : A' ≡ firsts A (picked_out (parts_of_each N)) = f ∙ ap (λ ts. firsts A (picked_out (parts_of_each ts))) behind in
        let apps : A' ≡ applications (phis ++ F') =
        more ∙ ap (λ m. firsts m (picked_out (parts_of_each N))) g.apps_are ∙ sym (applications-more (phis ++ F) N) ∙ ap applications (append_assoc phis F N ∙ ap (λ fs. phis ++ fs) (sym e)) in
        let first : take (length A) A' ≡ A = ap (take (length A)) (more ∙ firsts-adds A (picked_out (parts_of_each N))) ∙ take-front A (new_firsts A (picked_out (parts_of_each N))) in
        record {
          gathered = record { apps_are = apps; facts_are = all ∙ ap facts_in (sym first) };
          next = all ∙ ap facts_in g.apps_are;
        }

  -- a round, from the two steps of the code
  pub round-from : (apps facts apps' facts' slice front fslice behind : List Term) (used known : ℕ) → known ≡ length facts → slice ≡ apps → front ≡ drop used slice
      → map plain_term facts' ≡ map plain_term facts ++ facts_in (map plain_term front) → fslice ≡ facts' → behind ≡ drop known fslice
      → map plain_term apps' ≡ firsts (map plain_term apps) (picked_out (parts_of_each (map plain_term behind)))
      → (phis : List Tm) → Gathered us each phis (map plain_term apps) (map plain_term facts) used → Moved us each phis (map plain_term facts) (length apps) (map plain_term apps') (map plain_term facts')
  round-from apps facts apps' facts' slice front fslice behind used known k sl fr e fs be f phis g =
      let e' : map plain_term facts' ≡ map plain_term facts ++ facts_in (drop used (map plain_term apps)) =
      e ∙ ap (λ ts. map plain_term facts ++ facts_in ts) (ap (map plain_term) (fr ∙ ap (drop used) sl) ∙ map-drop used apps) in
      let f' : map plain_term apps' ≡ firsts (map plain_term apps) (picked_out (parts_of_each (drop (length (map plain_term facts)) (map plain_term facts')))) =
      f ∙ ap (λ ts. firsts (map plain_term apps) (picked_out (parts_of_each ts)))
      (ap (map plain_term) (be ∙ ap (drop known) fs) ∙ map-drop known facts' ∙ ap (λ n. drop n (map plain_term facts')) (k ∙ sym (length-map facts plain_term))) in
      let P : ℕ → Type 0 = λ n. Moved us each phis (map plain_term facts) n (map plain_term apps') (map plain_term facts') in
      subst P (length-map apps plain_term) (round-by phis _ _ _ _ used g e' f')

  -- after so many rounds
  abbrev pub Turned : (phis : List Tm) (apps facts : List Term) (used i : ℕ) → Type 0
  Turned phis apps facts used i = Gathered us each phis (map plain_term apps) (map plain_term facts) used × (map plain_term facts ≡ again i (next us each phis) [])

  pub turn-start : (phis : List Tm) (start apps facts : List Term) → start ≡ [] → facts ≡ [] → map plain_term apps ≡ firsts (map plain_term start) (picked_out (parts_of_each phis)) → Turned phis apps facts 0 0
  turn-start phis start apps facts s n e =
      let none : map plain_term facts ≡ [] = ap (map plain_term) n in
      let all : map plain_term apps ≡ applications phis = e ∙ ap (λ ts. firsts (map plain_term ts) (picked_out (parts_of_each phis))) s ∙ sym (applications-more [] phis) in
      (record { apps_are = all ∙ ap applications (sym (append-nil phis) ∙ ap (λ fs. phis ++ fs) (sym none)); facts_are = none }, none)

  pub turn-more : (phis : List Tm) (apps facts apps' facts' : List Term) (used count i : ℕ) → Turned phis apps facts used i → count ≡ length apps
      → (Gathered us each phis (map plain_term apps) (map plain_term facts) used → Moved us each phis (map plain_term facts) (length apps) (map plain_term apps') (map plain_term facts'))
      → Turned phis apps' facts' count (i + 1)
  turn-more phis apps facts apps' facts' used count i t c f =
      let m : Moved us each phis (map plain_term facts) (length apps) (map plain_term apps') (map plain_term facts') = f t.0 in
      let P : ℕ → Type 0 = λ n. Gathered us each phis (map plain_term apps') (map plain_term facts') n in
      (subst P (sym c) m.gathered, rw add-one (m.next ∙ ap (next us each phis) t.1))

-- the facts that were appended
pub appended-is : (old new more : List Term) (es : List Tm) → new ≡ old ++ more → map plain_term more ≡ es → map plain_term new ≡ map plain_term old ++ es
appended-is old new more es e f = ap (map plain_term) e ∙ map-append plain_term old more ∙ ap (λ ts. map plain_term old ++ ts) f

pub posts-by : (p : Program) (s : Sequent) (n count : ℕ) (phis : List Tm) → n ≡ length s.vars → count ≡ length p.funs
    → again count (next (vars_from 0 n) (of_application (plain_program p) posted) phis) [] ≡ postconditions (plain_program p) (plain_sequent s) phis
posts-by p s n count phis e f =
    ap (λ n. again count (next (vars_from 0 n) (of_application (plain_program p) posted) phis) []) (e ∙ sym (length-map s.vars plain_var))
    ∙ ap (λ k. again k (next (vars_from 0 (length (plain_sequent s).vars)) (of_application (plain_program p) posted) phis) []) (f ∙ sym (length-map p.funs (λ f. Some (plain_fun f))))

-- facts that are cleared by the code
pub cleared-by : (us vs : List Tm) (facts slice : List Term) (fs made : List Tm) → vs ≡ us → slice ≡ facts → map plain_term facts ≡ fs → made ≡ map (λ t. cleared vs (plain_term t)) slice → made ≡ map (cleared us) fs
cleared-by us vs facts slice fs made e s f h = h ∙ map-map (cleared vs) slice ∙ ap₂ (λ vs ts. map (cleared vs) ts) e (ap (map plain_term) s ∙ f)

-- the facts of a sequent, from those of each kind
pub both-facts : (p : Program) (s : Sequent) (depth n : ℕ) (vars : List Var) (phis fslice fslice' ways wslice wslice' all given gslice made : List Term)
    → n ≡ length s.vars → vars ≡ s.vars
    → map plain_term phis ≡ map (cleared (vars_from 0 n)) ((plain_sequent s).hyps ++ (plain_sequent s).goal ∷ [])
    → fslice ≡ phis → map plain_term ways ≡ again depth (next (vars_from 0 n) (of_application (plain_program p) (unfolded (plain_program p) (reverse (map plain_var vars)))) (map plain_term fslice)) []
    → fslice' ≡ phis → wslice ≡ ways → all ≡ fslice' ++ wslice
    → map plain_term given ≡ postconditions (plain_program p) (plain_sequent s) (map plain_term all)
    → wslice' ≡ ways → gslice ≡ given → made ≡ wslice' ++ gslice
    → map plain_term made ≡ function_facts (plain_program p) (plain_sequent s) depth
both-facts p s depth n vars phis fslice fslice' ways wslice wslice' all given gslice made ns vs cl f1 u f2 w1 a g w2 g1 m =
    let P : Prog = plain_program p in
    let S : Sqt = plain_sequent s in
    let size : n ≡ length S.vars = ns ∙ sym (length-map s.vars plain_var) in
    let start : List Tm = all_clear (length S.vars) (S.hyps ++ S.goal ∷ []) in
    let starts : map plain_term phis ≡ start = cl ∙ ap (λ n. map (cleared (vars_from 0 n)) (S.hyps ++ S.goal ∷ [])) size in
    let unfolds : map plain_term ways ≡ unfoldings P S start depth =
    u ∙ ap (λ ts. again depth (next (vars_from 0 n) (of_application P (unfolded P (reverse (map plain_var vars)))) ts) []) (ap (map plain_term) f1 ∙ starts)
    ∙ ap₂ (λ n vs. again depth (next (vars_from 0 n) (of_application P (unfolded P (reverse vs))) start) []) size (ap (map plain_var) vs) in
    let both : map plain_term all ≡ start ++ unfoldings P S start depth = ap (map plain_term) (a ∙ ap₂ ◌++◌ f2 w1) ∙ map-append plain_term phis ways ∙ ap₂ ◌++◌ starts unfolds in
    let posts : map plain_term given ≡ postconditions P S (start ++ unfoldings P S start depth) = g ∙ ap (postconditions P S) both in
    ap (map plain_term) (m ∙ ap₂ ◌++◌ w2 g1) ∙ map-append plain_term ways given ∙ ap₂ ◌++◌ unfolds posts

-- the hypotheses and the goal
pub all-by : (s : Sequent) (all slice : List Term) → all ≡ slice ++ s.goal ∷ [] → slice ≡ s.hyps → map plain_term all ≡ (plain_sequent s).hyps ++ (plain_sequent s).goal ∷ []
all-by s all slice e f = ap (map plain_term) (e ∙ ap (λ hs. hs ++ s.goal ∷ []) f) ∙ map-append plain_term s.hyps (s.goal ∷ [])
