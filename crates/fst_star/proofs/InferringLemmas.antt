-- The inference, from the answers for its parts.
use Rattle.std.proofs.Common.{◌≡◌, ℕ, List, [], ◌∷◌, ◌++◌, map, reverse, Some, refl, ap, ap₂, sym, ◌∙◌}
use Rattle.std.proofs.lemmas.List.{reverse-append, reverse-reverse}
use mathlib.Core.List.{reverse_aux}
use Rattle.fst_base.specs.declared.sort.Sort.{Sort}
use Rattle.fst_base.specs.Sorts.{plain_sort}
use Rattle.fst_base.specs.declared.place.Pos.{Pos}
use Rattle.fst_terms.specs.declared.sequent.Var.{Var}
use Rattle.fst_terms.specs.declared.term.Term.{Term}
use Rattle.fst_terms.specs.Meaning.{Vr, plain_var}
use Rattle.fst_terms.specs.Terms.{Tm, listed, plain_term, plain_terms}
use Rattle.fst_terms.specs.Formulas.{put, puts, sort_of}
use Rattle.fst_program.specs.declared.comp.Arm.{Arm}
use Rattle.fst_program.specs.declared.comp.Comp.{Comp}
use Rattle.fst_program.specs.declared.comp.Comp.TheVariants as V
use Rattle.fst_program.specs.declared.fun.Fun.{Fun}
use Rattle.fst_program.proofs.PlainLemmas.{plain_arms, plain-comp-Match}
use Rattle.fst_program.specs.Paths.{all_divisions, cm_family, demands_of, input_vars, measures_at, own_input, own_vars, start}
use Rattle.fst_program.specs.Plain.{plain_comp, plain_fun}
use Rattle.fst_program.specs.Texts.{Fn, Prog, c_call, fun_at, if_there}
use Rattle.fst_scopes.specs.Scopes.{sorts_in, terms_for}
use Rattle.fst_star.specs.Inference.{call_wp, infer, infer_arm, infer_fun}
use Rattle.fst_star.specs.Inferring.{GivesGoals, infer_of, nothing}
use Rattle.fst_star.specs.Laws.{goals_by}
use Rattle.fst_star.specs.Starting.{param_var, start_vars}
use Rattle.fst_star.specs.Transformers.{Wt, Wts, w_ways}
use Rattle.fst_star.specs.Translation.{Scope, con_ways, divisor_needs, term_needs}
use Rattle.fst_star.proofs.LawLemmas.{goals-meet}
use Rattle.fst_star.proofs.StartingLemmas.{suppose-all}
use Rattle.fst_star.proofs.WayLemmas.{map-twice}

-- ---- calls

pub measured : (f : Fun) (args made : List Term) → map plain_term made ≡ map (λ t. put (terms_for args) (plain_term t)) f.measures → map plain_term made ≡ measures_at (plain_fun f) (map plain_term args)
measured f args made e = e ∙ map-twice plain_term (put (terms_for args)) f.measures

puts-listed : (us : List Tm) (ts : List Term) → listed (puts us (plain_terms ts)) ≡ map (put us) (map plain_term ts)
puts-listed us [] = refl
puts-listed us (t ∷ ts) = ap (λ vs. put us (plain_term t) ∷ vs) (puts-listed us ts)

module _ (P : Prog) (f : Fn) where
  pub called-by : (sc : Scope) (us : List Tm) (s : Tm) (j : ℕ) (args : List Term) (at : ℕ) (rest : Wt)
      → rest ≡ if_there (fun_at P j) (λ g. call_wp P f j g sc (map (put us) (map plain_term args)) s at) nothing
      → divisor_needs (all_divisions [] (plain_terms args)) us rest ≡ infer P f sc us s (c_call j (plain_terms args) at)
  called-by sc us s j args at rest e =
      ap (divisor_needs (all_divisions [] (plain_terms args)) us)
      (e ∙ ap (λ ts. if_there (fun_at P j) (λ g. call_wp P f j g sc ts s at) nothing) (sym (puts-listed us args)))

-- ---- matches

module _ (P : Prog) (f : Fn) where
  pub match-by : (sorts : List Sort) (olds : List Tm) (terms : List Term) (s : Tm) (x : Term) (at : Pos) (arms : List (Arm Comp)) (t : Comp) (arms' : List (Arm Comp)) (terms' : List Term) (sorts' : List Sort) (u u' : Term) (S S' : Sort)
      (ws : Wts) (made : Wt) → t ≡ V.Match x at arms → arms' ≡ arms → terms' ≡ terms → sorts' ≡ sorts
      → plain_term u ≡ put (terms_for terms') (plain_term x) → plain_sort S ≡ sort_of (sorts_in sorts') (put (terms_for terms') (plain_term x)) → u' ≡ u → S' ≡ S
      → ws ≡ con_ways (cm_family (plain_arms arms')) (plain_sort S') (plain_term u') (λ c parts. infer_arm P f (record { sorts = sorts_in sorts; olds = olds }) (terms_for terms) s at.at (plain_arms arms') c parts)
      → made ≡ term_needs (plain_term x) (terms_for terms') (w_ways ws) → made ≡ infer P f (record { sorts = sorts_in sorts; olds = olds }) (terms_for terms) s (plain_comp t)
  match-by sorts olds terms s x at arms t arms' terms' sorts' u u' S S' ws made a b c d e1 e2 g1 g2 w m =
      let sort-is : plain_sort S' ≡ sort_of (sorts_in sorts) (put (terms_for terms) (plain_term x)) =
      ap plain_sort g2 ∙ e2 ∙ ap₂ (λ Ss ts. sort_of (sorts_in Ss) (put (terms_for ts) (plain_term x))) d c in
      let term-is : plain_term u' ≡ put (terms_for terms) (plain_term x) = ap plain_term g1 ∙ e1 ∙ ap (λ ts. put (terms_for ts) (plain_term x)) c in
      m
      ∙ ap₂ (λ ts ws. term_needs (plain_term x) (terms_for ts) (w_ways ws)) c
      (w ∙ ap (λ bs. con_ways (cm_family (plain_arms bs)) (plain_sort S') (plain_term u') (λ c parts. infer_arm P f (record { sorts = sorts_in sorts; olds = olds }) (terms_for terms) s at.at (plain_arms bs) c parts)) b
      ∙ ap₂ (λ S u. con_ways (cm_family (plain_arms arms)) S u (λ c parts. infer_arm P f (record { sorts = sorts_in sorts; olds = olds }) (terms_for terms) s at.at (plain_arms arms) c parts)) sort-is term-is)
      ∙ sym (ap (infer P f (record { sorts = sorts_in sorts; olds = olds }) (terms_for terms) s) (ap plain_comp a ∙ plain-comp-Match x at arms))

-- ---- the start of a function

turned : {A B : Type 0} (g : A → B) (xs ys : List A) → map g (reverse_aux xs ys) ≡ reverse_aux (map g xs) (map g ys)
turned g [] ys = refl
turned g (x ∷ xs) ys = turned g xs (x ∷ ys)

start-turned : (P : Prog) (f : Fn) → (start P f).vars ≡ reverse (start_vars P f)
start-turned P f =
    let own = demands_of f (reverse (own_vars f)) (own_input f) in
    let begun = input_vars P f.effect ++ reverse (map param_var f.params) in
    ap (λ w. w.vars) (suppose-all own begun [] [])
    ∙ sym (reverse-append (map param_var f.params) (reverse (input_vars P f.effect)) ∙ ap (λ vs. vs ++ reverse (map param_var f.params)) (reverse-reverse (input_vars P f.effect)))

pub started-sorts : (P : Prog) (f : Fn) (vars : List Var) (sorts : List Sort) → map plain_var vars ≡ start_vars P f → map plain_sort sorts ≡ map (λ (x : Vr). x.sort) (map plain_var vars)
    → sorts_in sorts ≡ map (λ (x : Vr). x.sort) (start P f).vars
started-sorts P f vars sorts v s =
    ap reverse (s ∙ ap (map (λ (x : Vr). x.sort)) v) ∙ sym (ap (map (λ (x : Vr). x.sort)) (start-turned P f) ∙ turned (λ (x : Vr). x.sort) (start_vars P f) [])

pub started-measures : (f : Fn) (terms olds : List Term) → terms_for terms ≡ own_vars f → map plain_term olds ≡ measures_at f (map plain_term terms) → map plain_term olds ≡ measures_at f (reverse (own_vars f))
started-measures f terms olds t o = o ∙ ap (measures_at f) (sym (reverse-reverse (map plain_term terms)) ∙ ap reverse t)

-- ---- the laws

pub gives-goals : (P : Prog) (k : ℕ) (v : Wt) → v ≡ infer_of P k → GivesGoals P k v
gives-goals P k v e sorted disciplined f is =
    ap (goals_by P k f) (e ∙ ap (λ o. if_there o (λ f. infer_fun P f) nothing) is) ∙ goals-meet P sorted disciplined k f is
