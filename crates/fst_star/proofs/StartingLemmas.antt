-- Where a walk begins, from the code's lists.
use Rattle.std.proofs.Common.{◌≡◌, ℕ, zero, suc, None, slice_get, ◌+◌, ◌-◌, ◌<◌, if◌then◌else◌, List, [], ◌∷◌, ◌++◌, length, map, reverse, refl, sym, ap, ap₂, ◌∙◌, arith, add-one}
use Rattle.std.proofs.lemmas.List.{reverse-append, reverse-reverse}
use Rattle.fst_terms.specs.declared.sequent.Var.{Var}
use Rattle.fst_terms.specs.declared.term.Term.{Term}
use Rattle.fst_terms.specs.Formulas.{vars_from}
use Rattle.fst_terms.specs.Meaning.{Vr, plain_var}
use Rattle.fst_terms.specs.Terms.{Tm, t_var, plain_term}
use Rattle.fst_program.specs.declared.goal.Choice.{Choice}
use Rattle.fst_program.specs.Paths.{Way, suppose_all, demands_of, given, input_name, input_vars, own_input, own_vars, refinements, start}
use Rattle.fst_program.specs.declared.definition.EffectDef.{EffectDef}
use Rattle.fst_program.specs.declared.effect.Effect.TheVariants as effect
use Rattle.fst_program.specs.declared.fun.Fun.{Fun}
use Rattle.fst_program.specs.declared.fun.Param.{Param}
use Rattle.fst_program.specs.declared.fun.Program.{Program}
use Rattle.fst_program.specs.Plain.{plain_effect, plain_fun, plain_param, plain_program}
use Rattle.fst_program.specs.Texts.{Fn, Prm, Prog, if_there, is_user}
use Rattle.fst_star.specs.Met.{plain_trail}
use Rattle.fst_scopes.specs.Scopes.{terms_for}
use Rattle.fst_star.specs.Starting.{param_var, start_vars}
use Rattle.fst_star.proofs.Needs.{append-again, append-none}
use Rattle.fst_star.proofs.TrailLemmas.{map-end, stand-made}

terms-last : (us : List Term) (x : Term) → terms_for (us ++ x ∷ []) ≡ plain_term x ∷ terms_for us
terms-last us x = ap reverse (map-end plain_term us x) ∙ reverse-append (map plain_term us) (plain_term x ∷ [])

-- one variable more
pub vars-more : (made new : List Term) (x : Term) (end at : ℕ) → at < end → new ≡ made ++ x ∷ [] → plain_term x ≡ t_var (end - 1 - at)
    → terms_for made ≡ vars_from (end - at) at → terms_for new ≡ vars_from (end - (at + 1)) (at + 1)
vars-more made new x end at h e is i =
    let next : end - at ≡ suc (end - 1 - at) = omega (arith, h) in
    let here : end - 1 - at ≡ end - suc at = omega arith in
    rw add-one (ap terms_for e ∙ terms-last made x ∙ ap₂ ◌∷◌ is i ∙ ap (λ n. t_var (end - 1 - at) ∷ vars_from n at) next ∙ ap (λ n. vars_from n (suc at)) here)

pub vars-all : (made : List Term) (from count end at : ℕ) → end ≡ from + count → at ≡ count → terms_for made ≡ vars_from (end - at) at → terms_for made ≡ vars_from from count
vars-all made from count end at e p i = let here : end - at ≡ from = omega (arith, e, p) in i ∙ ap₂ vars_from here p

length-map : {A B : Type 0} (f : A → B) (xs : List A) → length (map f xs) ≡ length xs
length-map f [] = refl
length-map f (x ∷ xs) = ap suc (length-map f xs)

pub own-vars-by : (f : Fun) (from count n : ℕ) → from ≡ (if is_user f.effect then 1 else 0) → count ≡ n → n ≡ length f.params → vars_from from count ≡ own_vars (plain_fun f)
own-vars-by f from count n p q r = ap₂ vars_from p (q ∙ r ∙ sym (length-map plain_param f.params))

-- one parameter more
pub refined : (p : Prm) (ps : List Prm) (t : Tm) (ts us us' : List Tm) (old mid new : List Tm) → us' ≡ t ∷ us → mid ≡ old ++ given p.refine us' → new ≡ mid ++ refinements ps ts us'
    → new ≡ old ++ refinements (p ∷ ps) (t ∷ ts) us
refined p ps t ts us us' old mid new u m n =
    n ∙ ap (λ l. l ++ refinements ps ts us') m ∙ sym (append-again old (given p.refine us') (refinements ps ts us'))
    ∙ ap (λ us. old ++ (given p.refine us ++ refinements ps ts us)) u

-- a function of an effect that isn't there has no input
get-none : (ds : List EffectDef) (i : ℕ) → None ≡ slice_get ds i → slice_get (map plain_effect ds) i ≡ None
get-none [] zero h = refl
get-none [] (suc i) h = refl
get-none (d ∷ ds) zero h = cc
get-none (d ∷ ds) (suc i) h = get-none ds i h

pub vars-none : (P : Program) (f : Fun) (e : ℕ) (vars : List Var) (params : List Param) → map plain_var vars ≡ map param_var (map plain_param params) → params ≡ f.params → f.effect ≡ effect.User e
    → None ≡ slice_get P.effects e → map plain_var vars ≡ start_vars (plain_program P) (plain_fun f)
vars-none P f e vars params v p x n =
    let own = map param_var (map plain_param f.params) in
    let missing : input_vars (plain_program P) (effect.User e) ≡ [] = ap (λ o. if_there o (λ d. record { name = input_name; sort = d.input } ∷ []) []) (get-none P.effects e n) in
    v ∙ ap (λ ps. map param_var (map plain_param ps)) p ∙ sym (append-none own)
    ∙ ap (λ is. own ++ reverse is) (sym missing ∙ ap (input_vars (plain_program P)) (sym x))

at_way : List Vr → List Tm → List Choice → Way
at_way vars hyps choices = record { vars = vars; hyps = hyps; choices = choices }

pub suppose-all : (phis : List Tm) (vars : List Vr) (hyps : List Tm) (choices : List Choice)
    → suppose_all phis (record { vars = vars; hyps = hyps; choices = choices }) ≡ record { vars = vars; hyps = reverse phis ++ hyps; choices = choices }
suppose-all [] vars hyps choices = refl
suppose-all (phi ∷ phis) vars hyps choices =
    suppose-all phis vars (phi ∷ hyps) choices
    ∙ ap (λ hs. record { vars = vars; hyps = hs; choices = choices }) (append-again (reverse phis) (phi ∷ []) hyps ∙ ap (λ hs. hs ++ hyps) (sym (reverse-append (phi ∷ []) phis)))

pub started : (P : Prog) (f : Fn) (vars : List Var) (args hyps : List Term) (input : Tm) (choices : List Choice)
    → map plain_var vars ≡ start_vars P f → terms_for args ≡ own_vars f → input ≡ own_input f → map plain_term hyps ≡ demands_of f (map plain_term args) input → choices ≡ []
    → plain_trail (record { vars = vars; hyps = hyps; choices = choices }) ≡ start P f
started P f vars args hyps input choices v a i h c =
    let turned : map plain_term args ≡ reverse (own_vars f) = sym (reverse-reverse (map plain_term args)) ∙ ap reverse a in
    let own = demands_of f (reverse (own_vars f)) (own_input f) in
    let asks : map plain_term hyps ≡ own = h ∙ ap₂ (demands_of f) turned i in
    let begun : reverse (map plain_var vars) ≡ input_vars P f.effect ++ reverse (map param_var f.params) =
    ap reverse v ∙ reverse-append (map param_var f.params) (reverse (input_vars P f.effect)) ∙ ap (λ vs. vs ++ reverse (map param_var f.params)) (reverse-reverse (input_vars P f.effect)) in
    stand-made _ _ _ _ _ _ begun (ap reverse asks ∙ sym (append-none (reverse own))) (ap reverse c)
    ∙ sym (suppose-all own (input_vars P f.effect ++ reverse (map param_var f.params)) [] [])
