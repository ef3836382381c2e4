-- Arms, arguments and parameters that are erased as lists.
use Rattle.std.proofs.Common.{◌≡◌, ℕ, zero, suc, ◌+◌, ◌<◌, ◌≤◌, Bool, true, false, not, if◌then◌else◌, List, [], ◌∷◌, ◌++◌, map, reverse, option_map, filter, drop, Result, Ok, IfOk, length, get_or, slice_get, Option, Some, None, refl, sym, ap, ap₂, ◌∙◌, subst, arith}
use Rattle.std.proofs.lemmas.Option.{slice_get_read}
use Rattle.std.proofs.lemmas.List.{append_assoc, append-nil}
use Rattle.fst_terms.specs.Terms.{Tm, row, t_more, t_prim, t_app, plain_term, plain_terms}
use Rattle.fst_program.specs.declared.comp.Arm.{Arm}
use Rattle.fst_program.specs.declared.comp.Comp.{Comp}
use Rattle.fst_program.specs.Erasure.{Scope, erased_term, erased_terms, erased_args, erased_arms, erased_text, erased_fun, unless_ghost, erased}
use Rattle.fst_program.specs.Plain.{plain_comp, comp_arms, plain_param, plain_effect, plain_lift, plain_fun, plain_program}
use Rattle.fst_program.specs.Texts.{c_arm, c_match, Prm, Prog, if_there}
use Rattle.fst_program.proofs.PlainLemmas.{plain_arms, plain-comp-Match}
use Rattle.fst_base.specs.declared.op.Op.{Op}
use Rattle.fst_base.specs.declared.place.Pos.{Pos}
use Rattle.fst_base.specs.declared.sort.Sort.{Sort}
use Rattle.fst_base.specs.Sorts.{plain_sort}
use Rattle.fst_terms.specs.declared.term.Term.{Term}
use Rattle.fst_terms.specs.declared.term.Term.TheVariants as T
use Rattle.fst_terms.proofs.PlainLemmas.{plain-term-Prim, plain-term-App}
use Rattle.fst_program.specs.declared.comp.Comp.TheVariants as V
use Rattle.fst_program.specs.declared.definition.EffectDef.{EffectDef}
use Rattle.fst_program.specs.declared.definition.LiftDef.{LiftDef}
use Rattle.fst_program.specs.declared.fun.Fun.{Fun}
use Rattle.fst_program.specs.declared.fun.Param.{Param}
use Rattle.fst_program.specs.declared.fun.Program.{Program}
use Rattle.fst_code.specs.declared.code.CodeFun.{CodeFun}
use Rattle.fst_code.specs.Plain.{plain_code, plain_code_fun}
use Rattle.fst_erase.specs.Parts.{plain_arm, erased_arm, hides, shown_args, bare_param, shown_params}

-- ---- arms

pub arms-listed : (arms : List (Arm Comp)) → plain_arms arms ≡ comp_arms (map plain_arm arms)
arms-listed [] = refl
arms-listed (arm ∷ more) = ap (c_arm arm.con arm.names (plain_comp arm.body)) (arms-listed more)

pub arms-erased : (P : Prog) (scope : Scope) (arms made : List (Arm Comp)) → map plain_arm made ≡ map (λ a. erased_arm P scope (plain_arm a)) arms → plain_arms made ≡ erased_arms P scope (plain_arms arms)
arms-erased P scope arms made q = arms-listed made ∙ ap comp_arms q ∙ go arms
  where
    go : (arms : List (Arm Comp)) → comp_arms (map (λ a. erased_arm P scope (plain_arm a)) arms) ≡ erased_arms P scope (plain_arms arms)
    go [] = refl
    go (arm ∷ more) = ap (c_arm arm.con arm.names (erased_text P (map (λ x. false) arm.names ++ scope) (plain_comp arm.body))) (go more)

-- ---- terms and arguments

pub terms-erased : (scope : Scope) (ts : List Tm) → row (map (erased_term scope) ts) ≡ erased_terms scope (row ts)
terms-erased scope [] = refl
terms-erased scope (t ∷ ts) = ap (t_more (erased_term scope t)) (terms-erased scope ts)

mapped : (scope : Scope) (ts : List Term) → row (map (λ t. erased_term scope (plain_term t)) ts) ≡ erased_terms scope (plain_terms ts)
mapped scope [] = refl
mapped scope (t ∷ ts) = ap (t_more (erased_term scope (plain_term t))) (mapped scope ts)

pub args-erased : (scope : Scope) (ps : List Prm) (ts : List Tm) → row (shown_args scope ps ts) ≡ erased_args scope ps (row ts)
args-erased scope ps [] = refl
args-erased scope [] (t ∷ ts) = ap (t_more (erased_term scope t)) (args-erased scope [] ts)
args-erased scope (p ∷ ps) (t ∷ ts) = go p.hidden (args-erased scope ps ts)
  where
    go : (b : Bool) → row (shown_args scope ps ts) ≡ erased_args scope ps (row ts) → row (if b then shown_args scope ps ts else erased_term scope t ∷ shown_args scope ps ts) ≡ (if b then erased_args scope ps (row ts) else t_more (erased_term scope t) (erased_args scope ps (row ts)))
    go true h = h
    go false h = ap (t_more (erased_term scope t)) h

pub drop-item : {X : Type 0} (xs : List X) (i : ℕ) (x : X) → i < length xs → x ≡ get_or xs i x → drop i xs ≡ x ∷ drop (i + 1) xs
drop-item {X} xs i x lt q = let n : i + 1 ≡ suc i = omega arith in go xs i (slice_get_read xs (length xs) i x refl lt q) ∙ ap (λ n. x ∷ drop n xs) (sym n)
  where
    go : (xs : List X) (i : ℕ) → slice_get xs i ≡ Some x → drop i xs ≡ x ∷ drop (suc i) xs
    go [] zero e = cc
    go [] (suc i) e = cc
    go (y ∷ ys) zero e = let p : y ≡ x = cc in ap (λ y. y ∷ ys) p
    go (y ∷ ys) (suc i) e = go ys i e

tail-drop : {X : Type 0} (xs : List X) (i : ℕ) → (ys : List X) (x : X) → drop i xs ≡ x ∷ ys → drop (suc i) xs ≡ ys
tail-drop [] zero ys x q = cc
tail-drop [] (suc i) ys x q = cc
tail-drop (z ∷ xs) zero ys x q = cc
tail-drop (z ∷ xs) (suc i) ys x q = tail-drop xs i ys x q

none-drop : {X : Type 0} (xs : List X) (i : ℕ) → drop i xs ≡ [] → drop (suc i) xs ≡ []
none-drop [] zero q = refl
none-drop [] (suc i) q = refl
none-drop (z ∷ xs) zero q = cc
none-drop (z ∷ xs) (suc i) q = none-drop xs i q

-- one argument more, which the parameter hides or not
pub shown-next : (scope : Scope) (ps : List Prm) (i : ℕ) (t : Tm) (ts : List Tm) → shown_args scope (drop i ps) (t ∷ ts) ≡ (if hides (drop i ps) then shown_args scope (drop (i + 1) ps) ts else erased_term scope t ∷ shown_args scope (drop (i + 1) ps) ts)
shown-next scope ps i t ts = let n : i + 1 ≡ suc i = omega arith in rw n (go (drop i ps) refl)
  where
    go : (qs : List Prm) → drop i ps ≡ qs → shown_args scope qs (t ∷ ts) ≡ (if hides qs then shown_args scope (drop (suc i) ps) ts else erased_term scope t ∷ shown_args scope (drop (suc i) ps) ts)
    go [] q = rw (none-drop ps i q) refl
    go (p ∷ qs) q = rw (tail-drop ps i qs p q) refl

if-true : {A : Type 0} (b : Bool) (x y : A) → b ≡ true → (if b then x else y) ≡ x
if-true true x y q = refl
if-true false x y q = cc

if-false : {A : Type 0} (b : Bool) (x y : A) → b ≡ false → (if b then x else y) ≡ y
if-false true x y q = cc
if-false false x y q = refl

drop-next : {X : Type 0} (xs : List X) (i : ℕ) → i < length xs → (x : X) × (drop i xs ≡ x ∷ drop (i + 1) xs)
drop-next {X} xs i lt = let n : i + 1 ≡ suc i = omega arith in let h = go xs i lt in (h.0, h.1 ∙ ap (λ n. h.0 ∷ drop n xs) (sym n))
  where
    go : (xs : List X) (i : ℕ) → i < length xs → (x : X) × (drop i xs ≡ x ∷ drop (suc i) xs)
    go [] i lt = absurd (omega (arith, lt))
    go (x ∷ xs) zero lt = (x, refl)
    go (x ∷ xs) (suc i) lt = go xs i (omega (arith, lt))

-- the arguments that are left from one place on
abbrev pub left_from : Scope → List Prm → List Term → ℕ → List Tm
left_from scope ps ts i = shown_args scope (drop i ps) (map plain_term (drop i ts))

pub skipped : (scope : Scope) (ps : List Prm) (ts : List Term) (i : ℕ) → i < length ts → hides (drop i ps) ≡ true → left_from scope ps ts i ≡ left_from scope ps ts (i + 1)
skipped scope ps ts i lt h =
    let d = drop-next ts i lt in
    ap (λ us. shown_args scope (drop i ps) (map plain_term us)) d.1 ∙ shown-next scope ps i (plain_term d.0) (map plain_term (drop (i + 1) ts)) ∙ if-true _ _ _ h

pub left-next : (scope : Scope) (ps : List Prm) (ts : List Term) (i : ℕ) (t : Term) → i < length ts → t ≡ get_or ts i t → hides (drop i ps) ≡ false → left_from scope ps ts i ≡ erased_term scope (plain_term t) ∷ left_from scope ps ts (i + 1)
left-next scope ps ts i t lt is h =
    ap (λ us. shown_args scope (drop i ps) (map plain_term us)) (drop-item ts i t lt is) ∙ shown-next scope ps i (plain_term t) (map plain_term (drop (i + 1) ts)) ∙ if-false _ _ _ h

map-more : (ts : List Term) (t : Term) → map plain_term (ts ++ t ∷ []) ≡ map plain_term ts ++ plain_term t ∷ []
map-more [] t = refl
map-more (x ∷ ts) t = ap (λ us. plain_term x ∷ us) (map-more ts t)

pub made-next : (made made1 : List Term) (x : Term) (e : Tm) (r r1 whole : List Tm) → made1 ≡ made ++ x ∷ [] → plain_term x ≡ e → r ≡ e ∷ r1 → map plain_term made ++ r ≡ whole → map plain_term made1 ++ r1 ≡ whole
made-next made made1 x e r r1 whole p q s h =
    ap (λ ts. map plain_term ts ++ r1) p ∙ ap (λ us. us ++ r1) (map-more made x) ∙ append_assoc (map plain_term made) (plain_term x ∷ []) r1 ∙ ap (λ e. map plain_term made ++ e ∷ r1) q ∙ ap (λ us. map plain_term made ++ us) (sym s) ∙ h

drop-all : {X : Type 0} (xs : List X) (n : ℕ) → length xs ≤ n → drop n xs ≡ []
drop-all [] zero le = refl
drop-all [] (suc n) le = refl
drop-all (x ∷ xs) zero le = absurd (omega (arith, le))
drop-all (x ∷ xs) (suc n) le = drop-all xs n (omega (arith, le))

pub all-made : (scope : Scope) (ps : List Prm) (ts made : List Term) (n : ℕ) → length ts ≤ n → map plain_term made ++ left_from scope ps ts n ≡ shown_args scope ps (map plain_term ts) → plain_terms made ≡ erased_args scope ps (plain_terms ts)
all-made scope ps ts made n le h =
    let end : left_from scope ps ts n ≡ [] = ap (λ us. shown_args scope (drop n ps) (map plain_term us)) (drop-all ts n le) ∙ ends (drop n ps) in
    ap row (sym (append-nil (map plain_term made)) ∙ ap (λ us. map plain_term made ++ us) (sym end) ∙ h) ∙ args-erased scope ps (map plain_term ts)
  where
    ends : (qs : List Prm) → shown_args scope qs [] ≡ []
    ends qs = refl

-- ---- parameters

pub param-next : (p : Prm) (ps : List Prm) → shown_params (p ∷ ps) ≡ (if p.hidden then shown_params ps else bare_param p ∷ shown_params ps)
param-next p ps = go p.hidden
  where
    go : (b : Bool) → map bare_param (if not b then p ∷ filter (λ p. not p.hidden) ps else filter (λ p. not p.hidden) ps) ≡ (if b then shown_params ps else bare_param p ∷ shown_params ps)
    go true = refl
    go false = refl

pub hides-at : (ps : List Param) (i : ℕ) (p : Param) → i < length ps → p ≡ get_or ps i p → p.hidden ≡ hides (drop i (map plain_param ps))
hides-at ps i p lt q = go ps i (slice_get_read ps (length ps) i p refl lt q)
  where
    go : (ps : List Param) (i : ℕ) → slice_get ps i ≡ Some p → p.hidden ≡ hides (drop i (map plain_param ps))
    go [] zero q = cc
    go [] (suc i) q = cc
    go (x ∷ ps) zero q = let same : x ≡ p = cc in sym (ap (λ (p : Param). p.hidden) same)
    go (x ∷ ps) (suc i) q = go ps i q

pub hiddens : (ps : List Param) → map (λ (p : Param). p.hidden) ps ≡ map (λ (q : Prm). q.hidden) (map plain_param ps)
hiddens [] = refl
hiddens (p ∷ ps) = ap (λ bs. p.hidden ∷ bs) (hiddens ps)

-- ---- results that are put together

pub ok-of : {A E : Type 0} (r : Result A E) (a : A) (Q : A → Type 0) → r ≡ Ok a → IfOk r Q → Q a
ok-of r a Q q h = subst (λ r. IfOk r Q) q h

pub prim-erased : (scope : Scope) (term : Term) (o : Op) (S S' : Sort) (ts us made : List Term) (at : Pos) → term ≡ T.Prim o S ts at → S' ≡ S → us ≡ ts
    → map plain_term made ≡ map (λ t. erased_term scope (plain_term t)) us → plain_term (T.Prim o S' made at) ≡ erased_term scope (plain_term term)
prim-erased scope term o S S' ts us made at q s u e =
    plain-term-Prim o S' made at ∙ rw (s, e, u) (ap (λ xs. t_prim o (plain_sort S) xs at.at) (mapped scope ts)) ∙ sym (ap (erased_term scope) (ap plain_term q ∙ plain-term-Prim o S ts at))

pub app-erased : (scope : Scope) (term : Term) (k : ℕ) (S S' : Sort) (ts us made : List Term) → term ≡ T.App k S ts → S' ≡ S → us ≡ ts
    → map plain_term made ≡ map (λ t. erased_term scope (plain_term t)) us → plain_term (T.App k S' made) ≡ erased_term scope (plain_term term)
app-erased scope term k S S' ts us made q s u e =
    plain-term-App k S' made ∙ rw (s, e, u) (ap (λ xs. t_app k (plain_sort S) xs) (mapped scope ts)) ∙ sym (ap (erased_term scope) (ap plain_term q ∙ plain-term-App k S ts))

pub match-erased : (P : Prog) (s s1 : List Bool) (text : Comp) (t t' : Term) (at : Pos) (arms bs made : List (Arm Comp)) → text ≡ V.Match t at arms → bs ≡ arms → s1 ≡ s
    → plain_term t' ≡ erased_term (reverse s) (plain_term t) → map plain_arm made ≡ map (λ a. erased_arm P (reverse s1) (plain_arm a)) bs
    → plain_comp (V.Match t' at made) ≡ erased_text P (reverse s) (plain_comp text)
match-erased P s s1 text t t' at arms bs made q b e p h =
    let all : plain_arms made ≡ erased_arms P (reverse s) (plain_arms arms) = arms-erased P (reverse s) arms made (h ∙ ap (λ s. map (λ a. erased_arm P (reverse s) (plain_arm a)) bs) e ∙ ap (map (λ a. erased_arm P (reverse s) (plain_arm a))) b) in
    plain-comp-Match t' at made ∙ ap₂ (λ t arms. c_match t at.at arms) p all ∙ sym (ap (erased_text P (reverse s)) (ap plain_comp q ∙ plain-comp-Match t at arms))

pub fun-made : (P : Prog) (fun : Fun) (name : _) (params : List Param) (sort : Sort) (body : Comp) → name ≡ fun.name → map plain_param params ≡ shown_params (map plain_param fun.params) → sort ≡ fun.sort
    → plain_comp body ≡ erased_text P (reverse (map (λ p. p.hidden) fun.params)) (plain_comp fun.body)
    → plain_code_fun (record { name = name; params = params; effect = fun.effect; sort = sort; body = body; group = fun.group }) ≡ erased_fun P (plain_fun fun)
fun-made P fun name params sort body n ps s b = rw (n, ps, s, b, hiddens fun.params) refl

pub code-made : (p : Program) (effects : List EffectDef) (lifts : List LiftDef) (funs : List (Option CodeFun)) → effects ≡ p.effects → lifts ≡ p.lifts
    → map (option_map plain_code_fun) funs ≡ map (λ f. unless_ghost (plain_program p) (plain_fun f)) p.funs → plain_code (record { effects = effects; lifts = lifts; funs = funs }) ≡ erased (plain_program p)
code-made p effects lifts funs e l f = rw (e, l, f) (ap (λ fs. record { effects = map plain_effect p.effects; lifts = map plain_lift p.lifts; funs = fs }) (go p.funs))
  where
    go : (fs : List Fun) → map (λ f. unless_ghost (plain_program p) (plain_fun f)) fs ≡ map (λ f. if_there f (unless_ghost (plain_program p)) None) (map (λ f. Some (plain_fun f)) fs)
    go [] = refl
    go (f ∷ fs) = ap (λ gs. unless_ghost (plain_program p) (plain_fun f) ∷ gs) (go fs)
