-- Each elaborated program is built.
use Rattle.std.proofs.Common.{◌≡◌, ℕ, zero, suc, ◌+◌, false, not, ◌&&◌, ◌||◌, nat_eq, nat_le, List, [], ◌∷◌, ◌++◌, map, length, slice_get, Option, Some, None, refl, sym, ap, ◌∙◌, subst, arith}
use mathlib.Core.List.{reverse_aux}
use Rattle.fst_base.specs.Sorts.{Srt, s_unit, s_bool, same_sort}
use Rattle.fst_base.proofs.SortLemmas.{same_sort-decides}
use Rattle.fst_terms.specs.Terms.{Tm}
use Rattle.fst_terms.specs.Meaning.{Vr}
use Rattle.fst_terms.specs.Propositional.{SortPropositional, TmPropositional, VarsPropositional}
use Rattle.fst_program.specs.declared.effect.Effect.TheVariants as effect
use Rattle.fst_program.specs.Texts.{Prm, Fn, Prog, if_there}
use Rattle.fst_trees.specs.declared.decl.Decl.{Decl}
use Rattle.fst_trees.specs.declared.decl.FunTree.{FunTree}
use Rattle.fst_trees.specs.declared.decl.ParamTree.{ParamTree}
use Rattle.fst_trees.specs.declared.form.Form.{Form}
use Rattle.fst_trees.specs.declared.sort.SortTree.{SortTree, out-SortTree}
use Rattle.fst_trees.specs.declared.sort.SortTree.TheOpen as S
use Rattle.fst_trees.specs.declared.word.Word.{Word}
use Rattle.fst_top.specs.Built.{CmBuilt, ParamsBuilt, ClauseBuilt, FnBuilt, IsBuilt, sorts_of, var_of}
use Rattle.fst_top.specs.Elaboration.{Scope, clause_of, fun_decl, fun_of_tree, funs_from, is_blank, is_named, is_none, is_pure_name, most_funs, param_of, params_of_trees, program_of, result_name, scope_of, sort_layer, sort_of_tree, term_of, text_of, where_none}
use Rattle.fst_top.proofs.TypingLemmas.{sorts, some-given, some-only, some-same}
use Rattle.fst_top.proofs.TypedTreeLemmas.{form-typed, body-typed}

-- ---- parameters

sort-built : (tree : SortTree Word) (T : Srt) → sort_of_tree tree ≡ Some T → SortPropositional T
sort-built tree T e = go (out-SortTree Word tree) e
  where
    go : (x : S.SortTree-F Word (SortTree Word)) → sort_layer x ≡ Some T → SortPropositional T
    go S.Bool e = subst SortPropositional (some-same s_bool T e) tt
    go S.Unit e = subst SortPropositional (some-same s_unit T e) tt
    go x e = cc

none-there : {A B : Type 0} (o : Option A) (p : Option B) (b : B) → where_none o p ≡ Some b → p ≡ Some b
none-there None p b e = e
none-there (Some a) p b e = cc

-- a parameter of a built sort, not a ghost one, and without refinement
abbrev ParamBuilt : Prm → Type 0
ParamBuilt q = SortPropositional q.sort × (q.hidden ≡ false) × (q.refine ≡ None)

param-built : (p : ParamTree Word) (q : Prm) → param_of p ≡ Some q → ParamBuilt q
param-built p q e =
    let s = some-given (sort_of_tree p.sort) _ q e in
    let r = some-only (not p.hidden) _ q s.1.1 in
    let made = some-same (record { name = p.name.text; sort = s.0; hidden = false; refine = None }) q (none-there p.refine _ q r.1) in
    subst ParamBuilt made (sort-built p.sort s.0 s.1.0, refl, refl)

params-built : (met : List (List ℕ)) (ps : List (ParamTree Word)) (qs : List Prm) → params_of_trees met ps ≡ Some qs → ParamsBuilt qs
params-built met [] qs e = subst ParamsBuilt (some-same [] qs e) tt
params-built met (p ∷ ps) qs e =
    let s = some-given (param_of p) _ qs e in
    let q = s.0 in
    let r = some-only (is_blank q.name || not (is_named q.name met)) _ qs s.1.1 in
    let more = some-given (params_of_trees (met ++ q.name ∷ []) ps) _ qs r.1 in
    let built = param-built p q s.1.0 in
    subst ParamsBuilt (some-same (q ∷ more.0) qs more.1.1) (built.0, built.1, built.2, params-built (met ++ q.name ∷ []) ps more.0 more.1.0)

-- ---- scopes

turned-vars : (xs ys : List Vr) → VarsPropositional xs → VarsPropositional ys → VarsPropositional (reverse_aux xs ys)
turned-vars [] ys h k = k
turned-vars (x ∷ xs) ys h k = turned-vars xs (x ∷ ys) h.1 (h.0, k)

pub params-vars : (ps : List Prm) → ParamsBuilt ps → VarsPropositional (map var_of ps)
params-vars [] h = tt
params-vars (p ∷ ps) h = (h.0, params-vars ps h.3)

scope-vars : (ps : List Prm) → ParamsBuilt ps → VarsPropositional (scope_of ps)
scope-vars ps h = turned-vars (map var_of ps) [] (params-vars ps h) tt

turned-sorts : (ps : List Prm) (ys : List Vr) → sorts (reverse_aux (map var_of ps) ys) ≡ reverse_aux (map (λ (p : Prm). p.sort) ps) (sorts ys)
turned-sorts [] ys = refl
turned-sorts (p ∷ ps) ys = turned-sorts ps (var_of p ∷ ys)

scope-sorts : (ps : List Prm) → sorts (scope_of ps) ≡ sorts_of ps
scope-sorts ps = turned-sorts ps []

-- ---- functions

clause-built : (o : Option (Form Word)) (xs : Scope) (c : Option Tm) → VarsPropositional xs → clause_of o xs ≡ Some c → ClauseBuilt (sorts xs) c
clause-built None xs c h e = subst (ClauseBuilt (sorts xs)) (some-same None c e) tt
clause-built (Some f) xs c h e =
    let t = some-given (term_of f xs) _ c e in
    let b = some-only (same_sort t.0.sort s_bool) _ c t.1.1 in
    let typed = form-typed f xs t.0 h t.1.0 in
    subst (ClauseBuilt (sorts xs)) (some-same (Some t.0.term) c b.1) (subst (TmPropositional (sorts xs) t.0.term) ((same_sort-decides t.0.sort s_bool).0 b.0) typed.term)

pub fun-built : (k : ℕ) (f : FunTree Word) (g : Fn) → fun_of_tree k f ≡ Some g → FnBuilt g
fun-built k f g e =
    let head = some-only (is_pure_name f.head.effect && is_none f.head.measures && nat_eq f.head.«unfold» 1 && not f.joined) _ g e in
    let params = some-given (params_of_trees [] f.head.params) _ g head.1 in
    let ps = params.0 in
    let sort = some-given (sort_of_tree f.head.sort) _ g params.1.1 in
    let T = sort.0 in
    let needs = some-given (clause_of f.head.needs (scope_of ps)) _ g sort.1.1 in
    let gives = some-given (clause_of f.head.gives (record { name = result_name; sort = T } ∷ scope_of ps)) _ g needs.1.1 in
    let text = some-given (text_of f.body (scope_of ps)) _ g gives.1.1 in
    let fits = some-only (same_sort text.0.sort T) _ g text.1.1 in
    let built = params-built [] f.head.params ps params.1.0 in
    let vars = scope-vars ps built in
    let result = sort-built f.head.sort T sort.1.0 in
    let typed = body-typed f.body (scope_of ps) text.0 vars text.1.0 in
    let made : record { name = f.head.name.text; place = f.head.name.at.at; params = ps; effect = effect.Pure; sort = T; needs = needs.0; gives = gives.0; measures = []; unfolds = 1; body = text.0.text; group = k } ≡ g = some-same _ g fits.1 in
    subst FnBuilt made (record {
      pure = refl;
      params = built;
      sort = result;
      needs = subst (λ Ss. ClauseBuilt Ss needs.0) (scope-sorts ps) (clause-built f.head.needs (scope_of ps) needs.0 vars needs.1.0);
      gives = subst (λ Ss. ClauseBuilt (T ∷ Ss) gives.0) (scope-sorts ps) (clause-built f.head.gives (record { name = result_name; sort = T } ∷ scope_of ps) gives.0 (result, vars) gives.1.0);
      measures = refl;
      body = subst (λ Ss. CmBuilt Ss text.0.text T) (scope-sorts ps) (subst (CmBuilt (sorts (scope_of ps)) text.0.text) ((same_sort-decides text.0.sort T).0 fits.0) typed.text);
    })

pub fun-group : (k : ℕ) (f : FunTree Word) (g : Fn) → fun_of_tree k f ≡ Some g → g.group ≡ k
fun-group k f g e =
    let head = some-only (is_pure_name f.head.effect && is_none f.head.measures && nat_eq f.head.«unfold» 1 && not f.joined) _ g e in
    let params = some-given (params_of_trees [] f.head.params) _ g head.1 in
    let ps = params.0 in
    let sort = some-given (sort_of_tree f.head.sort) _ g params.1.1 in
    let T = sort.0 in
    let needs = some-given (clause_of f.head.needs (scope_of ps)) _ g sort.1.1 in
    let gives = some-given (clause_of f.head.gives (record { name = result_name; sort = T } ∷ scope_of ps)) _ g needs.1.1 in
    let text = some-given (text_of f.body (scope_of ps)) _ g gives.1.1 in
    let fits = some-only (same_sort text.0.sort T) _ g text.1.1 in
    let made : record { name = f.head.name.text; place = f.head.name.at.at; params = ps; effect = effect.Pure; sort = T; needs = needs.0; gives = gives.0; measures = []; unfolds = 1; body = text.0.text; group = k } ≡ g = some-same _ g fits.1 in
    sym (ap (λ (g : Fn). g.group) made)

-- ---- programs

funs-built : (k : ℕ) (met : List (List ℕ)) (ds : List (Decl Word)) (fs : List Fn) → funs_from k met ds ≡ Some fs → (i : ℕ) (f : Fn) → slice_get fs i ≡ Some f → FnBuilt f
funs-built k met [] fs e i f at = go fs (some-same [] fs e) i at
  where
    go : (fs : List Fn) → [] ≡ fs → (i : ℕ) → slice_get fs i ≡ Some f → FnBuilt f
    go [] e zero at = cc
    go [] e (suc i) at = cc
    go (g ∷ gs) e i at = cc
funs-built k met (d ∷ ds) fs e i f at =
    let tree = some-given (fun_decl d) _ fs e in
    let one = some-given (fun_of_tree k tree.0) _ fs tree.1.1 in
    let fresh = some-only (not (is_named one.0.name met)) _ fs one.1.1 in
    let more = some-given (funs_from (suc k) (met ++ one.0.name ∷ []) ds) _ fs fresh.1 in
    let all : one.0 ∷ more.0 ≡ fs = some-same _ fs more.1.1 in
    go one.0 more.0 i (subst (λ gs. slice_get gs i ≡ Some f) (sym all) at) (fun-built k tree.0 one.0 one.1.0) (funs-built (suc k) (met ++ one.0.name ∷ []) ds more.0 more.1.0)
  where
    go : (g : Fn) (gs : List Fn) (i : ℕ) → slice_get (g ∷ gs) i ≡ Some f → FnBuilt g → ((i : ℕ) (f : Fn) → slice_get gs i ≡ Some f → FnBuilt f) → FnBuilt f
    go g gs zero at h later = subst FnBuilt (some-same _ f at) h
    go g gs (suc i) at h later = later i f at

funs-group : (k : ℕ) (met : List (List ℕ)) (ds : List (Decl Word)) (fs : List Fn) → funs_from k met ds ≡ Some fs → (i : ℕ) (f : Fn) → slice_get fs i ≡ Some f → f.group ≡ k + i
funs-group k met [] fs e i f at = go fs (some-same [] fs e) i at
  where
    go : (fs : List Fn) → [] ≡ fs → (i : ℕ) → slice_get fs i ≡ Some f → f.group ≡ k + i
    go [] e zero at = cc
    go [] e (suc i) at = cc
    go (g ∷ gs) e i at = cc
funs-group k met (d ∷ ds) fs e i f at =
    let tree = some-given (fun_decl d) _ fs e in
    let one = some-given (fun_of_tree k tree.0) _ fs tree.1.1 in
    let fresh = some-only (not (is_named one.0.name met)) _ fs one.1.1 in
    let more = some-given (funs_from (suc k) (met ++ one.0.name ∷ []) ds) _ fs fresh.1 in
    let all : one.0 ∷ more.0 ≡ fs = some-same _ fs more.1.1 in
    go one.0 more.0 i (subst (λ gs. slice_get gs i ≡ Some f) (sym all) at) (fun-group k tree.0 one.0 one.1.0) (funs-group (suc k) (met ++ one.0.name ∷ []) ds more.0 more.1.0)
  where
    go : (g : Fn) (gs : List Fn) (i : ℕ) → slice_get (g ∷ gs) i ≡ Some f → g.group ≡ k → ((i : ℕ) (f : Fn) → slice_get gs i ≡ Some f → f.group ≡ suc k + i) → f.group ≡ k + i
    go g gs zero at h later = let q : g.group ≡ f.group = ap (λ (g : Fn). g.group) (some-same _ f at) in omega (arith, q, h)
    go g gs (suc i) at h later = let q : f.group ≡ suc k + i = later i f at in omega (arith, q)

-- the functions of a program that isn't erased
fun-there : (fs : List Fn) (k : ℕ) → if_there (slice_get (map Some fs) k) (λ (f : Option Fn). f) None ≡ slice_get fs k
fun-there [] zero = refl
fun-there [] (suc k) = refl
fun-there (f ∷ fs) zero = refl
fun-there (f ∷ fs) (suc k) = fun-there fs k

pub program-built : (ds : List (Decl Word)) (P : Prog) → program_of ds ≡ Some P → IsBuilt P
program-built ds P e =
    let few = some-only (nat_le (length ds) most_funs) _ P e in
    let funs = some-given (funs_from 0 [] ds) _ P few.1 in
    let made : record { effects = []; lifts = []; funs = map Some funs.0 } ≡ P = some-same _ P funs.1.1 in
    subst IsBuilt made (record { effects = refl; lifts = refl; funs = λ k f at. funs-built 0 [] ds funs.0 funs.1.0 k f (sym (fun-there funs.0 k) ∙ at); groups = λ k f at. let h = funs-group 0 [] ds funs.0 funs.1.0 k f (sym (fun-there funs.0 k) ∙ at) in omega (arith, h) })
