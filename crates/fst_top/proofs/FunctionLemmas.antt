-- A function of a tree from its parts, and the functions of a program one after another.
use Rattle.std.proofs.Common.{◌≡◌, ℕ, suc, ◌≤◌, true, List, [], ◌∷◌, ◌++◌, map, length, nat_le, Option, Some, None, refl, ap, ◌∙◌}
use Rattle.std.proofs.Common.{rules, tests}
use Rattle.fst_program.specs.declared.fun.Fun.{Fun}
use Rattle.fst_program.specs.declared.fun.Param.{Param}
use Rattle.fst_program.specs.Plain.{plain_fun, plain_param}
use Rattle.std.proofs.Common.{reverse}
use Rattle.std.proofs.lemmas.List.{map-append, reverse-append}
use Rattle.fst_trees.specs.declared.decl.Decl.{Decl}
use Rattle.fst_trees.specs.declared.decl.FunTree.{FunTree}
use Rattle.fst_trees.specs.declared.decl.ParamTree.{ParamTree}
use Rattle.fst_trees.specs.declared.word.Word.{Word}
use Rattle.fst_top.specs.Built.{var_of}
use Rattle.fst_top.specs.Elaboration.{fun_decl, fun_of_tree, funs_from, given_some, most_funs, program_of, is_blank, is_named, only_if, param_of, params_of_trees, scope_of}
use Rattle.std.proofs.Common.{not, ◌||◌}
use Rattle.fst_top.specs.Functions.{next_fun, next_param}
use Rattle.fst_top.proofs.GatheredLemmas.{prepended, kept}

-- ---- lists

pub params-begin : (met : List (List ℕ)) (p : ParamTree Word) (ps : List (ParamTree Word)) → params_of_trees met (p ∷ ps) ≡ given_some (next_param met p) (λ q. prepended (q ∷ []) (params_of_trees (met ++ q.name ∷ []) ps))
params-begin met p ps = kept (param_of p) (λ q. is_blank q.name || not (is_named q.name met)) (λ q. params_of_trees (met ++ q.name ∷ []) ps)

pub funs-begin : (k : ℕ) (met : List (List ℕ)) (d : Decl Word) (ds : List (Decl Word)) → funs_from k met (d ∷ ds) ≡ given_some (next_fun k met d) (λ f. prepended (f ∷ []) (funs_from (suc k) (met ++ f.name ∷ []) ds))
funs-begin k met d ds = go (fun_decl d)
  where
    go : (o : Option (FunTree Word)) → given_some o (λ tree. given_some (fun_of_tree k tree) (λ f. only_if (not (is_named f.name met)) (given_some (funs_from (suc k) (met ++ f.name ∷ []) ds) (λ fs. Some (f ∷ fs)))))
        ≡ given_some (given_some o (λ tree. given_some (fun_of_tree k tree) (λ f. only_if (not (is_named f.name met)) (Some f)))) (λ f. prepended (f ∷ []) (funs_from (suc k) (met ++ f.name ∷ []) ds))
    go None = refl
    go (Some tree) = kept (fun_of_tree k tree) (λ f. not (is_named f.name met)) (λ f. funs_from (suc k) (met ++ f.name ∷ []) ds)

-- one parameter more
pub scope-more : (ps : List Param) (p : Param) → scope_of (map plain_param (ps ++ p ∷ [])) ≡ var_of (plain_param p) ∷ scope_of (map plain_param ps)
scope-more ps p =
    ap (λ qs. reverse (map var_of qs)) (map-append plain_param ps (p ∷ [])) ∙ ap reverse (map-append var_of (map plain_param ps) (plain_param p ∷ [])) ∙ reverse-append (map var_of (map plain_param ps)) (var_of (plain_param p) ∷ [])

-- ---- programs

map-twice : (fs : List Fun) → map Some (map plain_fun fs) ≡ map (λ (f : Fun). Some (plain_fun f)) fs
map-twice [] = refl
map-twice (f ∷ fs) = ap (λ gs. Some (plain_fun f) ∷ gs) (map-twice fs)

few : (n : ℕ) → n ≤ most_funs → nat_le n most_funs ≡ true
few n h = search (rules, tests)

pub program-of : (ds : List (Decl Word)) (fs : List Fun) → length ds ≤ most_funs → funs_from 0 [] ds ≡ Some (map plain_fun fs) → program_of ds ≡ Some (record { effects = []; lifts = []; funs = map (λ (f : Fun). Some (plain_fun f)) fs })
program-of ds fs h e = rw (few (length ds) h, e) (ap (λ gs. Some (record { effects = []; lifts = []; funs = gs })) (map-twice fs))
