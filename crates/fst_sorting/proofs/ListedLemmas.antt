-- The functions of a program, one after the other.
use Rattle.std.proofs.Common.{◌≡◌, ℕ, suc, ◌+◌, ◌-◌, ◌<◌, true, false, List, [], ◌∷◌, ◌++◌, map, length, take, get_or, refl, sym, ap, ◌∙◌, arith}
use Rattle.std.proofs.lemmas.List.{append-nil, take_more, map-append, length-map}
use Rattle.fst_names.specs.declared.reference.Ref.{Ref}
use Rattle.fst_names.specs.Namings.{ref_at}
use Rattle.fst_names.specs.Trees.{WDecl, w_effect, w_lift, w_fun, plain_decl, plain_wfun}
use Rattle.fst_trees.specs.declared.decl.Decl.{Decl}
use Rattle.fst_sorting.specs.declared.listing.Placed as P
use Rattle.fst_sorting.specs.Functions.{Placed, place_in, funs_from, funs_of}
use Rattle.fst_sorting.specs.Listed.{placed_in, all_placed, last_group, with_fun, with_decl, listed}

-- ---- the last one

pub group-none : (fs : List P.Placed) → 0 ≡ length fs → last_group 0 (all_placed fs) ≡ 0
group-none [] e = refl
group-none (f ∷ fs) e = absurd (omega (arith, e))

from-last : (g : ℕ) (f : P.Placed) (fs : List P.Placed) (d : P.Placed) → last_group g (all_placed (f ∷ fs)) ≡ (get_or (f ∷ fs) (length fs) d).group
from-last g f [] d = refl
from-last g f (h ∷ fs) d = from-last f.group h fs d

pub group-last : (fs : List P.Placed) (n : ℕ) (d : P.Placed) → n ≡ length fs → (n ≡ 0 → ⊥) → d ≡ get_or fs (n - 1) d → last_group 0 (all_placed fs) ≡ d.group
group-last [] n d e h q = absurd (h e)
group-last (f ∷ fs) n d e h q =
    let k : n - 1 ≡ length fs = omega (arith, e) in
    from-last 0 f fs d ∙ ap (λ i. (get_or (f ∷ fs) i d).group) (sym k) ∙ ap (λ p. p.group) (sym q)

pub ruleset groups = (group-none, group-last)

-- ---- one more

pub fun-more : (fs : List P.Placed) (p : P.Placed) (n : ℕ) → n ≡ length fs → p.number ≡ n → p.group ≡ place_in p.tree.now.joined (last_group 0 (all_placed fs)) n
    → all_placed (fs ++ p ∷ []) ≡ with_fun (all_placed fs) (plain_wfun p.tree.now)
fun-more fs p n e f g =
    let long : n ≡ length (all_placed fs) = e ∙ sym (length-map fs placed_in) in
    map-append placed_in fs (p ∷ [])
    ∙ ap (λ q. all_placed fs ++ q ∷ []) (same (f ∙ long) (g ∙ ap (place_in p.tree.now.joined (last_group 0 (all_placed fs))) long))
  where
    same : {k h : ℕ} → p.number ≡ k → p.group ≡ h → placed_in p ≡ record { tree = plain_wfun p.tree.now; number = k; group = h }
    same a b = λ i. record { tree = plain_wfun p.tree.now; number = a i; group = b i }

pub joined-group : (g k : ℕ) → place_in true g k ≡ g
joined-group g k = refl

pub own-group : (g k : ℕ) → place_in false g k ≡ k
own-group g k = refl

pub ruleset funs = (fun-more)

-- ---- all of them

one : (g k : ℕ) → WDecl Ref → List Placed
one g k d = funs_from g k (d ∷ [])

more-from : (g k : ℕ) (ds : List (WDecl Ref)) (d : WDecl Ref) → funs_from g k (ds ++ d ∷ []) ≡ funs_from g k ds ++ funs_from (last_group g (funs_from g k ds)) (k + length (funs_from g k ds)) (d ∷ [])
more-from g k [] d = ap (λ m. funs_from g m (d ∷ [])) (let e : k ≡ k + 0 = omega arith in e)
more-from g k (w_effect e ∷ ds) d = more-from g k ds d
more-from g k (w_lift l ∷ ds) d = more-from g k ds d
more-from g k (w_fun f ∷ ds) d =
    let h = place_in f.joined g k in
    let rest = funs_from h (suc k) ds in
    let count : suc k + length rest ≡ k + suc (length rest) = omega arith in
    ap (λ fs. record { tree = f; number = k; group = h } ∷ fs) (more-from h (suc k) ds d ∙ ap (λ m. rest ++ funs_from (last_group h rest) m (d ∷ [])) count)

behind : (fs : List Placed) (d : Decl Ref) → fs ++ funs_from (last_group 0 fs) (0 + length fs) (plain_decl ref_at d ∷ []) ≡ with_decl fs d
behind fs d = go (plain_decl ref_at d) (let e : 0 + length fs ≡ length fs = omega arith in e)
  where
    more : WDecl Ref → List Placed
    more (w_effect e) = fs
    more (w_lift l) = fs
    more (w_fun f) = with_fun fs f

    go : (w : WDecl Ref) → 0 + length fs ≡ length fs → fs ++ funs_from (last_group 0 fs) (0 + length fs) (w ∷ []) ≡ more w
    go (w_effect e) q = append-nil fs
    go (w_lift l) q = append-nil fs
    go (w_fun f) q = ap (λ k. fs ++ record { tree = f; number = k; group = place_in f.joined (last_group 0 fs) k } ∷ []) q

pub listed-none : listed [] ≡ []
unfolding listed
listed-none = refl

pub listed-step : (ds : List (Decl Ref)) (i : ℕ) (d : Decl Ref) → d ≡ get_or ds i d → i < length ds → listed (take (i + 1) ds) ≡ with_decl (listed (take i ds)) d
unfolding listed
listed-step ds i d e h =
    ap (λ es. funs_of (map (plain_decl ref_at) es)) (take_more ds i d h ∙ ap (λ x. take i ds ++ x ∷ []) (sym e))
    ∙ ap funs_of (map-append (plain_decl ref_at) (take i ds) (d ∷ []))
    ∙ more-from 0 0 (map (plain_decl ref_at) (take i ds)) (plain_decl ref_at d)
    ∙ behind (funs_of (map (plain_decl ref_at) (take i ds))) d

pub ruleset lists = (listed-none, listed-step)
