-- Lists of the code: the ways of a transformer, and what is put last.
use Rattle.std.proofs.Common.{◌≡◌, ℕ, zero, suc, ◌+◌, ◌<◌, List, [], ◌∷◌, ◌++◌, map, length, get_or, take, reverse, refl, sym, ap, ap₂, ◌∙◌, arith, add-one}
use Rattle.fst_terms.specs.declared.term.Term.{Term}
use Rattle.fst_terms.specs.Terms.{plain_term, shift}
use Rattle.fst_star.specs.declared.wp.Way.{Way}
use Rattle.fst_star.specs.declared.wp.Wp.{Wp}
use Rattle.fst_star.specs.Transformers.{Wts, w_none, w_way, wshift, ws_shift}
use Rattle.fst_star.specs.Translating.{joined_ways}
use Rattle.fst_star.proofs.Calls.{map-reverse}
use Rattle.fst_star.specs.Plain.{plain_wp, plain_ways}
use Rattle.fst_scopes.specs.Scopes.{terms_for}

pub map-twice : {A B C : Type 0} (f : A → B) (g : B → C) (xs : List A) → map (λ x. g (f x)) xs ≡ map g (map f xs)
map-twice f g [] = refl
map-twice f g (x ∷ xs) = ap (λ ys. g (f x) ∷ ys) (map-twice f g xs)

pub plain-joined : (xs ys : List (Way Wp)) → plain_ways (xs ++ ys) ≡ joined_ways (plain_ways xs) (plain_ways ys)
plain-joined [] ys = refl
plain-joined (x ∷ xs) ys = ap (w_way x.choice (plain_term x.given) (plain_wp x.rest)) (plain-joined xs ys)

shift-joined : (from by : ℕ) (vs ws : Wts) → ws_shift from by (joined_ways vs ws) ≡ joined_ways (ws_shift from by vs) (ws_shift from by ws)
shift-joined from by w_none ws = refl
shift-joined from by (w_way c phi w more) ws = ap (w_way c (shift from by phi) (wshift from by w)) (shift-joined from by more ws)

take-suc : {A : Type 0} (xs : List A) (k : ℕ) (d : A) → k < length xs → take (suc k) xs ≡ take k xs ++ get_or xs k d ∷ []
take-suc [] k d h = absurd (omega arith)
take-suc (x ∷ xs) zero d h = refl
take-suc (x ∷ xs) (suc k) d h = ap (λ ys. x ∷ ys) (take-suc xs k d (omega arith))

pub take-more : {A : Type 0} (xs : List A) (k : ℕ) (d : A) → k < length xs → take (k + 1) xs ≡ take k xs ++ get_or xs k d ∷ []
take-more xs k d h = rw add-one (take-suc xs k d h)

-- one way more
pub shift-ways-more : (from by : ℕ) (raised new ways : List (Way Wp)) (k : ℕ) (x y : Way Wp) → k < length ways → x ≡ get_or ways k x → plain_ways raised ≡ ws_shift from by (plain_ways (take k ways))
    → new ≡ raised ++ y ∷ [] → y.choice ≡ x.choice → plain_term y.given ≡ shift from by (plain_term x.given) → plain_wp y.rest ≡ wshift from by (plain_wp x.rest)
    → plain_ways new ≡ ws_shift from by (plain_ways (take (k + 1) ways))
shift-ways-more from by raised new ways k x y h is e p a b c =
    ap plain_ways p ∙ plain-joined raised (y ∷ []) ∙ ap₂ joined_ways e (ap₂ (λ c w. w_way c (plain_term y.given) w w_none) a c ∙ ap (λ t. w_way x.choice t (wshift from by (plain_wp x.rest)) w_none) b)
    ∙ sym (shift-joined from by (plain_ways (take k ways)) (plain_ways (x ∷ [])))
    ∙ ap (ws_shift from by) (sym (plain-joined (take k ways) (x ∷ [])))
    ∙ ap (λ y. ws_shift from by (plain_ways (take k ways ++ y ∷ []))) is
    ∙ ap (λ ws. ws_shift from by (plain_ways ws)) (sym (take-more ways k x h))

pub raised-terms : (us us' : List Term) → map plain_term us' ≡ map (shift 0 1) (map plain_term us) → terms_for us' ≡ map (shift 0 1) (terms_for us)
raised-terms us us' e = ap reverse e ∙ sym (map-reverse (shift 0 1) (map plain_term us))
