-- Members of lists of terms, and of the list of first occurrences.
use Rattle.std.proofs.Common.{◌≡◌, Bool, true, false, if◌then◌else◌, List, [], ◌∷◌, ◌++◌, IsTrue, refl, sym, subst}
use Rattle.std.specs.Prelude.{⊤}
use Rattle.fst_terms.specs.Terms.{Tm}
use Rattle.fst_terms.specs.Same.{same_term, is_among, firsts}
use Rattle.fst_terms.proofs.SameLemmas.{same_term-decides}

pub among-here : (t : Tm) (us : List Tm) → IsTrue (is_among t (t ∷ us))
among-here t us = rw ((same_term-decides t t).1 refl) refl

pub among-front : (t : Tm) (us ws : List Tm) → IsTrue (is_among t us) → IsTrue (is_among t (us ++ ws))
among-front t [] ws h = cc
among-front t (u ∷ us) ws h = go (among-front t us ws) (same_term t u) h
  where
    go : (IsTrue (is_among t us) → IsTrue (is_among t (us ++ ws))) → (b : Bool) → IsTrue (if b then true else is_among t us) → IsTrue (if b then true else is_among t (us ++ ws))
    go ih true k = refl
    go ih false k = ih k

pub among-back : (t : Tm) (us ws : List Tm) → IsTrue (is_among t ws) → IsTrue (is_among t (us ++ ws))
among-back t [] ws h = h
among-back t (u ∷ us) ws h = go (among-back t us ws h) (same_term t u)
  where
    go : IsTrue (is_among t (us ++ ws)) → (b : Bool) → IsTrue (if b then true else is_among t (us ++ ws))
    go ih true = refl
    go ih false = ih

-- each of these terms is among those
abbrev pub Includes : List Tm → List Tm → Type 0
Includes [] us = ⊤
Includes (t ∷ ts) us = IsTrue (is_among t us) × Includes ts us

-- the terms met before stay, and each further one is there
pub firsts-keep : (met ts : List Tm) (t : Tm) → IsTrue (is_among t met) → IsTrue (is_among t (firsts met ts))
firsts-keep met [] t h = h
firsts-keep met (u ∷ us) t h = go (firsts-keep met us t h) (firsts-keep (met ++ u ∷ []) us t (among-front t met (u ∷ []) h)) (is_among u met)
  where
    go : IsTrue (is_among t (firsts met us)) → IsTrue (is_among t (firsts (met ++ u ∷ []) us)) → (b : Bool) → IsTrue (is_among t (firsts (if b then met else met ++ u ∷ []) us))
    go old new true = old
    go old new false = new

pub firsts-include : (met ts : List Tm) → Includes ts (firsts met ts)
firsts-include met [] = tt
firsts-include met (t ∷ ts) = go (firsts-include met ts) (firsts-include (met ++ t ∷ []) ts) (is_among t met) refl
  where
    go : Includes ts (firsts met ts) → Includes ts (firsts (met ++ t ∷ []) ts) → (b : Bool) → is_among t met ≡ b → IsTrue (is_among t (firsts (if b then met else met ++ t ∷ []) ts)) × Includes ts (firsts (if b then met else met ++ t ∷ []) ts)
    go old new true q = (firsts-keep met ts t q, old)
    go old new false q = (firsts-keep (met ++ t ∷ []) ts t (among-back t met (t ∷ []) (among-here t [])), new)

-- a fact of all terms met and of all that come is one of all that are kept
abbrev pub AllTm : (Tm → Type 0) → List Tm → Type 0
AllTm Q [] = ⊤
AllTm Q (t ∷ ts) = Q t × AllTm Q ts

pub all-append : (Q : Tm → Type 0) (ts us : List Tm) → AllTm Q ts → AllTm Q us → AllTm Q (ts ++ us)
all-append Q [] us h k = k
all-append Q (t ∷ ts) us h k = (h.0, all-append Q ts us h.1 k)

pub firsts-all : (Q : Tm → Type 0) (met ts : List Tm) → AllTm Q met → AllTm Q ts → AllTm Q (firsts met ts)
firsts-all Q met [] h k = h
firsts-all Q met (t ∷ ts) h k = go (firsts-all Q met ts h k.1) (firsts-all Q (met ++ t ∷ []) ts (all-append Q met (t ∷ []) h (k.0, tt)) k.1) (is_among t met)
  where
    go : AllTm Q (firsts met ts) → AllTm Q (firsts (met ++ t ∷ []) ts) → (b : Bool) → AllTm Q (firsts (if b then met else met ++ t ∷ []) ts)
    go old new true = old
    go old new false = new

pub all-at : (Q : Tm → Type 0) (ts : List Tm) (t : Tm) → AllTm Q ts → IsTrue (is_among t ts) → Q t
all-at Q [] t h k = cc
all-at Q (u ∷ us) t h k = go (λ a. all-at Q us t h.1 a) (same_term t u) refl k
  where
    go : (IsTrue (is_among t us) → Q t) → (b : Bool) → same_term t u ≡ b → IsTrue (if b then true else is_among t us) → Q t
    go ih true q a = subst Q (sym ((same_term-decides t u).0 q)) h.0
    go ih false q a = ih a
