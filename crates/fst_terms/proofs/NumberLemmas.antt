-- The numbered terms of a flat form hold their arguments, and a number tells its term.
use Rattle.std.proofs.Common.{◌≡◌, ℕ, zero, suc, Bool, true, false, if◌then◌else◌, List, [], ◌∷◌, ◌++◌, Some, IsTrue, refl, sym, ap}
use Rattle.std.specs.Prelude.{flat_map}
use Rattle.std.proofs.lemmas.Bool.{false≢true}
use Rattle.fst_base.specs.declared.op.Op.TheVariants as op
use Rattle.fst_base.specs.Sorts.{Srt}
use Rattle.fst_terms.specs.Terms.{Tm, Tms, t_prim, t_if, t_app, t_end, t_more, listed}
use Rattle.fst_terms.specs.Same.{same_term, is_among, firsts}
use Rattle.fst_terms.specs.Flats.{parts_of, parts_of_all, parts_of_each, literals}
use Rattle.fst_terms.proofs.SameLemmas.{same_term-decides}
use Rattle.fst_terms.proofs.MemberLemmas.{AllTm, all-append, firsts-all, firsts-keep, firsts-include, Includes}
use Rattle.fst_terms.specs.Skeletons.{args_of}
use Rattle.fst_terms.specs.DataFacts.{subterms}
use Rattle.fst_terms.specs.FlatForms.{components, component_pair, numbered_terms}
use Rattle.fst_terms.specs.Marks.{one_more, number_by, at_number}
use Rattle.fst_terms.proofs.NamingLemmas.{includes-left, includes-right}

-- the term's arguments are among these
abbrev pub ArgsAmong : List Tm → Tm → Type 0
ArgsAmong ws t = Includes (listed (args_of t)) ws

self-in : (t : Tm) (ws : List Tm) → Includes (parts_of t) ws → IsTrue (is_among t ws)
self-in (t_prim o S ts at) ws h = h.0
self-in (t_if c t u) ws h = h.0
self-in (t_app k S ts) ws h = h.0
self-in t ws h = h.0

args-in : (ts : Tms) (ws : List Tm) → Includes (parts_of_all ts) ws → Includes (listed ts) ws
args-in t_end ws h = tt
args-in (t_more t ts) ws h = (self-in t ws (includes-left (parts_of t) (parts_of_all ts) ws h), args-in ts ws (includes-right (parts_of t) (parts_of_all ts) ws h))

mutual
  parts-closed : (t : Tm) (ws : List Tm) → Includes (parts_of t) ws → AllTm (ArgsAmong ws) (parts_of t)
  parts-closed (t_prim o S ts at) ws h = (args-in ts ws h.1, all-parts-closed ts ws h.1)
  parts-closed (t_if c t u) ws h =
      let hct = includes-left (parts_of c ++ parts_of t) (parts_of u) ws h.1 in (
        tt,
        all-append (ArgsAmong ws) (parts_of c ++ parts_of t) (parts_of u)
            (all-append (ArgsAmong ws) (parts_of c) (parts_of t) (parts-closed c ws (includes-left (parts_of c) (parts_of t) ws hct)) (parts-closed t ws (includes-right (parts_of c) (parts_of t) ws hct)))
            (parts-closed u ws (includes-right (parts_of c ++ parts_of t) (parts_of u) ws h.1)),
      )
  parts-closed (t_app k S ts) ws h = (args-in ts ws h.1, all-parts-closed ts ws h.1)
  parts-closed t ws h = (tt, tt)

  all-parts-closed : (ts : Tms) (ws : List Tm) → Includes (parts_of_all ts) ws → AllTm (ArgsAmong ws) (parts_of_all ts)
  all-parts-closed t_end ws h = tt
  all-parts-closed (t_more t ts) ws h =
      all-append (ArgsAmong ws) (parts_of t) (parts_of_all ts) (parts-closed t ws (includes-left (parts_of t) (parts_of_all ts) ws h)) (all-parts-closed ts ws (includes-right (parts_of t) (parts_of_all ts) ws h))

each-closed : (ts ws : List Tm) → Includes (parts_of_each ts) ws → AllTm (ArgsAmong ws) (parts_of_each ts)
each-closed [] ws h = tt
each-closed (t ∷ ts) ws h =
    all-append (ArgsAmong ws) (parts_of t) (parts_of_each ts) (parts-closed t ws (includes-left (parts_of t) (parts_of_each ts) ws h)) (each-closed ts ws (includes-right (parts_of t) (parts_of_each ts) ws h))

pairs-closed : (Ss : List Srt) (ts ws : List Tm) → Includes (flat_map (component_pair Ss) ts) ws → AllTm (ArgsAmong ws) (flat_map (component_pair Ss) ts)
pairs-closed Ss [] ws h = tt
pairs-closed Ss (t ∷ ts) ws h =
    all-append (ArgsAmong ws) (component_pair Ss t) (flat_map (component_pair Ss) ts) (one t (includes-left (component_pair Ss t) (flat_map (component_pair Ss) ts) ws h)) (pairs-closed Ss ts ws (includes-right (component_pair Ss t) (flat_map (component_pair Ss) ts) ws h))
  where
    one : (t : Tm) → Includes (component_pair Ss t) ws → AllTm (ArgsAmong ws) (component_pair Ss t)
    one (t_prim op.Fst S (t_more u t_end) at) k = parts-closed (components Ss u) ws k
    one (t_prim op.Snd S (t_more u t_end) at) k = parts-closed (components Ss u) ws k
    one t k = tt

keep-all : (ts us ws : List Tm) → Includes ts us → Includes ts (firsts us ws)
keep-all [] us ws h = tt
keep-all (t ∷ ts) us ws h = (firsts-keep us ws t h.0, keep-all ts us ws h.1)

-- the numbered terms hold the subterms of the atoms
pub atoms-numbered : (Ss : List Srt) (atoms : List Tm) → Includes (parts_of_each atoms) (numbered_terms Ss atoms)
atoms-numbered Ss atoms = keep-all (parts_of_each atoms) (subterms atoms) (flat_map (component_pair Ss) (subterms atoms) ++ literals) (firsts-include [] (parts_of_each atoms))

-- and the arguments of each numbered term
pub numbered-closed : (Ss : List Srt) (atoms : List Tm) → AllTm (ArgsAmong (numbered_terms Ss atoms)) (numbered_terms Ss atoms)
numbered-closed Ss atoms =
    let us = subterms atoms in
    let more = flat_map (component_pair Ss) us ++ literals in
    let ws = numbered_terms Ss atoms in
    let added : Includes more ws = firsts-include us more in
    firsts-all (ArgsAmong ws) us more (firsts-all (ArgsAmong ws) [] (parts_of_each atoms) tt (each-closed atoms ws (atoms-numbered Ss atoms)))
    (all-append (ArgsAmong ws) (flat_map (component_pair Ss) us) literals (pairs-closed Ss us ws (includes-left (flat_map (component_pair Ss) us) literals ws added)) (tt, (tt, (tt, tt))))

-- the number of a term of the list tells the term
pub number-tells : (us : List Tm) (t : Tm) → IsTrue (is_among t us) → at_number us (number_by same_term us t) ≡ Some t
number-tells [] t h = absurd (false≢true h)
number-tells (u ∷ us) t h = go (number-tells us t) (same_term t u) refl h
  where
    later : (n : ℕ) → at_number us n ≡ Some t → at_number (u ∷ us) (one_more n) ≡ Some t
    later zero k = k
    later (suc n) k = k

    go : (IsTrue (is_among t us) → at_number us (number_by same_term us t) ≡ Some t) → (b : Bool) → same_term t u ≡ b → IsTrue (if b then true else is_among t us) → at_number (u ∷ us) (if b then 1 else one_more (number_by same_term us t)) ≡ Some t
    go ih true q k = ap Some (sym ((same_term-decides t u).0 q))
    go ih false q k = later (number_by same_term us t) (ih k)
