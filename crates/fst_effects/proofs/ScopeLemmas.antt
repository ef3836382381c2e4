-- The variables in a scope of the code.
use Rattle.std.proofs.Common.{◌≡◌, ℕ, ◌-◌, ◌<◌, ◌≤◌, List, map, reverse, length, slice_get, get_or, Some, None, arith, sym, ap, subst, ◌∙◌}
use Rattle.std.proofs.lemmas.Option.{slice_get_read, slice_get_past}
use Rattle.std.proofs.lemmas.List.{get_or-reverse, get_or-map, length-map, length-reverse}
use Rattle.fst_effects.specs.declared.scope.Entry as E
use Rattle.fst_effects.specs.Known.{Ctx}
use Rattle.fst_effects.specs.Scopes.{entry_of}

abbrev turned : List E.Entry → Ctx
turned es = reverse (map entry_of es)

-- the k-th from the end is the k-th variable
pub entry-found : (es : List E.Entry) (n k : ℕ) (e : E.Entry) → n ≡ length es → k < n → e ≡ get_or es (n - 1 - k) e → slice_get (turned es) k ≡ Some (entry_of e)
entry-found es n k e q lt h =
    let long : length (map entry_of es) ≡ n = length-map es entry_of ∙ sym q in
    slice_get_read (turned es) n k (entry_of e) (sym (length-reverse (map entry_of es) ∙ long)) lt
    (ap entry_of h ∙ sym (get_or-map entry_of es (n - 1 - k) e (entry_of e) (omega (arith, q, lt))) ∙ ap (λ m. get_or (map entry_of es) (m - 1 - k) (entry_of e)) (sym long) ∙ sym (get_or-reverse (map entry_of es) k (entry_of e) (subst (λ m. k < m) (sym long) lt)))

pub entry-absent : (es : List E.Entry) (n k : ℕ) → n ≡ length es → n ≤ k → slice_get (turned es) k ≡ None
entry-absent es n k q h =
    let long : length (turned es) ≡ n = length-reverse (map entry_of es) ∙ length-map es entry_of ∙ sym q in
    slice_get_past (turned es) k (omega (arith, long, h))

pub ruleset entries = (entry-found, entry-absent)
