-- The sorts that are wanted of arguments.
use Rattle.std.proofs.Common.{◌≡◌, ℕ, zero, suc, ◌<◌, ◌≤◌, List, [], ◌∷◌, map, length, get_or, slice_get, Option, Some, None, refl, ap, ◌∙◌, arith}
use Rattle.std.proofs.lemmas.Option.{slice_get_read}
use Rattle.fst_effects.specs.declared.scope.Entry as E
use Rattle.fst_base.specs.declared.sort.Sort.{Sort}
use Rattle.fst_base.specs.Sorts.{plain_sort}
use Rattle.fst_effects.specs.declared.wanted.Parts as P
use Rattle.fst_effects.specs.declared.wanted.Run as R
use Rattle.fst_effects.specs.Scopes.{entry_of, known_sort, parts_in, run_wants, want_at}
use Rattle.fst_effects.specs.TermSorts.{wants_of}

at-param : (es : List E.Entry) (i : ℕ) (e : E.Entry) → slice_get es i ≡ Some e → want_at (wants_of (map entry_of es)) i ≡ Some (entry_of e).sort
at-param [] i e h = cc
at-param (x ∷ es) zero e h = let p : x ≡ e = cc in ap (λ e. Some (entry_of e).sort) p
at-param (x ∷ es) (suc i) e h = at-param es i e h

pub param-there : (es : List E.Entry) (i : ℕ) (e : E.Entry) → e ≡ get_or es i e → i < length es → want_at (wants_of (map entry_of es)) i ≡ Some (entry_of e).sort
param-there es i e q h = at-param es i e (slice_get_read es (length es) i e refl h q)

pub param-absent : (es : List E.Entry) (i : ℕ) → length es ≤ i → want_at (wants_of (map entry_of es)) i ≡ None
param-absent [] i h = refl
param-absent (x ∷ es) zero h = absurd (omega arith)
param-absent (x ∷ es) (suc i) h = param-absent es i (omega arith)

pub ruleset params = (param-there, param-absent)

pub first-part : (p : P.Parts) (i : ℕ) → i ≡ 0 → want_at (parts_in p) i ≡ known_sort p.first
first-part p i h = ap (want_at (parts_in p)) h

pub second-part : (p : P.Parts) (i : ℕ) → i ≡ 1 → want_at (parts_in p) i ≡ known_sort p.second
second-part p i h = ap (want_at (parts_in p)) h

pub no-part : (p : P.Parts) (i : ℕ) → (i ≡ 0 → ⊥) → (i ≡ 1 → ⊥) → want_at (parts_in p) i ≡ None
no-part p zero h k = absurd (h refl)
no-part p (suc zero) h k = absurd (k refl)
no-part p (suc (suc i)) h k = refl

pub first-arg : (r : R.Run) (i : ℕ) → i ≡ 0 → want_at (run_wants (Some r)) i ≡ Some (plain_sort r.first)
first-arg r i h = ap (want_at (run_wants (Some r))) h

abbrev args_of : Sort → Option Sort → Sort → R.Run
args_of s t u = record { first = s; second = t; sort = u }

pub second-arg : (r : R.Run) (i : ℕ) → i ≡ 1 → want_at (run_wants (Some r)) i ≡ known_sort r.second
second-arg r i h = ap (want_at (run_wants (Some r))) h ∙ go r.second
  where
    go : (o : Option Sort) → want_at (run_wants (Some (args_of r.first o r.sort))) 1 ≡ known_sort o
    go None = refl
    go (Some t) = refl

pub no-arg : (r : R.Run) (i : ℕ) → (i ≡ 0 → ⊥) → (i ≡ 1 → ⊥) → want_at (run_wants (Some r)) i ≡ None
no-arg r zero h k = absurd (h refl)
no-arg r (suc zero) h k = absurd (k refl)
no-arg r (suc (suc i)) h k = go r.second
  where
    go : (o : Option Sort) → want_at (run_wants (Some (args_of r.first o r.sort))) (suc (suc i)) ≡ None
    go None = refl
    go (Some t) = refl

pub ruleset wants = (first-part, second-part, no-part, first-arg, second-arg, no-arg)
