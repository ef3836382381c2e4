-- What the code holds of sorts, variables and functions.
use Rattle.std.specs.Prelude.{ℕ, zero, suc, List, [], ◌∷◌, map, reverse, Option, Some, None, option_map, slice_get}
use Rattle.std.specs.Borrow.{Bor}
use Rattle.fst_base.specs.declared.sort.Sort.{Sort}
use Rattle.fst_base.specs.Sorts.{Srt, plain_sort}
use Rattle.fst_names.specs.declared.reference.Ref.{Ref}
use Rattle.fst_effects.specs.declared.scope.Entry as E
use Rattle.fst_effects.specs.declared.scope.Context as C
use Rattle.fst_effects.specs.declared.callee.Callee as F
use Rattle.fst_effects.specs.declared.callee.Place as L
use Rattle.fst_effects.specs.declared.wanted.Parts as P
use Rattle.fst_effects.specs.declared.wanted.Run as R
use Rattle.fst_effects.specs.declared.wanted.Wants as W
use Rattle.fst_effects.specs.declared.wanted.Wants.TheVariants as wants
use Rattle.fst_effects.specs.Known.{Entry, Ctx, Callee}
use Rattle.fst_effects.specs.TermSorts.{visible, wants_of}

-- a sort that may be there
abbrev pub sort_at : Option (Bor Sort) → Option Srt
sort_at = option_map (λ s. plain_sort s.now)

abbrev pub known_sort : Option Sort → Option Srt
known_sort = option_map plain_sort

-- a variable
abbrev pub entry_of : E.Entry → Entry
entry_of e = record { sort = plain_sort e.sort; hidden = e.hidden }

abbrev pub entry_at : Option (Bor E.Entry) → Option Entry
entry_at = option_map (λ e. entry_of e.now)

-- the variables in scope, the last first
abbrev pub scope_in : C.Context → Ctx
scope_in c = reverse (map entry_of c.entries.items)

-- a function
abbrev pub callee_of : F.Callee → Callee
callee_of f = record { args = map entry_of f.args; sort = plain_sort f.sort; effect = f.effect }

abbrev pub callee_at : Option (Bor F.Callee) → Option Callee
callee_at = option_map (λ f. callee_of f.now)

-- the functions that formulas apply, by their numbers
abbrev pub applied_in : List F.Callee → Ref → Option Callee
applied_in fs r = option_map callee_of (slice_get fs r.index)

abbrev pub applied_at : L.Place → Ref → Option Callee
applied_at p = applied_in p.callees.now

-- the sorts of the first two arguments
abbrev pub parts_in : P.Parts → List (Option Srt)
parts_in p = known_sort p.first ∷ known_sort p.second ∷ []

-- the sorts of a computation's arguments
abbrev pub run_args : R.Run → List Srt
run_args r = plain_sort r.first ∷ more r.second
  where
    more : Option Sort → List Srt
    more None = []
    more (Some s) = plain_sort s ∷ []

abbrev pub run_wants : Option R.Run → List (Option Srt)
run_wants None = []
run_wants (Some r) = wants_of (map visible (run_args r))

-- the sorts that are wanted of arguments
abbrev pub wants_in : W.Wants → List (Option Srt)
wants_in (wants.Parts p) = parts_in p.now
wants_in (wants.Params es) = wants_of (map entry_of es.now)
wants_in (wants.Run r) = run_wants (Some r.now)

abbrev pub want_at : List (Option Srt) → ℕ → Option Srt
want_at [] i = None
want_at (W ∷ Ws) zero = W
want_at (W ∷ Ws) (suc i) = want_at Ws i
