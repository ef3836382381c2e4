-- What a search for the first open branch keeps.
use Rattle.std.specs.Prelude.{◌≡◌, Bool, true, false, if◌then◌else◌, List, [], ◌∷◌, ◌++◌, Option, Some, None}
use Rattle.fst_base.specs.Values.{same_bool}
use Rattle.fst_terms.specs.Terms.{Tm}
use Rattle.fst_terms.specs.Meaning.{Sqt}
use Rattle.fst_terms.specs.Flats.{Flt, flat_of, reads, IsOpen, Earlier}
use Rattle.fst_terms.specs.Propositional.{IsPropositional}
use Rattle.fst_terms.specs.declared.flat.Mark.{Mark}

-- the flat form of some propositional sequent, without further facts
pub record IsPropositionalFlat (f : Flt) : Type 0 where
  pub sequent : Sqt
  pub propositional : IsPropositional sequent
  pub is : f ≡ flat_of sequent []

-- a formula has this value
abbrev pub is_value : Bool → Option Bool → Bool
is_value b (Some c) = same_bool b c
is_value b None = false

-- one of these formulas is false
abbrev pub some_false : Flt → List Mark → List Tm → Bool
some_false f ms [] = false
some_false f ms (t ∷ ts) = if is_value false (reads f ms t) then true else some_false f ms ts

-- under marks of the first atoms a formula is false already, or the goal true
abbrev pub is_closed : Flt → List Mark → Bool
is_closed f ms = if some_false f ms f.formulas then true else is_value true (reads f ms f.goal)

-- no branch that begins with these marks is open
abbrev pub NoneFrom : Flt → List Mark → Type 0
NoneFrom f ms = (rest : List Mark) → IsOpen f (ms ++ rest) → ⊥

-- of the branches that begin with these marks, this one is the first that is open
pub record IsFirstFrom (f : Flt) (ms ns : List Mark) : Type 0 where
  pub rest : List Mark
  pub begins : ns ≡ ms ++ rest
  pub opens : IsOpen f ns
  pub none_before : (rest : List Mark) → Earlier (ms ++ rest) ns → IsOpen f (ms ++ rest) → ⊥

-- what the search among the branches that begin with `front` leaves: the first open one, or the old marks where none is open
abbrev pub Searched : Flt → (front old new : List Mark) → (found : Bool) → Type 0
Searched f front old new true = IsFirstFrom f front new
Searched f front old new false = (new ≡ old) × NoneFrom f front
