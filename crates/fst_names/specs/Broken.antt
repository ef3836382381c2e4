-- Broken rules at places, and the one that answers.
use Rattle.std.specs.Prelude.{ℕ, Bool, ◌||◌, ◌&&◌, nat_lt, nat_le, nat_eq, List, [], ◌∷◌, Option, Some, None, if◌then◌else◌}
use denote.Enum.Declared.{tag_of}
use Rattle.fst_base.specs.contracts.rule.Rule.{the_type}
use Rattle.fst_base.specs.declared.rule.Rule.{Rule}
use Rattle.fst_names.specs.declared.broken.Broken.{Broken}

-- the number of a rule, from 0
abbrev pub number : Rule → ℕ
number = tag_of the_type

-- the rule is broken at the place
abbrev pub broken_at : Rule → (place : ℕ) → Option Broken
broken_at r at = Some (record { at = record { at = at }; rule = r })

-- the same, and nothing else is broken
abbrev pub breaks : Rule → (place : ℕ) → List Broken
breaks r at = record { at = record { at = at }; rule = r } ∷ []

-- at the smaller place, and there the smaller number
abbrev pub is_before : Broken → Broken → Bool
is_before b c = nat_lt b.at.at c.at.at || (nat_eq b.at.at c.at.at && nat_le (number b.rule) (number c.rule))

-- the one of the two that answers
abbrev pub least : Option Broken → Option Broken → Option Broken
least None o = o
least (Some b) None = Some b
least (Some b) (Some c) = if is_before b c then Some b else Some c

-- the broken rule that answers
abbrev pub first_broken : List Broken → Option Broken
first_broken [] = None
first_broken (b ∷ bs) = least (Some b) (first_broken bs)

-- A rule is broken at an innermost place: where the parts break none, the rules that the whole breaks by itself; else those of the
-- parts.
abbrev pub innermost : (parts own : List Broken) → List Broken
innermost [] own = own
innermost (b ∷ bs) own = b ∷ bs

-- the same of the rules that answer
abbrev pub inner : (parts own : Option Broken) → Option Broken
inner None own = own
inner (Some b) own = Some b
