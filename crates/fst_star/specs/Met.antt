-- The plain trees of trails and events, and the events that the code's functions add.
use Rattle.std.specs.Prelude.{◌≡◌, ℕ, Bool, true, false, not, ◌&&◌, Some, None, List, ◌∷◌, map, reverse}
use Rattle.fst_terms.specs.Meaning.{plain_var}
use Rattle.fst_terms.specs.Terms.{Tm, t_bool, t_if, plain_term}
use Rattle.fst_program.specs.Paths.{Way as Stand, all_raised, choose, suppose}
use Rattle.fst_program.specs.declared.goal.SiteKind.{SiteKind}
use Rattle.fst_program.specs.declared.goal.Choice.{Choice}
use Rattle.fst_star.specs.declared.gathering.Entry.{Entry}
use Rattle.fst_star.specs.declared.gathering.Entry.TheVariants as entry
use Rattle.fst_star.specs.declared.gathering.Event.{Event}
use Rattle.fst_star.specs.declared.gathering.Event.TheVariants as event
use Rattle.fst_star.specs.declared.trail.Trail.{Trail}
use Rattle.fst_star.specs.Events.{Event as Met, at_site, at_end, event_site, event_end, events, play}
use Rattle.fst_star.specs.Transformers.{Wt, Wts}
use Rattle.fst_star.specs.Walking.{decided, need_sites, opened, ways_walk}

-- where a way stands, from the lists of the code, which have the last one last
abbrev pub plain_trail : Trail → Stand
plain_trail w = record { vars = reverse (map plain_var w.vars); hyps = reverse (map plain_term w.hyps); choices = reverse w.choices }

-- an event
abbrev pub plain_event : Event → Met
plain_event (event.Site m at phi w) = at_site m at.at (plain_term phi) (plain_trail w)
plain_event (event.End w t) = at_end (plain_trail w) (plain_term t)

-- the events of a need's formula, of a divisor's, of a transformer, of ways, and of a sequence whose first part has these
unfoldable pub met_needs : SiteKind → (place : ℕ) → Tm → Stand → List Met
met_needs m at phi w = need_sites Met event_site m at phi w

unfoldable pub met_opened : (place : ℕ) → Tm → Stand → List Met
met_opened at phi w = opened Met event_site at phi w

unfoldable pub met_events : Wt → (us : List Tm) → Stand → List Met
met_events v us w = events v us w

unfoldable pub met_on_ways : Wts → (us : List Tm) → Stand → List Met
met_on_ways ws us w = ways_walk Met event_site ws us w event_end

unfoldable pub after_ends : Wt → (us : List Tm) → (n : ℕ) → List Met → List Met
after_ends v us n es = play Met event_site (λ w t. met_events v (t ∷ all_raised n w us) w) es

-- how a walk enters a way
abbrev pub Enters : Entry → Choice → Tm → Stand → Type 0
Enters entry.Same c phi w = decided c phi ≡ Some true
Enters entry.None c phi w = decided c phi ≡ Some false
Enters (entry.Inner inner) c phi w = (decided c phi ≡ None) × (plain_trail inner ≡ choose c (suppose phi w))

-- the literal b
abbrev pub is_bool : Bool → Tm → Bool
is_bool b (t_bool true) = b
is_bool b (t_bool false) = not b
is_bool b _ = false

-- the implication under which a divisor stands
abbrev pub is_guarded : Tm → Bool
is_guarded (t_if c l r) = is_bool true r && not (is_bool false l)
is_guarded _ = false
