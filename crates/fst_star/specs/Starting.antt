-- Where the walk of a function begins, and what it gives at its ends.
use Rattle.std.specs.Prelude.{ℕ, List, ◌∷◌, ◌++◌, map, reverse}
use Rattle.fst_terms.specs.Meaning.{Vr}
use Rattle.fst_terms.specs.Terms.{Tm}
use Rattle.fst_program.specs.Paths.{Gl, Way, all_raised, clause_terms, given, goal_site, input_vars, over, own_input, own_vars}
use Rattle.fst_program.specs.Texts.{Fn, Prm, Prog}
use Rattle.fst_program.specs.declared.goal.SiteKind.TheVariants as kind
use Rattle.fst_star.specs.Events.{Event, play}

abbrev pub param_var : Prm → Vr
param_var p = record { name = p.name; sort = p.sort }

-- the variables in order: the parameters, then the input
abbrev pub start_vars : Prog → Fn → List Vr
start_vars P f = map param_var f.params ++ reverse (input_vars P f.effect)

-- the terms of the variables of a function's clauses, the last variable's first
abbrev pub own_terms : Fn → List Tm
own_terms f = clause_terms f.effect (reverse (own_vars f)) (own_input f)

-- the goal of an end: the ensures, where the way began with n variables, on whose terms it is read
abbrev pub end_goals : (k : ℕ) → Fn → (n : ℕ) → (own : List Tm) → Way → Tm → List Gl
end_goals k f n own w t = over (given f.gives (t ∷ all_raised n w own)) (λ phi. goal_site k kind.Ensures f.place phi w)

-- the goals of these events
unfoldable pub goals_met : (k : ℕ) → Fn → (n : ℕ) → (own : List Tm) → List Event → List Gl
goals_met k f n own es = play Gl (goal_site k) (end_goals k f n own) es
