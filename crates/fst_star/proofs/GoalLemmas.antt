-- Goals of the code, from events.
use Rattle.std.proofs.Common.{◌≡◌, ℕ, List, [], ◌∷◌, ◌++◌, length, get_or, take, map, reverse, refl, sym, ap, ap₂, ◌∙◌, ◌+◌, ◌<◌}
use Rattle.std.proofs.lemmas.List.{reverse-reverse}
use Rattle.fst_base.specs.declared.place.Pos.{Pos}
use Rattle.fst_terms.specs.declared.term.Term.{Term}
use Rattle.fst_terms.specs.Meaning.{Vr, plain_var}
use Rattle.fst_terms.specs.Terms.{Tm, plain_term}
use Rattle.fst_program.specs.declared.goal.Choice.{Choice}
use Rattle.fst_program.specs.declared.goal.Goal.{Goal}
use Rattle.fst_program.specs.declared.goal.SiteKind.{SiteKind}
use Rattle.fst_program.specs.Paths.{Gl, Way, count, goal_site, plain_goal, ensures_site, start}
use Rattle.fst_program.specs.Texts.{Fn, Prog}
use Rattle.fst_star.specs.declared.gathering.Event.{Event}
use Rattle.fst_star.specs.declared.trail.Trail.{Trail}
use Rattle.fst_star.specs.Events.{Event as Met, at_site, at_end, events, play}
use Rattle.fst_star.specs.Inference.{start_terms}
use Rattle.fst_star.specs.Laws.{goals_by}
use Rattle.fst_star.specs.Met.{met_events, plain_event, plain_trail}
use Rattle.fst_star.specs.Starting.{end_goals, goals_met, own_terms}
use Rattle.fst_star.specs.Transformers.{Wt}
use Rattle.fst_star.proofs.Events.{play-++, walk-plays}
use Rattle.fst_star.proofs.Needs.{append-none}
use Rattle.fst_star.proofs.TrailLemmas.{map-end}
use Rattle.fst_star.proofs.WayLemmas.{take-more}

-- the goal of a way, from lists in order
pub goal-made : (k : ℕ) (m : SiteKind) (at : ℕ) (phi : Tm) (w : Trail)
    → record { kind = m; fun = k; place = at; choices = w.choices; sequent = record { vars = map plain_var w.vars; hyps = map plain_term w.hyps; goal = phi } } ∷ [] ≡ goal_site k m at phi (plain_trail w)
goal-made k m at phi w =
    let made : List Choice → List Vr → List Tm → List Gl = λ cs vs hs. record { kind = m; fun = k; place = at; choices = cs; sequent = record { vars = vs; hyps = hs; goal = phi } } ∷ [] in
    ap₂ (λ cs vs. made cs vs (map plain_term w.hyps)) (sym (reverse-reverse w.choices)) (sym (reverse-reverse (map plain_var w.vars)))
    ∙ ap (made (reverse (reverse w.choices)) (reverse (reverse (map plain_var w.vars)))) (sym (reverse-reverse (map plain_term w.hyps)))

pub goal-added : (k : ℕ) (m : SiteKind) (at : Pos) (phi phi' : Term) (w w' : Trail) (old new : List Goal)
    → new ≡ old ++ record { site = record { kind = m; fun = k; at = at; choices = w'.choices }; sequent = record { vars = w'.vars; hyps = w'.hyps; goal = phi' } } ∷ [] → phi' ≡ phi → w' ≡ w
    → map plain_goal new ≡ map plain_goal old ++ goal_site k m at.at (plain_term phi) (plain_trail w)
goal-added k m at phi phi' w w' old new e p q =
    let one : Goal = record { site = record { kind = m; fun = k; at = at; choices = w'.choices }; sequent = record { vars = w'.vars; hyps = w'.hyps; goal = phi' } } in
    ap (map plain_goal) e ∙ map-end plain_goal old one ∙ ap (λ gs. map plain_goal old ++ gs) (goal-made k m at.at (plain_term phi') w' ∙ ap₂ (λ t w. goal_site k m at.at (plain_term t) (plain_trail w)) p q)

module _ (k : ℕ) (f : Fn) (n : ℕ) (own : List Tm) where
  pub met-none : [] ≡ goals_met k f n own []
  unfolding goals_met
  met-none = refl

  pub met-more : (es : List Event) (i : ℕ) (x : Event) (old new : List Gl) → i < length es → x ≡ get_or es i x → old ≡ goals_met k f n own (map plain_event (take i es))
      → new ≡ old ++ goals_met k f n own (plain_event x ∷ []) → new ≡ goals_met k f n own (map plain_event (take (i + 1) es))
  unfolding goals_met
  met-more es i x old new h is e g =
      g ∙ ap (λ l. l ++ goals_met k f n own (plain_event x ∷ [])) e
      ∙ sym (play-++ Gl (goal_site k) (end_goals k f n own) (map plain_event (take i es)) (plain_event x ∷ []))
      ∙ ap (goals_met k f n own) (sym (map-end plain_event (take i es) x) ∙ ap (λ x. map plain_event (take i es ++ x ∷ [])) is ∙ ap (map plain_event) (sym (take-more es i x h)))

  pub met-site : (m : SiteKind) (at : ℕ) (phi : Tm) (w : Way) → goals_met k f n own (at_site m at phi w ∷ []) ≡ goal_site k m at phi w
  unfolding goals_met
  met-site m at phi w = append-none (goal_site k m at phi w)

  pub met-end : (w : Way) (t : Tm) → goals_met k f n own (at_end w t ∷ []) ≡ end_goals k f n own w t
  unfolding goals_met
  met-end w t = append-none (end_goals k f n own w t)

-- the goals of all events of a transformer
pub met-all : (P : Prog) (k : ℕ) (f : Fn) (v : Wt) (n : ℕ) (own us : List Tm) (w : Way) (es : List Met) → w ≡ start P f → n ≡ count w → own ≡ own_terms f → us ≡ start_terms P f
    → es ≡ met_events v us w → goals_met k f n own es ≡ goals_by P k f v
unfolding goals_met met_events
met-all P k f v n own us w es sw sn so su se =
    let plays : play Gl (goal_site k) (end_goals k f n own) es ≡ play Gl (goal_site k) (end_goals k f (count (start P f)) (own_terms f)) (events v (start_terms P f) (start P f)) =
    ap₂ (λ n own. play Gl (goal_site k) (end_goals k f n own) es) (sn ∙ ap count sw) so
    ∙ ap (play Gl (goal_site k) (end_goals k f (count (start P f)) (own_terms f))) (se ∙ ap₂ (events v) su sw) in
    plays ∙ walk-plays Gl (goal_site k) (ensures_site P k f) v (start_terms P f) (start P f)
