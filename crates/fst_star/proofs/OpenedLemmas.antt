-- The sites of needs.
use Rattle.std.proofs.Common.{◌≡◌, ℕ, true, false, List, [], ◌∷◌, refl, sym, ap, ◌∙◌}
use Rattle.fst_terms.specs.declared.term.Term.{Term}
use Rattle.fst_terms.specs.declared.term.Term.TheVariants as T
use Rattle.fst_terms.specs.Terms.{Tm, t_bool, t_if, plain_term}
use Rattle.fst_terms.proofs.PlainLemmas.{plain-term-If}
use Rattle.fst_program.specs.declared.goal.SiteKind.{SiteKind}
use Rattle.fst_program.specs.declared.goal.SiteKind.TheVariants as kind
use Rattle.fst_program.specs.Paths.{Way as Stand, suppose}
use Rattle.fst_star.specs.Events.{Event as Met, at_site, event_site}
use Rattle.fst_star.specs.Met.{met_needs, met_opened, is_guarded}
use Rattle.fst_star.specs.Walking.{opened}

pub need-divisor : (m : SiteKind) (at : ℕ) (phi : Tm) (w : Stand) → m ≡ kind.Divisor → met_opened at phi w ≡ met_needs m at phi w
unfolding met_needs met_opened
need-divisor m at phi w e = ap (λ m. met_needs m at phi w) (sym e)

pub need-other : (m : SiteKind) (at : ℕ) (phi : Tm) (w : Stand) → (m ≡ kind.Divisor → ⊥) → at_site m at phi w ∷ [] ≡ met_needs m at phi w
unfolding met_needs
need-other kind.Divisor at phi w other = absurd (other refl)
need-other m at phi w other = refl

abbrev site : ℕ → Tm → Stand → List Met
site at phi w = at_site kind.Divisor at phi w ∷ []

guarded-opens : (at : ℕ) (c l r : Tm) (w : Stand) → is_guarded (t_if c l r) ≡ true → opened Met event_site at (t_if c l r) w ≡ opened Met event_site at l (suppose c w)
guarded-opens at c (t_bool false) (t_bool true) w g = cc
guarded-opens at c l (t_bool true) w g = refl
guarded-opens at c l r w g = cc

pub opened-guarded : (at : ℕ) (phi c l : Term) (r : Term) (w : Stand) → phi ≡ T.If c l r → is_guarded (plain_term phi) ≡ true → met_opened at (plain_term phi) w ≡ met_opened at (plain_term l) (suppose (plain_term c) w)
unfolding met_opened
opened-guarded at phi c l r w is g =
    let plain = ap plain_term is ∙ plain-term-If c l r in
    ap (λ t. opened Met event_site at t w) plain ∙ guarded-opens at (plain_term c) (plain_term l) (plain_term r) w (sym (ap is_guarded plain) ∙ g)

pub opened-plain : (at : ℕ) (phi : Tm) (w : Stand) → is_guarded phi ≡ false → site at phi w ≡ met_opened at phi w
unfolding met_opened
opened-plain at (t_if c (t_bool false) (t_bool true)) w g = refl
opened-plain at (t_if c l (t_bool true)) w g = cc
opened-plain at phi w g = refl
