-- What the code of the events holds, node by node.
use Rattle.std.proofs.Common.{◌≡◌, ℕ, suc, ◌+◌, ◌-◌, ◌<◌, true, false, List, [], ◌∷◌, ◌++◌, Some, None, map, length, get_or, take, reverse, refl, sym, ap, ap₂, ◌∙◌, arith}
use Rattle.fst_base.specs.declared.place.Pos.{Pos}
use Rattle.fst_base.specs.declared.sort.Sort.{Sort}
use Rattle.fst_base.specs.Sorts.{plain_sort}
use Rattle.fst_terms.specs.declared.term.Term.{Term}
use Rattle.fst_terms.specs.Formulas.{put}
use Rattle.fst_terms.specs.Terms.{Tm, t_var, plain_term, shift}
use Rattle.fst_program.specs.declared.goal.SiteKind.{SiteKind}
use Rattle.fst_program.specs.Paths.{Way as Stand, suppose, choose, fresh, count, all_raised}
use Rattle.fst_star.specs.declared.gathering.Event.{Event}
use Rattle.fst_star.specs.declared.trail.Trail.{Trail}
use Rattle.std.proofs.lemmas.List.{length-reverse}
use Rattle.fst_terms.specs.Meaning.{plain_var}
use Rattle.fst_terms.specs.declared.sequent.Var.{Var}
use Rattle.fst_star.proofs.Calls.{map-reverse}
use Rattle.fst_star.specs.declared.wp.Way.{Way}
use Rattle.fst_star.specs.declared.wp.Which.{Which}
use Rattle.fst_star.specs.declared.wp.Wp.{Wp}
use Rattle.fst_star.specs.declared.wp.Wp.TheVariants as V
use Rattle.fst_star.specs.Events.{Event as Met, at_end, at_site, event_site, event_end}
use Rattle.fst_scopes.specs.Scopes.{terms_for}
use Rattle.fst_star.specs.Plain.{plain_wp, plain_ways}
use Rattle.fst_star.specs.Met.{plain_trail, plain_event, met_events, met_needs, met_on_ways, after_ends}
use Rattle.fst_star.specs.Transformers.{Wt, Wts, w_none, w_way}
use Rattle.fst_star.specs.Walking.{by_look, decided, wp_walk, ways_walk}
use Rattle.fst_star.proofs.Events.{play-++, then-events}
use Rattle.fst_star.proofs.Needs.{append-again, append-none}
use Rattle.fst_star.proofs.PlainLemmas.{plain-wp-Post, plain-wp-Need, plain-wp-Given, plain-wp-Fresh, plain-wp-Ways, plain-wp-Hole, plain-wp-HoleTail, plain-wp-Then}
use Rattle.fst_star.proofs.WayLemmas.{take-more}

module _ (old : List Met) (wp : Wp) (us : List Tm) (w : Stand) where
  abbrev so : List Met → Type 0
  so new = new ≡ old ++ met_events (plain_wp wp) us w

  abbrev by_node : (v : Wt) → plain_wp wp ≡ v → (es new : List Met) → met_events v us w ≡ es → new ≡ old ++ es → so new
  by_node v p es new q e = e ∙ ap (λ es. old ++ es) (sym q ∙ ap (λ v. met_events v us w) (sym p))

  pub met-Post : (t : Term) (t' : Tm) (new : List Met) → wp ≡ V.Post t → t' ≡ put us (plain_term t) → new ≡ old ++ at_end w t' ∷ [] → so new
  unfolding met_events
  met-Post t t' new is p e = by_node _ (ap plain_wp is ∙ plain-wp-Post t) (at_end w t' ∷ []) new (ap (λ t. at_end w t ∷ []) (sym p)) e

  pub met-Need : (phi : Term) (m : SiteKind) (at : Pos) (v v' : Wp) (phi' : Tm) (mid new : List Met) → wp ≡ V.Need phi m at v → phi' ≡ put us (plain_term phi) → v' ≡ v
      → mid ≡ old ++ met_needs m at.at phi' w → new ≡ mid ++ met_events (plain_wp v') us w → so new
  unfolding met_events met_needs
  met-Need phi m at v v' phi' mid new is p q d e =
      by_node _ (ap plain_wp is ∙ plain-wp-Need phi m at v) (met_needs m at.at phi' w ++ met_events (plain_wp v') us w) new
      (ap₂ (λ t v. met_needs m at.at t w ++ met_events (plain_wp v) us w) (sym p) (sym q))
      (e ∙ ap (λ es. es ++ met_events (plain_wp v') us w) d ∙ sym (append-again old (met_needs m at.at phi' w) (met_events (plain_wp v') us w)))

  pub met-Given : (phi : Term) (v v' : Wp) (phi' : Tm) (inner : Stand) (new : List Met) → wp ≡ V.Given phi v → phi' ≡ put us (plain_term phi) → v' ≡ v → inner ≡ suppose phi' w
      → new ≡ old ++ met_events (plain_wp v') us inner → so new
  unfolding met_events
  met-Given phi v v' phi' inner new is p q r e =
      by_node _ (ap plain_wp is ∙ plain-wp-Given phi v) (met_events (plain_wp v') us inner) new
      (ap₂ (λ t v. met_events (plain_wp v) us (suppose t w)) (sym p) (sym q) ∙ ap (met_events (plain_wp v') us) (sym r)) e

  pub met-Fresh : (x x' : List ℕ) (S S' : Sort) (v v' : Wp) (us1 : List Tm) (inner : Stand) (new : List Met) → wp ≡ V.Fresh x S v → x' ≡ x → S' ≡ S → v' ≡ v → inner ≡ fresh x' (plain_sort S') w
      → us1 ≡ t_var 0 ∷ map (shift 0 1) us → new ≡ old ++ met_events (plain_wp v') us1 inner → so new
  unfolding met_events
  met-Fresh x x' S S' v v' us1 inner new is xx ss q r u e =
      let one : suc (count w) - count w ≡ 1 = omega arith in
      by_node _ (ap plain_wp is ∙ plain-wp-Fresh x S v) (met_events (plain_wp v') us1 inner) new
      (ap (λ n. met_events (plain_wp v) (t_var 0 ∷ map (shift 0 n) us) (fresh x (plain_sort S) w)) one
      ∙ ap₂ (λ us v. met_events (plain_wp v) us (fresh x (plain_sort S) w)) (sym u) (sym q)
      ∙ ap (met_events (plain_wp v') us1) (ap₂ (λ x S. fresh x (plain_sort S) w) (sym xx) (sym ss) ∙ sym r)) e

  pub met-Ways : (ways ways' : List (Way Wp)) (new : List Met) → wp ≡ V.Ways ways → ways' ≡ ways → new ≡ old ++ met_on_ways (plain_ways ways') us w → so new
  unfolding met_events met_on_ways
  met-Ways ways ways' new is q e = by_node _ (ap plain_wp is ∙ plain-wp-Ways ways) (met_on_ways (plain_ways ways') us w) new (ap (λ ws. met_on_ways (plain_ways ws) us w) (sym q)) e

  pub met-Hole : (h : Which) (ts : List Term) (x : List ℕ) (v : Wp) → wp ≡ V.Hole h ts x v → so old
  unfolding met_events
  met-Hole h ts x v is = by_node _ (ap plain_wp is ∙ plain-wp-Hole h ts x v) [] old refl (sym (append-none old))

  pub met-HoleTail : (h : Which) (ts : List Term) → wp ≡ V.HoleTail h ts → so old
  unfolding met_events
  met-HoleTail h ts is = by_node _ (ap plain_wp is ∙ plain-wp-HoleTail h ts) [] old refl (sym (append-none old))

  -- the flat map over the ends
  pub met-Then : (v1 v1' v2 v2' : Wp) (x : List ℕ) (n : ℕ) (first new : List Met) → wp ≡ V.Then v1 x v2 → v1' ≡ v1 → v2' ≡ v2 → n ≡ count w → first ≡ met_events (plain_wp v1') us w
      → new ≡ old ++ after_ends (plain_wp v2') us n first → so new
  unfolding met_events after_ends
  met-Then v1 v1' v2 v2' x n first new is p q c f e =
      by_node _ (ap plain_wp is ∙ plain-wp-Then v1 v2 x) (after_ends (plain_wp v2') us n first) new
      (then-events (plain_wp v1) x (plain_wp v2) us w
      ∙ ap₂ (λ a b. after_ends (plain_wp b) us (count w) (met_events (plain_wp a) us w)) (sym p) (sym q)
      ∙ ap₂ (λ n es. after_ends (plain_wp v2') us n es) (sym c) (sym f)) e

-- one event more
play-one : (v : Wt) (us : List Tm) (n : ℕ) (es : List Met) (x : Met) → after_ends v us n (es ++ x ∷ []) ≡ after_ends v us n es ++ after_ends v us n (x ∷ [])
unfolding after_ends
play-one v us n es x = play-++ Met event_site (λ w t. met_events v (t ∷ all_raised n w us) w) es (x ∷ [])

map-end : (es : List Event) (x : Event) → map plain_event (es ++ x ∷ []) ≡ map plain_event es ++ plain_event x ∷ []
map-end [] x = refl
map-end (y ∷ es) x = ap (λ ys. plain_event y ∷ ys) (map-end es x)

pub after-more : (v : Wt) (us : List Tm) (n : ℕ) (old now new : List Met) (es : List Event) (k : ℕ) (x : Event) → k < length es → x ≡ get_or es k x → now ≡ old ++ after_ends v us n (map plain_event (take k es))
    → new ≡ now ++ after_ends v us n (plain_event x ∷ []) → new ≡ old ++ after_ends v us n (map plain_event (take (k + 1) es))
after-more v us n old now new es k x h is e f =
    let start = after_ends v us n (map plain_event (take k es)) in
    let last = after_ends v us n (plain_event x ∷ []) in
    f ∙ ap (λ l. l ++ last) e ∙ sym (append-again old start last)
    ∙ ap (λ l. old ++ l) (sym (play-one v us n (map plain_event (take k es)) (plain_event x)) ∙ ap (after_ends v us n) (sym (map-end (take k es) x) ∙ ap (λ x. map plain_event (take k es ++ x ∷ [])) is ∙ ap (map plain_event) (sym (take-more es k x h))))

pub after-site : (v : Wt) (us : List Tm) (n : ℕ) (m : SiteKind) (at : ℕ) (phi : Tm) (w : Stand) → after_ends v us n (at_site m at phi w ∷ []) ≡ at_site m at phi w ∷ []
unfolding after_ends
after-site v us n m at phi w = refl

pub after-end : (v : Wt) (us : List Tm) (n : ℕ) (w : Stand) (t : Tm) → after_ends v us n (at_end w t ∷ []) ≡ met_events v (t ∷ all_raised n w us) w
unfolding after_ends
after-end v us n w t = append-none (met_events v (t ∷ all_raised n w us) w)

-- one way more
abbrev joined_ways : Wts → Wts → Wts
joined_ways w_none vs = vs
joined_ways (w_way c phi w more) vs = w_way c phi w (joined_ways more vs)

plain-joined : (xs ys : List (Way Wp)) → plain_ways (xs ++ ys) ≡ joined_ways (plain_ways xs) (plain_ways ys)
plain-joined [] ys = refl
plain-joined (x ∷ xs) ys = ap (w_way x.choice (plain_term x.given) (plain_wp x.rest)) (plain-joined xs ys)

walk-joined : (vs ws : Wts) (us : List Tm) (w : Stand) → ways_walk Met event_site (joined_ways vs ws) us w event_end ≡ ways_walk Met event_site vs us w event_end ++ ways_walk Met event_site ws us w event_end
walk-joined w_none ws us w = refl
walk-joined (w_way c phi v more) ws us w =
    let here = by_look (decided c (put us phi)) (wp_walk Met event_site v us w event_end) (wp_walk Met event_site v us (choose c (suppose (put us phi) w)) event_end) in
    ap (λ es. here ++ es) (walk-joined more ws us w) ∙ append-again here (ways_walk Met event_site more us w event_end) (ways_walk Met event_site ws us w event_end)

module _ (us : List Tm) (w : Stand) (old now new : List Met) (ways : List (Way Wp)) (k : ℕ) (x : Way Wp) (h : k < length ways) (is : x ≡ get_or ways k x) (e : now ≡ old ++ met_on_ways (plain_ways (take k ways)) us w) where
  abbrev phi : Tm
  phi = put us (plain_term x.given)

  abbrev here : List Met
  here = by_look (decided x.choice phi) (met_events (plain_wp x.rest) us w) (met_events (plain_wp x.rest) us (choose x.choice (suppose phi w)))

  abbrev so_far : Type 0
  so_far = new ≡ old ++ met_on_ways (plain_ways (take (k + 1) ways)) us w

  more : new ≡ now ++ here → so_far
  unfolding met_on_ways met_events
  more f =
      let start = met_on_ways (plain_ways (take k ways)) us w in
      f ∙ ap (λ l. l ++ here) e ∙ sym (append-again old start here)
      ∙ ap (λ l. old ++ l)
      (ap (λ l. start ++ l) (sym (append-none here)) ∙ sym (walk-joined (plain_ways (take k ways)) (plain_ways (x ∷ [])) us w)
      ∙ ap (λ v. met_on_ways v us w) (sym (plain-joined (take k ways) (x ∷ [])))
      ∙ ap (λ x. met_on_ways (plain_ways (take k ways ++ x ∷ [])) us w) is ∙ ap (λ ws. met_on_ways (plain_ways ws) us w) (sym (take-more ways k x h)))

  pub way-same : decided x.choice phi ≡ Some true → new ≡ now ++ met_events (plain_wp x.rest) us w → so_far
  way-same d f = more (f ∙ ap (λ o. now ++ by_look o (met_events (plain_wp x.rest) us w) (met_events (plain_wp x.rest) us (choose x.choice (suppose phi w)))) (sym d))

  pub way-none : decided x.choice phi ≡ Some false → new ≡ now → so_far
  way-none d f = more (f ∙ sym (append-none now) ∙ ap (λ o. now ++ by_look o (met_events (plain_wp x.rest) us w) (met_events (plain_wp x.rest) us (choose x.choice (suppose phi w)))) (sym d))

  pub way-inner : (inner : Stand) → decided x.choice phi ≡ None → inner ≡ choose x.choice (suppose phi w) → new ≡ now ++ met_events (plain_wp x.rest) us inner → so_far
  way-inner inner d q f = more (f ∙ ap (λ w. now ++ met_events (plain_wp x.rest) us w) q ∙ ap (λ o. now ++ by_look o (met_events (plain_wp x.rest) us w) (met_events (plain_wp x.rest) us (choose x.choice (suppose phi w)))) (sym d))

pub ways-init : (us : List Tm) (w : Stand) (old : List Met) → old ≡ old ++ met_on_ways w_none us w
unfolding met_on_ways
ways-init us w old = sym (append-none old)

pub after-init : (v : Wt) (us : List Tm) (n : ℕ) (old : List Met) → old ≡ old ++ after_ends v us n []
unfolding after_ends
after-init v us n old = sym (append-none old)

length-vars : (xs : List Var) → length (map plain_var xs) ≡ length xs
length-vars [] = refl
length-vars (x ∷ xs) = ap suc (length-vars xs)

pub count-plain : (w : Trail) → count (plain_trail w) ≡ length w.vars
count-plain w = length-reverse (map plain_var w.vars) ∙ length-vars w.vars

-- terms raised to where a trail stands, and one more
pub after-made : (w : Trail) (us us1 us2 made : List Term) (t t' : Term) (n m by : ℕ) → terms_for made ≡ plain_term t' ∷ terms_for us2 → us2 ≡ us1 → t' ≡ t → map plain_term us1 ≡ map (shift 0 by) (map plain_term us) → m ≡ length w.vars → by ≡ m - n
    → terms_for made ≡ plain_term t ∷ all_raised n (plain_trail w) (terms_for us)
after-made w us us1 us2 made t t' n m by e p q r s b =
    let same : by ≡ count (plain_trail w) - n = b ∙ ap (λ m. m - n) (s ∙ sym (count-plain w)) in
    e ∙ ap₂ (λ t us. plain_term t ∷ terms_for us) q p
    ∙ ap (λ us. plain_term t ∷ us) (ap reverse r ∙ sym (map-reverse (shift 0 by) (map plain_term us)) ∙ ap (λ n. map (shift 0 n) (terms_for us)) same)
