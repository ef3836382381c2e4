-- What terms break, a variant of the tree at a time.
use Rattle.std.proofs.Common.{◌≡◌, ℕ, ◌+◌, ◌<◌, ℤ, Bool, true, List, [], ◌∷◌, ◌++◌, length, take, get_or, slice_get, Option, Some, None, refl, sym, ap, ◌∙◌, append_assoc, arith}
use Rattle.std.specs.Prelude.{option_map}
use Rattle.std.proofs.lemmas.List.{append-nil, length-take-le, take_more}
use Rattle.fst_base.specs.declared.op.Op.{Op}
use Rattle.fst_base.specs.declared.place.Pos.{Pos}
use Rattle.fst_base.specs.Sorts.{Srt, s_int, s_bool, s_unit}
use Rattle.fst_trees.specs.declared.word.Word.{Word}
use Rattle.fst_trees.specs.declared.form.Form.{Form}
use Rattle.fst_trees.specs.declared.form.FormNode.TheVariants as V
use Rattle.fst_names.specs.declared.reference.Ref.{Ref}
use Rattle.fst_names.specs.declared.broken.Broken.{Broken}
use Rattle.fst_names.specs.Broken.{first_broken, least, inner, innermost}
use Rattle.fst_names.specs.Trees.{WForms, f_end, f_more, plain_form, plain_forms}
use Rattle.fst_names.proofs.TreeLemmas.{form-Ident, form-Int, form-Bool, form-Unit, form-Prim, form-If, form-App, form-Let}
use Rattle.fst_names.proofs.BrokenLemmas.{first-append, first-innermost}
use Rattle.fst_program.specs.LiftPaths.{or_else}
use Rattle.fst_effects.specs.Known.{Callee, Ctx, clash, needs_sort, where_known}
use Rattle.fst_effects.specs.TermSorts.{given, givens, broken, brokens, visible, sort_in, misused, not_applied, first_place, place_of, second, prim_wants, prim_needs, prim_breaks, args_of, wants_of}
use Rattle.fst_effects.specs.Scopes.{want_at}
use Rattle.fst_effects.specs.TermChecks.{node_given, form_given, arg_given, node_breaks, form_breaks, forms_break, clash_of, need_of, misused_of, not_applied_of, local_breaks, let_at, rest_where, prim_at, app_at, prim_need, prim_own, first_at, seen, two, fits_by_parts}
use Rattle.fst_effects.proofs.PlainLemmas.{plain-sort-Int, plain-sort-Bool, plain-sort-Unit}
use Rattle.fst_effects.proofs.GivenLemmas.{first-given, second-given}
use Rattle.fst_effects.proofs.NodePlaces.{form-place, first-place}
use Rattle.fst_effects.proofs.RowLemmas.{seen_of, wants-seen, needs-seen, breaks-seen, by-shape}

module _ (A : Ref → Option Callee) (gh : Bool) (xs : Ctx) where
  pub check-Ident : (at : Pos) (r : Ref) (W : Option Srt) → node_breaks A gh xs at (V.Ident r) W ≡ local_breaks gh xs at r W
  unfolding node_breaks misused_of clash_of
  check-Ident at r W = ap (λ f. first_broken (broken A gh xs f W)) (form-Ident at r) ∙ first-append (misused gh at.at (slice_get xs r.index)) (clash at.at (sort_in (slice_get xs r.index)) W)

  pub check-Int : (at : Pos) (n : ℤ) (W : Option Srt) → node_breaks A gh xs at (V.Int n) W ≡ clash_of at (Some s_int) W
  unfolding node_breaks clash_of
  check-Int at n W = ap (λ f. first_broken (broken A gh xs f W)) (form-Int at n)

  pub check-Bool : (at : Pos) (b : Bool) (W : Option Srt) → node_breaks A gh xs at (V.Bool b) W ≡ clash_of at (Some s_bool) W
  unfolding node_breaks clash_of
  check-Bool at b W = ap (λ f. first_broken (broken A gh xs f W)) (form-Bool at b)

  pub check-Unit : (at : Pos) (W : Option Srt) → node_breaks A gh xs at V.Unit W ≡ clash_of at (Some s_unit) W
  unfolding node_breaks clash_of
  check-Unit at W = ap (λ f. first_broken (broken A gh xs f W)) (form-Unit at)

  pub check-If : (at : Pos) (c f g : Form Ref) (W : Option Srt) → node_breaks A gh xs at (V.If c f g) W
      ≡ inner (least (least (form_breaks A gh xs c (Some s_bool)) (form_breaks A gh xs f (or_else (node_given A xs at (V.If c f g)) W))) (form_breaks A gh xs g (or_else (node_given A xs at (V.If c f g)) W))) (clash_of at (node_given A xs at (V.If c f g)) W)
  unfolding node_breaks clash_of node_given
  check-If at c f g W = ap (λ h. first_broken (broken A gh xs h W)) (form-If at c f g) ∙ apart (or_else (given A xs (plain_form f)) (given A xs (plain_form g))) ∙ ap whole (sym (ap (given A xs) (form-If at c f g)))
    where
      of : Form Ref → Option Srt → List Broken
      of h V = broken A gh xs (plain_form h) V

      whole : Option Srt → Option Broken
      whole S = inner (least (least (form_breaks A gh xs c (Some s_bool)) (form_breaks A gh xs f (or_else S W))) (form_breaks A gh xs g (or_else S W))) (clash_of at S W)

      apart : (S : Option Srt) → first_broken (innermost (of c (Some s_bool) ++ of f (or_else S W) ++ of g (or_else S W)) (clash at.at S W)) ≡ whole S
      apart S =
          first-innermost (of c (Some s_bool) ++ of f (or_else S W) ++ of g (or_else S W)) (clash at.at S W)
          ∙ ap (λ o. inner o (clash_of at S W)) (first-append (of c (Some s_bool) ++ of f (or_else S W)) (of g (or_else S W)) ∙ ap (λ o. least o (form_breaks A gh xs g (or_else S W))) (first-append (of c (Some s_bool)) (of f (or_else S W))))

  pub check-Let : (at : Pos) (w : Word) (f g : Form Ref) (W : Option Srt) → node_breaks A gh xs at (V.Let w f g) W ≡ let_at A gh xs at f g W
  unfolding node_breaks clash_of node_given need_of
  check-Let at w f g W =
      ap (λ h. first_broken (broken A gh xs h W)) (form-Let at w f g)
      ∙ first-append (innermost (broken A gh xs (plain_form f) None) (needs_sort (place_of (plain_form f)) G)) (where_known G rest)
      ∙ ap (λ o. least o (first_broken (where_known G rest))) (first-innermost (broken A gh xs (plain_form f) None) (needs_sort (place_of (plain_form f)) G))
      ∙ ap (λ p. least (inner (form_breaks A gh xs f None) (first_broken (needs_sort p G))) (first_broken (where_known G rest))) (form-place f)
      ∙ ap (least (inner (form_breaks A gh xs f None) (need_of f.at G))) (behind G)
    where
      G : Option Srt
      G = form_given A xs f

      rest : Srt → List Broken
      rest S = innermost (broken A gh (visible S ∷ xs) (plain_form g) (or_else (given A (visible S ∷ xs) (plain_form g)) W)) (clash at.at (given A (visible S ∷ xs) (plain_form g)) W)

      behind : (o : Option Srt) → first_broken (where_known o rest) ≡ rest_where A gh xs at g W o
      behind None = refl
      behind (Some S) = first-innermost (broken A gh (visible S ∷ xs) (plain_form g) (or_else (given A (visible S ∷ xs) (plain_form g)) W)) (clash at.at (given A (visible S ∷ xs) (plain_form g)) W)

  pub check-App : (at : Pos) (r : Ref) (fs : List (Form Ref)) (W : Option Srt) → app_at A gh xs at r fs W
      ≡ inner (forms_break A true xs fs (wants_of (args_of (A r)))) (least (not_applied_of at (A r)) (clash_of at (option_map (λ f. f.sort) (A r)) W))
  unfolding node_breaks forms_break not_applied_of clash_of
  check-App at r fs W =
      let inside = brokens A true xs (plain_forms fs) (wants_of (args_of (A r))) in
      let own = not_applied at.at (A r) ++ clash at.at (option_map (λ f. f.sort) (A r)) W in
      ap (λ f. first_broken (broken A gh xs f W)) (form-App at r fs) ∙ first-innermost inside own
      ∙ ap (inner (first_broken inside)) (first-append (not_applied at.at (A r)) (clash at.at (option_map (λ f. f.sort) (A r)) W))

  -- ---- primitives

  none-padded : (fs : WForms Ref) → brokens A gh xs fs (None ∷ None ∷ []) ≡ brokens A gh xs fs []
  none-padded f_end = refl
  none-padded (f_more f f_end) = refl
  none-padded (f_more f (f_more g fs)) = refl

  one-padded : (W : Option Srt) (fs : WForms Ref) → brokens A gh xs fs (W ∷ None ∷ []) ≡ brokens A gh xs fs (W ∷ [])
  one-padded W f_end = refl
  one-padded W (f_more f f_end) = refl
  one-padded W (f_more f (f_more g fs)) = refl

  padded : (fs : WForms Ref) (o : Op) (Gs : List (Option Srt)) (W : Option Srt) → brokens A gh xs fs (two (prim_wants o Gs W)) ≡ brokens A gh xs fs (prim_wants o Gs W)
  padded fs = by-shape (λ Ws. brokens A gh xs fs (two Ws) ≡ brokens A gh xs fs Ws) (none-padded fs) (λ W. one-padded W fs) (λ V W. refl)

  -- by the sorts that the arguments give, where it depends on them
  unfoldable row_breaks : Pos → Op → List (Form Ref) → (Gs : List (Option Srt)) → (W : Option Srt) → Option Broken
  row_breaks at o fs Gs W = inner (inner (forms_break A gh xs fs (two (prim_wants o Gs W))) (prim_need (first_at at fs) o Gs)) (prim_own at o Gs W)

  by-all : (at : Pos) (o : Op) (fs : List (Form Ref)) (W : Option Srt) → prim_at A gh xs at o fs W ≡ row_breaks at o fs (givens A xs (plain_forms fs)) W
  unfolding node_breaks forms_break prim_need prim_own row_breaks
  by-all at o fs W =
      let Gs = givens A xs (plain_forms fs) in
      let inside = brokens A gh xs (plain_forms fs) (prim_wants o Gs W) in
      let needs = prim_needs (first_place at.at (plain_forms fs)) o Gs in
      let own = prim_breaks at.at o Gs W in
      ap (λ f. first_broken (broken A gh xs f W)) (form-Prim at o fs)
      ∙ first-innermost (innermost inside needs) own
      ∙ ap (λ b. inner b (first_broken own)) (first-innermost inside needs
      ∙ ap (λ p. inner (first_broken inside) (first_broken (prim_needs p o Gs))) (first-place at fs)
      ∙ ap (λ bs. inner (first_broken bs) (first_broken (prim_needs (first_at at fs).at o Gs))) (sym (padded (plain_forms fs) o Gs W)))

  by-seen : (at : Pos) (o : Op) (fs : List (Form Ref)) (Gs : List (Option Srt)) (W : Option Srt) → row_breaks at o fs (seen_of o Gs) W ≡ row_breaks at o fs Gs W
  unfolding forms_break prim_need prim_own row_breaks
  by-seen at o fs Gs W =
      ap (λ Ws. inner (inner (forms_break A gh xs fs (two Ws)) (prim_need (first_at at fs) o (seen_of o Gs))) (prim_own at o (seen_of o Gs) W)) (wants-seen o Gs W)
      ∙ ap (λ bs. inner (inner (forms_break A gh xs fs (two (prim_wants o Gs W))) (first_broken bs)) (prim_own at o (seen_of o Gs) W)) (needs-seen (first_at at fs).at o Gs)
      ∙ ap (λ bs. inner (inner (forms_break A gh xs fs (two (prim_wants o Gs W))) (prim_need (first_at at fs) o Gs)) (first_broken bs)) (breaks-seen at.at o Gs W)

  pub check-Prim : (at : Pos) (o : Op) (fs : List (Form Ref)) (W : Option Srt) (Gs Ws : List (Option Srt))
      → Gs ≡ seen (fits_by_parts o) (arg_given A xs fs 0) (arg_given A xs fs 1) → Ws ≡ two (prim_wants o Gs W)
      → prim_at A gh xs at o fs W ≡ inner (inner (forms_break A gh xs fs Ws) (prim_need (first_at at fs) o Gs)) (prim_own at o Gs W)
  unfolding row_breaks
  check-Prim at o fs W Gs Ws e h =
      let all = givens A xs (plain_forms fs) in
      let same : seen_of o all ≡ Gs = ap (λ G. seen (fits_by_parts o) G (second all)) (first-given A xs fs) ∙ ap (seen (fits_by_parts o) (arg_given A xs fs 0)) (second-given A xs fs) ∙ sym e in
      by-all at o fs W ∙ sym (by-seen at o fs all W) ∙ ap (λ Gs. row_breaks at o fs Gs W) same
      ∙ ap (λ Ws. inner (inner (forms_break A gh xs fs Ws) (prim_need (first_at at fs) o Gs)) (prim_own at o Gs W)) (sym h)

  -- ---- lists

  pub forms-none : (Ws : List (Option Srt)) → forms_break A gh xs [] Ws ≡ None
  unfolding forms_break
  forms-none Ws = refl

  last : (fs : List (Form Ref)) (f : Form Ref) (Ws : List (Option Srt)) → brokens A gh xs (plain_forms (fs ++ f ∷ [])) Ws ≡ brokens A gh xs (plain_forms fs) Ws ++ broken A gh xs (plain_form f) (want_at Ws (length fs))
  last [] f [] = append-nil (broken A gh xs (plain_form f) None)
  last [] f (W ∷ Ws) = append-nil (broken A gh xs (plain_form f) W)
  last (g ∷ fs) f [] = ap (λ bs. broken A gh xs (plain_form g) None ++ bs) (last fs f []) ∙ sym (append_assoc (broken A gh xs (plain_form g) None) (brokens A gh xs (plain_forms fs) []) (broken A gh xs (plain_form f) None))
  last (g ∷ fs) f (W ∷ Ws) = ap (λ bs. broken A gh xs (plain_form g) W ++ bs) (last fs f Ws) ∙ sym (append_assoc (broken A gh xs (plain_form g) W) (brokens A gh xs (plain_forms fs) Ws) (broken A gh xs (plain_form f) (want_at Ws (length fs))))

  -- the step of a loop over them
  pub forms-step : (fs : List (Form Ref)) (i : ℕ) (f : Form Ref) (Ws : List (Option Srt)) (W : Option Srt) → f ≡ get_or fs i f → i < length fs → W ≡ want_at Ws i
      → forms_break A gh xs (take (i + 1) fs) Ws ≡ least (forms_break A gh xs (take i fs) Ws) (form_breaks A gh xs f W)
  unfolding node_breaks forms_break
  forms-step fs i f Ws W e h w =
      ap (λ gs. first_broken (brokens A gh xs (plain_forms gs) Ws)) (take_more fs i f h ∙ ap (λ g. take i fs ++ g ∷ []) (sym e))
      ∙ ap first_broken (last (take i fs) f Ws)
      ∙ first-append (brokens A gh xs (plain_forms (take i fs)) Ws) (broken A gh xs (plain_form f) (want_at Ws (length (take i fs))))
      ∙ ap (λ V. least (forms_break A gh xs (take i fs) Ws) (first_broken (broken A gh xs (plain_form f) V))) (ap (want_at Ws) (length-take-le i fs (omega (arith, h))) ∙ sym w)

pub ruleset checks = (plain-sort-Int, plain-sort-Bool, plain-sort-Unit, check-Ident, check-Int, check-Bool, check-Unit, check-If, check-Let)

pub ruleset primitives = (check-Prim)

pub ruleset applications = (check-App)

pub ruleset lists = (forms-none, forms-step)
