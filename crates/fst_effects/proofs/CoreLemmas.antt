-- The core terms that terms are, a variant of the tree at a time.
use Rattle.std.proofs.Common.{◌≡◌, ℕ, ◌+◌, ◌<◌, ℤ, Bool, List, [], ◌∷◌, ◌++◌, map, length, take, get_or, Option, Some, None, refl, sym, ap, ◌∙◌, arith}
use Rattle.std.proofs.lemmas.List.{length-take-le, take_more, map-append}
use Rattle.fst_base.specs.declared.op.Op.{Op}
use Rattle.fst_base.specs.declared.place.Pos.{Pos}
use Rattle.fst_base.specs.Sorts.{Srt, s_bool}
use Rattle.fst_terms.specs.declared.term.Term.{Term}
use Rattle.fst_terms.specs.Terms.{Tm, Tms, t_var, t_int, t_bool, t_unit, t_prim, t_if, t_app, t_let, t_end, t_more, row, plain_term, plain_terms}
use Rattle.fst_terms.proofs.PlainLemmas.{plain-term-Var, plain-term-Int, plain-term-Bool, plain-term-Unit, plain-term-Prim, plain-term-If, plain-term-App, plain-term-Let}
use Rattle.fst_trees.specs.declared.word.Word.{Word}
use Rattle.fst_trees.specs.declared.form.Form.{Form}
use Rattle.fst_trees.specs.declared.form.FormNode.TheVariants as V
use Rattle.fst_names.specs.declared.reference.Ref.{Ref}
use Rattle.fst_names.specs.Trees.{WForms, f_end, f_more, plain_form, plain_forms}
use Rattle.fst_names.proofs.TreeLemmas.{form-Ident, form-Int, form-Bool, form-Unit, form-Prim, form-If, form-App, form-Let}
use Rattle.fst_program.specs.LiftPaths.{or_else}
use Rattle.fst_effects.specs.Known.{Callee, Ctx, or_unit}
use Rattle.fst_effects.specs.TermSorts.{given, givens, core, cores, visible, second, prim_wants, args_of, wants_of}
use Rattle.fst_effects.specs.Scopes.{want_at}
use Rattle.fst_effects.specs.TermChecks.{node_given, form_given, arg_given, prim_given_at, applied_sort, node_core, form_core, forms_core, prim_core, app_core, let_core, rest_core, seen, two, fits_by_parts}
use Rattle.fst_effects.proofs.PlainLemmas.{plain-sort-Bool}
use Rattle.fst_effects.proofs.GivenLemmas.{first-given, second-given}
use Rattle.fst_effects.proofs.RowLemmas.{seen_of, wants-seen, by-shape}

module _ (A : Ref → Option Callee) (xs : Ctx) where
  pub core-Ident : (at : Pos) (r : Ref) (W : Option Srt) → node_core A xs at (V.Ident r) W ≡ t_var r.index
  unfolding node_core
  core-Ident at r W = ap (λ f. core A xs f W) (form-Ident at r)

  pub core-Int : (at : Pos) (n : ℤ) (W : Option Srt) → node_core A xs at (V.Int n) W ≡ t_int n
  unfolding node_core
  core-Int at n W = ap (λ f. core A xs f W) (form-Int at n)

  pub core-Bool : (at : Pos) (b : Bool) (W : Option Srt) → node_core A xs at (V.Bool b) W ≡ t_bool b
  unfolding node_core
  core-Bool at b W = ap (λ f. core A xs f W) (form-Bool at b)

  pub core-Unit : (at : Pos) (W : Option Srt) → node_core A xs at V.Unit W ≡ t_unit
  unfolding node_core
  core-Unit at W = ap (λ f. core A xs f W) (form-Unit at)

  pub core-If : (at : Pos) (c f g : Form Ref) (W : Option Srt) → node_core A xs at (V.If c f g) W
      ≡ t_if (form_core A xs c (Some s_bool)) (form_core A xs f (or_else (node_given A xs at (V.If c f g)) W)) (form_core A xs g (or_else (node_given A xs at (V.If c f g)) W))
  unfolding node_core node_given
  core-If at c f g W = ap (λ h. core A xs h W) (form-If at c f g) ∙ ap whole (sym (ap (given A xs) (form-If at c f g)))
    where
      whole : Option Srt → Tm
      whole S = t_if (form_core A xs c (Some s_bool)) (form_core A xs f (or_else S W)) (form_core A xs g (or_else S W))

  pub core-App : (at : Pos) (r : Ref) (fs : List (Form Ref)) (W : Option Srt) → app_core A xs at r fs W ≡ t_app r.index (or_unit (applied_sort A r)) (forms_core A xs fs (wants_of (args_of (A r))))
  unfolding node_core forms_core applied_sort
  core-App at r fs W = ap (λ f. core A xs f W) (form-App at r fs)

  pub core-Let : (at : Pos) (w : Word) (f g : Form Ref) (W : Option Srt) → let_core A xs at w f g W ≡ t_let w.text (form_core A xs f None) (rest_core A (visible (or_unit (form_given A xs f)) ∷ xs) g W)
  unfolding node_core node_given
  core-Let at w f g W = ap (λ h. core A xs h W) (form-Let at w f g)

  -- ---- primitives

  none-padded : (fs : WForms Ref) → cores A xs fs (None ∷ None ∷ []) ≡ cores A xs fs []
  none-padded f_end = refl
  none-padded (f_more f f_end) = refl
  none-padded (f_more f (f_more g fs)) = refl

  one-padded : (W : Option Srt) (fs : WForms Ref) → cores A xs fs (W ∷ None ∷ []) ≡ cores A xs fs (W ∷ [])
  one-padded W f_end = refl
  one-padded W (f_more f f_end) = refl
  one-padded W (f_more f (f_more g fs)) = refl

  padded : (fs : WForms Ref) (o : Op) (Gs : List (Option Srt)) (W : Option Srt) → cores A xs fs (two (prim_wants o Gs W)) ≡ cores A xs fs (prim_wants o Gs W)
  padded fs = by-shape (λ Ws. cores A xs fs (two Ws) ≡ cores A xs fs Ws) (none-padded fs) (λ W. one-padded W fs) (λ V W. refl)

  pub core-Prim : (at : Pos) (o : Op) (fs : List (Form Ref)) (W : Option Srt) (Gs Ws : List (Option Srt))
      → Gs ≡ seen (fits_by_parts o) (arg_given A xs fs 0) (arg_given A xs fs 1) → Ws ≡ two (prim_wants o Gs W)
      → prim_core A xs at o fs W ≡ t_prim o (or_unit (or_else W (prim_given_at A xs at o fs))) (forms_core A xs fs Ws) at.at
  unfolding node_core node_given forms_core
  core-Prim at o fs W Gs Ws e h =
      let all = givens A xs (plain_forms fs) in
      let same : seen_of o all ≡ Gs = ap (λ G. seen (fits_by_parts o) G (second all)) (first-given A xs fs) ∙ ap (seen (fits_by_parts o) (arg_given A xs fs 0)) (second-given A xs fs) ∙ sym e in
      let wants : prim_wants o all W ≡ prim_wants o Gs W = sym (wants-seen o all W) ∙ ap (λ Gs. prim_wants o Gs W) same in
      let args : cores A xs (plain_forms fs) (prim_wants o all W) ≡ cores A xs (plain_forms fs) Ws = ap (cores A xs (plain_forms fs)) wants ∙ sym (padded (plain_forms fs) o Gs W) ∙ ap (cores A xs (plain_forms fs)) (sym h) in
      ap (λ f. core A xs f W) (form-Prim at o fs)
      ∙ ap (λ S. t_prim o (or_unit (or_else W S)) (cores A xs (plain_forms fs) (prim_wants o all W)) at.at) (sym (ap (given A xs) (form-Prim at o fs)))
      ∙ ap (λ ts. t_prim o (or_unit (or_else W (prim_given_at A xs at o fs))) ts at.at) args

  -- ---- lists

  pub forms-none : (Ws : List (Option Srt)) → forms_core A xs [] Ws ≡ t_end
  unfolding forms_core
  forms-none Ws = refl

  -- with one more behind them
  abbrev pub behind : Tms → Tm → Tms
  behind t_end t = t_more t t_end
  behind (t_more u us) t = t_more u (behind us t)

  last : (fs : List (Form Ref)) (f : Form Ref) (Ws : List (Option Srt)) → cores A xs (plain_forms (fs ++ f ∷ [])) Ws ≡ behind (cores A xs (plain_forms fs) Ws) (core A xs (plain_form f) (want_at Ws (length fs)))
  last [] f [] = refl
  last [] f (W ∷ Ws) = refl
  last (g ∷ fs) f [] = ap (t_more (core A xs (plain_form g) None)) (last fs f [])
  last (g ∷ fs) f (W ∷ Ws) = ap (t_more (core A xs (plain_form g) W)) (last fs f Ws)

  row-last : (ts : List Tm) (t : Tm) → row (ts ++ t ∷ []) ≡ behind (row ts) t
  row-last [] t = refl
  row-last (u ∷ us) t = ap (t_more u) (row-last us t)

  -- the step of a loop over them
  pub forms-step : (fs : List (Form Ref)) (i : ℕ) (f : Form Ref) (Ws : List (Option Srt)) (W : Option Srt) (ts : List Term) (t : Term) → f ≡ get_or fs i f → i < length fs → W ≡ want_at Ws i
      → plain_terms ts ≡ forms_core A xs (take i fs) Ws → plain_term t ≡ form_core A xs f W → plain_terms (ts ++ t ∷ []) ≡ forms_core A xs (take (i + 1) fs) Ws
  unfolding node_core forms_core
  forms-step fs i f Ws W ts t e h w p q =
      ap row (map-append plain_term ts (t ∷ [])) ∙ row-last (map plain_term ts) (plain_term t)
      ∙ ap (λ us. behind us (plain_term t)) p ∙ ap (behind (forms_core A xs (take i fs) Ws)) (q ∙ ap (core A xs (plain_form f)) (w ∙ ap (want_at Ws) (sym (length-take-le i fs (omega (arith, h))))))
      ∙ sym (last (take i fs) f Ws) ∙ sym (ap (λ gs. cores A xs (plain_forms gs) Ws) (take_more fs i f h ∙ ap (λ g. take i fs ++ g ∷ []) (sym e)))

pub ruleset terms = (plain-sort-Bool, plain-term-Var, plain-term-Int, plain-term-Bool, plain-term-Unit, plain-term-If, core-Ident, core-Int, core-Bool, core-Unit, core-If, core-Let)

pub ruleset primitives = (plain-term-Prim, core-Prim)

pub ruleset applications = (plain-term-App, core-App)

pub ruleset lets = (plain-term-Let)

pub ruleset lists = (forms-none, forms-step)
