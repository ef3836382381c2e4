-- What answers among the rules that a definition's text breaks, a variant of the tree at a time.
use Rattle.std.proofs.Common.{◌≡◌, ℕ, ◌+◌, ◌<◌, Bool, true, false, List, [], ◌∷◌, ◌++◌, map, length, take, get_or, Option, Some, None, option_map, refl, sym, ap, ◌∙◌, append_assoc, if◌then◌else◌}
use Rattle.std.proofs.lemmas.List.{append-nil, take_more}
use Rattle.fst_base.specs.declared.place.Pos.{Pos}
use Rattle.fst_base.specs.Sorts.{Srt, plain_sort, s_bool}
use Rattle.fst_program.specs.declared.effect.Effect.{Effect}
use Rattle.fst_program.specs.declared.effect.Effect.TheVariants as effect
use Rattle.fst_program.specs.LiftPaths.{or_else}
use Rattle.fst_trees.specs.declared.word.Word.{Word}
use Rattle.fst_trees.specs.declared.sort.SortTree.{SortTree}
use Rattle.fst_trees.specs.declared.form.Form.{Form}
use Rattle.fst_trees.specs.declared.pattern.ArmTree.{ArmTree}
use Rattle.fst_trees.specs.declared.pattern.ConWord.{ConWord}
use Rattle.fst_trees.specs.declared.definition.DmTree.{DmTree}
use Rattle.fst_trees.specs.declared.definition.DmTree.TheVariants as V
use Rattle.fst_names.specs.declared.reference.Ref.{Ref}
use Rattle.fst_names.specs.declared.broken.Broken.{Broken}
use Rattle.fst_names.specs.Broken.{first_broken, least, inner, innermost}
use Rattle.fst_names.specs.Namings.{ref_at}
use Rattle.fst_names.specs.Trees.{WText, WPart, WForms, f_end, f_more, x_let, x_assert, x_if, x_match, x_part, as_part, plain_dm, plain_dm_arms, plain_form, plain_forms}
use Rattle.fst_names.proofs.DmTreeLemmas.{dm-Let, dm-If, dm-Match, dm-Block, dm-Run, dm-Term}
use Rattle.fst_names.proofs.BrokenLemmas.{first-append, first-innermost}
use Rattle.fst_effects.specs.declared.wanted.Run.{Run}
use Rattle.fst_effects.specs.Known.{Ctx, Known, clash, needs_sort, refused, where_known, with_sort}
use Rattle.fst_effects.specs.TermSorts.{given, broken, brokens, broken_giving, args_of, place_of, visible, wants_of}
use Rattle.fst_effects.specs.TermChecks.{clash_of, form_breaks, form_given, forms_break, giving_breaks, need_of, node_breaks, node_given}
use Rattle.fst_effects.specs.TextSorts.{arms_given, broken_args, broken_arms, broken_part, broken_text, callee_effect, part_given, part_place, text_given}
use Rattle.fst_effects.specs.Patterns.{in_pattern, open_match, part_sorts}
use Rattle.fst_effects.specs.PatternScopes.{fits, pattern_scope}
use Rattle.fst_effects.specs.Scopes.{run_args, run_wants}
use Rattle.fst_effects.specs.WrittenSorts.{note_of}
use Rattle.fst_effects.specs.DefinitionTexts.{callee_run, dm_arm_breaks, dm_arms_break, dm_bound_breaks, dm_bound_gives, dm_breaks, dm_gives, dm_match_breaks, dm_match_where, dm_place, dm_rest_where, known_of, none_applied, open_of, run_in}
use Rattle.fst_effects.proofs.PlainLemmas.{plain-sort-Bool}
use Rattle.fst_effects.proofs.NodePlaces.{form-place}
use Rattle.fst_effects.proofs.PatternLemmas.{fits-breaks}
use Rattle.fst_effects.proofs.GivenTextLemmas.{called-run, called-sort, part-given}

-- ---- places of texts that a let binds

abbrev placed : WText Ref → Pos
placed c = record { at = part_place (as_part c) }

pub place-Let : (w : Word) (s : Option (SortTree Ref)) (p c : DmTree Ref) → dm_place (V.Let w s p c) ≡ record { at = 0 }
unfolding dm_place
place-Let w s p c = ap placed (dm-Let ref_at w s p c)

pub place-If : (f : Form Ref) (c d : DmTree Ref) → dm_place (V.If f c d) ≡ record { at = 0 }
unfolding dm_place
place-If f c d = ap placed (dm-If ref_at f c d)

pub place-Match : (f : Form Ref) (at : Pos) (arms : List (ArmTree (DmTree Ref))) → dm_place (V.Match f at arms) ≡ record { at = 0 }
unfolding dm_place
place-Match f at arms = ap placed (dm-Match ref_at f at arms)

pub place-Block : (at : Pos) (c : DmTree Ref) → dm_place (V.Block at c) ≡ at
unfolding dm_place
place-Block at c = ap placed (dm-Block ref_at at c)

pub place-Run : (r : Ref) (fs : List (Form Ref)) → dm_place (V.Run r fs) ≡ r.at
unfolding dm_place
place-Run r fs = ap placed (dm-Run ref_at r fs)

pub place-Term : (f : Form Ref) → dm_place (V.Term f) ≡ f.at
unfolding dm_place
place-Term f = ap placed (dm-Term ref_at f)

pub ruleset places = (place-Let, place-If, place-Match, place-Block, place-Run, place-Term)

-- ---- texts

abbrev answer : Known → Ctx → (W : Option Srt) → WText Ref → Option Broken
answer K xs W c = first_broken (broken_text K effect.Pure false xs c W)

-- a text as a part breaks what it breaks
part-same : (K : Known) (x : Effect) (gh : Bool) (xs : Ctx) (c : WText Ref) (W : Option Srt) → broken_part K x gh xs (as_part c) W ≡ broken_text K x gh xs c W
part-same K x gh xs (x_let g w s p c) W = refl
part-same K x gh xs (x_assert f at c) W = refl
part-same K x gh xs (x_if f c d) W = refl
part-same K x gh xs (x_match f at arms) W = refl
part-same K x gh xs (x_part p) W = refl

-- the arguments of a computation hold no ghost ones
args-visible : (K : Known) (xs : Ctx) (fs : WForms Ref) (Ss : List Srt) → broken_args K false xs fs (map visible Ss) ≡ brokens K.applied false xs fs (wants_of (map visible Ss))
args-visible K xs fs [] = refl
args-visible K xs f_end (S ∷ Ss) = refl
args-visible K xs (f_more f fs) (S ∷ Ss) = ap (λ bs. broken K.applied false xs f (Some S) ++ bs) (args-visible K xs fs Ss)

run-args : (K : Known) (xs : Ctx) (fs : WForms Ref) (o : Option Run) → broken_args K false xs fs (args_of (option_map callee_run o)) ≡ brokens K.applied false xs fs (run_wants o)
run-args K xs fs None = refl
run-args K xs fs (Some r) = args-visible K xs fs (run_args r)

-- and it is PURE
run-pure : (K : Known) (at : ℕ) (o : Option Run) → refused K effect.Pure (callee_effect (option_map callee_run o)) at ≡ []
run-pure K at None = refl
run-pure K at (Some r) = refl

module _ (rs : List Run) (xs : Ctx) where
  abbrev K : Known
  K = known_of rs

  pub check-Let : (w : Word) (s : Option (SortTree Ref)) (p c : DmTree Ref) (W : Option Srt) → dm_breaks rs xs (V.Let w s p c) W
      ≡ least (dm_bound_breaks rs xs s p (dm_bound_gives rs xs s p)) (dm_rest_where rs xs c W (dm_bound_gives rs xs s p))
  unfolding dm_breaks dm_gives need_of note_of dm_place
  check-Let w s p c W =
      ap (answer K xs W) (dm-Let ref_at w s p c)
      ∙ first-append (innermost (parts (as_part q)) (needs_sort (part_place (as_part q)) (G (as_part q)))) (where_known (G (as_part q)) rest)
      ∙ ap (λ o. least o (first_broken (where_known (G (as_part q)) rest))) (first-innermost (parts (as_part q)) (needs_sort (part_place (as_part q)) (G (as_part q))))
      ∙ ap (λ bs. least (inner (first_broken bs) (first_broken (needs_sort (part_place (as_part q)) (G (as_part q))))) (first_broken (where_known (G (as_part q)) rest))) (part-same K effect.Pure false xs q (note_of s))
      ∙ ap (λ g. least (inner (answer K xs (note_of s) q) (first_broken (needs_sort (part_place (as_part q)) (or_else (note_of s) g)))) (first_broken (where_known (or_else (note_of s) g) rest))) (part-given K xs q)
      ∙ ap (least (inner (answer K xs (note_of s) q) (first_broken (needs_sort (part_place (as_part q)) (dm_bound_gives rs xs s p))))) (behind (dm_bound_gives rs xs s p))
    where
      q : WText Ref
      q = plain_dm ref_at p

      parts : WPart Ref → List Broken
      parts r = broken_part K effect.Pure false xs r (note_of s)

      G : WPart Ref → Option Srt
      G r = or_else (note_of s) (part_given K xs r)

      rest : Srt → List Broken
      rest S = broken_text K effect.Pure false (visible S ∷ xs) (plain_dm ref_at c) W

      behind : (o : Option Srt) → first_broken (where_known o rest) ≡ dm_rest_where rs xs c W o
      behind None = refl
      behind (Some S) = refl

  pub check-If : (f : Form Ref) (c d : DmTree Ref) (W : Option Srt) → dm_breaks rs xs (V.If f c d) W
      ≡ least (least (form_breaks none_applied false xs f (Some s_bool)) (dm_breaks rs xs c (or_else W (dm_gives rs xs (V.If f c d))))) (dm_breaks rs xs d (or_else W (dm_gives rs xs (V.If f c d))))
  unfolding dm_breaks dm_gives node_breaks
  check-If f c d W = ap (answer K xs W) (dm-If ref_at f c d) ∙ apart (or_else W (or_else (text_given K xs (plain_dm ref_at c)) (text_given K xs (plain_dm ref_at d)))) ∙ ap (λ G. whole (or_else W G)) (sym (ap (text_given K xs) (dm-If ref_at f c d)))
    where
      whole : Option Srt → Option Broken
      whole V = least (least (form_breaks none_applied false xs f (Some s_bool)) (dm_breaks rs xs c V)) (dm_breaks rs xs d V)

      apart : (V : Option Srt) → first_broken (broken none_applied false xs (plain_form f) (Some s_bool) ++ broken_text K effect.Pure false xs (plain_dm ref_at c) V ++ broken_text K effect.Pure false xs (plain_dm ref_at d) V) ≡ whole V
      apart V =
          first-append (broken none_applied false xs (plain_form f) (Some s_bool) ++ broken_text K effect.Pure false xs (plain_dm ref_at c) V) (broken_text K effect.Pure false xs (plain_dm ref_at d) V)
          ∙ ap (λ o. least o (dm_breaks rs xs d V)) (first-append (broken none_applied false xs (plain_form f) (Some s_bool)) (broken_text K effect.Pure false xs (plain_dm ref_at c) V))

  pub check-Block : (at : Pos) (c : DmTree Ref) (W : Option Srt) → dm_breaks rs xs (V.Block at c) W ≡ dm_breaks rs xs c W
  unfolding dm_breaks
  check-Block at c W = ap (answer K xs W) (dm-Block ref_at at c)

  pub check-Run : (r : Ref) (fs : List (Form Ref)) (W : Option Srt) → dm_breaks rs xs (V.Run r fs) W
      ≡ inner (forms_break none_applied false xs fs (run_wants (run_in rs r))) (clash_of r.at (option_map (λ r. plain_sort r.sort) (run_in rs r)) W)
  unfolding dm_breaks forms_break clash_of
  check-Run r fs W =
      ap (answer K xs W) (dm-Run ref_at r fs)
      ∙ first-innermost (broken_args K false xs (plain_forms fs) (args_of (K.called r))) _
      ∙ ap (λ f. inner (first_broken (broken_args K false xs (plain_forms fs) (args_of f))) (first_broken (refused K effect.Pure (callee_effect f) r.at.at ++ clash r.at.at (option_map (λ f. f.sort) (K.called r)) W))) (called-run rs r)
      ∙ ap (λ bs. inner (first_broken bs) (first_broken (refused K effect.Pure (callee_effect (option_map callee_run (run_in rs r))) r.at.at ++ clash r.at.at (option_map (λ f. f.sort) (K.called r)) W))) (run-args K xs (plain_forms fs) (run_in rs r))
      ∙ ap (λ bs. inner (first_broken (brokens none_applied false xs (plain_forms fs) (run_wants (run_in rs r)))) (first_broken (bs ++ clash r.at.at (option_map (λ f. f.sort) (K.called r)) W))) (run-pure K r.at.at (run_in rs r))
      ∙ ap (λ S. inner (first_broken (brokens none_applied false xs (plain_forms fs) (run_wants (run_in rs r)))) (first_broken (clash r.at.at S W))) (called-sort rs r)

  pub check-Term : (f : Form Ref) (W : Option Srt) → dm_breaks rs xs (V.Term f) W ≡ form_breaks none_applied false xs f W
  unfolding dm_breaks node_breaks
  check-Term f W = ap (answer K xs W) (dm-Term ref_at f)

  -- ---- matches

  giving : (f : Form Ref) → first_broken (broken_giving none_applied false xs (plain_form f)) ≡ giving_breaks none_applied false xs f
  unfolding node_breaks node_given need_of
  giving f =
      first-innermost (broken none_applied false xs (plain_form f) None) (needs_sort (place_of (plain_form f)) (given none_applied xs (plain_form f)))
      ∙ ap (λ q. inner (first_broken (broken none_applied false xs (plain_form f) None)) (first_broken (needs_sort q (given none_applied xs (plain_form f))))) (form-place f)

  inner-none : (o : Option Broken) → inner o None ≡ o
  inner-none None = refl
  inner-none (Some b) = refl

  apart : (bs : List Broken) (at : Pos) (arms : List (ArmTree (DmTree Ref))) (W o : Option Srt)
      → first_broken (innermost (bs ++ where_known o (λ S. broken_arms K effect.Pure false xs S (plain_dm_arms ref_at arms) (or_else W (arms_given K xs S (plain_dm_arms ref_at arms))))) (where_known o (λ S. open_match true at.at S (plain_dm_arms ref_at arms))))
      ≡ dm_match_where rs xs at arms (or_else W (with_sort o (λ S. arms_given K xs S (plain_dm_arms ref_at arms)))) o (first_broken bs)
  unfolding dm_arms_break open_of
  apart bs at arms W None = first-innermost (bs ++ []) [] ∙ inner-none _ ∙ ap first_broken (append-nil bs)
  apart bs at arms W (Some S) =
      let V = or_else W (arms_given K xs S (plain_dm_arms ref_at arms)) in
      first-innermost (bs ++ broken_arms K effect.Pure false xs S (plain_dm_arms ref_at arms) V) (open_match true at.at S (plain_dm_arms ref_at arms))
      ∙ ap (λ o. inner o (open_of at S arms)) (first-append bs (broken_arms K effect.Pure false xs S (plain_dm_arms ref_at arms) V))

  pub check-Match : (f : Form Ref) (at : Pos) (arms : List (ArmTree (DmTree Ref))) (W : Option Srt) → dm_breaks rs xs (V.Match f at arms) W
      ≡ dm_match_breaks rs xs at f arms (or_else W (dm_gives rs xs (V.Match f at arms)))
  unfolding dm_breaks dm_gives node_given dm_match_breaks
  check-Match f at arms W =
      ap (answer K xs W) (dm-Match ref_at f at arms) ∙ apart (broken_giving none_applied false xs (plain_form f)) at arms W (given none_applied xs (plain_form f))
      ∙ ap (dm_match_where rs xs at arms (or_else W (text_given K xs (x_match (plain_form f) at.at (plain_dm_arms ref_at arms)))) (given none_applied xs (plain_form f))) (giving f)
      ∙ ap (λ G. dm_match_where rs xs at arms (or_else W G) (given none_applied xs (plain_form f)) (giving_breaks none_applied false xs f)) (sym (ap (text_given K xs) (dm-Match ref_at f at arms)))

  pub match-none : (f : Form Ref) (at : Pos) (arms : List (ArmTree (DmTree Ref))) (W : Option Srt) → form_given none_applied xs f ≡ None → dm_match_breaks rs xs at f arms W ≡ giving_breaks none_applied false xs f
  unfolding dm_match_breaks
  match-none f at arms W e = ap (λ G. dm_match_where rs xs at arms W G (giving_breaks none_applied false xs f)) e

  pub match-some : (f : Form Ref) (at : Pos) (arms : List (ArmTree (DmTree Ref))) (W : Option Srt) (S : Srt) → form_given none_applied xs f ≡ Some S
      → dm_match_breaks rs xs at f arms W ≡ inner (least (giving_breaks none_applied false xs f) (dm_arms_break rs xs S arms W)) (open_of at S arms)
  unfolding dm_match_breaks
  match-some f at arms W S e = ap (λ G. dm_match_where rs xs at arms W G (giving_breaks none_applied false xs f)) e

  -- ---- arms

  pub arm-fits : (S : Srt) (at : Pos) (con : ConWord) (c : DmTree Ref) (W : Option Srt) → fits con S ≡ true → dm_arm_breaks rs xs S at con c W ≡ dm_breaks rs (pattern_scope con S xs) c W
  unfolding dm_arm_breaks
  arm-fits S at con c W e = ap (λ b. if b then dm_breaks rs (pattern_scope con S xs) c W else need_of at None) e

  pub arm-other : (S : Srt) (at : Pos) (con : ConWord) (c : DmTree Ref) (W : Option Srt) → fits con S ≡ false → dm_arm_breaks rs xs S at con c W ≡ need_of at None
  unfolding dm_arm_breaks
  arm-other S at con c W e = ap (λ b. if b then dm_breaks rs (pattern_scope con S xs) c W else need_of at None) e

  pub arms-none : (S : Srt) (W : Option Srt) → dm_arms_break rs xs S [] W ≡ None
  unfolding dm_arms_break
  arms-none S W = refl

  abbrev arm_broken : Srt → ArmTree (DmTree Ref) → (W : Option Srt) → List Broken
  arm_broken S a W = if fits a.con S then broken_text K effect.Pure false (pattern_scope a.con S xs) (plain_dm ref_at a.body) W else needs_sort a.at.at None

  one : (S : Srt) (a : ArmTree (DmTree Ref)) (W : Option Srt) → first_broken (arm_broken S a W) ≡ dm_arm_breaks rs xs S a.at a.con a.body W
  unfolding dm_arm_breaks dm_breaks need_of
  one S a W = go (fits a.con S)
    where
      go : (b : Bool) → first_broken (if b then broken_text K effect.Pure false (pattern_scope a.con S xs) (plain_dm ref_at a.body) W else needs_sort a.at.at None)
          ≡ (if b then first_broken (broken_text K effect.Pure false (pattern_scope a.con S xs) (plain_dm ref_at a.body) W) else first_broken (needs_sort a.at.at None))
      go true = refl
      go false = refl

  fitted : Srt → ArmTree (DmTree Ref) → (W : Option Srt) → List Broken
  fitted S a W = in_pattern a.at.at (part_sorts a.con S) (λ ys. broken_text K effect.Pure false (map visible ys ++ xs) (plain_dm ref_at a.body) W)

  more : (S : Srt) (arms : List (ArmTree (DmTree Ref))) (a : ArmTree (DmTree Ref)) (W : Option Srt)
      → broken_arms K effect.Pure false xs S (plain_dm_arms ref_at (arms ++ a ∷ [])) W ≡ broken_arms K effect.Pure false xs S (plain_dm_arms ref_at arms) W ++ arm_broken S a W
  unfolding fitted
  more S [] a W = append-nil (fitted S a W) ∙ fits-breaks a.con S xs (λ ys. broken_text K effect.Pure false ys (plain_dm ref_at a.body) W) a.at.at
  more S (b ∷ arms) a W = ap (λ bs. fitted S b W ++ bs) (more S arms a W) ∙ sym (append_assoc (fitted S b W) (broken_arms K effect.Pure false xs S (plain_dm_arms ref_at arms) W) (arm_broken S a W))

  -- the step of a loop over them
  pub arms-step : (S : Srt) (arms : List (ArmTree (DmTree Ref))) (i : ℕ) (a : ArmTree (DmTree Ref)) (W : Option Srt) → a ≡ get_or arms i a → i < length arms
      → dm_arms_break rs xs S (take (i + 1) arms) W ≡ least (dm_arms_break rs xs S (take i arms) W) (dm_arm_breaks rs xs S a.at a.con a.body W)
  unfolding dm_arms_break
  arms-step S arms i a W e h =
      ap (λ bs. first_broken (broken_arms K effect.Pure false xs S (plain_dm_arms ref_at bs) W)) (take_more arms i a h ∙ ap (λ b. take i arms ++ b ∷ []) (sym e))
      ∙ ap first_broken (more S (take i arms) a W)
      ∙ first-append (broken_arms K effect.Pure false xs S (plain_dm_arms ref_at (take i arms)) W) (arm_broken S a W)
      ∙ ap (least (first_broken (broken_arms K effect.Pure false xs S (plain_dm_arms ref_at (take i arms)) W))) (one S a W)

pub ruleset texts = (plain-sort-Bool, check-Let, check-If, check-Match, check-Block, check-Run, check-Term)

pub ruleset matches = (match-none, match-some)

pub ruleset arms = (arm-fits, arm-other)

pub ruleset arm_lists = (arms-none, arms-step)
