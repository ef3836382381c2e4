-- The sorts that bodies give, a variant of the tree at a time.
use Rattle.std.proofs.Common.{◌≡◌, ℕ, zero, suc, ◌+◌, ◌<◌, true, false, List, [], ◌∷◌, ◌++◌, length, map, take, get_or, slice_get, Option, Some, None, option_map, refl, sym, ap, ◌∙◌, if◌then◌else◌}
use Rattle.std.proofs.lemmas.List.{take_more}
use Rattle.std.proofs.lemmas.Option.{slice_get_read}
use Rattle.fst_base.specs.declared.place.Pos.{Pos}
use Rattle.fst_base.specs.Sorts.{Srt}
use Rattle.fst_program.specs.LiftPaths.{or_else}
use Rattle.fst_trees.specs.declared.word.Word.{Word}
use Rattle.fst_trees.specs.declared.sort.SortTree.{SortTree}
use Rattle.fst_trees.specs.declared.form.Form.{Form}
use Rattle.fst_trees.specs.declared.pattern.ArmTree.{ArmTree}
use Rattle.fst_trees.specs.declared.pattern.ConWord.{ConWord}
use Rattle.fst_trees.specs.declared.body.BodyTree.{BodyTree}
use Rattle.fst_trees.specs.declared.body.BodyTree.TheVariants as V
use Rattle.fst_trees.specs.declared.body.PartTree.{PartTree}
use Rattle.fst_trees.specs.declared.body.PartNode.TheVariants as W
use Rattle.fst_names.specs.declared.reference.Ref.{Ref}
use Rattle.fst_names.specs.Trees.{plain_text, plain_arms}
use Rattle.fst_names.proofs.TextTreeLemmas.{text-Let, text-GhostLet, text-Assert, text-If, text-Match, text-Part, part-Block, part-Call, part-Reify, part-Reflect, part-Term}
use Rattle.fst_effects.specs.Known.{Ctx, Known, with_sort}
use Rattle.fst_effects.specs.TextSorts.{entry, text_given, part_given, arms_given, result_sort}
use Rattle.fst_effects.specs.TermChecks.{node_given, form_given}
use Rattle.fst_effects.specs.TermSorts.{visible}
use Rattle.fst_effects.specs.Patterns.{fits_pattern, part_sorts}
use Rattle.fst_effects.specs.PatternScopes.{fits, pattern_scope}
use Rattle.fst_effects.proofs.PatternLemmas.{fits-given}
use Rattle.fst_sorting.specs.Sites.{note_of, written_sort}
use Rattle.fst_sorting.specs.Bodies.{text_gives, part_node_gives, part_gives, arms_give, arm_gives, bound_gives}

module _ (K : Known) (xs : Ctx) where
  pub gives-Let : (w : Word) (s : Option (SortTree Ref)) (p : PartTree Ref) (c : BodyTree Ref) → text_gives K xs (V.Let w s p c) ≡ with_sort (bound_gives K xs s p) (λ S. text_gives K (entry false S ∷ xs) c)
  unfolding text_gives part_node_gives note_of bound_gives
  gives-Let w s p c = ap (text_given K xs) (text-Let w s p c)

  pub gives-GhostLet : (w : Word) (s : Option (SortTree Ref)) (p : PartTree Ref) (c : BodyTree Ref) → text_gives K xs (V.GhostLet w s p c) ≡ with_sort (bound_gives K xs s p) (λ S. text_gives K (entry true S ∷ xs) c)
  unfolding text_gives part_node_gives note_of bound_gives
  gives-GhostLet w s p c = ap (text_given K xs) (text-GhostLet w s p c)

  pub gives-Assert : (f : Form Ref) (at : Pos) (c : BodyTree Ref) → text_gives K xs (V.Assert f at c) ≡ text_gives K xs c
  unfolding text_gives
  gives-Assert f at c = ap (text_given K xs) (text-Assert f at c)

  pub gives-If : (f : Form Ref) (c d : BodyTree Ref) → text_gives K xs (V.If f c d) ≡ or_else (text_gives K xs c) (text_gives K xs d)
  unfolding text_gives
  gives-If f c d = ap (text_given K xs) (text-If f c d)

  pub gives-Match : (f : Form Ref) (at : Pos) (arms : List (ArmTree (BodyTree Ref))) → text_gives K xs (V.Match f at arms) ≡ with_sort (form_given K.applied xs f) (λ S. arms_give K xs S arms)
  unfolding text_gives arms_give node_given
  gives-Match f at arms = ap (text_given K xs) (text-Match f at arms)

  pub gives-Part : (p : PartTree Ref) → text_gives K xs (V.Part p) ≡ part_gives K xs p
  unfolding text_gives part_node_gives
  gives-Part p = ap (text_given K xs) (text-Part p)

  pub gives-Block : (at : Pos) (c : BodyTree Ref) → part_node_gives K xs at (W.Block c) ≡ text_gives K xs c
  unfolding text_gives part_node_gives
  gives-Block at c = ap (part_given K xs) (part-Block at c)

  pub gives-Call : (at : Pos) (r : Ref) (fs : List (Form Ref)) → part_node_gives K xs at (W.Call r fs) ≡ option_map (λ f. f.sort) (K.called r)
  unfolding part_node_gives
  gives-Call at r fs = ap (part_given K xs) (part-Call at r fs)

  pub gives-Reify : (at : Pos) (r : Ref) (s : SortTree Ref) (c : BodyTree Ref) (f : Form Ref) → part_node_gives K xs at (W.Reify r s c f) ≡ result_sort (K.effects r.index) (written_sort s)
  unfolding part_node_gives written_sort
  gives-Reify at r s c f = ap (part_given K xs) (part-Reify at r s c f)

  pub gives-Reflect : (at : Pos) (r : Ref) (s : SortTree Ref) (w : Word) (c : BodyTree Ref) → part_node_gives K xs at (W.Reflect r s w c) ≡ Some (written_sort s)
  unfolding part_node_gives written_sort
  gives-Reflect at r s w c = ap (part_given K xs) (part-Reflect at r s w c)

  pub gives-Term : (at : Pos) (f : Form Ref) → part_node_gives K xs at (W.Term f) ≡ form_given K.applied xs f
  unfolding part_node_gives node_given
  gives-Term at f = ap (part_given K xs) (part-Term at f)

  -- ---- the variable of a let

  pub bound-noted : (s : SortTree Ref) (p : PartTree Ref) → bound_gives K xs (Some s) p ≡ Some (written_sort s)
  unfolding bound_gives note_of written_sort
  bound-noted s p = refl

  pub bound-given : (p : PartTree Ref) → bound_gives K xs None p ≡ part_gives K xs p
  unfolding bound_gives note_of
  bound-given p = refl

  -- ---- arms

  pub arm-fits : (S : Srt) (con : ConWord) (c : BodyTree Ref) → fits con S ≡ true → arm_gives K xs S con c ≡ text_gives K (pattern_scope con S xs) c
  unfolding arm_gives
  arm-fits S con c e = ap (λ b. if b then text_gives K (pattern_scope con S xs) c else None) e

  pub arm-other : (S : Srt) (con : ConWord) (c : BodyTree Ref) → fits con S ≡ false → arm_gives K xs S con c ≡ None
  unfolding arm_gives
  arm-other S con c e = ap (λ b. if b then text_gives K (pattern_scope con S xs) c else None) e

  pub arms-none : (S : Srt) → arms_give K xs S [] ≡ None
  unfolding arms_give
  arms-none S = refl

  nothing-first : {A : Type 0} (o p : Option A) → or_else o p ≡ None → (o ≡ None) × (p ≡ None)
  nothing-first None p e = (refl, e)
  nothing-first (Some a) p e = cc

  abbrev first_arm : (S : Srt) → ArmTree (BodyTree Ref) → Option Srt
  first_arm S a = fits_pattern (part_sorts a.con S) (λ ys. text_given K (map visible ys ++ xs) (plain_text a.body))

  one : (S : Srt) (a : ArmTree (BodyTree Ref)) → first_arm S a ≡ arm_gives K xs S a.con a.body
  unfolding arm_gives text_gives
  one S a = fits-given a.con S xs (λ ys. text_given K ys (plain_text a.body))

  at-arm : (S : Srt) (arms : List (ArmTree (BodyTree Ref))) (i : ℕ) (a : ArmTree (BodyTree Ref)) (T : Srt) → slice_get arms i ≡ Some a
      → arms_given K xs S (plain_arms (take i arms)) ≡ None → arm_gives K xs S a.con a.body ≡ Some T → arms_given K xs S (plain_arms arms) ≡ Some T
  at-arm S [] i a T h n g = cc
  at-arm S (b ∷ arms) zero a T h n g = let p : b ≡ a = cc in ap (λ o. or_else o (arms_given K xs S (plain_arms arms))) (one S b ∙ ap (λ a. arm_gives K xs S a.con a.body) p ∙ g)
  at-arm S (b ∷ arms) (suc i) a T h n g =
      let e = nothing-first (first_arm S b) (arms_given K xs S (plain_arms (take i arms))) n in
      ap (λ o. or_else o (arms_given K xs S (plain_arms arms))) e.0 ∙ at-arm S arms i a T h e.1 g

  -- an arm that gives one, behind arms that give none
  pub arms-found : (S : Srt) (arms : List (ArmTree (BodyTree Ref))) (i : ℕ) (a : ArmTree (BodyTree Ref)) (T : Srt) → a ≡ get_or arms i a → i < length arms
      → arms_give K xs S (take i arms) ≡ None → arm_gives K xs S a.con a.body ≡ Some T → arms_give K xs S arms ≡ Some T
  unfolding arms_give
  arms-found S arms i a T e h n g = at-arm S arms i a T (slice_get_read arms (length arms) i a refl h e) n g

  last-none : (S : Srt) (arms : List (ArmTree (BodyTree Ref))) (a : ArmTree (BodyTree Ref)) → arms_given K xs S (plain_arms arms) ≡ None → arm_gives K xs S a.con a.body ≡ None → arms_given K xs S (plain_arms (arms ++ a ∷ [])) ≡ None
  last-none S [] a n g = ap (λ o. or_else o None) (one S a ∙ g)
  last-none S (b ∷ arms) a n g =
      let e = nothing-first (first_arm S b) (arms_given K xs S (plain_arms arms)) n in
      ap (λ o. or_else o (arms_given K xs S (plain_arms (arms ++ a ∷ [])))) e.0 ∙ last-none S arms a e.1 g

  -- one more that gives none
  pub arms-passed : (S : Srt) (arms : List (ArmTree (BodyTree Ref))) (i : ℕ) (a : ArmTree (BodyTree Ref)) → a ≡ get_or arms i a → i < length arms
      → arms_give K xs S (take i arms) ≡ None → arm_gives K xs S a.con a.body ≡ None → arms_give K xs S (take (i + 1) arms) ≡ None
  unfolding arms_give
  arms-passed S arms i a e h n g = ap (λ bs. arms_given K xs S (plain_arms bs)) (take_more arms i a h ∙ ap (λ b. take i arms ++ b ∷ []) (sym e)) ∙ last-none S (take i arms) a n g

pub ruleset texts = (gives-Let, gives-GhostLet, gives-Assert, gives-If, gives-Match, gives-Part)

pub ruleset parts = (gives-Block, gives-Call, gives-Reify, gives-Reflect, gives-Term)

pub ruleset arms = (arm-fits, arm-other)

pub ruleset arm_lists = (arms-none, arms-found, arms-passed)

pub ruleset bounds = (bound-noted, bound-given)
