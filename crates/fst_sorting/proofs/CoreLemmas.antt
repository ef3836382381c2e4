-- The core text that a body is, a variant of the tree at a time.
use Rattle.std.proofs.Common.{◌≡◌, ℕ, ◌+◌, ◌<◌, true, false, List, [], ◌∷◌, ◌++◌, map, length, take, get_or, Option, Some, None, Result, Ok, Err, IfOk, refl, sym, ap, ◌∙◌}
use Rattle.std.proofs.lemmas.List.{take_more}
use Rattle.fst_base.specs.declared.place.Pos.{Pos}
use Rattle.fst_base.specs.Sorts.{Srt, s_bool, s_unit}
use Rattle.fst_terms.specs.declared.term.Term.{Term}
use Rattle.fst_terms.specs.Terms.{plain_term, plain_terms}
use Rattle.fst_program.specs.declared.effect.Effect.{Effect}
use Rattle.fst_program.specs.declared.effect.Effect.TheVariants as effect
use Rattle.fst_program.specs.declared.comp.Arm.{Arm}
use Rattle.fst_program.specs.declared.comp.Comp.{Comp}
use Rattle.fst_program.specs.declared.comp.Comp.TheVariants as C
use Rattle.fst_program.specs.declared.comp.Con.{Con}
use Rattle.fst_program.specs.Texts.{Cm, CmArms, c_ghost, c_assert, c_if, c_match, c_call, c_reify, c_reflect, c_ret, c_end, c_arm}
use Rattle.fst_program.specs.Plain.{plain_comp}
use Rattle.fst_program.specs.LiftPaths.{or_else}
use Rattle.fst_program.proofs.PlainLemmas.{plain_arms, plain-comp-Ret, plain-comp-Let, plain-comp-Bind, plain-comp-GhostLet, plain-comp-Assert, plain-comp-If, plain-comp-Match, plain-comp-Call, plain-comp-Reify, plain-comp-Reflect, plain-comp-Return, plain-comp-Lift}
use Rattle.fst_trees.specs.declared.word.Word.{Word}
use Rattle.fst_trees.specs.declared.sort.SortTree.{SortTree}
use Rattle.fst_trees.specs.declared.form.Form.{Form}
use Rattle.fst_trees.specs.declared.pattern.ArmTree.{ArmTree}
use Rattle.fst_trees.specs.declared.pattern.ConWord.{ConWord}
use Rattle.fst_trees.specs.declared.pattern.ConWord.TheVariants as word
use Rattle.fst_trees.specs.declared.body.BodyTree.{BodyTree}
use Rattle.fst_trees.specs.declared.body.BodyTree.TheVariants as V
use Rattle.fst_trees.specs.declared.body.PartTree.{PartTree}
use Rattle.fst_trees.specs.declared.body.PartNode.{PartNode}
use Rattle.fst_trees.specs.declared.body.PartNode.TheVariants as N
use Rattle.fst_names.specs.declared.reference.Ref.{Ref}
use Rattle.fst_names.specs.Trees as X
use Rattle.fst_names.specs.Trees.{WArms, x_end, x_arm, WPart, p_block, p_call, p_reify, p_reflect, p_term, plain_text, plain_part}
use Rattle.fst_names.proofs.TextTreeLemmas.{text-Let, text-GhostLet, text-Assert, text-If, text-Match, text-Part, part-Block, part-Call, part-Reify, part-Reflect, part-Term}
use Rattle.fst_effects.specs.Known.{Ctx, Known, or_unit, with_sort}
use Rattle.fst_effects.specs.TermSorts.{args_of, visible, wants_of}
use Rattle.fst_effects.specs.TermChecks.{form_core, form_given, forms_core, node_core, node_given}
use Rattle.fst_effects.specs.TextSorts as S
use Rattle.fst_effects.specs.TextSorts.{base_of, callee_effect, entry, input_sort, result_sort}
use Rattle.fst_effects.specs.Patterns.{core_con, fits_pattern, part_sorts}
use Rattle.fst_effects.specs.PatternScopes.{pattern_scope}
use Rattle.fst_effects.proofs.PlainLemmas.{plain-sort-Bool}
use Rattle.fst_sorting.specs.CoreTexts.{bind_or_let, core_arms, core_part, core_text, tail, tail_of}
use Rattle.fst_sorting.specs.Sites.{note_of, written_sort}
use Rattle.fst_sorting.specs.Bodies.{text_gives, part_node_gives, bound_gives, text_core, part_node_core, part_core, arms_core, node_effect, part_effect, node_is_block, is_block, is_block_part, made_arms, tail_core}

made-plain : (bs : List (Arm Comp)) → plain_arms bs ≡ made_arms bs
made-plain [] = refl
made-plain (b ∷ bs) = ap (c_arm b.con b.names (plain_comp b.body)) (made-plain bs)

pub plain-Match : (t : Term) (at : Pos) (bs : List (Arm Comp)) → plain_comp (C.Match t at bs) ≡ c_match (plain_term t) at.at (made_arms bs)
plain-Match t at bs = plain-comp-Match t at bs ∙ ap (c_match (plain_term t) at.at) (made-plain bs)

pub match-made : {E : Type 0} → (r : Result Comp E) (f : Result Term E) (a : Result (List (Arm Comp)) E) (t : Term) (at : Pos) (bs : List (Arm Comp)) → f ≡ Ok t → a ≡ Ok bs → IfOk r (λ c. c ≡ C.Match t at bs)
    → IfOk r (λ c. (t : Term) × ((bs : List (Arm Comp)) × ((f ≡ Ok t) × (a ≡ Ok bs) × (plain_comp c ≡ c_match (plain_term t) at.at (made_arms bs)))))
match-made (Ok c) f a t at bs p q h = (t, (bs, (p, q, ap plain_comp h ∙ plain-Match t at bs)))
match-made (Err e) f a t at bs p q h = tt

module _ (K : Known) (x : Effect) (xs : Ctx) where
  pub core-Let : (w : Word) (s : Option (SortTree Ref)) (p : PartTree Ref) (c : BodyTree Ref) (W : Option Srt) → text_core K x xs (V.Let w s p c) W
      ≡ bind_or_let K x (part_effect K x p) w.text (part_core K x xs p (note_of s)) (text_core K x (entry false (or_unit (bound_gives K xs s p)) ∷ xs) c W)
  unfolding text_core part_node_core note_of part_node_gives node_effect bound_gives
  core-Let w s p c W = ap (λ c. core_text K x xs c W) (text-Let w s p c)

  pub core-GhostLet : (w : Word) (s : Option (SortTree Ref)) (p : PartTree Ref) (c : BodyTree Ref) (W : Option Srt) → text_core K x xs (V.GhostLet w s p c) W
      ≡ c_ghost w.text (part_core K effect.Ghost xs p (note_of s)) (text_core K x (entry true (or_unit (bound_gives K xs s p)) ∷ xs) c W)
  unfolding text_core part_node_core note_of part_node_gives bound_gives
  core-GhostLet w s p c W = ap (λ c. core_text K x xs c W) (text-GhostLet w s p c)

  pub core-Assert : (f : Form Ref) (at : Pos) (c : BodyTree Ref) (W : Option Srt) → text_core K x xs (V.Assert f at c) W ≡ c_assert (form_core K.applied xs f (Some s_bool)) at.at (text_core K x xs c W)
  unfolding text_core node_core
  core-Assert f at c W = ap (λ c. core_text K x xs c W) (text-Assert f at c)

  pub core-If : (f : Form Ref) (c d : BodyTree Ref) (W : Option Srt) → text_core K x xs (V.If f c d) W
      ≡ c_if (form_core K.applied xs f (Some s_bool)) (text_core K x xs c (or_else W (text_gives K xs (V.If f c d)))) (text_core K x xs d (or_else W (text_gives K xs (V.If f c d))))
  unfolding text_core node_core text_gives
  core-If f c d W = ap (λ c. core_text K x xs c W) (text-If f c d) ∙ ap (λ G. whole (or_else W G)) (sym (ap (S.text_given K xs) (text-If f c d)))
    where
      whole : Option Srt → Cm
      whole V = c_if (form_core K.applied xs f (Some s_bool)) (text_core K x xs c V) (text_core K x xs d V)

  unit-parts : (con : ConWord) → part_sorts con s_unit ≡ None
  unit-parts word.True = refl
  unit-parts word.False = refl
  unit-parts word.Empty = refl
  unit-parts word.Full = refl
  unit-parts word.Nil = refl
  unit-parts word.Cons = refl
  unit-parts word.Left = refl
  unit-parts word.Right = refl
  unit-parts word.Pair = refl

  unit-arms : (arms : WArms Ref) → S.arms_given K xs s_unit arms ≡ None
  unit-arms x_end = refl
  unit-arms (x_arm at con ws c more) = ap (λ o. or_else (fits_pattern o (λ ys. S.text_given K (map visible ys ++ xs) c)) (S.arms_given K xs s_unit more)) (unit-parts con) ∙ unit-arms more

  -- where nothing is matched no arm fits
  known-arms : (o : Option Srt) (arms : WArms Ref) → S.arms_given K xs (or_unit o) arms ≡ with_sort o (λ T. S.arms_given K xs T arms)
  known-arms None arms = unit-arms arms
  known-arms (Some T) arms = refl

  pub core-Match : (f : Form Ref) (at : Pos) (arms : List (ArmTree (BodyTree Ref))) (W : Option Srt) → text_core K x xs (V.Match f at arms) W
      ≡ c_match (form_core K.applied xs f None) at.at (arms_core K x xs (or_unit (form_given K.applied xs f)) arms (or_else W (text_gives K xs (V.Match f at arms))))
  unfolding text_core node_core node_given arms_core text_gives
  core-Match f at arms W =
      ap (λ c. core_text K x xs c W) (text-Match f at arms)
      ∙ ap (λ G. whole (or_else W G)) (known-arms (form_given K.applied xs f) (X.plain_arms arms) ∙ sym (ap (S.text_given K xs) (text-Match f at arms)))
    where
      whole : Option Srt → Cm
      whole V = c_match (form_core K.applied xs f None) at.at (core_arms K x xs (or_unit (form_given K.applied xs f)) (X.plain_arms arms) V)

  pub core-Part : (p : PartTree Ref) (W : Option Srt) → text_core K x xs (V.Part p) W ≡ tail_core K x xs p W
  unfolding text_core tail_core part_node_core
  core-Part p W = ap (λ c. core_text K x xs c W) (text-Part p)

  -- ---- parts

  pub core-Block : (at : Pos) (c : BodyTree Ref) (W : Option Srt) → part_node_core K x xs at (N.Block c) W ≡ text_core K x xs c W
  unfolding text_core part_node_core
  core-Block at c W = ap (λ p. core_part K x xs p W) (part-Block at c)

  pub core-Call : (at : Pos) (r : Ref) (fs : List (Form Ref)) (W : Option Srt) → part_node_core K x xs at (N.Call r fs) W ≡ c_call r.index (forms_core K.applied xs fs (wants_of (args_of (K.called r)))) at.at
  unfolding part_node_core forms_core
  core-Call at r fs W = ap (λ p. core_part K x xs p W) (part-Call at r fs)

  pub core-Reify : (at : Pos) (r : Ref) (s : SortTree Ref) (c : BodyTree Ref) (f : Form Ref) (W : Option Srt) → part_node_core K x xs at (N.Reify r s c f) W
      ≡ c_reify r.index (written_sort s) (text_core K (effect.User r.index) xs c (Some (written_sort s))) (form_core K.applied xs f (input_sort (K.effects r.index)))
  unfolding part_node_core text_core node_core written_sort
  core-Reify at r s c f W = ap (λ p. core_part K x xs p W) (part-Reify at r s c f)

  pub core-Reflect : (at : Pos) (r : Ref) (s : SortTree Ref) (w : Word) (c : BodyTree Ref) (W : Option Srt) → part_node_core K x xs at (N.Reflect r s w c) W
      ≡ c_reflect r.index (written_sort s) w.text (text_core K (base_of (K.effects r.index)) (entry false (or_unit (input_sort (K.effects r.index))) ∷ xs) c (result_sort (K.effects r.index) (written_sort s)))
  unfolding part_node_core text_core written_sort
  core-Reflect at r s w c W = ap (λ p. core_part K x xs p W) (part-Reflect at r s w c)

  pub core-Term : (at : Pos) (f : Form Ref) (W : Option Srt) → part_node_core K x xs at (N.Term f) W ≡ c_ret (form_core K.applied xs f W)
  unfolding part_node_core node_core
  core-Term at f W = ap (λ p. core_part K x xs p W) (part-Term at f)

  pub call-answer : {E : Type 0} → (at : Pos) (node : PartNode Ref) (n : Ref) (fs gs : List (Form Ref)) (ts : List Term) (W : Option Srt) (r : Result Comp E) → node ≡ N.Call n fs → gs ≡ fs
      → plain_terms ts ≡ forms_core K.applied xs gs (wants_of (args_of (K.called n))) → IfOk r (λ c. c ≡ C.Call n.index ts at) → IfOk r (λ c. plain_comp c ≡ part_node_core K x xs at node W)
  call-answer at node n fs gs ts W (Ok c) e g h k =
      ap plain_comp k ∙ plain-comp-Call n.index ts at ∙ ap (λ us. c_call n.index us at.at) (h ∙ ap (λ zs. forms_core K.applied xs zs (wants_of (args_of (K.called n)))) g)
      ∙ sym (core-Call at n fs W) ∙ ap (λ z. part_node_core K x xs at z W) (sym e)
  call-answer at node n fs gs ts W (Err f) e g h k = tt

  -- ---- tails

  block-tail : (p : WPart Ref) (d : Cm) → is_block_part p ≡ true → tail_of K x p d ≡ d
  block-tail (p_block at c) d e = refl
  block-tail (p_call at r fs) d e = cc
  block-tail (p_reify at r s c f) d e = cc
  block-tail (p_reflect at r s w c) d e = cc
  block-tail (p_term at f) d e = cc

  other-tail : (p : WPart Ref) (d : Cm) → is_block_part p ≡ false → tail_of K x p d ≡ tail K x (S.part_effect K x p) d
  other-tail (p_block at c) d e = cc
  other-tail (p_call at r fs) d e = refl
  other-tail (p_reify at r s c f) d e = refl
  other-tail (p_reflect at r s w c) d e = refl
  other-tail (p_term at f) d e = refl

  pub tail-block : (p : PartTree Ref) (W : Option Srt) → is_block p ≡ true → tail_core K x xs p W ≡ part_core K x xs p W
  unfolding tail_core node_is_block
  tail-block p W e = block-tail (plain_part p) (part_core K x xs p W) e

  pub tail-other : (p : PartTree Ref) (W : Option Srt) → is_block p ≡ false → tail_core K x xs p W ≡ tail K x (part_effect K x p) (part_core K x xs p W)
  unfolding tail_core node_is_block node_effect
  tail-other p W e = other-tail (plain_part p) (part_core K x xs p W) e

  -- ---- arms

  pub arms-none : (S : Srt) (W : Option Srt) → arms_core K x xs S [] W ≡ c_end
  unfolding arms_core
  arms-none S W = refl

  -- with one more behind them
  abbrev pub behind : CmArms → Con → List (List ℕ) → Cm → CmArms
  behind c_end con ws d = c_arm con ws d c_end
  behind (c_arm k vs c more) con ws d = c_arm k vs c (behind more con ws d)

  plain-more : (bs : List (Arm Comp)) (b : Arm Comp) → made_arms (bs ++ b ∷ []) ≡ behind (made_arms bs) b.con b.names (plain_comp b.body)
  plain-more [] b = refl
  plain-more (c ∷ bs) b = ap (c_arm c.con c.names (plain_comp c.body)) (plain-more bs b)

  core-more : (S : Srt) (arms : List (ArmTree (BodyTree Ref))) (a : ArmTree (BodyTree Ref)) (W : Option Srt) → core_arms K x xs S (X.plain_arms (arms ++ a ∷ [])) W
      ≡ behind (core_arms K x xs S (X.plain_arms arms) W) (core_con a.con) (map (λ w. w.text) a.names) (text_core K x (pattern_scope a.con S xs) a.body W)
  unfolding text_core pattern_scope
  core-more S [] a W = refl
  core-more S (b ∷ arms) a W = ap (c_arm (core_con b.con) (map (λ w. w.text) b.names) (text_core K x (pattern_scope b.con S xs) b.body W)) (core-more S arms a W)

  -- the step of a loop over them
  pub arms-step : (S : Srt) (arms : List (ArmTree (BodyTree Ref))) (i : ℕ) (a : ArmTree (BodyTree Ref)) (W : Option Srt) (bs : List (Arm Comp)) (b : Arm Comp) → a ≡ get_or arms i a → i < length arms
      → made_arms bs ≡ arms_core K x xs S (take i arms) W → b.con ≡ core_con a.con → b.names ≡ map (λ w. w.text) a.names → plain_comp b.body ≡ text_core K x (pattern_scope a.con S xs) a.body W
      → made_arms (bs ++ b ∷ []) ≡ arms_core K x xs S (take (i + 1) arms) W
  unfolding arms_core
  arms-step S arms i a W bs b e h p con names body =
      plain-more bs b ∙ ap (λ r. behind r b.con b.names (plain_comp b.body)) p
      ∙ rw (con, names, body) refl
      ∙ sym (core-more S (take i arms) a W)
      ∙ ap (λ zs. core_arms K x xs S (X.plain_arms zs) W) (ap (λ z. take i arms ++ z ∷ []) e ∙ sym (take_more arms i a h))

module _ (K : Known) (x : Effect) where
  pub effect-Block : (at : Pos) (c : BodyTree Ref) → node_effect K x at (N.Block c) ≡ x
  unfolding node_effect
  effect-Block at c = ap (S.part_effect K x) (part-Block at c)

  pub effect-Call : (at : Pos) (r : Ref) (fs : List (Form Ref)) → node_effect K x at (N.Call r fs) ≡ callee_effect (K.called r)
  unfolding node_effect
  effect-Call at r fs = ap (S.part_effect K x) (part-Call at r fs)

  pub effect-Reify : (at : Pos) (r : Ref) (s : SortTree Ref) (c : BodyTree Ref) (f : Form Ref) → node_effect K x at (N.Reify r s c f) ≡ base_of (K.effects r.index)
  unfolding node_effect
  effect-Reify at r s c f = ap (S.part_effect K x) (part-Reify at r s c f)

  pub effect-Reflect : (at : Pos) (r : Ref) (s : SortTree Ref) (w : Word) (c : BodyTree Ref) → node_effect K x at (N.Reflect r s w c) ≡ effect.User r.index
  unfolding node_effect
  effect-Reflect at r s w c = ap (S.part_effect K x) (part-Reflect at r s w c)

  pub effect-Term : (at : Pos) (f : Form Ref) → node_effect K x at (N.Term f) ≡ effect.Pure
  unfolding node_effect
  effect-Term at f = ap (S.part_effect K x) (part-Term at f)

pub block-Block : (at : Pos) (c : BodyTree Ref) → node_is_block at (N.Block c) ≡ true
unfolding node_is_block
block-Block at c = ap is_block_part (part-Block at c)

pub block-Call : (at : Pos) (r : Ref) (fs : List (Form Ref)) → node_is_block at (N.Call r fs) ≡ false
unfolding node_is_block
block-Call at r fs = ap is_block_part (part-Call at r fs)

pub block-Reify : (at : Pos) (r : Ref) (s : SortTree Ref) (c : BodyTree Ref) (f : Form Ref) → node_is_block at (N.Reify r s c f) ≡ false
unfolding node_is_block
block-Reify at r s c f = ap is_block_part (part-Reify at r s c f)

pub block-Reflect : (at : Pos) (r : Ref) (s : SortTree Ref) (w : Word) (c : BodyTree Ref) → node_is_block at (N.Reflect r s w c) ≡ false
unfolding node_is_block
block-Reflect at r s w c = ap is_block_part (part-Reflect at r s w c)

pub block-Term : (at : Pos) (f : Form Ref) → node_is_block at (N.Term f) ≡ false
unfolding node_is_block
block-Term at f = ap is_block_part (part-Term at f)

pub ruleset texts = (plain-sort-Bool, plain-comp-Assert, plain-comp-If, core-Let, core-GhostLet, core-Assert, core-If, core-Match, core-Part)

pub ruleset parts = (plain-comp-Ret, plain-comp-Call, plain-comp-Reify, plain-comp-Reflect, core-Block, core-Call, core-Reify, core-Reflect, core-Term)

pub ruleset tails = (tail-block, tail-other)

pub ruleset arm_lists = (arms-none, arms-step)

pub ruleset effects = (effect-Block, effect-Call, effect-Reify, effect-Reflect, effect-Term)

pub ruleset blocks = (block-Block, block-Call, block-Reify, block-Reflect, block-Term)

pub ruleset lifts = (plain-comp-Lift)

pub ruleset bounds = (plain-comp-Bind, plain-comp-Let, plain-comp-GhostLet)

pub ruleset returns = (plain-comp-Return)

pub ruleset matches = (plain-Match)
