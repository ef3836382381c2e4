-- The sorts that definitions' texts give, a variant of the tree at a time.
use Rattle.std.proofs.Common.{◌≡◌, ℕ, ◌+◌, ◌<◌, true, false, List, [], ◌∷◌, ◌++◌, map, length, take, get_or, slice_get, Option, Some, None, option_map, refl, sym, ap, ◌∙◌, if◌then◌else◌}
use Rattle.std.proofs.lemmas.List.{take_more}
use Rattle.fst_base.specs.declared.place.Pos.{Pos}
use Rattle.fst_base.specs.Sorts.{Srt, plain_sort}
use Rattle.fst_program.specs.LiftPaths.{or_else}
use Rattle.fst_trees.specs.declared.word.Word.{Word}
use Rattle.fst_trees.specs.declared.sort.SortTree.{SortTree}
use Rattle.fst_trees.specs.declared.form.Form.{Form}
use Rattle.fst_trees.specs.declared.pattern.ArmTree.{ArmTree}
use Rattle.fst_trees.specs.declared.pattern.ConWord.{ConWord}
use Rattle.fst_trees.specs.declared.definition.DmTree.{DmTree}
use Rattle.fst_trees.specs.declared.definition.DmTree.TheVariants as V
use Rattle.fst_names.specs.declared.reference.Ref.{Ref}
use Rattle.fst_names.specs.declared.reference.RefKind.{RefKind}
use Rattle.fst_names.specs.declared.reference.RefKind.TheVariants as kind
use Rattle.fst_names.specs.Namings.{ref_at}
use Rattle.fst_names.specs.Trees.{WText, x_let, x_assert, x_if, x_match, x_part, as_part, plain_dm, plain_dm_arms}
use Rattle.fst_names.proofs.DmTreeLemmas.{dm-Let, dm-If, dm-Match, dm-Block, dm-Run, dm-Term}
use Rattle.fst_effects.specs.declared.wanted.Run.{Run}
use Rattle.fst_effects.specs.Known.{Ctx, Known, with_sort}
use Rattle.fst_effects.specs.TermSorts.{visible}
use Rattle.fst_effects.specs.TextSorts.{text_given, part_given, arms_given}
use Rattle.fst_effects.specs.TermChecks.{node_given, form_given}
use Rattle.fst_effects.specs.Patterns.{fits_pattern, part_sorts}
use Rattle.fst_effects.specs.PatternScopes.{fits, pattern_scope}
use Rattle.fst_effects.specs.Definitions.{run_of}
use Rattle.fst_effects.specs.WrittenSorts.{note_of}
use Rattle.fst_effects.specs.DefinitionTexts.{callee_run, chosen_run, dm_arm_gives, dm_arms_give, dm_bound_gives, dm_gives, known_of, none_applied, run_in}
use Rattle.fst_effects.proofs.PatternLemmas.{fits-given}

-- a run's name as the code looks it up
pub called-run : (rs : List Run) (r : Ref) → (known_of rs).called r ≡ option_map callee_run (run_in rs r)
called-run rs r = go (slice_get rs 0) (slice_get rs 1) r.kind
  where
    go : (f g : Option Run) (k : RefKind) → run_of (option_map callee_run f) (option_map callee_run g) k ≡ option_map callee_run (chosen_run f g k)
    go f g kind.RunF = refl
    go f g kind.RunG = refl
    go f g kind.Local = refl
    go f g kind.Fun = refl
    go f g kind.Effect = refl
    go f g kind.SortA = refl
    go f g kind.SortB = refl

run-sort : (o : Option Run) → option_map (λ f. f.sort) (option_map callee_run o) ≡ option_map (λ r. plain_sort r.sort) o
run-sort None = refl
run-sort (Some r) = refl

-- the sort of a run's value
pub called-sort : (rs : List Run) (r : Ref) → option_map (λ f. f.sort) ((known_of rs).called r) ≡ option_map (λ r. plain_sort r.sort) (run_in rs r)
called-sort rs r = ap (option_map (λ f. f.sort)) (called-run rs r) ∙ run-sort (run_in rs r)

-- a text as a part gives what it gives
pub part-given : (K : Known) (xs : Ctx) (c : WText Ref) → part_given K xs (as_part c) ≡ text_given K xs c
part-given K xs (x_let g w s p c) = refl
part-given K xs (x_assert f at c) = refl
part-given K xs (x_if f c d) = refl
part-given K xs (x_match f at arms) = refl
part-given K xs (x_part p) = refl

module _ (rs : List Run) (xs : Ctx) where
  pub gives-Let : (w : Word) (s : Option (SortTree Ref)) (p c : DmTree Ref) → dm_gives rs xs (V.Let w s p c) ≡ with_sort (dm_bound_gives rs xs s p) (λ S. dm_gives rs (visible S ∷ xs) c)
  unfolding dm_gives note_of
  gives-Let w s p c = ap (text_given (known_of rs) xs) (dm-Let ref_at w s p c)
      ∙ ap (λ G. with_sort (or_else (note_of s) G) (λ S. text_given (known_of rs) (visible S ∷ xs) (plain_dm ref_at c))) (part-given (known_of rs) xs (plain_dm ref_at p))

  pub gives-If : (f : Form Ref) (c d : DmTree Ref) → dm_gives rs xs (V.If f c d) ≡ or_else (dm_gives rs xs c) (dm_gives rs xs d)
  unfolding dm_gives
  gives-If f c d = ap (text_given (known_of rs) xs) (dm-If ref_at f c d)

  pub gives-Match : (f : Form Ref) (at : Pos) (arms : List (ArmTree (DmTree Ref))) → dm_gives rs xs (V.Match f at arms) ≡ with_sort (form_given none_applied xs f) (λ S. dm_arms_give rs xs S arms)
  unfolding dm_gives dm_arms_give node_given
  gives-Match f at arms = ap (text_given (known_of rs) xs) (dm-Match ref_at f at arms)

  pub gives-Block : (at : Pos) (c : DmTree Ref) → dm_gives rs xs (V.Block at c) ≡ dm_gives rs xs c
  unfolding dm_gives
  gives-Block at c = ap (text_given (known_of rs) xs) (dm-Block ref_at at c)

  pub gives-Run : (r : Ref) (fs : List (Form Ref)) → dm_gives rs xs (V.Run r fs) ≡ option_map (λ r. plain_sort r.sort) (run_in rs r)
  unfolding dm_gives
  gives-Run r fs = ap (text_given (known_of rs) xs) (dm-Run ref_at r fs) ∙ called-sort rs r

  pub gives-Term : (f : Form Ref) → dm_gives rs xs (V.Term f) ≡ form_given none_applied xs f
  unfolding dm_gives node_given
  gives-Term f = ap (text_given (known_of rs) xs) (dm-Term ref_at f)

  -- ---- arms

  pub arm-fits : (S : Srt) (con : ConWord) (c : DmTree Ref) → fits con S ≡ true → dm_arm_gives rs xs S con c ≡ dm_gives rs (pattern_scope con S xs) c
  unfolding dm_arm_gives
  arm-fits S con c e = ap (λ b. if b then dm_gives rs (pattern_scope con S xs) c else None) e

  pub arm-other : (S : Srt) (con : ConWord) (c : DmTree Ref) → fits con S ≡ false → dm_arm_gives rs xs S con c ≡ None
  unfolding dm_arm_gives
  arm-other S con c e = ap (λ b. if b then dm_gives rs (pattern_scope con S xs) c else None) e

  pub arms-none : (S : Srt) → dm_arms_give rs xs S [] ≡ None
  unfolding dm_arms_give
  arms-none S = refl

  or-assoc : {A : Type 0} (o p q : Option A) → or_else (or_else o p) q ≡ or_else o (or_else p q)
  or-assoc None p q = refl
  or-assoc (Some a) p q = refl

  or-none : {A : Type 0} (o : Option A) → or_else o None ≡ o
  or-none None = refl
  or-none (Some a) = refl

  one : Srt → ArmTree (DmTree Ref) → Option Srt
  one S a = fits_pattern (part_sorts a.con S) (λ ys. text_given (known_of rs) (map visible ys ++ xs) (plain_dm ref_at a.body))

  more : (S : Srt) (arms : List (ArmTree (DmTree Ref))) (a : ArmTree (DmTree Ref)) → arms_given (known_of rs) xs S (plain_dm_arms ref_at (arms ++ a ∷ [])) ≡ or_else (arms_given (known_of rs) xs S (plain_dm_arms ref_at arms)) (dm_arm_gives rs xs S a.con a.body)
  unfolding dm_arm_gives dm_gives one
  more S [] a = or-none (one S a) ∙ fits-given a.con S xs (λ ys. text_given (known_of rs) ys (plain_dm ref_at a.body))
  more S (b ∷ arms) a = ap (or_else (one S b)) (more S arms a) ∙ sym (or-assoc (one S b) (arms_given (known_of rs) xs S (plain_dm_arms ref_at arms)) (dm_arm_gives rs xs S a.con a.body))

  -- the step of a loop over them
  pub arms-step : (S : Srt) (arms : List (ArmTree (DmTree Ref))) (i : ℕ) (a : ArmTree (DmTree Ref)) → a ≡ get_or arms i a → i < length arms
      → dm_arms_give rs xs S (take (i + 1) arms) ≡ or_else (dm_arms_give rs xs S (take i arms)) (dm_arm_gives rs xs S a.con a.body)
  unfolding dm_arms_give
  arms-step S arms i a e h = ap (λ bs. arms_given (known_of rs) xs S (plain_dm_arms ref_at bs)) (take_more arms i a h ∙ ap (λ b. take i arms ++ b ∷ []) (sym e)) ∙ more S (take i arms) a

pub ruleset texts = (gives-Let, gives-If, gives-Match, gives-Block, gives-Run, gives-Term)

pub ruleset arms = (arm-fits, arm-other)

pub ruleset arm_lists = (arms-none, arms-step)
