-- The plain trees of definitions' texts, a variant of the tree at a time.
use Rattle.std.proofs.Common.{◌≡◌, ℕ, false, List, [], ◌∷◌, map, Option, rules, refl, ap, ◌∙◌}
use Rattle.std.specs.Prelude.{option_map}
use Rattle.fst_base.specs.declared.place.Pos.{Pos}
use Rattle.fst_trees.specs.declared.word.Word.{Word}
use Rattle.fst_trees.specs.declared.sort.SortTree.{SortTree}
use Rattle.fst_trees.specs.declared.form.Form.{Form}
use Rattle.fst_trees.specs.declared.pattern.ArmTree.{ArmTree}
use Rattle.fst_trees.specs.declared.definition.DmTree as D
use Rattle.fst_trees.specs.declared.definition.DmTree.{DmTree}
use Rattle.fst_trees.specs.declared.definition.DmTree.TheVariants as V
use Rattle.fst_names.specs.Trees.{x_let, x_if, x_match, x_arm, x_part, p_block, p_call, p_term, as_part, plain_wsort, plain_form, plain_forms, plain_dm, plain_dm_arms, arm_row}

module _ {R : Type 0} (at : R → ℕ) where
  pub dm-Let : (w : Word) (s : Option (SortTree R)) (p c : DmTree R) → plain_dm {R = R} at (V.Let w s p c) ≡ x_let false w (option_map plain_wsort s) (as_part (plain_dm at p)) (plain_dm at c)
  unfolding plain_dm
  dm-Let w s p c = search (rules, D.the_lemmas)

  pub dm-If : (f : Form R) (c d : DmTree R) → plain_dm {R = R} at (V.If f c d) ≡ x_if (plain_form f) (plain_dm at c) (plain_dm at d)
  unfolding plain_dm
  dm-If f c d = search (rules, D.the_lemmas)

  pub dm-Block : (p : Pos) (c : DmTree R) → plain_dm {R = R} at (V.Block p c) ≡ x_part (p_block p.at (plain_dm at c))
  unfolding plain_dm
  dm-Block p c = search (rules, D.the_lemmas)

  pub dm-Run : (r : R) (fs : List (Form R)) → plain_dm {R = R} at (V.Run r fs) ≡ x_part (p_call (at r) r (plain_forms fs))
  unfolding plain_dm
  dm-Run r fs = search (rules, D.the_lemmas)

  pub dm-Term : (f : Form R) → plain_dm {R = R} at (V.Term f) ≡ x_part (p_term f.at.at (plain_form f))
  unfolding plain_dm
  dm-Term f = search (rules, D.the_lemmas)

  arms-row : (arms : List (ArmTree (DmTree R))) → arm_row (map (λ a. record { at = a.at; con = a.con; names = a.names; body = plain_dm at a.body }) arms) ≡ plain_dm_arms at arms
  arms-row [] = refl
  arms-row (a ∷ more) = ap (x_arm a.at.at a.con a.names (plain_dm at a.body)) (arms-row more)

  match-row : (f : Form R) (p : Pos) (arms : List (ArmTree (DmTree R))) → plain_dm {R = R} at (V.Match f p arms) ≡ x_match (plain_form f) p.at (arm_row (map (λ a. record { at = a.at; con = a.con; names = a.names; body = plain_dm at a.body }) arms))
  unfolding plain_dm
  match-row f p arms = search (rules, D.the_lemmas)

  pub dm-Match : (f : Form R) (p : Pos) (arms : List (ArmTree (DmTree R))) → plain_dm {R = R} at (V.Match f p arms) ≡ x_match (plain_form f) p.at (plain_dm_arms at arms)
  dm-Match f p arms = match-row f p arms ∙ ap (x_match (plain_form f) p.at) (arms-row arms)
