-- The plain trees of bodies, a variant of the tree at a time.
use Rattle.std.proofs.Common.{◌≡◌, true, false, List, [], ◌∷◌, map, Option, rules, refl, ap, ◌∙◌}
use Rattle.std.specs.Prelude.{option_map}
use Rattle.fst_base.specs.declared.place.Pos.{Pos}
use Rattle.fst_trees.specs.declared.word.Word.{Word}
use Rattle.fst_trees.specs.declared.sort.SortTree.{SortTree}
use Rattle.fst_trees.specs.declared.form.Form.{Form}
use Rattle.fst_trees.specs.declared.pattern.ArmTree.{ArmTree}
use Rattle.fst_trees.specs.declared.body.BodyTree as D
use Rattle.fst_trees.specs.declared.body.BodyTree.{BodyTree}
use Rattle.fst_trees.specs.declared.body.BodyTree.TheVariants as V
use Rattle.fst_trees.specs.declared.body.PartTree.{PartTree}
use Rattle.fst_trees.specs.declared.body.PartNode as P
use Rattle.fst_trees.specs.declared.body.PartNode.TheVariants as W
use Rattle.fst_names.specs.Trees.{x_let, x_assert, x_if, x_match, x_part, x_arm, p_block, p_call, p_reify, p_reflect, p_term, plain_wsort, plain_form, plain_forms, plain_text, plain_part, plain_part_node, plain_arms, arm_row}

pub text-Let : {R : Type 0} → (w : Word) (s : Option (SortTree R)) (p : PartTree R) (c : BodyTree R) → plain_text {R = R} (V.Let w s p c) ≡ x_let false w (option_map plain_wsort s) (plain_part p) (plain_text c)
unfolding plain_text plain_part_node
text-Let w s p c = search (rules, D.the_lemmas)

pub text-GhostLet : {R : Type 0} → (w : Word) (s : Option (SortTree R)) (p : PartTree R) (c : BodyTree R) → plain_text {R = R} (V.GhostLet w s p c) ≡ x_let true w (option_map plain_wsort s) (plain_part p) (plain_text c)
unfolding plain_text plain_part_node
text-GhostLet w s p c = search (rules, D.the_lemmas)

pub text-Assert : {R : Type 0} → (f : Form R) (at : Pos) (c : BodyTree R) → plain_text {R = R} (V.Assert f at c) ≡ x_assert (plain_form f) at.at (plain_text c)
unfolding plain_text
text-Assert f at c = search (rules, D.the_lemmas)

pub text-If : {R : Type 0} → (f : Form R) (c d : BodyTree R) → plain_text {R = R} (V.If f c d) ≡ x_if (plain_form f) (plain_text c) (plain_text d)
unfolding plain_text
text-If f c d = search (rules, D.the_lemmas)

pub text-Part : {R : Type 0} → (p : PartTree R) → plain_text {R = R} (V.Part p) ≡ x_part (plain_part p)
unfolding plain_text plain_part_node
text-Part p = search (rules, D.the_lemmas)

pub part-Block : {R : Type 0} → (at : Pos) (c : BodyTree R) → plain_part_node {R = R} at (W.Block c) ≡ p_block at.at (plain_text c)
unfolding plain_text plain_part_node
part-Block at c = search (rules, P.the_lemmas)

pub part-Call : {R : Type 0} → (at : Pos) (r : R) (fs : List (Form R)) → plain_part_node {R = R} at (W.Call r fs) ≡ p_call at.at r (plain_forms fs)
unfolding plain_part_node
part-Call at r fs = search (rules, P.the_lemmas)

pub part-Reify : {R : Type 0} → (at : Pos) (r : R) (s : SortTree R) (c : BodyTree R) (f : Form R) → plain_part_node {R = R} at (W.Reify r s c f) ≡ p_reify at.at r (plain_wsort s) (plain_text c) (plain_form f)
unfolding plain_text plain_part_node
part-Reify at r s c f = search (rules, P.the_lemmas)

pub part-Reflect : {R : Type 0} → (at : Pos) (r : R) (s : SortTree R) (w : Word) (c : BodyTree R) → plain_part_node {R = R} at (W.Reflect r s w c) ≡ p_reflect at.at r (plain_wsort s) w (plain_text c)
unfolding plain_text plain_part_node
part-Reflect at r s w c = search (rules, P.the_lemmas)

pub part-Term : {R : Type 0} → (at : Pos) (f : Form R) → plain_part_node {R = R} at (W.Term f) ≡ p_term at.at (plain_form f)
unfolding plain_part_node
part-Term at f = search (rules, P.the_lemmas)

arms-row : {R : Type 0} → (arms : List (ArmTree (BodyTree R))) → arm_row (map (λ a. record { at = a.at; con = a.con; names = a.names; body = plain_text a.body }) arms) ≡ plain_arms arms
arms-row [] = refl
arms-row (a ∷ more) = ap (x_arm a.at.at a.con a.names (plain_text a.body)) (arms-row more)

match-row : {R : Type 0} → (f : Form R) (at : Pos) (arms : List (ArmTree (BodyTree R))) → plain_text {R = R} (V.Match f at arms) ≡ x_match (plain_form f) at.at (arm_row (map (λ a. record { at = a.at; con = a.con; names = a.names; body = plain_text a.body }) arms))
unfolding plain_text
match-row f at arms = search (rules, D.the_lemmas)

pub text-Match : {R : Type 0} → (f : Form R) (at : Pos) (arms : List (ArmTree (BodyTree R))) → plain_text {R = R} (V.Match f at arms) ≡ x_match (plain_form f) at.at (plain_arms arms)
text-Match f at arms = match-row f at arms ∙ ap (x_match (plain_form f) at.at) (arms-row arms)
