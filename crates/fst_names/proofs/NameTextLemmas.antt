-- Bodies with their names looked up, a variant of the tree at a time.
use Rattle.std.proofs.Common.{◌≡◌, ℕ, true, false, List, [], ◌∷◌, ◌++◌, length, take, get_or, ◌+◌, ◌<◌, Option, refl, sym, ap, ◌∙◌}
use Rattle.std.proofs.lemmas.List.{take_more}
use Rattle.fst_base.specs.declared.place.Pos.{Pos}
use Rattle.fst_trees.specs.declared.word.Word.{Word}
use Rattle.fst_trees.specs.declared.sort.SortTree.{SortTree}
use Rattle.fst_trees.specs.declared.form.Form.{Form}
use Rattle.fst_trees.specs.declared.pattern.ConWord.{ConWord}
use Rattle.fst_trees.specs.declared.pattern.ArmTree.{ArmTree}
use Rattle.fst_trees.specs.declared.body.BodyTree.{BodyTree}
use Rattle.fst_trees.specs.declared.body.BodyTree.TheVariants as V
use Rattle.fst_trees.specs.declared.body.PartTree.{PartTree}
use Rattle.fst_trees.specs.declared.body.PartNode.TheVariants as W
use Rattle.fst_names.specs.declared.reference.Ref.{Ref}
use Rattle.fst_names.specs.Trees.{WText, WArms, x_let, x_assert, x_if, x_match, x_part, x_end, x_arm, p_block, p_call, p_reify, p_reflect, p_term, plain_text, plain_arms}
use Rattle.fst_names.specs.Names.{Tables, Names, named_text, named_part, binding}
use Rattle.fst_names.specs.Namings.{node_named, form_named, forms_named, sort_named, note_named, text_named, part_node_named, part_named, arms_named}
use Rattle.fst_names.proofs.TextTreeLemmas.{text-Let, text-GhostLet, text-Assert, text-If, text-Match, text-Part, part-Block, part-Call, part-Reify, part-Reflect, part-Term}

pub name-Let : (T : Tables) (xs : Names) (w : Word) (s : Option (SortTree Word)) (p : PartTree Word) (c : BodyTree Word) → text_named T xs (V.Let w s p c) ≡ x_let false w (note_named T s) (part_named T xs p) (text_named T (w.text ∷ xs) c)
unfolding text_named note_named part_node_named
name-Let T xs w s p c = ap (named_text T xs) (text-Let w s p c)

pub name-GhostLet : (T : Tables) (xs : Names) (w : Word) (s : Option (SortTree Word)) (p : PartTree Word) (c : BodyTree Word) → text_named T xs (V.GhostLet w s p c) ≡ x_let true w (note_named T s) (part_named T xs p) (text_named T (w.text ∷ xs) c)
unfolding text_named note_named part_node_named
name-GhostLet T xs w s p c = ap (named_text T xs) (text-GhostLet w s p c)

pub name-Assert : (T : Tables) (xs : Names) (f : Form Word) (at : Pos) (c : BodyTree Word) → text_named T xs (V.Assert f at c) ≡ x_assert (form_named T xs f) at.at (text_named T xs c)
unfolding text_named node_named
name-Assert T xs f at c = ap (named_text T xs) (text-Assert f at c)

pub name-If : (T : Tables) (xs : Names) (f : Form Word) (c d : BodyTree Word) → text_named T xs (V.If f c d) ≡ x_if (form_named T xs f) (text_named T xs c) (text_named T xs d)
unfolding text_named node_named
name-If T xs f c d = ap (named_text T xs) (text-If f c d)

pub name-Match : (T : Tables) (xs : Names) (f : Form Word) (at : Pos) (arms : List (ArmTree (BodyTree Word))) → text_named T xs (V.Match f at arms) ≡ x_match (form_named T xs f) at.at (arms_named T xs arms)
unfolding text_named node_named arms_named
name-Match T xs f at arms = ap (named_text T xs) (text-Match f at arms)

pub name-Part : (T : Tables) (xs : Names) (p : PartTree Word) → text_named T xs (V.Part p) ≡ x_part (part_named T xs p)
unfolding text_named part_node_named
name-Part T xs p = ap (named_text T xs) (text-Part p)

pub name-Block : (T : Tables) (xs : Names) (at : Pos) (c : BodyTree Word) → part_node_named T xs at (W.Block c) ≡ p_block at.at (text_named T xs c)
unfolding part_node_named text_named
name-Block T xs at c = ap (named_part T xs) (part-Block at c)

pub name-Call : (T : Tables) (xs : Names) (at : Pos) (w : Word) (fs : List (Form Word)) → part_node_named T xs at (W.Call w fs) ≡ p_call at.at (T.called w).reference (forms_named T xs fs)
unfolding part_node_named forms_named
name-Call T xs at w fs = ap (named_part T xs) (part-Call at w fs)

pub name-Reify : (T : Tables) (xs : Names) (at : Pos) (w : Word) (s : SortTree Word) (c : BodyTree Word) (f : Form Word) → part_node_named T xs at (W.Reify w s c f) ≡ p_reify at.at (T.effect w).reference (sort_named T s) (text_named T xs c) (form_named T xs f)
unfolding part_node_named sort_named text_named node_named
name-Reify T xs at w s c f = ap (named_part T xs) (part-Reify at w s c f)

pub name-Reflect : (T : Tables) (xs : Names) (at : Pos) (w : Word) (s : SortTree Word) (x : Word) (c : BodyTree Word) → part_node_named T xs at (W.Reflect w s x c) ≡ p_reflect at.at (T.effect w).reference (sort_named T s) x (text_named T (x.text ∷ xs) c)
unfolding part_node_named sort_named text_named
name-Reflect T xs at w s x c = ap (named_part T xs) (part-Reflect at w s x c)

pub name-Term : (T : Tables) (xs : Names) (at : Pos) (f : Form Word) → part_node_named T xs at (W.Term f) ≡ p_term at.at (form_named T xs f)
unfolding part_node_named node_named
name-Term T xs at f = ap (named_part T xs) (part-Term at f)

pub ruleset texts = (name-Let, name-GhostLet, name-Assert, name-If, name-Match, name-Part, text-Let, text-GhostLet, text-Assert, text-If, text-Match, text-Part)

pub ruleset parts = (name-Block, name-Call, name-Reify, name-Reflect, name-Term, part-Block, part-Call, part-Reify, part-Reflect, part-Term)

-- ---- arms

pub arms-none : (T : Tables) (xs : Names) → arms_named T xs [] ≡ x_end
unfolding arms_named
arms-none T xs = refl

-- arms with one more
abbrev pub at_end : WArms Ref → (place : ℕ) → ConWord → List Word → WText Ref → WArms Ref
at_end x_end at con ws c = x_arm at con ws c x_end
at_end (x_arm q k vs d more) at con ws c = x_arm q k vs d (at_end more at con ws c)

plain-more : (arms : List (ArmTree (BodyTree Ref))) (a : ArmTree (BodyTree Ref)) → plain_arms (arms ++ a ∷ []) ≡ at_end (plain_arms arms) a.at.at a.con a.names (plain_text a.body)
plain-more [] a = refl
plain-more (b ∷ arms) a = ap (x_arm b.at.at b.con b.names (plain_text b.body)) (plain-more arms a)

named-more : (T : Tables) (xs : Names) (arms : List (ArmTree (BodyTree Word))) (a : ArmTree (BodyTree Word)) → arms_named T xs (arms ++ a ∷ []) ≡ at_end (arms_named T xs arms) a.at.at a.con a.names (text_named T (binding a.names xs) a.body)
unfolding arms_named text_named
named-more T xs [] a = refl
named-more T xs (b ∷ arms) a = ap (x_arm b.at.at b.con b.names (named_text T (binding b.names xs) (plain_text b.body))) (named-more T xs arms a)

-- the step of a loop over them
pub arms-step : (T : Tables) (xs : Names) (arms : List (ArmTree (BodyTree Word))) (i : ℕ) (a : ArmTree (BodyTree Word)) (bs : List (ArmTree (BodyTree Ref))) (b : ArmTree (BodyTree Ref)) → a ≡ get_or arms i a → i < length arms
    → plain_arms bs ≡ arms_named T xs (take i arms) → b.at ≡ a.at → b.con ≡ a.con → b.names ≡ a.names → plain_text b.body ≡ text_named T (binding a.names xs) a.body
    → plain_arms (bs ++ b ∷ []) ≡ arms_named T xs (take (i + 1) arms)
arms-step T xs arms i a bs b e h p at con names body =
    plain-more bs b ∙ ap (λ r. at_end r b.at.at b.con b.names (plain_text b.body)) p
    ∙ rw (at, con, names, body) refl
    ∙ sym (named-more T xs (take i arms) a)
    ∙ ap (arms_named T xs) (ap (λ z. take i arms ++ z ∷ []) e ∙ sym (take_more arms i a h))

pub ruleset arm_lists = (arms-none, arms-step)
