-- Texts of definitions with their names looked up, a variant of the tree at a time.
use Rattle.std.proofs.Common.{◌≡◌, ℕ, false, List, [], ◌∷◌, ◌++◌, length, take, get_or, ◌+◌, ◌<◌, Option, refl, sym, ap, ◌∙◌}
use Rattle.std.specs.Prelude.{option_map}
use Rattle.std.proofs.lemmas.List.{take_more}
use Rattle.fst_base.specs.declared.place.Pos.{Pos}
use Rattle.fst_trees.specs.declared.word.Word.{Word}
use Rattle.fst_trees.specs.declared.sort.SortTree.{SortTree}
use Rattle.fst_trees.specs.declared.form.Form.{Form}
use Rattle.fst_trees.specs.declared.pattern.ArmTree.{ArmTree}
use Rattle.fst_trees.specs.declared.definition.DmTree.{DmTree}
use Rattle.fst_trees.specs.declared.definition.DmTree.TheVariants as V
use Rattle.fst_names.specs.declared.reference.Ref.{Ref}
use Rattle.fst_names.specs.Trees.{WText, x_let, x_assert, x_if, x_match, x_part, x_end, x_arm, p_block, p_call, p_term, as_part, word_at, plain_wsort, plain_form, plain_forms, plain_dm, plain_dm_arms}
use Rattle.fst_names.specs.Names.{Tables, Names, named_sort, named_text, named_part, binding}
use Rattle.fst_names.specs.Namings.{node_named, form_named, forms_named, note_named, dm_named, dm_arms_named, ref_at}
use Rattle.fst_names.proofs.DmTreeLemmas.{dm-Let, dm-If, dm-Match, dm-Block, dm-Run, dm-Term}
use Rattle.fst_names.proofs.NameTextLemmas.{at_end}

-- a text as a part is named as what it is
part-same : (T : Tables) (xs : Names) (c : WText Word) → named_part T xs (as_part c) ≡ as_part (named_text T xs c)
part-same T xs (x_let g w s p c) = refl
part-same T xs (x_assert f at c) = refl
part-same T xs (x_if f c d) = refl
part-same T xs (x_match f at arms) = refl
part-same T xs (x_part p) = refl

pub name-Let : (T : Tables) (xs : Names) (w : Word) (s : Option (SortTree Word)) (p c : DmTree Word) → dm_named T xs (V.Let w s p c) ≡ x_let false w (note_named T s) (as_part (dm_named T xs p)) (dm_named T (w.text ∷ xs) c)
unfolding dm_named note_named
name-Let T xs w s p c = ap (named_text T xs) (dm-Let word_at w s p c)
    ∙ ap (λ q. x_let false w (option_map (named_sort T) (option_map plain_wsort s)) q (named_text T (w.text ∷ xs) (plain_dm word_at c))) (part-same T xs (plain_dm word_at p))

pub name-If : (T : Tables) (xs : Names) (f : Form Word) (c d : DmTree Word) → dm_named T xs (V.If f c d) ≡ x_if (form_named T xs f) (dm_named T xs c) (dm_named T xs d)
unfolding dm_named node_named
name-If T xs f c d = ap (named_text T xs) (dm-If word_at f c d)

pub name-Match : (T : Tables) (xs : Names) (f : Form Word) (at : Pos) (arms : List (ArmTree (DmTree Word))) → dm_named T xs (V.Match f at arms) ≡ x_match (form_named T xs f) at.at (dm_arms_named T xs arms)
unfolding dm_named node_named dm_arms_named
name-Match T xs f at arms = ap (named_text T xs) (dm-Match word_at f at arms)

pub name-Block : (T : Tables) (xs : Names) (at : Pos) (c : DmTree Word) → dm_named T xs (V.Block at c) ≡ x_part (p_block at.at (dm_named T xs c))
unfolding dm_named
name-Block T xs at c = ap (named_text T xs) (dm-Block word_at at c)

pub name-Run : (T : Tables) (xs : Names) (w : Word) (fs : List (Form Word)) → dm_named T xs (V.Run w fs) ≡ x_part (p_call w.at.at (T.called w).reference (forms_named T xs fs))
unfolding dm_named forms_named
name-Run T xs w fs = ap (named_text T xs) (dm-Run word_at w fs)

pub name-Term : (T : Tables) (xs : Names) (f : Form Word) → dm_named T xs (V.Term f) ≡ x_part (p_term f.at.at (form_named T xs f))
unfolding dm_named node_named
name-Term T xs f = ap (named_text T xs) (dm-Term word_at f)

-- the plain trees of texts whose names are looked up
pub plain-Let : (w : Word) (s : Option (SortTree Ref)) (p c : DmTree Ref) → plain_dm {R = Ref} ref_at (V.Let w s p c) ≡ x_let false w (option_map plain_wsort s) (as_part (plain_dm ref_at p)) (plain_dm ref_at c)
plain-Let w s p c = dm-Let ref_at w s p c

pub plain-If : (f : Form Ref) (c d : DmTree Ref) → plain_dm {R = Ref} ref_at (V.If f c d) ≡ x_if (plain_form f) (plain_dm ref_at c) (plain_dm ref_at d)
plain-If f c d = dm-If ref_at f c d

pub plain-Match : (f : Form Ref) (p : Pos) (arms : List (ArmTree (DmTree Ref))) → plain_dm {R = Ref} ref_at (V.Match f p arms) ≡ x_match (plain_form f) p.at (plain_dm_arms ref_at arms)
plain-Match f p arms = dm-Match ref_at f p arms

pub plain-Block : (p : Pos) (c : DmTree Ref) → plain_dm {R = Ref} ref_at (V.Block p c) ≡ x_part (p_block p.at (plain_dm ref_at c))
plain-Block p c = dm-Block ref_at p c

pub plain-Run : (r : Ref) (fs : List (Form Ref)) → plain_dm {R = Ref} ref_at (V.Run r fs) ≡ x_part (p_call r.at.at r (plain_forms fs))
plain-Run r fs = dm-Run ref_at r fs

pub plain-Term : (f : Form Ref) → plain_dm {R = Ref} ref_at (V.Term f) ≡ x_part (p_term f.at.at (plain_form f))
plain-Term f = dm-Term ref_at f

pub ruleset texts = (name-Let, name-If, name-Match, name-Block, name-Run, name-Term, plain-Let, plain-If, plain-Match, plain-Block, plain-Run, plain-Term)

-- ---- arms

pub arms-none : (T : Tables) (xs : Names) → dm_arms_named T xs [] ≡ x_end
unfolding dm_arms_named
arms-none T xs = refl

plain-more : (arms : List (ArmTree (DmTree Ref))) (a : ArmTree (DmTree Ref)) → plain_dm_arms ref_at (arms ++ a ∷ []) ≡ at_end (plain_dm_arms ref_at arms) a.at.at a.con a.names (plain_dm ref_at a.body)
plain-more [] a = refl
plain-more (b ∷ arms) a = ap (x_arm b.at.at b.con b.names (plain_dm ref_at b.body)) (plain-more arms a)

named-more : (T : Tables) (xs : Names) (arms : List (ArmTree (DmTree Word))) (a : ArmTree (DmTree Word)) → dm_arms_named T xs (arms ++ a ∷ []) ≡ at_end (dm_arms_named T xs arms) a.at.at a.con a.names (dm_named T (binding a.names xs) a.body)
unfolding dm_arms_named dm_named
named-more T xs [] a = refl
named-more T xs (b ∷ arms) a = ap (x_arm b.at.at b.con b.names (named_text T (binding b.names xs) (plain_dm word_at b.body))) (named-more T xs arms a)

-- the step of a loop over them
pub arms-step : (T : Tables) (xs : Names) (arms : List (ArmTree (DmTree Word))) (i : ℕ) (a : ArmTree (DmTree Word)) (bs : List (ArmTree (DmTree Ref))) (b : ArmTree (DmTree Ref)) → a ≡ get_or arms i a → i < length arms
    → plain_dm_arms ref_at bs ≡ dm_arms_named T xs (take i arms) → b.at ≡ a.at → b.con ≡ a.con → b.names ≡ a.names → plain_dm ref_at b.body ≡ dm_named T (binding a.names xs) a.body
    → plain_dm_arms ref_at (bs ++ b ∷ []) ≡ dm_arms_named T xs (take (i + 1) arms)
arms-step T xs arms i a bs b e h p at con names body =
    plain-more bs b ∙ ap (λ r. at_end r b.at.at b.con b.names (plain_dm ref_at b.body)) p
    ∙ rw (at, con, names, body) refl
    ∙ sym (named-more T xs (take i arms) a)
    ∙ ap (dm_arms_named T xs) (ap (λ z. take i arms ++ z ∷ []) e ∙ sym (take_more arms i a h))

pub ruleset arm_lists = (arms-none, arms-step)
