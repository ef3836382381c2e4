-- What answers among the rules that a definition's text breaks, a variant of the tree at a time.
use Rattle.std.proofs.Common.{◌≡◌, ℕ, List, [], ◌∷◌, ◌++◌, map, length, take, get_or, ◌+◌, ◌<◌, Option, None, refl, sym, ap, ◌∙◌, append_assoc}
use Rattle.std.specs.Prelude.{not, option_map}
use Rattle.std.proofs.lemmas.List.{append-nil, take_more}
use Rattle.fst_base.specs.declared.place.Pos.{Pos}
use Rattle.fst_base.specs.declared.rule.Rule.TheVariants as rule
use Rattle.fst_trees.specs.declared.word.Word.{Word}
use Rattle.fst_trees.specs.declared.sort.SortTree.{SortTree}
use Rattle.fst_trees.specs.declared.form.Form.{Form}
use Rattle.fst_trees.specs.declared.pattern.ConWord.{ConWord}
use Rattle.fst_trees.specs.declared.pattern.ArmTree.{ArmTree}
use Rattle.fst_trees.specs.declared.definition.DmTree.{DmTree}
use Rattle.fst_trees.specs.declared.definition.DmTree.TheVariants as V
use Rattle.fst_names.specs.declared.broken.Broken.{Broken}
use Rattle.fst_names.specs.Broken.{first_broken, least, breaks}
use Rattle.fst_names.specs.Trees.{WText, x_let, x_assert, x_if, x_match, x_part, as_part, word_at, plain_wsort, plain_form, plain_dm, plain_dm_arms}
use Rattle.fst_names.specs.Names.{Tables, Names, broken_form, broken_note, broken_text, broken_part, broken_arms, broken_words, binding, has_con, unless}
use Rattle.fst_names.specs.Looked.{seen}
use Rattle.fst_names.specs.Checks.{node_breaks, form_breaks, forms_break, note_breaks, call_breaks, pattern_breaks, dm_breaks, dm_arms_break}
use Rattle.fst_names.proofs.DmTreeLemmas.{dm-Let, dm-If, dm-Match, dm-Block, dm-Run, dm-Term}
use Rattle.fst_names.proofs.BrokenLemmas.{first-append}
use Rattle.fst_names.proofs.CheckLemmas.{check-called}
use Rattle.fst_names.proofs.CheckTextLemmas.{two, three}

abbrev answer : Tables → Names → WText Word → Option Broken
answer T xs c = first_broken (broken_text T xs c)

-- a text as a part breaks what it breaks
part-same : (T : Tables) (xs : Names) (c : WText Word) → broken_part T xs (as_part c) ≡ broken_text T xs c
part-same T xs (x_let g w s p c) = refl
part-same T xs (x_assert f at c) = refl
part-same T xs (x_if f c d) = refl
part-same T xs (x_match f at arms) = refl
part-same T xs (x_part p) = refl

pub check-Let : (T : Tables) (xs : Names) (w : Word) (s : Option (SortTree Word)) (p c : DmTree Word) → dm_breaks T xs (V.Let w s p c) ≡ least (least (note_breaks T s) (dm_breaks T xs p)) (dm_breaks T (w.text ∷ xs) c)
unfolding dm_breaks note_breaks
check-Let T xs w s p c = ap (answer T xs) (dm-Let word_at w s p c)
    ∙ three (broken_note T (option_map plain_wsort s)) (broken_part T xs (as_part (plain_dm word_at p))) (broken_text T (w.text ∷ xs) (plain_dm word_at c))
    ∙ ap (λ bs. least (least (first_broken (broken_note T (option_map plain_wsort s))) (first_broken bs)) (first_broken (broken_text T (w.text ∷ xs) (plain_dm word_at c)))) (part-same T xs (plain_dm word_at p))

pub check-If : (T : Tables) (xs : Names) (f : Form Word) (c d : DmTree Word) → dm_breaks T xs (V.If f c d) ≡ least (least (form_breaks T xs f) (dm_breaks T xs c)) (dm_breaks T xs d)
unfolding dm_breaks node_breaks
check-If T xs f c d = ap (answer T xs) (dm-If word_at f c d) ∙ three (broken_form T xs (plain_form f)) (broken_text T xs (plain_dm word_at c)) (broken_text T xs (plain_dm word_at d))

pub check-Match : (T : Tables) (xs : Names) (f : Form Word) (at : Pos) (arms : List (ArmTree (DmTree Word))) → dm_breaks T xs (V.Match f at arms) ≡ least (form_breaks T xs f) (dm_arms_break T xs arms)
unfolding dm_breaks node_breaks dm_arms_break
check-Match T xs f at arms = ap (answer T xs) (dm-Match word_at f at arms) ∙ two (broken_form T xs (plain_form f)) (broken_arms T xs [] (plain_dm_arms word_at arms))

pub check-Block : (T : Tables) (xs : Names) (at : Pos) (c : DmTree Word) → dm_breaks T xs (V.Block at c) ≡ dm_breaks T xs c
unfolding dm_breaks
check-Block T xs at c = ap (answer T xs) (dm-Block word_at at c)

pub check-Run : (T : Tables) (xs : Names) (w : Word) (fs : List (Form Word)) → dm_breaks T xs (V.Run w fs) ≡ call_breaks (seen (T.called w)) (length fs) w (forms_break T xs fs)
unfolding dm_breaks
check-Run T xs w fs = ap (answer T xs) (dm-Run word_at w fs) ∙ check-called T xs (T.called w) w fs

pub check-Term : (T : Tables) (xs : Names) (f : Form Word) → dm_breaks T xs (V.Term f) ≡ form_breaks T xs f
unfolding dm_breaks node_breaks
check-Term T xs f = ap (answer T xs) (dm-Term word_at f)

-- ---- arms

pub arms-none : (T : Tables) (xs : Names) → dm_arms_break T xs [] ≡ None
unfolding dm_arms_break
arms-none T xs = refl

more : (T : Tables) (xs : Names) (met : List ConWord) (arms : List (ArmTree (DmTree Word))) (a : ArmTree (DmTree Word))
    → broken_arms T xs met (plain_dm_arms word_at (arms ++ a ∷ [])) ≡ broken_arms T xs met (plain_dm_arms word_at arms) ++ (unless (not (has_con a.con (met ++ map (λ b. b.con) arms))) (breaks rule.Twice a.at.at) ++ broken_words [] a.names ++ broken_text T (binding a.names xs) (plain_dm word_at a.body))
more T xs met [] a = rw (append-nil met) (append-nil _)
more T xs met (b ∷ arms) a =
    let own = unless (not (has_con b.con met)) (breaks rule.Twice b.at.at) ++ broken_words [] b.names ++ broken_text T (binding b.names xs) (plain_dm word_at b.body) in
    let rest = broken_arms T xs (met ++ b.con ∷ []) (plain_dm_arms word_at arms) in
    let last = λ (m : List ConWord). unless (not (has_con a.con m)) (breaks rule.Twice a.at.at) ++ broken_words [] a.names ++ broken_text T (binding a.names xs) (plain_dm word_at a.body) in
    ap (λ bs. own ++ bs) (more T xs (met ++ b.con ∷ []) arms a ∙ ap (λ m. rest ++ last m) (append_assoc met (b.con ∷ []) (map (λ b. b.con) arms)))
    ∙ sym (append_assoc own rest (last (met ++ b.con ∷ map (λ b. b.con) arms)))

pub arms-step : (T : Tables) (xs : Names) (arms : List (ArmTree (DmTree Word))) (i : ℕ) (a : ArmTree (DmTree Word)) → a ≡ get_or arms i a → i < length arms
    → dm_arms_break T xs (take (i + 1) arms) ≡ least (dm_arms_break T xs (take i arms)) (least (pattern_breaks (take i arms) a) (dm_breaks T (binding a.names xs) a.body))
unfolding dm_arms_break pattern_breaks dm_breaks
arms-step T xs arms i a e h =
    ap (λ bs. first_broken (broken_arms T xs [] (plain_dm_arms word_at bs))) (take_more arms i a h ∙ ap (λ b. take i arms ++ b ∷ []) (sym e))
    ∙ ap first_broken (more T xs [] (take i arms) a)
    ∙ first-append (broken_arms T xs [] (plain_dm_arms word_at (take i arms))) _
    ∙ ap (least (first_broken (broken_arms T xs [] (plain_dm_arms word_at (take i arms))))) (three (unless (not (has_con a.con (map (λ b. b.con) (take i arms)))) (breaks rule.Twice a.at.at)) (broken_words [] a.names) (broken_text T (binding a.names xs) (plain_dm word_at a.body)))

pub ruleset texts = (check-Let, check-If, check-Match, check-Block, check-Run, check-Term)

pub ruleset arm_lists = (arms-none, arms-step)
