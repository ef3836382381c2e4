-- What answers among the rules that a body breaks, a variant of the tree at a time.
use Rattle.std.proofs.Common.{◌≡◌, ℕ, List, [], ◌∷◌, ◌++◌, map, length, take, get_or, ◌+◌, ◌<◌, Option, None, Some, refl, sym, ap, ◌∙◌, append_assoc}
use Rattle.std.specs.Prelude.{not, option_map}
use Rattle.std.proofs.lemmas.List.{append-nil, take_more}
use Rattle.fst_base.specs.declared.place.Pos.{Pos}
use Rattle.fst_base.specs.declared.rule.Rule.TheVariants as rule
use Rattle.fst_trees.specs.declared.word.Word.{Word}
use Rattle.fst_trees.specs.declared.sort.SortTree.{SortTree}
use Rattle.fst_trees.specs.declared.form.Form.{Form}
use Rattle.fst_trees.specs.declared.pattern.ConWord.{ConWord}
use Rattle.fst_trees.specs.declared.pattern.ArmTree.{ArmTree}
use Rattle.fst_trees.specs.declared.body.BodyTree.{BodyTree}
use Rattle.fst_trees.specs.declared.body.BodyTree.TheVariants as V
use Rattle.fst_trees.specs.declared.body.PartTree.{PartTree}
use Rattle.fst_trees.specs.declared.body.PartNode.TheVariants as W
use Rattle.fst_names.specs.declared.broken.Broken.{Broken}
use Rattle.fst_names.specs.Broken.{first_broken, least, breaks}
use Rattle.fst_names.specs.Trees.{WText, WPart, plain_wsort, plain_form, plain_text, plain_part, plain_arms}
use Rattle.fst_names.specs.Names.{Tables, Names, broken_form, broken_note, broken_sort, broken_text, broken_part, broken_arms, broken_words, binding, has_con, unless, listed}
use Rattle.fst_names.specs.Checks.{node_breaks, form_breaks, sort_breaks, note_breaks, text_breaks, part_node_breaks, part_breaks, arms_break, pattern_breaks, call_breaks, forms_break}
use Rattle.fst_names.proofs.TextTreeLemmas.{text-Let, text-GhostLet, text-Assert, text-If, text-Match, text-Part, part-Block, part-Call, part-Reify, part-Reflect, part-Term}
use Rattle.fst_names.specs.Looked.{seen}
use Rattle.fst_names.proofs.BrokenLemmas.{first-append}
use Rattle.fst_names.proofs.CheckLemmas.{check-called}

-- what answers among two and three lists
pub two : (a b : List Broken) → first_broken (a ++ b) ≡ least (first_broken a) (first_broken b)
two = first-append

pub three : (a b c : List Broken) → first_broken (a ++ b ++ c) ≡ least (least (first_broken a) (first_broken b)) (first_broken c)
three a b c = first-append (a ++ b) c ∙ ap (λ o. least o (first_broken c)) (first-append a b)

pub four : (a b c d : List Broken) → first_broken (a ++ b ++ c ++ d) ≡ least (least (least (first_broken a) (first_broken b)) (first_broken c)) (first_broken d)
four a b c d = first-append (a ++ b ++ c) d ∙ ap (λ o. least o (first_broken d)) (three a b c)

abbrev answer : Tables → Names → WText Word → Option Broken
answer T xs c = first_broken (broken_text T xs c)

pub check-Let : (T : Tables) (xs : Names) (w : Word) (s : Option (SortTree Word)) (p : PartTree Word) (c : BodyTree Word) → text_breaks T xs (V.Let w s p c) ≡ least (least (note_breaks T s) (part_breaks T xs p)) (text_breaks T (w.text ∷ xs) c)
unfolding text_breaks note_breaks part_node_breaks
check-Let T xs w s p c = ap (answer T xs) (text-Let w s p c) ∙ three (broken_note T (option_map plain_wsort s)) (broken_part T xs (plain_part p)) (broken_text T (w.text ∷ xs) (plain_text c))

pub check-GhostLet : (T : Tables) (xs : Names) (w : Word) (s : Option (SortTree Word)) (p : PartTree Word) (c : BodyTree Word) → text_breaks T xs (V.GhostLet w s p c) ≡ least (least (note_breaks T s) (part_breaks T xs p)) (text_breaks T (w.text ∷ xs) c)
unfolding text_breaks note_breaks part_node_breaks
check-GhostLet T xs w s p c = ap (answer T xs) (text-GhostLet w s p c) ∙ three (broken_note T (option_map plain_wsort s)) (broken_part T xs (plain_part p)) (broken_text T (w.text ∷ xs) (plain_text c))

pub check-Assert : (T : Tables) (xs : Names) (f : Form Word) (at : Pos) (c : BodyTree Word) → text_breaks T xs (V.Assert f at c) ≡ least (form_breaks T xs f) (text_breaks T xs c)
unfolding text_breaks node_breaks
check-Assert T xs f at c = ap (answer T xs) (text-Assert f at c) ∙ two (broken_form T xs (plain_form f)) (broken_text T xs (plain_text c))

pub check-If : (T : Tables) (xs : Names) (f : Form Word) (c d : BodyTree Word) → text_breaks T xs (V.If f c d) ≡ least (least (form_breaks T xs f) (text_breaks T xs c)) (text_breaks T xs d)
unfolding text_breaks node_breaks
check-If T xs f c d = ap (answer T xs) (text-If f c d) ∙ three (broken_form T xs (plain_form f)) (broken_text T xs (plain_text c)) (broken_text T xs (plain_text d))

pub check-Match : (T : Tables) (xs : Names) (f : Form Word) (at : Pos) (arms : List (ArmTree (BodyTree Word))) → text_breaks T xs (V.Match f at arms) ≡ least (form_breaks T xs f) (arms_break T xs arms)
unfolding text_breaks node_breaks arms_break
check-Match T xs f at arms = ap (answer T xs) (text-Match f at arms) ∙ two (broken_form T xs (plain_form f)) (broken_arms T xs [] (plain_arms arms))

pub check-Part : (T : Tables) (xs : Names) (p : PartTree Word) → text_breaks T xs (V.Part p) ≡ part_breaks T xs p
unfolding text_breaks part_node_breaks
check-Part T xs p = ap (answer T xs) (text-Part p)

abbrev part_answer : Tables → Names → WPart Word → Option Broken
part_answer T xs p = first_broken (broken_part T xs p)

pub check-Block : (T : Tables) (xs : Names) (at : Pos) (c : BodyTree Word) → part_node_breaks T xs at (W.Block c) ≡ text_breaks T xs c
unfolding text_breaks part_node_breaks
check-Block T xs at c = ap (part_answer T xs) (part-Block at c)

pub check-Call : (T : Tables) (xs : Names) (at : Pos) (w : Word) (fs : List (Form Word)) → part_node_breaks T xs at (W.Call w fs) ≡ call_breaks (seen (T.called w)) (length fs) w (forms_break T xs fs)
unfolding part_node_breaks
check-Call T xs at w fs = ap (part_answer T xs) (part-Call at w fs) ∙ check-called T xs (T.called w) w fs

pub check-Reify : (T : Tables) (xs : Names) (at : Pos) (w : Word) (s : SortTree Word) (c : BodyTree Word) (f : Form Word) → part_node_breaks T xs at (W.Reify w s c f) ≡ least (least (least (first_broken (listed (T.effect w).broken)) (sort_breaks T s)) (text_breaks T xs c)) (form_breaks T xs f)
unfolding text_breaks part_node_breaks sort_breaks node_breaks
check-Reify T xs at w s c f = ap (part_answer T xs) (part-Reify at w s c f) ∙ four (listed (T.effect w).broken) (broken_sort T (plain_wsort s)) (broken_text T xs (plain_text c)) (broken_form T xs (plain_form f))

pub check-Reflect : (T : Tables) (xs : Names) (at : Pos) (w : Word) (s : SortTree Word) (x : Word) (c : BodyTree Word) → part_node_breaks T xs at (W.Reflect w s x c) ≡ least (least (first_broken (listed (T.effect w).broken)) (sort_breaks T s)) (text_breaks T (x.text ∷ xs) c)
unfolding text_breaks part_node_breaks sort_breaks
check-Reflect T xs at w s x c = ap (part_answer T xs) (part-Reflect at w s x c) ∙ three (listed (T.effect w).broken) (broken_sort T (plain_wsort s)) (broken_text T (x.text ∷ xs) (plain_text c))

pub check-Term : (T : Tables) (xs : Names) (at : Pos) (f : Form Word) → part_node_breaks T xs at (W.Term f) ≡ form_breaks T xs f
unfolding part_node_breaks node_breaks
check-Term T xs at f = ap (part_answer T xs) (part-Term at f)

pub listed-first : (o : Option Broken) → first_broken (listed o) ≡ o
listed-first None = refl
listed-first (Some b) = refl

-- ---- arms

-- the arms behind some, and one more
pub arms-none : (T : Tables) (xs : Names) → arms_break T xs [] ≡ None
unfolding arms_break
arms-none T xs = refl

more : (T : Tables) (xs : Names) (met : List ConWord) (arms : List (ArmTree (BodyTree Word))) (a : ArmTree (BodyTree Word))
    → broken_arms T xs met (plain_arms (arms ++ a ∷ [])) ≡ broken_arms T xs met (plain_arms arms) ++ (unless (not (has_con a.con (met ++ map (λ b. b.con) arms))) (breaks rule.Twice a.at.at) ++ broken_words [] a.names ++ broken_text T (binding a.names xs) (plain_text a.body))
more T xs met [] a = rw (append-nil met) (append-nil _)
more T xs met (b ∷ arms) a =
    let own = unless (not (has_con b.con met)) (breaks rule.Twice b.at.at) ++ broken_words [] b.names ++ broken_text T (binding b.names xs) (plain_text b.body) in
    let rest = broken_arms T xs (met ++ b.con ∷ []) (plain_arms arms) in
    let last = λ (m : List ConWord). unless (not (has_con a.con m)) (breaks rule.Twice a.at.at) ++ broken_words [] a.names ++ broken_text T (binding a.names xs) (plain_text a.body) in
    ap (λ bs. own ++ bs) (more T xs (met ++ b.con ∷ []) arms a ∙ ap (λ m. rest ++ last m) (append_assoc met (b.con ∷ []) (map (λ b. b.con) arms)))
    ∙ sym (append_assoc own rest (last (met ++ b.con ∷ map (λ b. b.con) arms)))

pub arms-step : (T : Tables) (xs : Names) (arms : List (ArmTree (BodyTree Word))) (i : ℕ) (a : ArmTree (BodyTree Word)) → a ≡ get_or arms i a → i < length arms
    → arms_break T xs (take (i + 1) arms) ≡ least (arms_break T xs (take i arms)) (least (pattern_breaks (take i arms) a) (text_breaks T (binding a.names xs) a.body))
unfolding arms_break pattern_breaks text_breaks
arms-step T xs arms i a e h =
    ap (λ bs. first_broken (broken_arms T xs [] (plain_arms bs))) (take_more arms i a h ∙ ap (λ b. take i arms ++ b ∷ []) (sym e))
    ∙ ap first_broken (more T xs [] (take i arms) a)
    ∙ first-append (broken_arms T xs [] (plain_arms (take i arms))) _
    ∙ ap (least (first_broken (broken_arms T xs [] (plain_arms (take i arms))))) (three (unless (not (has_con a.con (map (λ b. b.con) (take i arms)))) (breaks rule.Twice a.at.at)) (broken_words [] a.names) (broken_text T (binding a.names xs) (plain_text a.body)))

pub ruleset texts = (check-Let, check-GhostLet, check-Assert, check-If, check-Match, check-Part)

pub ruleset parts = (check-Block, check-Call, check-Reify, check-Reflect, check-Term, listed-first)

pub ruleset arm_lists = (arms-none, arms-step)
