-- What answers among the rules that an effect or a lift breaks, a part of it at a time.
use Rattle.std.proofs.Common.{◌≡◌, ℕ, zero, suc, ◌-◌, ◌<◌, List, [], ◌∷◌, length, get_or, refl, sym, ap, ◌∙◌, arith}
use Rattle.std.specs.Prelude.{not, nat_lt}
use Rattle.fst_base.specs.declared.rule.Rule.TheVariants as rule
use Rattle.fst_trees.specs.declared.word.Word.{Word}
use Rattle.fst_trees.specs.declared.decl.EffectTree.{EffectTree}
use Rattle.fst_trees.specs.declared.decl.LiftTree.{LiftTree}
use Rattle.fst_names.specs.Broken.{first_broken, least, breaks}
use Rattle.fst_names.specs.Trees.{word_at, plain_wsort, plain_dm}
use Rattle.fst_names.specs.Names.{Globals, Before, definition_tables, named_effect, binding, runs_of, input_of, listed, broken_sort, broken_words, broken_text, broken_effect_word, is_before, number_of, unless}
use Rattle.fst_names.specs.Checks.{sort_breaks, dm_breaks}
use Rattle.fst_names.specs.Declarations.{effect_word_breaks, return_breaks, bind_breaks, effect_breaks, lift_breaks}
use Rattle.fst_names.proofs.CheckTextLemmas.{two, listed-first}
use Rattle.fst_names.proofs.SeveralLemmas.{in_effect, in_lift}

-- ---- the name

pub effect-word : (G : Globals) (b : Before) (w : Word)
    → effect_word_breaks G b w ≡ least (first_broken (unless (not (is_before b.effects (number_of w.text G.effects))) (breaks rule.Twice w.at.at))) (first_broken (unless (nat_lt b.effects 32) (breaks rule.TooMany w.at.at)))
unfolding effect_word_breaks
effect-word G b w = two (unless (not (is_before b.effects (number_of w.text G.effects))) (breaks rule.Twice w.at.at)) (unless (nat_lt b.effects 32) (breaks rule.TooMany w.at.at))

pub ruleset words = (effect-word)

-- ---- the input of a bind or a lift

pub input-none : (ws : List Word) → length ws ≡ 0 → input_of ws ≡ []
input-none [] h = refl
input-none (w ∷ ws) h = absurd (omega (arith, h))

input-last : (ws : List Word) (i : ℕ) (w : Word) → w ≡ get_or ws i w → suc i ≡ length ws → input_of ws ≡ w.text ∷ []
input-last [] i w e h = absurd (omega (arith, h))
input-last (v ∷ []) zero w e h = ap (λ (u : Word). u.text ∷ []) (sym e)
input-last (v ∷ []) (suc i) w e h = absurd (omega (arith, h))
input-last (v ∷ u ∷ ws) zero w e h = absurd (omega (arith, h))
input-last (v ∷ u ∷ ws) (suc i) w e h = input-last (u ∷ ws) i w e (omega (arith, h))

pub input-at : (ws : List Word) (w : Word) → w ≡ get_or ws (length ws - 1) w → 0 < length ws → input_of ws ≡ w.text ∷ []
input-at ws w e h = input-last ws (length ws - 1) w e (omega (arith, h))

pub ruleset inputs = (input-none, input-at)

-- ---- whole effects and lifts

pub effect-parts : (G : Globals) (b : Before) (e : EffectTree Word)
    → effect_breaks G b e ≡ (let T = definition_tables G b [] in
    least (least (least (least (effect_word_breaks G b e.name) (sort_breaks T e.input)) (sort_breaks T e.result)) (return_breaks G b e.ret_names e.ret)) (bind_breaks G b e.bind_names e.bind))
unfolding effect_breaks effect_word_breaks sort_breaks dm_breaks
effect-parts G b e =
    let T = definition_tables G b [] in
    in_effect (broken_effect_word G b e.name) (broken_sort T (plain_wsort e.input)) (broken_sort T (plain_wsort e.result))
    (broken_words [] e.ret_names) (broken_text T (binding e.ret_names []) (plain_dm word_at e.ret))
    (broken_words [] e.bind_names) (broken_text (definition_tables G b (runs_of e.bind_names)) (input_of e.bind_names) (plain_dm word_at e.bind))

pub ruleset effects = (effect-parts)

pub lift-parts : (G : Globals) (b : Before) (l : LiftTree Word)
    → lift_breaks G b l ≡ least (least (named_effect G b l.from).broken (named_effect G b l.«to»).broken) (bind_breaks G b l.names l.text)
unfolding lift_breaks dm_breaks
lift-parts G b l =
    let from = listed (named_effect G b l.from).broken in
    let on = listed (named_effect G b l.«to»).broken in
    let bound = bind_breaks G b l.names l.text in
    in_lift from on (broken_words [] l.names) (broken_text (definition_tables G b (runs_of l.names)) (input_of l.names) (plain_dm word_at l.text))
    ∙ ap (λ o. least (least o (first_broken on)) bound) (listed-first (named_effect G b l.from).broken)
    ∙ ap (λ o. least (least (named_effect G b l.from).broken o) bound) (listed-first (named_effect G b l.«to»).broken)

pub ruleset lifts = (lift-parts)
