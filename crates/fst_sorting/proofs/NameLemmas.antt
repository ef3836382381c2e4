-- Trees of which no rule on names is broken name what is there.
use Rattle.std.proofs.Common.{◌≡◌, ℕ, suc, ◌+◌, ◌<◌, Bool, true, false, not, ◌&&◌, ◌||◌, nat_eq, List, [], ◌∷◌, ◌++◌, length, Some, refl, sym, ap, ◌∙◌, subst, arith, if◌then◌else◌}
use Rattle.std.specs.Prelude.{⊤}
use Rattle.std.proofs.lemmas.Bool.Decides.{Decides-eqb}
use Rattle.fst_base.specs.declared.rule.Rule.{Rule}
use Rattle.fst_base.specs.declared.rule.Rule.TheVariants as rule
use Rattle.fst_base.specs.Rows.{row_args, is_inner}
use Rattle.std.specs.Prelude.{bytes_eq}
use Rattle.fst_trees.specs.declared.word.Word.{Word}
use Rattle.fst_trees.specs.declared.pattern.ConWord.{ConWord}
use Rattle.fst_program.specs.Texts.{if_there}
use Rattle.fst_names.specs.Broken.{breaks}
use Rattle.fst_names.specs.Names.{Names, number_from, is_among, or_zero, listed, unless, Tables, broken_count, binding, count_forms, named_form, named_forms, broken_form, broken_forms, broken_sort, broken_note, named_text, named_part, named_arms, broken_text, broken_part, broken_arms, broken_words, has_con}
use Rattle.fst_names.specs.Trees.{WForm, WForms, f_ident, f_int, f_bool, f_unit, f_prim, f_if, f_app, f_let, f_end, f_more, WText, WPart, WArms, x_let, x_assert, x_if, x_match, x_part, p_block, p_call, p_reify, p_reflect, p_term, x_end, x_arm}
use Rattle.fst_effects.specs.Known.{Known}
use Rattle.fst_sorting.specs.Written.{binds, form_written, forms_written, text_written, part_written, arms_written, has_arm}
use Rattle.fst_sorting.proofs.Scoped.{Takes, FormScoped, FormsScoped, TextScoped, PartScoped, ArmsScoped}
use Rattle.fst_sorting.proofs.BasicLemmas.{none-left, none-right, none-first, none-second, none-third, no-parts, no-own, and-left, and-right}

pub unless-none : (b : Bool) (r : Rule) (at : ℕ) → unless b (breaks r at) ≡ [] → b ≡ true
unless-none true r at e = refl
unless-none false r at e = cc

-- the number of a name in scope
pub number-within : (x : List ℕ) (xs : Names) (i : ℕ) → is_among x xs ≡ true → or_zero (number_from i x xs) < i + length xs
number-within x [] i e = cc
number-within x (y ∷ ys) i e = go (bytes_eq x y) (λ f. number-within x ys (suc i) f) e
  where
    go : (b : Bool) → (is_among x ys ≡ true → or_zero (number_from (suc i) x ys) < suc i + length ys) → b || is_among x ys ≡ true
        → or_zero (if b then Some i else number_from (suc i) x ys) < i + suc (length ys)
    go true rest h = omega arith
    go false rest h = let r = rest h in omega arith

pub number-found : (x : List ℕ) (xs : Names) (i n : ℕ) → number_from i x xs ≡ Some n → n < i + length xs
number-found x [] i n e = cc
number-found x (y ∷ ys) i n e = go (bytes_eq x y) (λ f. number-found x ys (suc i) n f) e
  where
    go : (b : Bool) → (number_from (suc i) x ys ≡ Some n → n < suc i + length ys) → (if b then Some i else number_from (suc i) x ys) ≡ Some n → n < i + suc (length ys)
    go true rest h = let p : i ≡ n = cc in omega arith
    go false rest h = let r = rest h in omega arith

pub count-binding : (ws : List Word) (xs : Names) → length (binding ws xs) ≡ length ws + length xs
count-binding [] xs = omega arith
count-binding (w ∷ ws) xs = let r = count-binding ws (w.text ∷ xs) in omega arith

module _ (T : Tables) (K : Known) where
  count-named : (xs : Names) (fs : WForms Word) → count_forms (named_forms T xs fs) ≡ count_forms fs
  count-named xs f_end = refl
  count-named xs (f_more f fs) = ap suc (count-named xs fs)

  module _ (l : Bool) (applied : l ≡ true → (w : Word) (n : ℕ) → listed (T.applied w).broken ≡ [] → broken_count (T.applied w).arity n w ≡ [] → Takes (K.applied (T.applied w).reference) n) where
    mutual
      pub form-scoped : (xs : Names) (f : WForm Word) → form_written l f ≡ true → broken_form T xs f ≡ [] → FormScoped K l (length xs) (named_form T xs f)
      form-scoped xs (f_ident at w) c b = let r = number-within w.text xs 0 (unless-none (is_among w.text xs) rule.Unknown w.at.at b) in omega arith
      form-scoped xs (f_int at n) c b = tt
      form-scoped xs (f_bool at n) c b = tt
      form-scoped xs (f_unit at) c b = tt
      form-scoped xs (f_prim at o fs) c b =
          let two = and-left (not (is_inner o) && nat_eq (count_forms fs) (length (row_args o))) _ c in (
            off (is_inner o) (and-left (not (is_inner o)) _ two),
            count-named xs fs ∙ (Decides-eqb (count_forms fs) (length (row_args o))).0 (and-right (not (is_inner o)) _ two),
            forms-scoped xs fs (and-right (not (is_inner o) && nat_eq (count_forms fs) (length (row_args o))) _ c) b,
          )
        where
          off : (a : Bool) → not a ≡ true → a ≡ false
          off false e = refl
          off true e = cc
      form-scoped xs (f_if at h f g) c b =
          let two = and-left (form_written l h && form_written l f) (form_written l g) c in (
            form-scoped xs h (and-left (form_written l h) _ two) (none-first (broken_form T xs h) _ _ b),
            form-scoped xs f (and-right (form_written l h) _ two) (none-second (broken_form T xs h) _ _ b),
            form-scoped xs g (and-right (form_written l h && form_written l f) (form_written l g) c) (none-third (broken_form T xs h) _ _ b),
          )
      form-scoped xs (f_app at w fs) c b =
          let call = none-right (listed (T.applied w).broken) _ b in
          let known = applied (and-left l _ c) w (count_forms fs) (none-left (listed (T.applied w).broken) _ b) (no-own (broken_forms T xs fs) _ call) in
          (and-left l _ c, subst (Takes (K.applied (T.applied w).reference)) (sym (count-named xs fs)) known, forms-scoped xs fs (and-right l _ c) (no-parts (broken_forms T xs fs) _ call))
      form-scoped xs (f_let at x f g) c b =
          let two = and-left (l && form_written l f) (form_written l g) c in (
            and-left l _ two,
            form-scoped xs f (and-right l _ two) (none-left (broken_form T xs f) _ b),
            form-scoped (x.text ∷ xs) g (and-right (l && form_written l f) (form_written l g) c) (none-right (broken_form T xs f) _ b),
          )

      pub forms-scoped : (xs : Names) (fs : WForms Word) → forms_written l fs ≡ true → broken_forms T xs fs ≡ [] → FormsScoped K l (length xs) (named_forms T xs fs)
      forms-scoped xs f_end c b = tt
      forms-scoped xs (f_more f fs) c b =
          (form-scoped xs f (and-left (form_written l f) _ c) (none-left (broken_form T xs f) _ b), forms-scoped xs fs (and-right (form_written l f) _ c) (none-right (broken_form T xs f) _ b))

  module _ (body : Bool)
      (applied : body ≡ true → (w : Word) (n : ℕ) → listed (T.applied w).broken ≡ [] → broken_count (T.applied w).arity n w ≡ [] → Takes (K.applied (T.applied w).reference) n)
      (called : (w : Word) (n : ℕ) → listed (T.called w).broken ≡ [] → broken_count (T.called w).arity n w ≡ [] → Takes (K.called (T.called w).reference) n)
      (effects : body ≡ true → (w : Word) → listed (T.effect w).broken ≡ [] → if_there (K.effects (T.effect w).reference.index) (λ e. ⊤) ⊥) where
    run-scoped : (xs : Names) (f : WForm Word) → form_written false f ≡ true → broken_form T xs f ≡ [] → FormScoped K false (length xs) (named_form T xs f)
    run-scoped = form-scoped false (λ e. cc)

    arm-named : (xs : Names) (arms : WArms Word) → has_arm (named_arms T xs arms) ≡ has_arm arms
    arm-named xs x_end = refl
    arm-named xs (x_arm at con ws c more) = refl

    mutual
      pub text-scoped : (xs : Names) (c : WText Word) → text_written body c ≡ true → broken_text T xs c ≡ [] → TextScoped K body (length xs) (named_text T xs c)
      text-scoped xs (x_let true y s p c) w b =
          let two = and-left ((body || false) && part_written body p) (text_written body c) w in (
            on body (and-left (body || false) _ two),
            part-scoped xs p (and-right (body || false) _ two) (none-second (broken_note T s) _ _ b),
            text-scoped (y.text ∷ xs) c (and-right ((body || false) && part_written body p) _ w) (none-third (broken_note T s) _ _ b),
          )
        where
          on : (a : Bool) → a || false ≡ true → a ≡ true
          on true e = refl
          on false e = cc
      text-scoped xs (x_let false y s p c) w b =
          let two = and-left ((body || true) && part_written body p) (text_written body c) w in (
            part-scoped xs p (and-right (body || true) _ two) (none-second (broken_note T s) _ _ b),
            text-scoped (y.text ∷ xs) c (and-right ((body || true) && part_written body p) _ w) (none-third (broken_note T s) _ _ b),
          )
      text-scoped xs (x_assert f at c) w b =
          let two = and-left (body && form_written true f) (text_written body c) w in
          let on = and-left body _ two in (
            on,
            form-scoped true (λ e. applied on) xs f (and-right body _ two) (none-left (broken_form T xs f) _ b),
            text-scoped xs c (and-right (body && form_written true f) _ w) (none-right (broken_form T xs f) _ b),
          )
      text-scoped xs (x_if f c d) w b =
          let two = and-left (form_written false f && text_written body c) (text_written body d) w in (
            run-scoped xs f (and-left (form_written false f) _ two) (none-first (broken_form T xs f) _ _ b),
            text-scoped xs c (and-right (form_written false f) _ two) (none-second (broken_form T xs f) _ _ b),
            text-scoped xs d (and-right (form_written false f && text_written body c) _ w) (none-third (broken_form T xs f) _ _ b),
          )
      text-scoped xs (x_match f at arms) w b =
          let two = and-left (form_written false f && arms_written body arms) (has_arm arms) w in (
            run-scoped xs f (and-left (form_written false f) _ two) (none-left (broken_form T xs f) _ b),
            arms-scoped xs [] arms (and-right (form_written false f) _ two) (none-right (broken_form T xs f) _ b),
            arm-named xs arms ∙ and-right (form_written false f && arms_written body arms) (has_arm arms) w,
          )
      text-scoped xs (x_part p) w b = part-scoped xs p w b

      pub part-scoped : (xs : Names) (p : WPart Word) → part_written body p ≡ true → broken_part T xs p ≡ [] → PartScoped K body (length xs) (named_part T xs p)
      part-scoped xs (p_block at c) w b = text-scoped xs c w b
      part-scoped xs (p_call at f fs) w b =
          let call = none-right (listed (T.called f).broken) _ b in
          let known = called f (count_forms fs) (none-left (listed (T.called f).broken) _ b) (no-own (broken_forms T xs fs) _ call) in
          (subst (Takes (K.called (T.called f).reference)) (sym (count-named xs fs)) known, forms-scoped false (λ e. cc) xs fs w (no-parts (broken_forms T xs fs) _ call))
      part-scoped xs (p_reify at r s c f) w b =
          let two = and-left (body && text_written body c) (form_written false f) w in
          let on = and-left body _ two in
          let three = none-left (listed (T.effect r).broken ++ broken_sort T s ++ broken_text T xs c) _ b in (
            on,
            effects on r (none-first (listed (T.effect r).broken) _ _ three),
            text-scoped xs c (and-right body _ two) (none-third (listed (T.effect r).broken) (broken_sort T s) _ three),
            run-scoped xs f (and-right (body && text_written body c) _ w) (none-right (listed (T.effect r).broken ++ broken_sort T s ++ broken_text T xs c) _ b),
          )
      part-scoped xs (p_reflect at r s y c) w b =
          let on = and-left body _ w in
          (on, effects on r (none-first (listed (T.effect r).broken) _ _ b), text-scoped (y.text ∷ xs) c (and-right body _ w) (none-third (listed (T.effect r).broken) (broken_sort T s) _ b))
      part-scoped xs (p_term at f) w b = run-scoped xs f w b

      pub arms-scoped : (xs : Names) (met : List ConWord) (arms : WArms Word) → arms_written body arms ≡ true → broken_arms T xs met arms ≡ [] → ArmsScoped K body (length xs) (named_arms T xs arms)
      arms-scoped xs met x_end w b = tt
      arms-scoped xs met (x_arm at con ws c more) w b =
          let two = and-left (nat_eq (length ws) (binds con) && text_written body c) (arms_written body more) w in
          let count = (Decides-eqb (length ws) (binds con)).0 (and-left (nat_eq (length ws) (binds con)) _ two) in
          let own = unless (not (has_con con met)) (breaks rule.Twice at) ++ broken_words [] ws in
          let under : length (binding ws xs) ≡ binds con + length xs = count-binding ws xs ∙ ap (λ n. n + length xs) count in (
            count,
            subst (λ n. TextScoped K body n (named_text T (binding ws xs) c)) under (text-scoped (binding ws xs) c (and-right (nat_eq (length ws) (binds con)) _ two) (none-second own _ _ b)),
            arms-scoped xs (met ++ con ∷ []) more (and-right (nat_eq (length ws) (binds con) && text_written body c) _ w) (none-third own (broken_text T (binding ws xs) c) _ b),
          )
