-- A numeral past 128 bits.
use Rattle.std.proofs.Common.{◌≡◌, ℕ, List, Bool, true, Some, None, Ok, sym, ap, ◌∙◌}
use Rattle.std.specs.Str.Parse.{digits_value}
use Rattle.fst_base.specs.Primitives.{In128}
use Rattle.fst_base.specs.Sorts.{s_int}
use Rattle.fst_base.specs.Values.{v_int}
use Rattle.fst_values.specs.Tokens.{word}
use Rattle.fst_values.specs.Texts.{minus}
use Rattle.fst_values.specs.Reading.{starts, after_mark, past_word, signed, is_numeral, reads, Gives}
use Rattle.fst_values.proofs.StepLemmas.{chooses}

found : (bs : List ℕ) → is_numeral (word (after_mark minus bs)) ≡ true
    → reads s_int bs ≡ Some (v_int (signed (starts minus bs) (digits_value 10 (word (after_mark minus bs)))), past_word (after_mark minus bs))
found bs e = chooses (is_numeral (word (after_mark minus bs))) _ _ e

pub integer_wide : (bs k ds to : List ℕ) (s : Bool) → s ≡ starts minus bs → k ≡ after_mark minus bs → ds ≡ word k → to ≡ past_word k
    → is_numeral ds ≡ true → (In128 (signed s (digits_value 10 ds)) → ⊥) → Gives (reads s_int bs) (Ok None) to
integer_wide bs k ds to s es ek ed et n wide =
    let e : ds ≡ word (after_mark minus bs) = ed ∙ ap word ek in
    let f = found bs (ap is_numeral (sym e) ∙ n) in
    (v_int (signed s (digits_value 10 ds)), (f ∙ (cc), wide))
