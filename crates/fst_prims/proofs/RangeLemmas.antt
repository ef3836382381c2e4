-- Values that are no numbers outside 128 bits.
use Rattle.std.proofs.Common.{ℤ, ◌≡◌, false, List, [], ◌∷◌, map, refl, ap, ◌∙◌, rules}
use Rattle.fst_base.specs.Values.{Val, chain, plain_value, default_of}
use Rattle.fst_base.specs.Sorts.{Srt, s_unit, s_bool, s_int, s_a, s_b, s_pair, s_opt, s_list, s_either}
use Rattle.fst_base.specs.Primitives.{is_wide}
use Rattle.fst_base.specs.declared.value.Value.{Value}
use Rattle.fst_base.specs.declared.value.Value as W
use Rattle.fst_base.specs.declared.value.Value.TheVariants as V
use Rattle.fst_base.proofs.ValueLemmas.{value_by_parts, plain-value-Pair, plain-value-Just, plain-value-List, plain-value-Left, plain-value-Right}

pub chain-narrow : (vs : List Val) → is_wide (chain vs) ≡ false
chain-narrow [] = refl
chain-narrow (v ∷ vs) = refl

-- a value that is no number is none outside 128 bits
pub no_number-narrow : (v : Value) → ((n : ℤ) → v ≡ V.Int n → ⊥) → is_wide (plain_value v) ≡ false
no_number-narrow = value_by_parts (λ v. ((n : ℤ) → v ≡ V.Int n → ⊥) → is_wide (plain_value v) ≡ false) (record {
  at_unit = λ h. search (rules, W.the_lemmas);
  at_bool = λ b h. search (rules, W.the_lemmas);
  at_int = λ n h. absurd (h n refl);
  at_pair = λ a b p q h. ap is_wide (plain-value-Pair a b);
  at_nothing = λ h. search (rules, W.the_lemmas);
  at_just = λ a p h. ap is_wide (plain-value-Just a);
  at_list = λ vs p h. ap is_wide (plain-value-List vs) ∙ chain-narrow (map plain_value vs);
  at_left = λ a p h. ap is_wide (plain-value-Left a);
  at_right = λ a p h. ap is_wide (plain-value-Right a);
})

-- a default value is no number outside 128 bits
pub default-narrow : (S : Srt) → is_wide (default_of S) ≡ false
default-narrow s_unit = refl
default-narrow s_bool = refl
default-narrow s_int = refl
default-narrow s_a = refl
default-narrow s_b = refl
default-narrow (s_pair S T) = refl
default-narrow (s_opt S) = refl
default-narrow (s_list S) = refl
default-narrow (s_either S T) = refl
