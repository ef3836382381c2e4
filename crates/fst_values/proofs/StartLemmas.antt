-- What a text starts with.
use Rattle.std.proofs.Common.{◌≡◌, ℕ, ◌<◌, Bool, true, false, cond, ◌==◌, inl, inr, List, [], ◌∷◌, length, take_while, ℤ, codes, refl, sym, ap, ◌∙◌, arith}
use Rattle.std.proofs.lemmas.List.Sums.{take_while-cons}
use Rattle.std.specs.Char.{is_ascii_alphanumeric}
use Rattle.fst_base.specs.Sorts.{Srt, s_unit, s_bool, s_int, s_pair, s_opt, s_list, s_either}
use Rattle.fst_base.specs.Values.{Val, v_unit, v_bool, v_int, v_pair, v_none, v_some, v_nil, v_cons, v_inl, v_inr}
use Rattle.fst_values.specs.Tokens.{word, Mark}
use Rattle.fst_values.specs.Texts.{Text, Integer, open_round, minus, open_square, close_square}
use Rattle.fst_values.specs.Reading.{starts}
use Rattle.fst_values.proofs.TokenLemmas.{eqb-is}

pub starts-other : (mark other : ℕ) (from to : List ℕ) → mark == other ≡ false → Mark mark from to → starts other from ≡ false
starts-other mark other from to e h = ap (starts other) h.1.0 ∙ e

-- a word that is not empty starts with no mark that is no letter and no digit
pub starts-word : (mark : ℕ) (name from : List ℕ) → is_ascii_alphanumeric mark ≡ false → word from ≡ name → 0 < length name → starts mark from ≡ false
starts-word mark name [] n e l = refl
starts-word mark name (b ∷ bs) n e l = go (b == mark) refl
  where
    go : (t : Bool) → b == mark ≡ t → t ≡ false
    go false f = refl
    go true f =
        let g : b ≡ mark = eqb-is b mark f in
        let h : is_ascii_alphanumeric b ≡ false = ap is_ascii_alphanumeric g ∙ n in
        let k : name ≡ [] = sym e ∙ take_while-cons is_ascii_alphanumeric b bs ∙ ap (λ u. cond u (b ∷ take_while is_ascii_alphanumeric bs) []) h in
        absurd (omega (arith, ap length k))

pub integer-starts : (n : ℤ) (from to : List ℕ) → Integer n from to → starts close_square from ≡ false
integer-starts n from to (inl h) = starts-word close_square (word from) from refl refl h.1.0.0.0
integer-starts n from to (inr h) = starts-other minus close_square from h.1.0 refl h.1.1.0

-- a text does not start with the mark that ends a list
pub text-starts : (S : Srt) (v : Val) (from to : List ℕ) → Text S v from to → starts close_square from ≡ false
text-starts s_unit v_unit from to h = starts-other open_round close_square from h.0 refl h.1.0
text-starts s_bool (v_bool true) from to h = starts-word close_square (codes "true") from refl h.0 (omega arith)
text-starts s_bool (v_bool false) from to h = starts-word close_square (codes "false") from refl h.0 (omega arith)
text-starts s_int (v_int n) from to h = integer-starts n from to h
text-starts (s_pair S T) (v_pair a b) from to h = starts-other open_round close_square from h.0 refl h.4.0
text-starts (s_opt S) v_none from to h = starts-word close_square (codes "none") from refl h.0 (omega arith)
text-starts (s_opt S) (v_some a) from to h = starts-word close_square (codes "some") from refl h.1.0.0 (omega arith)
text-starts (s_list S) v_nil from to h = starts-other open_square close_square from h.0 refl h.1.0
text-starts (s_list S) (v_cons a b) from to h = starts-other open_square close_square from h.0 refl h.2.0
text-starts (s_either S T) (v_inl a) from to h = starts-word close_square (codes "inl") from refl h.1.0.0 (omega arith)
text-starts (s_either S T) (v_inr a) from to h = starts-word close_square (codes "inr") from refl h.1.0.0 (omega arith)
text-starts S v from to h = absurd h
