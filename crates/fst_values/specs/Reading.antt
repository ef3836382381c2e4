-- The reading of a text: at a sort each text is settled by its first tokens.
use Rattle.std.specs.Prelude.{◌≡◌, ℕ, zero, suc, Bool, true, false, nat_lt, ◌&&◌, ◌==◌, List, [], ◌∷◌, length, drop, map, ℤ, pos, neg_ℤ, Option, Some, None, Result, Ok, Err, option_and_then, codes, if◌then◌else◌}
use Rattle.std.specs.List.{list_all}
use Rattle.std.specs.Char.{is_ascii_digit}
use Rattle.std.specs.Cmp.Lexicographic.{pointwise}
use Rattle.std.specs.Str.Parse.{digits_value}
use Rattle.fst_base.specs.Sorts.{Srt, s_unit, s_bool, s_int, s_pair, s_opt, s_list, s_either}
use Rattle.fst_base.specs.Values.{Val, v_unit, v_bool, v_int, v_pair, v_none, v_some, v_nil, v_cons, v_inl, v_inr, chain, plain_value}
use Rattle.fst_base.specs.Primitives.{InRange}
use Rattle.fst_base.specs.declared.value.Value.{Value}
use Rattle.fst_values.specs.declared.fault.ValueFault.{ValueFault}
use Rattle.fst_values.specs.declared.fault.ValueFault.TheVariants.{NumberTooWide, NotAValue, NoMemory}
use Rattle.fst_values.specs.Tokens.{skip, word, after_word}
use Rattle.fst_values.specs.Texts.{open_round, close_round, comma, minus, semicolon, open_square, close_square}

infixl 10 ◌>>=◌
abbrev pub ◌>>=◌ : {A B : Type 0} → Option A → (A → Option B) → Option B
o >>= f = option_and_then f o

-- whether the bytes start with the mark, and what is left after it and its blanks where they do
abbrev pub starts : (mark : ℕ) → List ℕ → Bool
starts mark [] = false
starts mark (b ∷ bs) = b == mark

abbrev pub after_mark : (mark : ℕ) → List ℕ → List ℕ
after_mark mark bs = if starts mark bs then skip (drop 1 bs) else bs

abbrev pub expected : (mark : ℕ) → List ℕ → Option (List ℕ)
expected mark bs = if starts mark bs then Some (skip (drop 1 bs)) else None

-- a call that expects a mark finds it, and leaves the rest
abbrev pub Expects : Option (List ℕ) → Result (Unit {0}) ValueFault → (to : List ℕ) → Type 0
Expects o (Ok _) to = o ≡ Some to
Expects o (Err NotAValue) to = o ≡ None
Expects o (Err _) to = ⊥

-- whether the word at the front is this one, and what is left after it and its blanks
abbrev pub is_word : List ℕ → (name : List ℕ) → Bool
is_word bs name = pointwise ◌==◌ (word bs) name

abbrev pub past_word : List ℕ → List ℕ
past_word bs = skip (after_word bs)

-- a value with the rest behind its text
abbrev pub Found : Type 0
Found = Option (Val × List ℕ)

abbrev pub signed : (is_negative : Bool) → ℕ → ℤ
signed true n = neg_ℤ (pos n)
signed false n = pos n

abbrev pub is_numeral : List ℕ → Bool
is_numeral bs = nat_lt 0 (length bs) && list_all is_ascii_digit bs

abbrev pub numeral : (is_negative : Bool) → List ℕ → Found
numeral s bs = if is_numeral (word bs) then Some (v_int (signed s (digits_value 10 (word bs))), past_word bs) else None

-- the value with this put around it
abbrev pub within : (Val → Val) → Found → Found
within f o = o >>= λ p. Some (f p.0, p.1)

-- items of a list and its end, at most so many, where item reads one
abbrev pub items : (List ℕ → Found) → (most : ℕ) → List ℕ → Found
items item zero bs = None
items item (suc most) bs = item bs >>= λ p.
    if starts close_square p.1 then Some (v_cons p.0 v_nil, after_mark close_square p.1)
    else expected semicolon p.1 >>= λ k. within (v_cons p.0) (items item most k)

-- what is read at a sort
abbrev pub reads : Srt → List ℕ → Found
reads s_unit bs = expected open_round bs >>= λ k. expected close_round k >>= λ to. Some (v_unit, to)
reads s_bool bs = if is_word bs (codes "true") then Some (v_bool true, past_word bs)
    else if is_word bs (codes "false") then Some (v_bool false, past_word bs) else None
reads s_int bs = numeral (starts minus bs) (after_mark minus bs)
reads (s_pair S T) bs = expected open_round bs >>= λ k. reads S k >>= λ p. expected comma p.1 >>= λ m.
    reads T m >>= λ q. expected close_round q.1 >>= λ to. Some (v_pair p.0 q.0, to)
reads (s_opt S) bs = if is_word bs (codes "none") then Some (v_none, past_word bs)
    else if is_word bs (codes "some") then within v_some (reads S (past_word bs)) else None
reads (s_list S) bs = expected open_square bs >>= λ k.
    if starts close_square k then Some (v_nil, after_mark close_square k) else items (reads S) (suc (length k)) k
reads (s_either S T) bs = if is_word bs (codes "inl") then within v_inl (reads S (past_word bs))
    else if is_word bs (codes "inr") then within v_inr (reads T (past_word bs)) else None
reads _ bs = None

-- the value of a plain tree, or none where a number in it is past 128 bits
abbrev pub Part : Val → Option Value → Type 0
Part w (Some v) = (plain_value v ≡ w) × InRange w
Part w None = ¬ InRange w

-- the same of the items of a list
abbrev pub Parts : List Val → Option (List Value) → Type 0
Parts ws (Some vs) = (map plain_value vs ≡ ws) × InRange (chain ws)
Parts ws None = ¬ InRange (chain ws)

-- a reading call answers what is found, and leaves the rest
abbrev pub Gives : Found → Result (Option Value) ValueFault → (to : List ℕ) → Type 0
Gives o (Ok part) to = (w : Val) × ((o ≡ Some (w, to)) × Part w part)
Gives o (Err NotAValue) to = o ≡ None
Gives o (Err NoMemory) to = Unit {0}
Gives o (Err NumberTooWide) to = ⊥
