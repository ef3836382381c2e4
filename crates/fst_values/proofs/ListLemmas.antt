-- The printed text of a list, item by item.
use Rattle.std.proofs.Common.{◌≡◌, ℕ, suc, ◌+◌, ◌<◌, List, [], ◌∷◌, ◌++◌, length, take, get_or, map, codes, append_assoc, refl, sym, ap, ◌∙◌, arith}
use Rattle.std.proofs.lemmas.List.{append-nil, map-append, take_more, take_all, length-map, length-take}
use Rattle.fst_base.specs.Values.{Val, chain, plain_value}
use Rattle.fst_base.specs.declared.value.Value.{Value}
use Rattle.fst_values.specs.Printing.{separator}
use Rattle.fst_values.specs.Texts.{text_of, text_of_more}

-- items with the number of the first one
abbrev pub printed_from : ℕ → List Val → List ℕ
printed_from n [] = []
printed_from n (v ∷ vs) = separator n ++ (text_of v ++ printed_from (suc n) vs)

printed_from-push : (n : ℕ) (vs : List Val) (v : Val) → printed_from n (vs ++ v ∷ []) ≡ printed_from n vs ++ (separator (n + length vs) ++ text_of v)
printed_from-push n [] v = ap (λ k. separator n ++ k) (append-nil (text_of v)) ∙ ap (λ k. separator k ++ text_of v) (omega arith)
printed_from-push n (w ∷ vs) v =
    ap (λ k. separator n ++ (text_of w ++ k)) (printed_from-push (suc n) vs v ∙ ap (λ k. printed_from (suc n) vs ++ (separator k ++ text_of v)) (omega arith))
    ∙ ap (λ k. separator n ++ k) (sym (append_assoc (text_of w) (printed_from (suc n) vs) (separator (n + length (w ∷ vs)) ++ text_of v)))
    ∙ sym (append_assoc (separator n) (text_of w ++ printed_from (suc n) vs) (separator (n + length (w ∷ vs)) ++ text_of v))

text_of_more-chain : (n : ℕ) (vs : List Val) → text_of_more (chain vs) ≡ printed_from (suc n) vs ++ codes "]"
text_of_more-chain n [] = refl
text_of_more-chain n (v ∷ vs) =
    ap (λ k. codes "; " ++ text_of v ++ k) (text_of_more-chain (suc n) vs)
    ∙ append_assoc (codes "; ") (text_of v) (printed_from (suc (suc n)) vs ++ codes "]")
    ∙ ap (λ k. codes "; " ++ k) (sym (append_assoc (text_of v) (printed_from (suc (suc n)) vs) (codes "]")))
    ∙ sym (append_assoc (codes "; ") (text_of v ++ printed_from (suc (suc n)) vs) (codes "]"))

text_of-chain : (vs : List Val) → text_of (chain vs) ≡ codes "[" ++ (printed_from 0 vs ++ codes "]")
text_of-chain [] = refl
text_of-chain (v ∷ vs) =
    append_assoc (codes "[") (text_of v) (text_of_more (chain vs))
    ∙ ap (λ k. codes "[" ++ (text_of v ++ k)) (text_of_more-chain 0 vs)
    ∙ ap (λ k. codes "[" ++ k) (sym (append_assoc (text_of v) (printed_from 1 vs) (codes "]")))

-- one more item
pub item_printed : (start here parted new : List ℕ) (items : List Value) (item : Value) (at : ℕ) → at < length items
    → here ≡ start ++ (codes "[" ++ printed_from 0 (map plain_value (take at items)))
    → parted ≡ here ++ separator at → new ≡ parted ++ text_of (plain_value item) → item ≡ get_or items at item
    → new ≡ start ++ (codes "[" ++ printed_from 0 (map plain_value (take (at + 1) items)))
item_printed start here parted new items item at h e f g i =
    let vs = map plain_value (take at items) in
    let more : map plain_value (take (at + 1) items) ≡ vs ++ plain_value item ∷ [] =
    ap (map plain_value) (take_more items at item h ∙ ap (λ v. take at items ++ v ∷ []) (sym i)) ∙ map-append plain_value (take at items) (item ∷ []) in
    let count : length vs ≡ at = simp (length-map, length-take) (omega arith) in
    let pushed : printed_from 0 (map plain_value (take (at + 1) items)) ≡ printed_from 0 vs ++ (separator at ++ text_of (plain_value item)) =
    ap (printed_from 0) more ∙ printed_from-push 0 vs (plain_value item) ∙ ap (λ k. printed_from 0 vs ++ (separator k ++ text_of (plain_value item))) (omega arith) in
    g ∙ ap (λ k. k ++ text_of (plain_value item)) (f ∙ ap (λ k. k ++ separator at) e)
    ∙ rw pushed (simp append_assoc)

-- the end behind all items
pub list_printed : (start here new : List ℕ) (items : List Value) (at : ℕ) → length items ≡ at
    → here ≡ start ++ (codes "[" ++ printed_from 0 (map plain_value (take at items))) → new ≡ here ++ codes "]"
    → new ≡ start ++ text_of (chain (map plain_value items))
list_printed start here new items at l e f =
    f ∙ ap (λ k. k ++ codes "]") (e ∙ ap (λ k. start ++ (codes "[" ++ printed_from 0 (map plain_value k))) (take_all at items (omega arith)))
    ∙ append_assoc start (codes "[" ++ printed_from 0 (map plain_value items)) (codes "]")
    ∙ ap (λ k. start ++ k) (append_assoc (codes "[") (printed_from 0 (map plain_value items)) (codes "]") ∙ sym (text_of-chain (map plain_value items)))
