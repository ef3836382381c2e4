-- The number and the mark at the front.
use Rattle.std.proofs.Common.{◌≡◌, ℕ, zero, suc, ◌+◌, ◌<◌, ◌≤◌, Bool, true, ◌&&◌, ◌||◌, not, ◌==◌, nat_lt, List, [], ◌∷◌, Option, Some, None, length, take, get_or, bytes_eq, refl, sym, ap, subst, ◌∙◌, arith, inl, inr, ◌⊎◌, lit≤, length-take}
use Rattle.std.proofs.Math.Seq.{take-append-add}
use Rattle.std.proofs.lemmas.List.{get_or-take}
use Rattle.std.proofs.lemmas.Bool.{cases_Bool, cond-true, cond-false, and_parts}
use Rattle.std.proofs.lemmas.Bool.Decides.{nat_tests}
use Rattle.std.proofs.lemmas.Slice.Eq.{bytes_eq-Decides}
use Rattle.std.specs.Char.{is_ascii_digit, is_ascii_alphabetic}
use Rattle.std.specs.List.{list_all, prefix_len}
use Rattle.fst_text.specs.declared.mark.Mark.{Mark}
use Rattle.fst_text.specs.Words.{looked_up}
use Rattle.fst_text.specs.Marks.{marks_of_1, marks_of_2, marks_of_3, IsMark, sized, longest_mark}

-- the digits that are measured are digits
pub prefix_len-all : (p : ℕ → Bool) (xs : List ℕ) → list_all p (take (prefix_len p xs) xs) ≡ true
prefix_len-all p [] = refl
prefix_len-all p (x ∷ xs) = elim (cases_Bool (p x)) [
  | inl t ↦ rw t (ap (list_all p) (take-append-add (x ∷ []) xs (prefix_len p xs)) ∙ ap (λ b. b && list_all p (take (prefix_len p xs) xs)) t ∙ prefix_len-all p xs)
  | inr t ↦ rw t refl
]

-- and no more digits stand there
pub prefix_len-longest : (p : ℕ → Bool) (xs : List ℕ) (m : ℕ) → m ≤ length xs → list_all p (take m xs) ≡ true → m ≤ prefix_len p xs
prefix_len-longest p xs zero le all = omega arith
prefix_len-longest p [] (suc m) le all = absurd (omega arith)
prefix_len-longest p (x ∷ xs) (suc m) le all =
    let both = and_parts _ _ all in
    let more = prefix_len-longest p xs m (omega arith) both.1 in
    let one : prefix_len p (x ∷ xs) ≡ 1 + prefix_len p xs = cond-true _ _ _ both.0 in
    omega (arith, more, one)

pub prefix_len-head : (p : ℕ → Bool) (xs : List ℕ) → 0 < prefix_len p xs → p (get_or xs 0 0) ≡ true
prefix_len-head p [] some = absurd (omega arith)
prefix_len-head p (x ∷ xs) some = elim (cases_Bool (p x)) [
  | inl t ↦ t
  | inr t ↦ absurd (let none : prefix_len p (x ∷ xs) ≡ 0 = cond-false _ _ _ t in omega arith)
]

-- what holds of the text of each row holds of one that is looked up
pub row-has : {A : Type 0} (holds : List ℕ → Bool) (rows : List (List ℕ × A)) → list_all (λ r. holds r.0) rows ≡ true
    → (bs : List ℕ) (a : A) → looked_up rows bs ≡ Some a → holds bs ≡ true
row-has holds [] all bs a is = absurd (cc)
row-has holds (r ∷ rows) all bs a is =
    let both = and_parts _ _ all in
    elim (cases_Bool (bytes_eq r.0 bs)) [
      | inl e ↦ subst (λ w. holds w ≡ true) ((bytes_eq-Decides r.0 bs).0 e) both.0
      | inr e ↦ row-has holds rows both.1 bs a (sym (cond-false _ _ _ e) ∙ is)
    ]

abbrev is_long : ℕ → List ℕ → Bool
is_long n t = length t == n

-- the first byte is ASCII, and neither a letter nor an underscore nor a digit
abbrev pub begins_mark : ℕ → Bool
begins_mark b = nat_lt b 128 && (not (is_ascii_alphabetic b || (b == 95)) && not (is_ascii_digit b))

long_of : (n : ℕ) (rows : List (List ℕ × Mark)) (bs : List ℕ) (m : Mark) → list_all (λ r. is_long n r.0) rows ≡ true → looked_up rows bs ≡ Some m → length bs ≡ n
long_of n rows bs m all is = let t = row-has (is_long n) rows all bs m is in grind (arith, nat_tests)

-- the size of the longest mark at the front, 0 where none begins there
abbrev pub size_of : Option (Mark × ℕ) → ℕ
size_of (Some (m, n)) = n
size_of None = 0

abbrev pub mark_len : List ℕ → ℕ
mark_len bs = size_of (longest_mark bs)

same_size : (bs : List ℕ) (m n : ℕ) → m ≤ length bs → length (take m bs) ≡ n → m ≡ n
same_size bs m n le long = omega (arith, length-take m bs)

least_1 : (c b a : Option Mark) (m : Mark) → a ≡ Some m → 1 ≤ size_of (sized c 3 (sized b 2 (sized a 1 None)))
least_1 (Some x) b a m e = lit≤ tt
least_1 None (Some x) a m e = lit≤ tt
least_1 None None (Some x) m e = lit≤ tt
least_1 None None None m e = absurd (cc)

least_2 : (c b a : Option Mark) (m : Mark) → b ≡ Some m → 2 ≤ size_of (sized c 3 (sized b 2 (sized a 1 None)))
least_2 (Some x) b a m e = lit≤ tt
least_2 None (Some x) a m e = lit≤ tt
least_2 None None a m e = absurd (cc)

least_3 : (c b a : Option Mark) (m : Mark) → c ≡ Some m → 3 ≤ size_of (sized c 3 (sized b 2 (sized a 1 None)))
least_3 (Some x) b a m e = lit≤ tt
least_3 None b a m e = absurd (cc)

-- no mark at the front is longer
pub mark_len-longest : (bs : List ℕ) (n : ℕ) (m : Mark) → n ≤ length bs → IsMark m (take n bs) → n ≤ mark_len bs
mark_len-longest bs n m le (inl a) =
    let is : n ≡ 1 = same_size bs n 1 le (long_of 1 marks_of_1 (take n bs) m refl a) in
    let a' = subst (λ k. looked_up marks_of_1 (take k bs) ≡ Some m) is a in
    subst (λ k. k ≤ mark_len bs) (sym is) (least_1 (looked_up marks_of_3 (take 3 bs)) (looked_up marks_of_2 (take 2 bs)) _ m a')
mark_len-longest bs n m le (inr (inl b)) =
    let is : n ≡ 2 = same_size bs n 2 le (long_of 2 marks_of_2 (take n bs) m refl b) in
    let b' = subst (λ k. looked_up marks_of_2 (take k bs) ≡ Some m) is b in
    subst (λ k. k ≤ mark_len bs) (sym is) (least_2 (looked_up marks_of_3 (take 3 bs)) _ (looked_up marks_of_1 (take 1 bs)) m b')
mark_len-longest bs n m le (inr (inr d)) =
    let is : n ≡ 3 = same_size bs n 3 le (long_of 3 marks_of_3 (take n bs) m refl d) in
    let d' = subst (λ k. looked_up marks_of_3 (take k bs) ≡ Some m) is d in
    subst (λ k. k ≤ mark_len bs) (sym is) (least_3 _ (looked_up marks_of_2 (take 2 bs)) (looked_up marks_of_1 (take 1 bs)) m d')

abbrev mark_in : Option (Mark × ℕ) → Option Mark
mark_in (Some (m, n)) = Some m
mark_in None = None

-- which of the three tables the longest mark is looked up in
sized-from : (c b a : Option Mark) (m : Mark) (n : ℕ) → sized c 3 (sized b 2 (sized a 1 None)) ≡ Some (m, n)
    → ((a ≡ Some m) × (n ≡ 1)) ⊎ (((b ≡ Some m) × (n ≡ 2)) ⊎ ((c ≡ Some m) × (n ≡ 3)))
sized-from (Some x) b a m n e = inr (inr (ap mark_in e, sym (ap size_of e)))
sized-from None (Some x) a m n e = inr (inl (ap mark_in e, sym (ap size_of e)))
sized-from None None (Some x) m n e = inl (ap mark_in e, sym (ap size_of e))
sized-from None None None m n e = absurd (cc)

pub record IsLongestMark (bs : List ℕ) (m : Mark) (n : ℕ) : Type 0 where
  pub some : 0 < n
  pub within : n ≤ length bs
  pub mark : IsMark m (take n bs)

-- the longest mark is one
pub longest_mark-mark : (bs : List ℕ) (m : Mark) (n : ℕ) → longest_mark bs ≡ Some (m, n) → IsLongestMark bs m n
longest_mark-mark bs m n e = elim (sized-from (looked_up marks_of_3 (take 3 bs)) (looked_up marks_of_2 (take 2 bs)) (looked_up marks_of_1 (take 1 bs)) m n e) [
  | inl (a, is) ↦
      let long = long_of 1 marks_of_1 (take 1 bs) m refl a in
      subst (IsLongestMark bs m) (sym is) (record { some = lit≤ tt; within = omega (arith, long, length-take 1 bs); mark = inl a })
  | inr (inl (b, is)) ↦
      let long = long_of 2 marks_of_2 (take 2 bs) m refl b in
      subst (IsLongestMark bs m) (sym is) (record { some = lit≤ tt; within = omega (arith, long, length-take 2 bs); mark = inr (inl b) })
  | inr (inr (d, is)) ↦
      let long = long_of 3 marks_of_3 (take 3 bs) m refl d in
      subst (IsLongestMark bs m) (sym is) (record { some = lit≤ tt; within = omega (arith, long, length-take 3 bs); mark = inr (inr d) })
]

abbrev has_begins_mark : List ℕ → Bool
has_begins_mark t = begins_mark (get_or t 0 0)

mark-begins : (m : Mark) (w : List ℕ) → IsMark m w → begins_mark (get_or w 0 0) ≡ true
mark-begins m w (inl a) = row-has has_begins_mark marks_of_1 refl w m a
mark-begins m w (inr (inl b)) = row-has has_begins_mark marks_of_2 refl w m b
mark-begins m w (inr (inr d)) = row-has has_begins_mark marks_of_3 refl w m d

-- something is found or nothing is
pub there : {A : Type 0} (o : Option A) → ((a : A) × (o ≡ Some a)) ⊎ (o ≡ None)
there (Some a) = inl (a, refl)
there None = inr refl

-- the byte that begins a mark
pub mark-head : (bs : List ℕ) → 0 < mark_len bs → begins_mark (get_or bs 0 0) ≡ true
mark-head bs some = elim (there (longest_mark bs)) [
  | inl ((m, n), is) ↦
      let longest = longest_mark-mark bs m n is in
      subst (λ b. begins_mark b ≡ true) (get_or-take n bs 0 0 longest.some) (mark-begins m (take n bs) longest.mark)
  | inr is ↦ absurd (omega (arith, ap size_of is))
]
