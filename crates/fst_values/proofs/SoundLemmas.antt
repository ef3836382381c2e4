-- What is found is a text.
use Rattle.std.proofs.Common.{◌≡◌, ℕ, zero, suc, Bool, true, false, cond, inl, inr, List, length, drop, ℤ, pos, neg_ℤ, Some, None, codes, refl, sym, ap, subst}
use Rattle.fst_base.specs.Sorts.{Srt, s_unit, s_bool, s_int, s_a, s_b, s_pair, s_opt, s_list, s_either}
use Rattle.fst_base.specs.Values.{Val, v_unit, v_bool, v_int, v_pair, v_none, v_some, v_nil, v_cons, v_inl, v_inr}
use Rattle.fst_values.specs.Tokens.{skip, Mark}
use Rattle.fst_values.specs.Texts.{Text, More, Integer, open_round, close_round, comma, minus, semicolon, open_square, close_square}
use Rattle.fst_values.specs.Reading.{starts, after_mark, expected, is_word, past_word, Found, numeral, within, items, reads}
use Rattle.fst_values.proofs.StepLemmas.{some-is, bound, chosen, either_chosen, goes}
use Rattle.fst_values.proofs.TokenLemmas.{mark-sound, expected-sound, word-sound, numeral-sound}

-- a value with this around it is found where its part is
pub record IsAround (f : Val → Val) (o : Found) (w : Val) (to : List ℕ) : Type 0 where
  pub part : Val
  pub found : o ≡ Some (part, to)
  pub is : w ≡ f part

around : (f : Val → Val) (o : Found) (w : Val) (to : List ℕ) → within f o ≡ Some (w, to) → IsAround f o w to
around f None w to e = cc
around f (Some p) w to e =
    let q = some-is _ _ e in
    record { part = p.0; found = ap (λ k. Some (p.0, k)) (ap (λ r. r.1) q); is = sym (ap (λ r. r.0) q) }

-- the text of a value that is said to be found, with the rest that is said to be left
told : (P : Val → List ℕ → Type 0) (v w : Val) (k to : List ℕ) → ◌≡◌ {A = Found} (Some (v, k)) (Some (w, to)) → P v k → P w to
told P v w k to e h = let q = some-is (v, k) (w, to) e in subst (P w) (ap (λ r. r.1) q) (subst (λ u. P u k) (ap (λ r. r.0) q) h)

-- a mark that is there is taken
taken : (mark : ℕ) (bs : List ℕ) → starts mark bs ≡ true → Mark mark bs (after_mark mark bs)
taken mark bs e = subst (Mark mark bs) (sym (ap (λ t. cond t (skip (drop 1 bs)) bs) e)) (mark-sound mark bs e)

-- items of a list and its end, behind the opening mark
record AreItems (S : Srt) (w : Val) (from to : List ℕ) : Type 0 where
  first : Val
  others : Val
  is : w ≡ v_cons first others
  behind : List ℕ
  text : Text S first from behind
  more : More S others behind to

module _ (S : Srt) (item : (bs : List ℕ) (w : Val) (to : List ℕ) → reads S bs ≡ Some (w, to) → Text S w bs to) where
  items-sound : (most : ℕ) (bs : List ℕ) (w : Val) (to : List ℕ) → items (reads S) most bs ≡ Some (w, to) → AreItems S w bs to
  items-sound zero bs w to e = cc
  items-sound (suc most) bs w to e =
      let p = bound (reads S bs) _ _ e in
      let v = p.part.0 in
      let l = p.part.1 in
      let text = item bs v l p.found in
      elim (either_chosen (starts close_square l) _ _ _ p.rest) [
        | inl ends ↦
            let q = some-is _ _ ends.1 in
            record {
              first = v;
              others = v_nil;
              is = sym (ap (λ r. r.0) q);
              behind = l;
              text = text;
              more = subst (Mark close_square l) (ap (λ r. r.1) q) (taken close_square l ends.0);
            }
        | inr goes ↦
            let m = bound (expected semicolon l) _ _ goes.1 in
            let mark = expected-sound semicolon l m.part m.found in
            let a = around (v_cons v) (items (reads S) most m.part) w to m.rest in
            let i = items-sound most m.part a.part to a.found in
            record {
              first = v;
              others = a.part;
              is = a.is;
              behind = l;
              text = text;
              more = subst (λ b. More S b l to) (sym i.is) (m.part, i.behind, (mark, i.text, i.more));
            }
      ]

integer-sound : (bs : List ℕ) (w : Val) (to : List ℕ) → reads s_int bs ≡ Some (w, to) → (n : ℤ) × ((w ≡ v_int n) × Integer n bs to)
integer-sound bs w to e = go (starts minus bs) refl
  where
    go : (s : Bool) → starts minus bs ≡ s → (n : ℤ) × ((w ≡ v_int n) × Integer n bs to)
    go true s =
        let f : numeral true (skip (drop 1 bs)) ≡ Some (w, to) = subst (λ t. numeral t (cond t (skip (drop 1 bs)) bs) ≡ Some (w, to)) s e in
        let h = numeral-sound true (skip (drop 1 bs)) w to f in
        (neg_ℤ (pos h.0), (h.1.1, inr (h.0, (skip (drop 1 bs), (mark-sound minus bs s, h.1.0, refl)))))
    go false s =
        let f : numeral false bs ≡ Some (w, to) = subst (λ t. numeral t (cond t (skip (drop 1 bs)) bs) ≡ Some (w, to)) s e in
        let h = numeral-sound false bs w to f in
        (pos h.0, (h.1.1, inl (h.0, (h.1.0, refl))))

-- what is found is a text
pub sound : (S : Srt) (bs : List ℕ) (w : Val) (to : List ℕ) → reads S bs ≡ Some (w, to) → Text S w bs to
sound s_unit bs w to e =
    let k = bound (expected open_round bs) _ _ e in
    let n = bound (expected close_round k.part) _ _ k.rest in
    told (λ v l. Text s_unit v bs l) v_unit w n.part to n.rest
    (k.part, (expected-sound open_round bs k.part k.found, expected-sound close_round k.part n.part n.found))
sound s_bool bs w to e = elim (either_chosen (is_word bs (codes "true")) _ _ _ e) [
  | inl p ↦ told (λ v l. Text s_bool v bs l) (v_bool true) w (past_word bs) to p.1 (word-sound (codes "true") bs p.0)
  | inr p ↦
      let f = chosen (is_word bs (codes "false")) _ _ p.1 in
      told (λ v l. Text s_bool v bs l) (v_bool false) w (past_word bs) to f.1 (word-sound (codes "false") bs f.0)
]
sound s_int bs w to e =
    let h = integer-sound bs w to e in
    subst (λ v. Text s_int v bs to) (sym h.1.0) h.1.1
sound (s_pair S T) bs w to e =
    let k = bound (expected open_round bs) _ _ e in
    let a = bound (reads S k.part) _ _ k.rest in
    let m = bound (expected comma a.part.1) _ _ a.rest in
    let b = bound (reads T m.part) _ _ m.rest in
    let n = bound (expected close_round b.part.1) _ _ b.rest in
    told (λ v l. Text (s_pair S T) v bs l) (v_pair a.part.0 b.part.0) w n.part to n.rest (
      k.part,
      a.part.1,
      m.part,
      b.part.1,
      (
        expected-sound open_round bs k.part k.found,
        sound S k.part a.part.0 a.part.1 a.found,
        expected-sound comma a.part.1 m.part m.found,
        sound T m.part b.part.0 b.part.1 b.found,
        expected-sound close_round b.part.1 n.part n.found,
      ),
    )
sound (s_opt S) bs w to e = elim (either_chosen (is_word bs (codes "none")) _ _ _ e) [
  | inl p ↦ told (λ v l. Text (s_opt S) v bs l) v_none w (past_word bs) to p.1 (word-sound (codes "none") bs p.0)
  | inr p ↦
      let f = chosen (is_word bs (codes "some")) _ _ p.1 in
      let a = around v_some (reads S (past_word bs)) w to f.1 in
      subst (λ v. Text (s_opt S) v bs to) (sym a.is) (past_word bs, (word-sound (codes "some") bs f.0, sound S (past_word bs) a.part to a.found))
]
sound (s_list S) bs w to e =
    let k = bound (expected open_square bs) _ _ e in
    let mark = expected-sound open_square bs k.part k.found in
    elim (either_chosen (starts close_square k.part) _ _ _ k.rest) [
      | inl p ↦ told (λ v l. Text (s_list S) v bs l) v_nil w (after_mark close_square k.part) to p.1 (k.part, (mark, taken close_square k.part p.0))
      | inr p ↦
          let i = items-sound S (sound S) (suc (length k.part)) k.part w to p.1 in
          subst (λ v. Text (s_list S) v bs to) (sym i.is) (k.part, i.behind, (mark, i.text, i.more))
    ]
sound (s_either S T) bs w to e = elim (either_chosen (is_word bs (codes "inl")) _ _ _ e) [
  | inl p ↦
      let a = around v_inl (reads S (past_word bs)) w to p.1 in
      subst (λ v. Text (s_either S T) v bs to) (sym a.is) (past_word bs, (word-sound (codes "inl") bs p.0, sound S (past_word bs) a.part to a.found))
  | inr p ↦
      let f = chosen (is_word bs (codes "inr")) _ _ p.1 in
      let a = around v_inr (reads T (past_word bs)) w to f.1 in
      subst (λ v. Text (s_either S T) v bs to) (sym a.is) (past_word bs, (word-sound (codes "inr") bs f.0, sound T (past_word bs) a.part to a.found))
]
sound s_a bs w to e = cc
sound s_b bs w to e = cc
