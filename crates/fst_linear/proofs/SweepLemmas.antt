-- The turns of a sweep.
use Rattle.std.proofs.Common.{◌≡◌, ℕ, suc, ◌+◌, ◌<◌, List, [], ◌∷◌, ◌++◌, length, get_or, below_more, pos, ◌<ℤ◌, refl, sym, ap, ◌∙◌, subst, arith}
use Rattle.std.specs.List.{All, Contains}
use Rattle.std.proofs.lemmas.List.Elements.{All-push, Contains-append_left, Contains-push}
use Rattle.fst_rows.specs.declared.row.Row.{Row}
use Rattle.fst_terms.specs.Rows.{tight, IsBelow}
use Rattle.fst_terms.specs.Elimination.{coef, cancelled, AreOpposite}
use Rattle.fst_linear.specs.declared.derivation.Made.{Made}
use Rattle.fst_linear.specs.Derivations.{given_rows, at}
use Rattle.fst_linear.specs.Living.{Alive, Grows, Lives, HasPair, Sweeps, SweepsAll, Swept, Paired, sum_at_places}
use Rattle.fst_linear.specs.declared.sweep.Turn.{Turn}
use Rattle.fst_linear.specs.declared.sweep.Turn.TheVariants.{Done}
use Rattle.fst_linear.specs.declared.pairs.Pair.{Pair}
use Rattle.fst_linear.specs.declared.pairs.Pair.TheVariants.{New}
use Rattle.fst_linear.proofs.AliveLemmas.{alive-sum}

pub grows-none : (given : List Row) (made : List Made) → Grows given made made
grows-none given made = record { longer = omega arith; same = λ i l. refl }

pub grows-on : (given : List Row) (a b c : List Made) → Grows given a b → Grows given b c → Grows given a c
grows-on given a b c g h = record { longer = omega (arith, g.longer, h.longer); same = λ i l. h.same i (omega (arith, l, g.longer)) ∙ g.same i l }

pub alive-grown : (given : List Row) (old new : List Made) (u i : ℕ) → Grows given old new → i < length given + length old → Alive (given_rows given) u (at given old i) → Alive (given_rows given) u (at given new i)
alive-grown given old new u i g l a = subst (Alive (given_rows given) u) (sym (g.same i l)) a

pub lives-grown : (given : List Row) (old new : List Made) (u : ℕ) (live : List ℕ) → Grows given old new → Lives given old u live → Lives given new u live
lives-grown given old new u live g v = record {
  within = λ k d l. omega (arith, v.within k d l, g.longer);
  alive = λ k d l. alive-grown given old new u (get_or live k d) g (v.within k d l) (v.alive k d l);
}

pub sum-grown : (given : List Row) (old new : List Made) (u i j : ℕ) → Grows given old new → i < length given + length old → j < length given + length old → sum_at_places given new u i j ≡ sum_at_places given old u i j
sum-grown given old new u i j g l m = ap (λ a. tight (cancelled u a (at given new j))) (g.same i l) ∙ ap (λ b. tight (cancelled u (at given old i) b)) (g.same j m)

pub pair-grown : (given : List Row) (old new : List Made) (u i j : ℕ) (after more : List ℕ) → Grows given old new → i < length given + length old → j < length given + length old → Lives given old (suc u) after → ((k : ℕ) → Contains after k → Contains more k) → HasPair given old u i j after → HasPair given new u i j more
pair-grown given old new u i j after more g l m v f h = (h.0, f h.0 h.1, g.same h.0 (contained given old (suc u) after v h.0 h.1) ∙ h.2 ∙ sym (sum-grown given old new u i j g l m))
  where
    contained : (given : List Row) (old : List Made) (u : ℕ) (after : List ℕ) → Lives given old u after → (k : ℕ) → Contains after k → k < length given + length old
    contained given old u after v k c = subst (λ n. n < length given + length old) c.2 (v.within c.0 k c.1)

-- one more sum
pub sweeps-more : (given : List Row) (old new : List Made) (u i j k n : ℕ) (downs first after : List ℕ)
    → Grows given old new → i < length given + length old → j < length given + length old
    → Alive (given_rows given) u (at given old i) → Alive (given_rows given) u (at given old j) → AreOpposite u (at given old i) (at given old j)
    → k < length given + length new → at given new k ≡ sum_at_places given old u i j → (IsBelow (at given new k) → ⊥)
    → Lives given old u downs → n < length downs → j ≡ get_or downs n 0
    → Sweeps given old u i downs n first after → Sweeps given new u i downs (n + 1) first (after ++ k ∷ [])
sweeps-more given old new u i j k n downs first after g li lj ai aj o lk e b vd ln ej s = record {
  lives = (let v = lives-grown given old new (suc u) after g s.lives in record {
    within = All-push (λ m. m < length given + length new) after k v.within lk;
    alive = All-push (λ m. Alive (given_rows given) (suc u) (at given new m)) after k v.alive
        (subst (Alive (given_rows given) (suc u)) (sym e) (alive-sum (given_rows given) u (at given old i) (at given old j) ai aj o (λ c. b (subst IsBelow (sym e) c))));
  });
  kept = λ m c. Contains-append_left after (k ∷ []) m (s.kept m c);
  pairs = below_more (λ m. HasPair given new u i (get_or downs m 0) (after ++ k ∷ [])) n
      (λ m l. pair-grown given old new u i (get_or downs m 0) after (after ++ k ∷ []) g li (vd.within m 0 (omega arith)) s.lives (λ x c. Contains-append_left after (k ∷ []) x c) (s.pairs m l))
      (k, Contains-push after k, e ∙ sym (sum-grown given old new u i j g li lj) ∙ ap (sum_at_places given new u i) ej);
}

pub sweeps-none : (given : List Row) (made : List Made) (u i : ℕ) (downs after : List ℕ) → Lives given made (suc u) after → Sweeps given made u i downs 0 after after
sweeps-none given made u i downs after v = record { lives = v; kept = λ k c. c; pairs = λ n l. absurd (omega arith) }

pub coef-grown : (given : List Row) (old new : List Made) (u i : ℕ) → Grows given old new → i < length given + length old → coef (at given new i) u ≡ coef (at given old i) u
coef-grown given old new u i g l = ap (λ r. coef r u) (g.same i l)

pub opposite-grown : (given : List Row) (old new : List Made) (u i j : ℕ) → Grows given old new → i < length given + length old → j < length given + length old → pos 0 <ℤ coef (at given old i) u → coef (at given old j) u <ℤ pos 0 → AreOpposite u (at given new i) (at given new j)
opposite-grown given old new u i j g l m p q = record { up = rw (coef-grown given old new u i g l) p; down = rw (coef-grown given old new u j g m) q }

pub paired-new : (given : List Row) (old new : List Made) (u i j k : ℕ) (o : Pair) → o ≡ New k → Paired given old new u i j o → (k < length given + length new) × (at given new k ≡ sum_at_places given old u i j) × (IsBelow (at given new k) → ⊥)
paired-new given old new u i j k o e h = subst (Paired given old new u i j) e h

-- ---- one row more

pub sweeps-all-none : (given : List Row) (made : List Made) (u : ℕ) (ups downs after : List ℕ) → Lives given made (suc u) after → SweepsAll given made u ups 0 downs after after
sweeps-all-none given made u ups downs after v = record { lives = v; kept = λ k c. c; pairs = λ m n l. absurd (omega arith) }

pub sweeps-all-more : (given : List Row) (old new : List Made) (u m : ℕ) (ups downs first after more : List ℕ) → Grows given old new → Lives given old u ups → Lives given old u downs → m < length ups
    → SweepsAll given old u ups m downs first after → Sweeps given new u (get_or ups m 0) downs (length downs) after more → SweepsAll given new u ups (m + 1) downs first more
sweeps-all-more given old new u m ups downs first after more g vu vd lm s t = record {
  lives = t.lives;
  kept = λ k c. t.kept k (s.kept k c);
  pairs = λ x n l b. below_more (λ x. (n : ℕ) → n < length downs → HasPair given new u (get_or ups x 0) (get_or downs n 0) more) m
      (λ x l. λ n b. pair-grown given old new u (get_or ups x 0) (get_or downs n 0) after more g (vu.within x 0 (omega arith)) (vd.within n 0 b) s.lives t.kept (s.pairs x n l b))
      (λ n b. t.pairs n b) x l n b;
}

pub all-up-grown : (given : List Row) (old new : List Made) (u : ℕ) (live : List ℕ) → Grows given old new → Lives given old u live → All (λ i. pos 0 <ℤ coef (at given old i) u) live → All (λ i. pos 0 <ℤ coef (at given new i) u) live
all-up-grown given old new u live g v h = λ k d l. rw (coef-grown given old new u (get_or live k d) g (v.within k d l)) (h k d l)

pub all-down-grown : (given : List Row) (old new : List Made) (u : ℕ) (live : List ℕ) → Grows given old new → Lives given old u live → All (λ i. coef (at given old i) u <ℤ pos 0) live → All (λ i. coef (at given new i) u <ℤ pos 0) live
all-down-grown given old new u live g v h = λ k d l. rw (coef-grown given old new u (get_or live k d) g (v.within k d l)) (h k d l)

pub swept-done : (given : List Row) (new : List Made) (P : Type 0) (t : Turn) → t ≡ Done → Swept given new P t → P
swept-done given new P t e h = subst (Swept given new P) e h
