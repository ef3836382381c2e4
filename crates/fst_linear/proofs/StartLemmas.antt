-- How an elimination starts and ends.
use Rattle.std.proofs.Common.{◌≡◌, ℕ, zero, suc, ◌+◌, ◌<◌, List, [], ◌∷◌, ◌++◌, append-nil, take, length, length-append, get_or, below_more, ℤ, pos, Option, Some, None, refl, sym, ap, ◌∙◌, subst, arith}
use Rattle.std.specs.List.{All, Contains}
use Rattle.std.proofs.lemmas.Int.{ints, by_lt_z}
use Rattle.std.proofs.lemmas.List.{get_or_append_left, take_more, length-map, map-append}
use Rattle.std.proofs.Math.Seq.{get_or-append_seam}
use Rattle.std.proofs.lemmas.List.Elements.{Contains-get_or, All-from_get_or, All-contains, All-map}
use Rattle.fst_rows.specs.declared.row.Row.{Row}
use Rattle.fst_rows.specs.Plain.{plain_row}
use Rattle.fst_terms.specs.Rows.{Rw, Rise, IsRow, IsBelow, SolvesOver}
use Rattle.fst_terms.specs.Elimination.{no_row}
use Rattle.fst_linear.specs.Refutations.{Refutes}
use Rattle.fst_terms.specs.Solutions.{Solvable}
use Rattle.fst_terms.proofs.WitnessLemmas.{solvable-consistent}
use Rattle.fst_linear.specs.declared.derivation.Made.{Made}
use Rattle.fst_linear.specs.Derivations.{given_rows, at}
use Rattle.fst_linear.specs.Answered.{Unrefuted}
use Rattle.fst_linear.specs.Living.{Alive, Lives, Bounds}
use Rattle.fst_linear.specs.Lifts.{rows_at, LiftsOut, Lifts, Starting}
use Rattle.fst_linear.proofs.AliveLemmas.{alive-later}
use Rattle.fst_linear.proofs.LiftLemmas.{all-map, map-contains}
use Rattle.fst_linear.specs.declared.answer.Step.{Step}
use Rattle.fst_linear.specs.Steps.{plain_step, plain_steps}
use Rattle.fst_linear.specs.Derivations.{made_steps}

-- the given row at a place
pub at-given : (given : List Row) (k : ℕ) (d : Row) → k < length given → at given [] k ≡ plain_row (get_or given k d)
at-given [] k d l = absurd (omega arith)
at-given (r ∷ given) zero d l = refl
at-given (r ∷ given) (suc k) d l = at-given given k d (omega arith)

pub at-first : (given : List Row) (k : ℕ) → at given [] k ≡ get_or (given_rows given) k no_row
at-first given k = ap (λ t. get_or t k no_row) (append-nil (given_rows given))

pub starting-none : (given : List Row) → Starting given 0 []
starting-none given = record { many = refl; same = λ k l. absurd (omega arith); sound = λ k l. absurd (omega arith) }

pub starting-more : (given : List Row) (n : ℕ) (live new : List ℕ) → Starting given n live → (IsBelow (at given [] n) → ⊥) → new ≡ live ++ n ∷ [] → Starting given (n + 1) new
starting-more given n live new s b e = subst (Starting given (n + 1)) (sym e) (record {
  many = omega (arith, s.many, length-append live (n ∷ []));
  same = below_more (λ k. get_or (live ++ n ∷ []) k 0 ≡ k) n (λ k l. get_or_append_left live (n ∷ []) 0 k (omega (arith, s.many)) ∙ s.same k l) (ap (λ m. get_or (live ++ n ∷ []) m 0) (sym s.many) ∙ get_or-append_seam live n [] 0);
  sound = below_more (λ k. IsBelow (at given [] k) → ⊥) n s.sound b;
})

-- a given row 0 <= c with negative c refutes the rows without a step
pub given-refutes : (given : List Row) (n : ℕ) → n < length given → IsBelow (at given [] n) → Refutes (given_rows given) []
given-refutes given n l b = record { steps = tt; ends = (n + 1, omega arith, simp length-map (omega arith), subst IsBelow (at-first given n ∙ ap (λ k. get_or (given_rows given) k no_row) (omega arith)) b) }

module _ (given : List Row) (live : List ℕ) (s : Starting given (length given) live) (ordered : All (λ r. IsRow (plain_row r)) given) where
  none : List Made
  none = []

  first-alive : (k : ℕ) → k < length given → Alive (given_rows given) 0 (at given [] k)
  first-alive k l =
      let d : Row = record { constant = pos 0; coefs = [] } in
      record {
        rises = subst (λ r. Rise 0 r.coefs) (sym (at-given given k d l)) (ordered k d l);
        derived = subst (Contains (given_rows given)) (sym (at-first given k)) (Contains-get_or (given_rows given) k no_row (simp length-map l));
        sound = s.sound k l;
      }

  pub start-lives : Lives given [] 0 live
  unfolding none
  start-lives = record {
    within = All-from_get_or (λ i. i < length given + length none) live 0 (λ k l. subst (λ i. i < length given + length none) (sym (s.same k (omega (arith, s.many)))) (omega (arith, s.many)));
    alive = All-from_get_or (λ i. Alive (given_rows given) 0 (at given [] i)) live 0 (λ k l. subst (λ i. Alive (given_rows given) 0 (at given [] i)) (sym (s.same k (omega (arith, s.many)))) (first-alive k (omega (arith, s.many))));
  }

  pub start-lifts : Lifts given [] live
  start-lifts = record { back = λ w. record { scale = w.scale; positive = w.positive; values = w.values; solves = All-from_get_or (SolvesOver w.scale w.values) (given_rows given) no_row (λ k l. solved w k (simp length-map at l)) } }
    where
      solved : (w : Solvable (rows_at given [] live)) (k : ℕ) → k < length given → SolvesOver w.scale w.values (get_or (given_rows given) k no_row)
      solved w k l =
          let c : Contains live k = subst (Contains live) (s.same k l) (Contains-get_or live k 0 (omega (arith, s.many))) in
          subst (SolvesOver w.scale w.values) (at-first given k) (All-contains (SolvesOver w.scale w.values) (rows_at given [] live) (at given [] k) w.solves (map-contains (at given []) live k c))

unrefuted : (rows : List Rw) → Solvable rows → Unrefuted rows
unrefuted rows w = record { solution = w; consistent = solvable-consistent rows w }

-- rows without unknowns, none of which is 0 <= c with negative c, have a solution
pub end-solvable : (given : List Row) (made : List Made) (from : ℕ) (live : List ℕ) → Lives given made from live → ((n : ℕ) → n < length live → (at given made (get_or live n 0)).coefs ≡ []) → Solvable (rows_at given made live)
end-solvable given made from live v b = record { scale = 1; positive = omega arith; values = λ u. pos 0; solves = all-map (at given made) (SolvesOver 1 (λ u. pos 0)) live (λ n l. go (at given made (get_or live n 0)) (b n l) (v.alive n 0 l).sound) }
  where
    go : (r : Rw) → r.coefs ≡ [] → (IsBelow r → ⊥) → SolvesOver 1 (λ u. pos 0) r
    go r e n = by_lt_z r.constant (pos 0) (λ f. absurd (n (record { none = e; negative = f }))) (λ f. rw e (omega (arith, ints, f)))

pub end-unrefuted : (given : List Row) (made : List Made) (from : ℕ) (live : List ℕ) → Lives given made from live → Lifts given made live → (best : Option ℕ) → best ≡ None → Bounds given made from live (length live) best → Unrefuted (given_rows given)
end-unrefuted given made from live v f best e b = unrefuted (given_rows given) (f.back (end-solvable given made from live v (subst (Bounds given made from live (length live)) e b)))

pub lives-later : (given : List Row) (made : List Made) (from u : ℕ) (live : List ℕ) → Lives given made from live → (best : Option ℕ) → best ≡ Some u → Bounds given made from live (length live) best → Lives given made u live
lives-later given made from u live v best e b =
    let h = subst (Bounds given made from live (length live)) e b in
    record { within = v.within; alive = All-from_get_or (λ i. Alive (given_rows given) u (at given made i)) live 0 (λ k l. alive-later (given_rows given) from u (at given made (get_or live k 0)) h.0 (v.alive k 0 l) (h.1 k l)) }

-- some of the live rows are alive too
pub lives-among : (given : List Row) (made : List Made) (u : ℕ) (live some : List ℕ) → Lives given made u live → All (Contains live) some → Lives given made u some
lives-among given made u live some v h = record {
  within = All-from_get_or (λ i. i < length given + length made) some 0 (λ k l. All-contains (λ i. i < length given + length made) live (get_or some k 0) v.within (h k 0 l));
  alive = All-from_get_or (λ i. Alive (given_rows given) u (at given made i)) some 0 (λ k l. All-contains (λ i. Alive (given_rows given) u (at given made i)) live (get_or some k 0) v.alive (h k 0 l));
}

pub lifts-on : (given : List Row) (old new : List Made) (u : ℕ) (live after : List ℕ) → Lifts given old live → LiftsOut given old new u live after → Lifts given new after
lifts-on given old new u live after f o = record { back = λ w. f.back (o.back w) }

pub steps-push : (made : List Made) (i : ℕ) (m : Made) (old new : List Step) → i < length made → m ≡ get_or made i m → plain_steps old ≡ made_steps (take i made) → new ≡ old ++ m.step ∷ [] → plain_steps new ≡ made_steps (take (i + 1) made)
steps-push made i m old new l e h f =
    ap plain_steps f ∙ map-append plain_step old (m.step ∷ []) ∙ ap (λ t. t ++ plain_step m.step ∷ []) h
    ∙ sym (ap made_steps (take_more made i m l ∙ ap (λ x. take i made ++ x ∷ []) (sym e)) ∙ map-append (λ (x : Made). plain_step x.step) (take i made) (m ∷ []))

pub below-at : (given : List Row) (i : ℕ) (r : Row) → i < length given → r ≡ get_or given i r → IsBelow (plain_row r) → IsBelow (at given [] i)
below-at given i r l e b = subst IsBelow (ap plain_row e ∙ sym (at-given given i r l)) b

pub below-of : (given : List Row) (i : ℕ) (r : Row) → i < length given → r ≡ get_or given i r → IsBelow (at given [] i) → IsBelow (plain_row r)
below-of given i r l e b = subst IsBelow (at-given given i r l ∙ ap plain_row (sym e)) b

-- rows that values over a scale solve are not refuted
pub witnessed : (given : List Row) (scale : ℕ) (x : ℕ → ℤ) → 0 < scale → All (λ r. SolvesOver scale x (plain_row r)) given → Unrefuted (given_rows given)
witnessed given scale x p h = unrefuted (given_rows given) (record { scale = scale; positive = p; values = x; solves = All-map (SolvesOver scale x) plain_row given h })

pub none-below : (given : List Row) (live : List ℕ) → Starting given (length given) live → (i : ℕ) → i < length (given_rows given) → IsBelow (get_or (given_rows given) i no_row) → ⊥
none-below given live s i l b = s.sound i (simp length-map at l) (subst IsBelow (sym (at-first given i)) b)
