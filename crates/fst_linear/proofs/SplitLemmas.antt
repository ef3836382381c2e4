-- Rows parted by the sign of an unknown, and the least unknown.
use Rattle.std.proofs.Common.{◌≡◌, ℕ, suc, ◌+◌, ◌<◌, min, ◌⊎◌, inl, inr, List, [], ◌∷◌, ◌++◌, length, get_or, below_more, Option, Some, None, pos, ◌<ℤ◌, sym, subst, arith}
use Rattle.std.specs.List.{Contains}
use Rattle.std.proofs.lemmas.List.Elements.{All-nil, All-push, Contains-append_left, Contains-push}
use Rattle.fst_rows.specs.declared.row.Row.{Row}
use Rattle.fst_terms.specs.Rows.{Cf, Rise}
use Rattle.fst_terms.specs.Elimination.{coef}
use Rattle.fst_rows.proofs.RiseLemmas.{Rise-later}
use Rattle.fst_linear.specs.declared.derivation.Made.{Made}
use Rattle.fst_linear.specs.Derivations.{given_rows, at}
use Rattle.fst_linear.specs.Living.{Alive, Lives, Split, Bounds, least_of}
use Rattle.fst_linear.proofs.AliveLemmas.{alive-without}

pub lives-none : (given : List Row) (made : List Made) (u : ℕ) → Lives given made u []
lives-none given made u = record { within = All-nil _; alive = All-nil _ }

pub lives-push : (given : List Row) (made : List Made) (u : ℕ) (live : List ℕ) (i : ℕ) → i < length given + length made → Alive (given_rows given) u (at given made i) → Lives given made u live → Lives given made u (live ++ i ∷ [])
lives-push given made u live i l a v = record { within = All-push (λ k. k < length given + length made) live i v.within l; alive = All-push (λ k. Alive (given_rows given) u (at given made k)) live i v.alive a }

pub split-none : (given : List Row) (made : List Made) (u : ℕ) (live : List ℕ) → Split given made u live 0 [] [] []
split-none given made u live = record { without_live = lives-none given made (suc u); ups_live = lives-none given made u; downs_live = lives-none given made u; without_zero = All-nil _; ups_up = All-nil _; downs_down = All-nil _; each = λ n l. absurd (omega arith) }

module _ (given : List Row) (made : List Made) (u : ℕ) (live : List ℕ) (v : Lives given made u live) (n i : ℕ) (l : n < length live) (e : i ≡ get_or live n 0) (without ups downs : List ℕ) (s : Split given made u live n without ups downs) where
  inside : i < length given + length made
  inside = subst (λ k. k < length given + length made) (sym e) (v.within n 0 l)

  lively : Alive (given_rows given) u (at given made i)
  lively = subst (λ k. Alive (given_rows given) u (at given made k)) (sym e) (v.alive n 0 l)

  In : List ℕ → List ℕ → List ℕ → ℕ → Type 0
  In xs ys zs m = Contains xs (get_or live m 0) ⊎ (Contains ys (get_or live m 0) ⊎ Contains zs (get_or live m 0))

  first-more : (m : ℕ) → In without ups downs m → In (without ++ i ∷ []) ups downs m
  unfolding In
  first-more m (inl h) = inl (Contains-append_left without (i ∷ []) _ h)
  first-more m (inr h) = inr h

  second-more : (m : ℕ) → In without ups downs m → In without (ups ++ i ∷ []) downs m
  unfolding In
  second-more m (inl h) = inl h
  second-more m (inr (inl h)) = inr (inl (Contains-append_left ups (i ∷ []) _ h))
  second-more m (inr (inr h)) = inr (inr h)

  third-more : (m : ℕ) → In without ups downs m → In without ups (downs ++ i ∷ []) m
  unfolding In
  third-more m (inl h) = inl h
  third-more m (inr (inl h)) = inr (inl h)
  third-more m (inr (inr h)) = inr (inr (Contains-append_left downs (i ∷ []) _ h))

  pub split-zero : coef (at given made i) u ≡ pos 0 → Split given made u live (n + 1) (without ++ i ∷ []) ups downs
  unfolding In
  split-zero z = record {
    without_live = lives-push given made (suc u) without i inside (alive-without (given_rows given) u (at given made i) lively z) s.without_live;
    ups_live = s.ups_live;
    downs_live = s.downs_live;
    without_zero = All-push (λ k. coef (at given made k) u ≡ pos 0) without i s.without_zero z;
    ups_up = s.ups_up;
    downs_down = s.downs_down;
    each = below_more (In (without ++ i ∷ []) ups downs) n (λ m k. first-more m (s.each m k)) (inl (subst (Contains (without ++ i ∷ [])) e (Contains-push without i)));
  }

  pub split-up : pos 0 <ℤ coef (at given made i) u → Split given made u live (n + 1) without (ups ++ i ∷ []) downs
  unfolding In
  split-up z = record {
    without_live = s.without_live;
    ups_live = lives-push given made u ups i inside lively s.ups_live;
    downs_live = s.downs_live;
    without_zero = s.without_zero;
    ups_up = All-push (λ k. pos 0 <ℤ coef (at given made k) u) ups i s.ups_up z;
    downs_down = s.downs_down;
    each = below_more (In without (ups ++ i ∷ []) downs) n (λ m k. second-more m (s.each m k)) (inr (inl (subst (Contains (ups ++ i ∷ [])) e (Contains-push ups i))));
  }

  pub split-down : coef (at given made i) u <ℤ pos 0 → Split given made u live (n + 1) without ups (downs ++ i ∷ [])
  unfolding In
  split-down z = record {
    without_live = s.without_live;
    ups_live = s.ups_live;
    downs_live = lives-push given made u downs i inside lively s.downs_live;
    without_zero = s.without_zero;
    ups_up = s.ups_up;
    downs_down = All-push (λ k. coef (at given made k) u <ℤ pos 0) downs i s.downs_down z;
    each = below_more (In without ups (downs ++ i ∷ [])) n (λ m k. third-more m (s.each m k)) (inr (inr (subst (Contains (downs ++ i ∷ [])) e (Contains-push downs i))));
  }

-- ---- the least unknown

none-rises : (u : ℕ) (cs : List Cf) → cs ≡ [] → Rise u cs
none-rises u cs e = subst (Rise u) (sym e) tt

first-rises : (m : ℕ) (c : Cf) (cs : List Cf) → Rise m (c ∷ cs) → Rise c.unknown (c ∷ cs)
first-rises m c cs h = (omega arith, h.1, h.2)

pub bounds-none : (given : List Row) (made : List Made) (from : ℕ) (live : List ℕ) → Bounds given made from live 0 None
bounds-none given made from live = λ n l. absurd (omega arith)

pub bounds-more : (given : List Row) (made : List Made) (from : ℕ) (live : List ℕ) (count : ℕ) (best : Option ℕ) (cs : List Cf) → cs ≡ (at given made (get_or live count 0)).coefs → Rise from cs
    → Bounds given made from live count best → Bounds given made from live (count + 1) (least_of best cs)
bounds-more given made from live count None [] e h b = below_more (λ n. (at given made (get_or live n 0)).coefs ≡ []) count b (sym e)
bounds-more given made from live count None (c ∷ cs) e h b =
    (h.0, below_more (λ n. Rise c.unknown (at given made (get_or live n 0)).coefs) count (λ n l. none-rises c.unknown _ (b n l)) (subst (Rise c.unknown) e (first-rises from c cs h)))
bounds-more given made from live count (Some u) [] e h b =
    (b.0, below_more (λ n. Rise u (at given made (get_or live n 0)).coefs) count b.1 (none-rises u _ (sym e)))
bounds-more given made from live count (Some u) (c ∷ cs) e h b = (
  omega (arith, b.0, h.0),
  below_more (λ n. Rise (min u c.unknown) (at given made (get_or live n 0)).coefs) count (λ n l. Rise-later (min u c.unknown) u _ (omega arith) (b.1 n l))
      (subst (Rise (min u c.unknown)) e (Rise-later (min u c.unknown) c.unknown (c ∷ cs) (omega arith) (first-rises from c cs h))),
)
