-- A test by which a branch is shown to be left over: labels of the numbered terms that keep the rules of the congruence, and quotients
-- for the unknowns that solve all rows.
use Rattle.std.proofs.Common.{◌≡◌, ℕ, zero, suc, ◌+◌, ◌<◌, ℤ, pos, Bool, true, false, not, ◌&&◌, if◌then◌else◌, nat_eq, List, [], ◌∷◌, length, get_or, slice_get, slice_index_or, Option, Some, None, IsTrue, refl, sym, subst, ◌∙◌, arith, inl, inr}
use Rattle.std.specs.Prelude.{int_le, All}
use Rattle.std.proofs.lemmas.Bool.{eqb-true, eq-eqb, false≢true}
use Rattle.std.proofs.lemmas.List.Elements.{All-nil, All-cons, All-head, All-tail}
use lib.Signed.{le_z_yes}
use lib.Dec.{T}
use Rattle.fst_base.specs.Sorts.{Srt, s_unit, s_int, same_sort}
use Rattle.fst_base.proofs.SortLemmas.{same_sort-decides}
use Rattle.fst_terms.specs.Terms.{Tm, Tms, t_bool, t_unit, t_end, t_more, listed}
use Rattle.fst_terms.specs.Formulas.{sort_of}
use Rattle.fst_terms.specs.Same.{same_term, is_among}
use Rattle.fst_terms.specs.Flats.{Flt, truth_of}
use Rattle.fst_terms.specs.declared.flat.Mark.{Mark}
use Rattle.fst_terms.specs.declared.flat.Mark.TheVariants as mark
use Rattle.fst_terms.proofs.SameLemmas.{same_term-decides}
use Rattle.fst_terms.specs.Skeletons.{args_of, arg_of, rest_of}
use Rattle.fst_terms.specs.DataFacts.{same_head}
use Rattle.fst_terms.specs.Rows.{Rw, value_at, SolvesOver}
use Rattle.fst_terms.specs.Linear.{Ineq, row_of}
use Rattle.fst_terms.specs.Marks.{Marking, term_number, var_sorts, is_equation, is_at_most, ineq, mark_ineqs}
use Rattle.fst_terms.specs.Branches.{pair_at, IsNumbered, HasMark, same_constructor, differ, Joined, joined_self, joined_flip, joined_chain, joined_equation, joined_truth, joined_pair, joined_unit, joined_args, joined_part, JoinedArgs, args_end, args_more, Clash, Given, AreRows, Contradictory}
use Rattle.fst_terms.proofs.WitnessLemmas.{solvable-consistent}

-- ---- tests

abbrev pub imp : Bool → Bool → Bool
imp true b = b
imp false b = true

imp-true : (a b : Bool) → imp a b ≡ true → a ≡ true → b ≡ true
imp-true true b h e = h
imp-true false b h e = absurd (false≢true e)

both-first : (a b : Bool) → (a && b) ≡ true → a ≡ true
both-first true b h = refl
both-first false b h = h

both-second : (a b : Bool) → (a && b) ≡ true → b ≡ true
both-second true b h = h
both-second false b h = absurd (false≢true h)

both-true : (a b : Bool) → a ≡ true → b ≡ true → (a && b) ≡ true
both-true true b h k = k
both-true false b h k = h

abbrev pub every : {A : Type 0} → (A → Bool) → List A → Bool
every p [] = true
every p (x ∷ xs) = p x && every p xs

every-among : (p : Tm → Bool) (t : Tm) (us : List Tm) → every p us ≡ true → IsTrue (is_among t us) → p t ≡ true
every-among p t [] h k = absurd (false≢true k)
every-among p t (u ∷ us) h k = go (every-among p t us (both-second (p u) _ h)) (same_term t u) refl k
  where
    go : (IsTrue (is_among t us) → p t ≡ true) → (b : Bool) → same_term t u ≡ b → IsTrue (if b then true else is_among t us) → p t ≡ true
    go ih true q a = subst (λ w. p w ≡ true) (sym ((same_term-decides t u).0 q)) (both-first (p u) _ h)
    go ih false q a = ih a

every-contains : {A : Type 0} (p : A → Bool) (x : A) (xs : List A) (k : ℕ) → every p xs ≡ true → k < length xs → slice_index_or xs k x ≡ x → p x ≡ true
every-contains p x [] k h l e = absurd (omega (arith, l))
every-contains p x (y ∷ ys) zero h l e = subst (λ w. p w ≡ true) e (both-first (p y) _ h)
every-contains p x (y ∷ ys) (suc k) h l e = every-contains p x ys k (both-second (p y) _ h) (omega (arith, l)) e

abbrev pub where_some : {A : Type 0} → Option A → (A → Bool) → Bool
where_some None p = true
where_some (Some x) p = p x

module _ (f : Flt) (look : Marking) (labels : List ℕ) (s : ℕ) (x : ℕ → ℤ) where
  abbrev pub label : Tm → ℕ
  label t = get_or labels (term_number f t) 0

  abbrev pub alike : Tm → Tm → Bool
  alike t u = nat_eq (label t) (label u)

  abbrev pub sort : Tm → Srt
  sort t = sort_of (var_sorts f) t

  -- the test holds of each marked atom, with its mark, from number n on
  abbrev pub each_marked : (Tm → Mark → Bool) → (n : ℕ) → List Tm → Bool
  each_marked p n [] = true
  each_marked p n (t ∷ ts) = where_some (look n) (p t) && each_marked p (suc n) ts

  abbrev pub equation_kept : Tm → Mark → Bool
  equation_kept t m = imp (is_equation t && truth_of m) (alike (arg_of t) (rest_of t))

  abbrev pub truth_kept : Tm → Mark → Bool
  truth_kept t m = imp (not (is_equation t) && not (is_at_most t)) (alike t (t_bool (truth_of m)))

  abbrev pub pair_kept : Tm → Bool
  pair_kept t = where_some (pair_at (sort t) t) (λ p. imp (is_among p f.terms) (alike t p))

  abbrev pub unit_kept : Tm → Bool
  unit_kept t = imp (same_sort (sort t) s_unit) (alike t t_unit)

  -- arguments in order, as many
  abbrev pub parts_alike : Tms → Tms → Bool
  parts_alike t_end t_end = true
  parts_alike (t_more t ts) (t_more u us) = alike t u && parts_alike ts us
  parts_alike _ _ = false

  abbrev pub args_kept : Tm → Tm → Bool
  args_kept t u = imp (same_head t u && parts_alike (args_of t) (args_of u)) (alike t u)

  abbrev pub parts_kept : Tm → Tm → Bool
  parts_kept t u = imp (same_constructor t u && alike t u) (parts_alike (args_of t) (args_of u))

  abbrev pub each_two : (Tm → Tm → Bool) → Bool
  each_two p = every (λ t. every (p t) f.terms) f.terms

  -- the labels keep every rule of the congruence
  pub record AreLabels : Type 0 where
    pub equations : each_marked equation_kept 1 f.atoms ≡ true
    pub truths : each_marked truth_kept 1 f.atoms ≡ true
    pub pairs : every pair_kept f.terms ≡ true
    pub units : every unit_kept f.terms ≡ true
    pub args : each_two args_kept ≡ true
    pub parts : each_two parts_kept ≡ true

  -- ---- what the tests say

  alike-is : (t u : Tm) → alike t u ≡ true → label t ≡ label u
  alike-is t u h = eqb-true (label t) (label u) h

  is-alike : (t u : Tm) → label t ≡ label u → alike t u ≡ true
  is-alike t u e = eq-eqb (label t) (label u) e

  marked-at : (p : Tm → Mark → Bool) (n k a : ℕ) (ts : List Tm) (t : Tm) (m : Mark) → each_marked p n ts ≡ true → slice_get ts k ≡ Some t → a ≡ n + k → look a ≡ Some m → p t m ≡ true
  marked-at p n k a [] t m h e q l = cc
  marked-at p n zero a (u ∷ us) t m h e q l =
      let i : a ≡ n = omega (arith, q) in
      let o : look n ≡ Some m = subst (λ b. look b ≡ Some m) i l in
      let w : u ≡ t = cc in
      subst (λ v. p v m ≡ true) w (subst (λ o. where_some o (p u) ≡ true) o (both-first (where_some (look n) (p u)) _ h))
  marked-at p n (suc k) a (u ∷ us) t m h e q l = marked-at p (suc n) k a us t m (both-second (where_some (look n) (p u)) _ h) e (omega (arith, q)) l

  marked : (p : Tm → Mark → Bool) (a : ℕ) (t : Tm) (m : Mark) → each_marked p 1 f.atoms ≡ true → HasMark f look a t m → p t m ≡ true
  marked p zero t m h k = let e = k.atom in cc
  marked p (suc a) t m h k = marked-at p 1 a (suc a) f.atoms t m h k.atom (omega arith) k.mark

  two : (p : Tm → Tm → Bool) (t u : Tm) → each_two p ≡ true → IsNumbered f t → IsNumbered f u → p t u ≡ true
  two p t u h k l = every-among (p t) u f.terms (every-among (λ t. every (p t) f.terms) t f.terms h k) l

  parts-at : (ts us : Tms) → parts_alike ts us ≡ true → (k : ℕ) → label (get_or (listed ts) k t_unit) ≡ label (get_or (listed us) k t_unit)
  parts-at t_end t_end h k = refl
  parts-at (t_more t ts) (t_more u us) h zero = alike-is t u (both-first _ _ h)
  parts-at (t_more t ts) (t_more u us) h (suc k) = parts-at ts us (both-second _ _ h) k
  parts-at ts us h k = absurd (false≢true h)

  mutual
    -- joined terms have one label
    pub joined-label : AreLabels → (t u : Tm) → Joined f look t u → label t ≡ label u
    joined-label a t u joined_self = refl
    joined-label a t u (joined_flip j) = sym (joined-label a _ _ j)
    joined-label a t u (joined_chain j k) = joined-label a _ _ j ∙ joined-label a _ _ k
    joined-label a t u (joined_equation {a = n} {t = w} h e) =
        alike-is _ _ (imp-true (is_equation w && true) _ (marked equation_kept n w mark.True a.equations h) (both-true _ _ e refl))
    joined-label a t u (joined_truth {a = n} {m = m} h e) = alike-is _ _ (imp-true _ _ (marked truth_kept n t m a.truths h) e)
    joined-label a t u (joined_pair {S = S} {T = T} n e p) =
        alike-is _ _ (imp-true _ _ (subst (λ R. where_some (pair_at R t) (λ p. imp (is_among p f.terms) (alike t p)) ≡ true) e (every-among pair_kept t f.terms a.pairs n)) p)
    joined-label a t u (joined_unit n e) = alike-is _ _ (imp-true _ _ (every-among unit_kept t f.terms a.units n) ((same_sort-decides (sort t) s_unit).1 e))
    joined-label a t u (joined_args n m h g) = alike-is _ _ (imp-true _ _ (two args_kept t u a.args n m) (both-true _ _ h (args-label a (args_of t) (args_of u) g)))
    joined-label a t u (joined_part {t = v} {u = w} k n m h j) =
        parts-at (args_of v) (args_of w) (imp-true _ _ (two parts_kept v w a.parts n m) (both-true _ _ h (is-alike _ _ (joined-label a _ _ j)))) k

    args-label : AreLabels → (ts us : Tms) → JoinedArgs f look ts us → parts_alike ts us ≡ true
    args-label a ts us args_end = refl
    args-label a ts us (args_more j js) = both-true _ _ (is-alike _ _ (joined-label a _ _ j)) (args-label a _ _ js)

  -- ---- no clash

  abbrev pub differ_apart : Tm → Tm → Bool
  differ_apart t u = imp (differ t u) (not (alike t u))

  abbrev pub unequal_apart : Tm → Mark → Bool
  unequal_apart t m = imp (is_equation t && not (truth_of m)) (not (alike (arg_of t) (rest_of t)))

  pub record AreApart : Type 0 where
    pub kept : AreLabels
    pub different : each_two differ_apart ≡ true
    pub unequal : each_marked unequal_apart 1 f.atoms ≡ true

  not-both : (b : Bool) → not b ≡ true → b ≡ true → ⊥
  not-both true h k = false≢true h
  not-both false h k = false≢true k

  not-false : (b : Bool) → b ≡ false → not b ≡ true
  not-false true e = sym e
  not-false false e = refl

  pub no-clash : AreApart → Clash f look → ⊥
  no-clash a (inl c) =
      not-both _ (imp-true _ _ (two differ_apart c.first c.second a.different c.first_numbered c.second_numbered) c.different)
      (is-alike _ _ (joined-label a.kept _ _ c.joined))
  no-clash a (inr c) =
      not-both _ (imp-true _ _ (marked unequal_apart c.number c.atom c.mark a.unequal c.has) (both-true _ _ c.equation (not-false _ c.false)))
      (is-alike _ _ (joined-label a.kept _ _ c.sides))

  -- ---- no contradiction

  abbrev pub is_solved : Ineq → Bool
  is_solved d = int_le (pos 0) (value_at s x (row_of (term_number f) d))

  abbrev pub mark_solved : Tm → Mark → Bool
  mark_solved t m = every is_solved (mark_ineqs (var_sorts f) t m)

  abbrev pub pair_solved : Tm → Tm → Bool
  pair_solved t u = imp (same_sort (sort t) s_int && same_sort (sort u) s_int && alike t u) (is_solved (ineq t u (pos 0)))

  pub record AreSolved : Type 0 where
    pub kept : AreLabels
    pub positive : 0 < s
    pub marks : each_marked mark_solved 1 f.atoms ≡ true
    pub pairs : each_two pair_solved ≡ true

  given-solved : AreSolved → (d : Ineq) → Given f look d → is_solved d ≡ true
  given-solved a d (inl g) =
      every-contains is_solved d _ g.given.0 (marked mark_solved g.number g.atom g.mark a.marks g.has) g.given.1 g.given.2
  given-solved a d (inr g) =
      subst (λ d. is_solved d ≡ true) (sym g.is)
      (imp-true _ _ (two pair_solved g.first g.second a.pairs g.first_numbered g.second_numbered)
      (both-true _ _ (both-true _ _ ((same_sort-decides (sort g.first) s_int).1 g.first_int) ((same_sort-decides (sort g.second) s_int).1 g.second_int))
      (is-alike _ _ (joined-label a.kept _ _ g.joined))))

  row-solved : AreSolved → (r : Rw) → (d : Ineq) → Given f look d → r ≡ row_of (term_number f) d → SolvesOver s x r
  row-solved a r d g e = subst (SolvesOver s x) (sym e) (le_z_yes (subst T (sym (given-solved a d g)) tt))

  rows-solved : AreSolved → (rows : List Rw) → AreRows f look rows → All (SolvesOver s x) rows
  rows-solved a [] h = All-nil (SolvesOver s x)
  rows-solved a (r ∷ rows) h =
      let w = All-head (λ r. (d : Ineq) × (Given f look d × (r ≡ row_of (term_number f) d))) r rows h in
      All-cons (SolvesOver s x) r rows (row-solved a r w.0 w.1.0 w.1.1) (rows-solved a rows (All-tail (λ r. (d : Ineq) × (Given f look d × (r ≡ row_of (term_number f) d))) r rows h))

  pub no-contradiction : AreSolved → Contradictory f look → ⊥
  no-contradiction a c = solvable-consistent c.0 (record { scale = s; positive = a.positive; values = x; solves = rows-solved a c.0 c.1.0 }) c.1.1
