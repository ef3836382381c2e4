-- The equations of marked atoms, with those that hold whatever the marks, are those that the marks give.
use Rattle.std.proofs.Common.{◌≡◌, ◌⊎◌, inl, inr, ℕ, zero, suc, ◌<◌, ◌≤◌, Bool, true, false, not, if◌then◌else◌, List, [], ◌∷◌, ◌++◌, length, get_or, slice_get, Option, Some, None, refl, sym, ap, ap₂, ◌∙◌, subst, arith}
use Rattle.std.specs.Prelude.{Contains}
use Rattle.std.proofs.lemmas.Bool.{cases_lt}
use Rattle.std.proofs.lemmas.List.Elements.{Contains-append_left, Contains-append_right, Contains-append_cases}
use Rattle.fst_terms.specs.Terms.{Tm, t_bool}
use Rattle.fst_terms.specs.Flats.{Flt, truth_of}
use Rattle.fst_terms.specs.declared.flat.Mark.{Mark}
use Rattle.fst_terms.specs.declared.flat.Mark.TheVariants as mark
use Rattle.fst_terms.specs.Skeletons.{arg_of, rest_of}
use Rattle.fst_terms.specs.Marks.{marks_of, is_equation, is_at_most}
use Rattle.fst_cert.specs.declared.line.Line.{Line}
use Rattle.fst_cert.specs.declared.line.Line.TheVariants as line
use Rattle.fst_cert.specs.Proving.{on, only_if, Eqn, eqn, equation_of_mark, equation_by}
use Rattle.fst_cert.proofs.EquationTruths.{on-inv}
use Rattle.fst_congruence.specs.declared.equation.Equation.{Equation}
use Rattle.fst_congruence.specs.Closures.{IsGivenLine}
use Rattle.fst_congruence.specs.Explained.{AreEquations}
use Rattle.fst_congruence.specs.Numbered.{term_at, IsNumber}
use Rattle.fst_cases.specs.declared.roles.Role.{Role}
use Rattle.fst_cases.specs.declared.roles.Role.TheVariants as role
use Rattle.fst_cases.specs.declared.roles.Roles.{Roles}
use Rattle.fst_cases.specs.Roles.{IsNumberOf, IsRole, role_equation, role_order, role_truth, AreRoles, Sides, truth_number, given_of, put_sides, equation_at, given_equations, AreAlways}

get-is : {A : Type 0} (xs : List A) (k : ℕ) (d : A) → k < length xs → slice_get xs k ≡ Some (get_or xs k d)
get-is [] k d h = absurd (omega (arith, h))
get-is (x ∷ xs) zero d h = refl
get-is (x ∷ xs) (suc k) d h = get-is xs k d (omega (arith, h))

get-item : {A : Type 0} (xs : List A) (k : ℕ) → k < length xs → (x : A) × (slice_get xs k ≡ Some x)
get-item [] k h = absurd (omega (arith, h))
get-item (x ∷ xs) zero h = (x, refl)
get-item (x ∷ xs) (suc k) h = get-item xs k (omega (arith, h))

get-less : {A : Type 0} (xs : List A) (k : ℕ) (x : A) → slice_get xs k ≡ Some x → k < length xs
get-less [] k x q = cc
get-less (y ∷ ys) zero x q = omega arith
get-less (y ∷ ys) (suc k) x q = let l = get-less ys k x q in omega (arith, l)

module _ (f : Flt) (rs : Roles) (roles : AreRoles f rs) where
  -- ---- one atom

  -- what the role of an atom gives is what its mark gives
  pub record GivesSides (t : Tm) (m : Mark) (s : Sides) : Type 0 where
    pub is : equation_of_mark t m ≡ Some (eqn (term_at f.terms s.0) (term_at f.terms s.1))
    pub first : IsNumber f.terms s.0
    pub second : IsNumber f.terms s.1

  abbrev pub Gives : Tm → Mark → Option Sides → Type 0
  Gives t m None = equation_of_mark t m ≡ None
  Gives t m (Some s) = GivesSides t m s

  mark-equation : (t : Tm) (m : Mark) → is_equation t ≡ true → equation_of_mark t m ≡ only_if (truth_of m) (eqn (arg_of t) (rest_of t))
  mark-equation t m p = ap (λ b. if b then only_if (truth_of m) (eqn (arg_of t) (rest_of t)) else only_if (not (is_at_most t)) (eqn t (t_bool (truth_of m)))) p

  mark-other : (t : Tm) (m : Mark) (b : Bool) → is_equation t ≡ false → is_at_most t ≡ b → equation_of_mark t m ≡ only_if (not b) (eqn t (t_bool (truth_of m)))
  mark-other t m b p q =
      ap (λ c. if c then only_if (truth_of m) (eqn (arg_of t) (rest_of t)) else only_if (not (is_at_most t)) (eqn t (t_bool (truth_of m)))) p
      ∙ ap (λ c. only_if (not c) (eqn t (t_bool (truth_of m)))) q

  truth-is : (m : Mark) → IsNumberOf f (truth_number rs m) (t_bool (truth_of m))
  truth-is mark.True = roles.yes
  truth-is mark.False = roles.no
  truth-is mark.Less = roles.no
  truth-is mark.Greater = roles.no

  pub role-gives : (t : Tm) (r : Role) (m : Mark) → IsRole f t r → Gives t m (given_of rs r m)
  role-gives t r mark.True (role_equation i j p a b) = record { is = mark-equation t mark.True p ∙ ap₂ (λ x y. Some (eqn x y)) (sym a.is) (sym b.is); first = a.number; second = b.number }
  role-gives t r mark.False (role_equation i j p a b) = mark-equation t mark.False p
  role-gives t r mark.Less (role_equation i j p a b) = mark-equation t mark.Less p
  role-gives t r mark.Greater (role_equation i j p a b) = mark-equation t mark.Greater p
  role-gives t r m (role_order p q) = mark-other t m true p q
  role-gives t r m (role_truth i p q n) =
      let v = truth-is m in
      record { is = mark-other t m false p q ∙ ap₂ (λ x y. Some (eqn x y)) (sym n.is) (sym v.is); first = n.number; second = v.number }

  -- ---- all atoms

  contains-put : (a : ℕ) (o : Option Sides) (e : Equation) → Contains (put_sides a o) e → (s : Sides) × ((o ≡ Some s) × (record { left = s.0; right = s.1; by = line.Given a } ≡ e))
  contains-put a None e h = absurd (let l = h.1 in omega (arith, l))
  contains-put a (Some s) e h = (s, (refl, subst (λ k. get_or (put_sides a (Some s)) k e ≡ e) (let l = h.1 in let z : h.0 ≡ 0 = omega (arith, l) in z) h.2))

  put-contains : (a : ℕ) (o : Option Sides) (s : Sides) → o ≡ Some s → Contains (put_sides a o) (record { left = s.0; right = s.1; by = line.Given a })
  put-contains a o s q = subst (λ p. Contains (put_sides a p) (record { left = s.0; right = s.1; by = line.Given a })) (sym q) (0, omega arith, refl)

  module _ (ms : List Mark) (full : length ms ≡ length f.atoms) where
    abbrev sides_at : ℕ → Option Sides
    sides_at k = given_of rs (get_or rs.atoms k role.Order) (get_or ms k mark.False)

    contains-given : (n : ℕ) (e : Equation) → Contains (given_equations rs ms n) e → (k : ℕ) × ((k < n) × Contains (equation_at rs ms k) e)
    contains-given zero e h = absurd (let l = h.1 in omega (arith, l))
    contains-given (suc n) e h = go (λ c. contains-given n e c) (Contains-append_cases (given_equations rs ms n) (equation_at rs ms n) e h)
      where
        go : (Contains (given_equations rs ms n) e → (k : ℕ) × ((k < n) × Contains (equation_at rs ms k) e)) → Contains (given_equations rs ms n) e ⊎ Contains (equation_at rs ms n) e → (k : ℕ) × ((k < suc n) × Contains (equation_at rs ms k) e)
        go ih (inl c) = let k = ih c in (k.0, ((let l = k.1.0 in omega (arith, l)), k.1.1))
        go ih (inr c) = (n, (omega arith, c))

    given-contains : (n k : ℕ) (e : Equation) → k < n → Contains (equation_at rs ms k) e → Contains (given_equations rs ms n) e
    given-contains zero k e h c = absurd (omega (arith, h))
    given-contains (suc n) k e h c = go (λ l. given-contains n k e l c) (cases_lt k n)
      where
        go : (k < n → Contains (given_equations rs ms n) e) → (k < n) ⊎ (n ≤ k) → Contains (given_equations rs ms n ++ equation_at rs ms n) e
        go ih (inl l) = Contains-append_left (given_equations rs ms n) (equation_at rs ms n) e (ih l)
        go ih (inr l) = Contains-append_right (given_equations rs ms n) (equation_at rs ms n) e (subst (λ j. Contains (equation_at rs ms j) e) (let q : k ≡ n = omega (arith, h, l) in q) c)

    -- the atom at a place, and what it gives
    pub record Here (k : ℕ) : Type 0 where
      pub atom : Tm
      pub at : slice_get f.atoms k ≡ Some atom
      pub marked : slice_get ms k ≡ Some (get_or ms k mark.False)
      pub gives : Gives atom (get_or ms k mark.False) (sides_at k)

    here : (k : ℕ) → k < length ms → Here k
    here k h =
        let t = get-item f.atoms k (omega (arith, h, full)) in
        let count = roles.count in
        record {
          atom = t.0;
          at = t.1;
          marked = get-is ms k mark.False h;
          gives = role-gives t.0 (get_or rs.atoms k role.Order) (get_or ms k mark.False) (roles.each (suc k) t.0 (get_or rs.atoms k role.Order) t.1 (get-is rs.atoms k role.Order (omega (arith, h, full, count))));
        }

    line-gives : (k : ℕ) (w : Here k) → equation_by f (marks_of ms) [] (line.Given (suc k)) ≡ equation_of_mark w.atom (get_or ms k mark.False)
    line-gives k w = ap (λ o. on o (λ t. on (slice_get ms k) (equation_of_mark t))) w.at ∙ ap (λ o. on o (equation_of_mark w.atom)) w.marked

    -- an equation of a marked atom is given
    pub record IsGiven (e : Equation) : Type 0 where
      pub line : IsGivenLine e.by
      pub is : equation_by f (marks_of ms) [] e.by ≡ Some (eqn (term_at f.terms e.left) (term_at f.terms e.right))
      pub first : IsNumber f.terms e.left
      pub second : IsNumber f.terms e.right

    each-given : (e : Equation) → Contains (given_equations rs ms (length ms)) e → IsGiven e
    each-given e h =
        let k = contains-given (length ms) e h in
        let s = contains-put (suc k.0) (sides_at k.0) e k.1.1 in
        let w = here k.0 k.1.0 in
        let g : GivesSides w.atom (get_or ms k.0 mark.False) s.0 = subst (Gives w.atom (get_or ms k.0 mark.False)) s.1.0 w.gives in
        subst IsGiven s.1.1 (record { line = tt; is = line-gives k.0 w ∙ g.is; first = g.first; second = g.second })

    abbrev pub Found : List Equation → Tm → Tm → Type 0
    Found es t u = (e : Equation) × (Contains es e × ((term_at f.terms e.left ≡ t) × (term_at f.terms e.right ≡ u)))

    -- and what a marked atom gives is among them
    all-given : (a : ℕ) (t u : Tm) → equation_by f (marks_of ms) [] (line.Given a) ≡ Some (eqn t u) → Found (given_equations rs ms (length ms)) t u
    all-given zero t u q = cc
    all-given (suc k) t u q =
        let x = on-inv (slice_get f.atoms k) (λ t. on (slice_get ms k) (equation_of_mark t)) (eqn t u) q in
        let h : k < length ms = (let l = get-less f.atoms k x.0 x.1.0 in omega (arith, l, full)) in
        let w = here k h in
        go k h w (sides_at k) refl w.gives (sym (line-gives k w) ∙ q)
      where
        go : (k : ℕ) → k < length ms → (w : Here k) → (o : Option Sides) → sides_at k ≡ o → Gives w.atom (get_or ms k mark.False) o → equation_of_mark w.atom (get_or ms k mark.False) ≡ Some (eqn t u) → Found (given_equations rs ms (length ms)) t u
        go k h w None e g p = absurd (let z : ◌≡◌ {A = Option Eqn} None (Some (eqn t u)) = sym g ∙ p in clash z)
          where
            clash : ◌≡◌ {A = Option Eqn} None (Some (eqn t u)) → ⊥
            clash z = cc
        go k h w (Some s) e g p =
            let same : ◌≡◌ {A = Option Eqn} (Some (eqn (term_at f.terms s.0) (term_at f.terms s.1))) (Some (eqn t u)) = sym g.is ∙ p in
            let is : eqn (term_at f.terms s.0) (term_at f.terms s.1) ≡ eqn t u = cc in
            (record { left = s.0; right = s.1; by = line.Given (suc k) }, (given-contains (length ms) k _ h (put-contains (suc k) (sides_at k) s e), (ap (λ (d : Eqn). d.left) is, ap (λ (d : Eqn). d.right) is)))

    -- ---- with those that hold whatever the marks

    pub equations-given : (always : List Equation) → AreAlways f always → AreEquations f (marks_of ms) (always ++ given_equations rs ms (length ms))
    equations-given always w = record {
      lines = λ e h. (each e h).line;
      given = λ e h. (each e h).is;
      numbered = λ e h. ((each e h).first, (each e h).second);
      all = found;
    }
      where
        given : List Equation
        given = given_equations rs ms (length ms)

        each : (e : Equation) → Contains (always ++ given_equations rs ms (length ms)) e → IsGiven e
        each e h = go (Contains-append_cases always (given_equations rs ms (length ms)) e h)
          where
            go : Contains always e ⊎ Contains (given_equations rs ms (length ms)) e → IsGiven e
            go (inl c) = let g = w.given e c in record { line = g.0; is = g.1.0 (marks_of ms); first = g.1.1.0; second = g.1.1.1 }
            go (inr c) = each-given e c

        front : (t u : Tm) → Found always t u → Found (always ++ given_equations rs ms (length ms)) t u
        front t u x = (x.0, (Contains-append_left always (given_equations rs ms (length ms)) x.0 x.1.0, x.1.1))

        back : (t u : Tm) → Found (given_equations rs ms (length ms)) t u → Found (always ++ given_equations rs ms (length ms)) t u
        back t u x = (x.0, (Contains-append_right always (given_equations rs ms (length ms)) x.0 x.1.0, x.1.1))

        found : (l : Line) (t u : Tm) → IsGivenLine l → equation_by f (marks_of ms) [] l ≡ Some (eqn t u) → Found (always ++ given_equations rs ms (length ms)) t u
        found (line.Given a) t u h q = back t u (all-given a t u q)
        found (line.Eta i) t u h q = front t u (w.pairs i (marks_of ms) t u q)
        found (line.Unit i) t u h q = front t u (w.units i (marks_of ms) t u q)
        found l t u h q = absurd h
