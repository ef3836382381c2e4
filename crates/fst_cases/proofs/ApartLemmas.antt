-- Clashes of a closure under marks of all atoms: what they refute, and labels that are apart where there are none.
use Rattle.std.proofs.Common.{◌≡◌, ℕ, zero, suc, ◌+◌, ◌<◌, ◌≤◌, Bool, true, false, not, ◌&&◌, nat_lt, List, [], ◌∷◌, length, get_or, slice_get, Option, Some, None, refl, sym, ap, ◌∙◌, subst, arith}
use Rattle.std.specs.Prelude.{IsTrue}
use Rattle.std.proofs.lemmas.Bool.{false≢true, ltb-true}
use Rattle.fst_base.specs.declared.op.Op.{Op}
use Rattle.fst_base.specs.declared.op.Op.TheVariants as op
use Rattle.fst_base.specs.Rows.{same_op}
use Rattle.fst_terms.specs.Terms.{Tm, t_bool, t_prim}
use Rattle.fst_terms.specs.Flats.{Flt, truth_of}
use Rattle.fst_terms.specs.declared.flat.Mark.{Mark}
use Rattle.fst_terms.specs.declared.flat.Mark.TheVariants as mark
use Rattle.fst_terms.specs.Skeletons.{arg_of, rest_of, is_constructor}
use Rattle.fst_terms.specs.Marks.{marks_of, at_number, is_equation}
use Rattle.fst_terms.specs.Branches.{IsNumbered, HasMark, differ}
use Rattle.fst_terms.proofs.SameLemmas.{same_op-decides}
use Rattle.fst_cert.proofs.EquationTruths.{both-true}
use Rattle.fst_congruence.specs.Classes.{label_at}
use Rattle.fst_congruence.specs.Closures.{ClosureView, IsExact}
use Rattle.fst_congruence.specs.Joined.{node_at}
use Rattle.fst_congruence.specs.Makers.{maker_at, AreDifferent, IsMade}
use Rattle.fst_congruence.specs.Numbered.{maker, constructor_of, nodes_of, number_of, term_at, IsNumber}
use Rattle.fst_congruence.proofs.HeadLemmas.{constructor-terms, kind-above, number-from-kind, number-is}
use Rattle.fst_congruence.proofs.MakerLemmas.{maker-above, maker-same}
use Rattle.fst_congruence.proofs.NumberedLemmas.{nodes-count}
use Rattle.fst_cases.specs.declared.roles.Role.{Role}
use Rattle.fst_cases.specs.declared.roles.Role.TheVariants as role
use Rattle.fst_cases.specs.declared.roles.Roles.{Roles}
use Rattle.fst_cases.specs.Clashes.{IsTerm, AreJoined, IsExplained, JoinedSides, label_of, IsClosureOf, MayBeUnequal, MayDiffer, MayClash}
use Rattle.fst_cases.specs.declared.verdict.Leaf.{Leaf}
use Rattle.fst_cases.specs.Leaves.{AreApart}
use Rattle.fst_cases.specs.Roles.{IsNumberOf, IsRole, role_equation, role_order, role_truth, AreRoles}
use Rattle.fst_cases.proofs.ClashLemmas.{labels-apart, number-found}

-- ---- different constructors, by their numbers

both-on : (a b : Bool) → a ≡ true → b ≡ true → (a && b) ≡ true
both-on a b p q = rw (p, q) refl

not-op : (o p : Op) → (maker o ≡ maker p → ⊥) → not (same_op o p) ≡ true
not-op o p d = go (same_op o p) refl
  where
    go : (b : Bool) → same_op o p ≡ b → not (same_op o p) ≡ true
    go true e = absurd (d (ap maker ((same_op-decides o p).0 e)))
    go false e = ap not e

not-small : (o : Op) (b : Bool) → 0 < maker o → true ≡ b → nat_lt (maker o) 3 ≡ b → ⊥
not-small o b h e f = let above = (maker-above o h).0 in let small = ltb-true (maker o) 3 (f ∙ sym e) in omega (arith, above, small)

pub differ-made : (t u : Tm) (b : Bool) → 0 < constructor_of t → 0 < constructor_of u → nat_lt (constructor_of t) 3 ≡ b → nat_lt (constructor_of u) 3 ≡ b → (constructor_of t ≡ constructor_of u → ⊥) → differ t u ≡ true
differ-made (t_bool true) (t_bool false) b h k l m d = refl
differ-made (t_bool false) (t_bool true) b h k l m d = refl
differ-made (t_bool true) (t_bool true) b h k l m d = absurd (d refl)
differ-made (t_bool false) (t_bool false) b h k l m d = absurd (d refl)
differ-made (t_prim o S ts at) (t_prim p T us bt) b h k l m d = both-on _ _ (both-on _ _ (maker-above o h).1 (maker-above p k).1) (not-op o p d)
differ-made (t_bool true) (t_prim p T us bt) b h k l m d = absurd (not-small p b k l m)
differ-made (t_bool false) (t_prim p T us bt) b h k l m d = absurd (not-small p b k l m)
differ-made (t_prim o S ts at) (t_bool true) b h k l m d = absurd (not-small o b h m l)
differ-made (t_prim o S ts at) (t_bool false) b h k l m d = absurd (not-small o b h m l)
differ-made t u b h k l m d = absurd (omega (arith, h, k))

-- what two different constructors are by their numbers
pub record AreMade (t u : Tm) : Type 0 where
  pub truth : Bool
  pub first : (0 < constructor_of t) × (nat_lt (constructor_of t) 3 ≡ truth)
  pub second : (0 < constructor_of u) × (nat_lt (constructor_of u) 3 ≡ truth)
  pub different : constructor_of t ≡ constructor_of u → ⊥

made-group : (o : Op) → is_constructor o ≡ true → (0 < maker o) × (nat_lt (maker o) 3 ≡ false)
made-group op.Pair e = (omega arith, refl)
made-group op.Nothing e = (omega arith, refl)
made-group op.Just e = (omega arith, refl)
made-group op.Nil e = (omega arith, refl)
made-group op.Cons e = (omega arith, refl)
made-group op.Inl e = (omega arith, refl)
made-group op.Inr e = (omega arith, refl)
made-group o e = absurd (false≢true e)

pub made-differ : (t u : Tm) → IsTrue (differ t u) → AreMade t u
made-differ (t_bool true) (t_bool false) e = record { truth = true; first = (omega arith, refl); second = (omega arith, refl); different = λ d. omega (arith, d) }
made-differ (t_bool false) (t_bool true) e = record { truth = true; first = (omega arith, refl); second = (omega arith, refl); different = λ d. omega (arith, d) }
made-differ (t_bool true) (t_bool true) e = absurd (false≢true e)
made-differ (t_bool false) (t_bool false) e = absurd (false≢true e)
made-differ (t_prim o S ts at) (t_prim p T us bt) e =
    let w = both-true (is_constructor o && is_constructor p) (not (same_op o p)) e in
    let v = both-true (is_constructor o) (is_constructor p) w.0 in
    let first = made-group o v.0 in
    record {
      truth = false;
      first = first;
      second = made-group p v.1;
      different = λ d. false≢true (ap not (sym ((same_op-decides o p).1 (maker-same o p first.0 d))) ∙ w.1);
    }
made-differ t u e = absurd (false≢true e)

-- ---- marks of atoms

get-part : {A : Type 0} (xs : List A) (k : ℕ) (d x : A) → slice_get xs k ≡ Some x → (k < length xs) × (get_or xs k d ≡ x)
get-part [] k d x e = cc
get-part (y ∷ ys) zero d x e = (omega arith, cc)
get-part (y ∷ ys) (suc k) d x e = let r = get-part ys k d x e in ((let l = r.0 in omega (arith, l)), r.1)

get-is : {A : Type 0} (xs : List A) (k : ℕ) (d : A) → k < length xs → slice_get xs k ≡ Some (get_or xs k d)
get-is [] k d h = absurd (omega (arith, h))
get-is (x ∷ xs) zero d h = refl
get-is (x ∷ xs) (suc k) d h = get-is xs k d (omega (arith, h))

get-item : {A : Type 0} (xs : List A) (k : ℕ) → k < length xs → (x : A) × (slice_get xs k ≡ Some x)
get-item [] k h = absurd (omega (arith, h))
get-item (x ∷ xs) zero h = (x, refl)
get-item (x ∷ xs) (suc k) h = get-item xs k (omega (arith, h))

first-is : (i j l r : ℕ) → role.Equation i j ≡ role.Equation l r → i ≡ l
first-is i j l r e = cc

second-is : (i j l r : ℕ) → role.Equation i j ≡ role.Equation l r → j ≡ r
second-is i j l r e = cc

-- the sides of an equation, as its role has them
sides-of : (f : Flt) (t : Tm) (l r : ℕ) (q : Role) → q ≡ role.Equation l r → IsRole f t q → (is_equation t ≡ true) × (IsNumberOf f l (arg_of t) × IsNumberOf f r (rest_of t))
sides-of f t l r q e (role_equation i j is left right) = (is, (subst (λ i. IsNumberOf f i (arg_of t)) (first-is i j l r e) left, subst (λ j. IsNumberOf f j (rest_of t)) (second-is i j l r e) right))
sides-of f t l r q e (role_order is order) = cc
sides-of f t l r q e (role_truth i is order n) = cc

equation-of : (f : Flt) (t : Tm) (q : Role) → is_equation t ≡ true → IsRole f t q → (l : ℕ) × ((r : ℕ) × ((q ≡ role.Equation l r) × (IsNumberOf f l (arg_of t) × IsNumberOf f r (rest_of t))))
equation-of f t q e (role_equation i j is left right) = (i, (j, (refl, (left, right))))
equation-of f t q e (role_order is order) = absurd (false≢true (sym is ∙ e))
equation-of f t q e (role_truth i is order n) = absurd (false≢true (sym is ∙ e))

-- an equation that isn't true, by its place
pub record Shown (f : Flt) (ms : List Mark) (k l r : ℕ) : Type 0 where
  pub atom : Tm
  pub mark : Mark
  pub has : HasMark f (marks_of ms) (k + 1) atom mark
  pub equation : is_equation atom ≡ true
  pub off : truth_of mark ≡ false
  pub left : term_at f.terms l ≡ arg_of atom
  pub right : term_at f.terms r ≡ rest_of atom

pub shown : (f : Flt) (rs : Roles) (ms : List Mark) → AreRoles f rs → length ms ≡ length f.atoms → (k l r : ℕ) → k < length ms → get_or rs.atoms k role.Order ≡ role.Equation l r → truth_of (get_or ms k mark.False) ≡ false → Shown f ms k l r
shown f rs ms roles full k l r h is off =
    let t = get-item f.atoms k (omega (arith, h, full)) in
    let count = roles.count in
    let s = sides-of f t.0 l r _ is (roles.each (suc k) t.0 (get_or rs.atoms k role.Order) t.1 (get-is rs.atoms k role.Order (omega (arith, h, full, count)))) in
    record {
      atom = t.0;
      mark = get_or ms k mark.False;
      has = subst (λ a. HasMark f (marks_of ms) a t.0 (get_or ms k mark.False)) (let e : suc k ≡ k + 1 = omega arith in e) (record { atom = t.1; mark = get-is ms k mark.False h });
      equation = s.0;
      off = off;
      left = s.1.0.is;
      right = s.1.1.is;
    }

-- ---- a closure under marks

made-term : (c : ClosureView) (b : Bool) (i : ℕ) → IsMade c b i → IsTerm c i
made-term c b i m = record { within = m.0; some = m.1.1.0 }

-- two terms that are found are joined
pub different-joined : (c : ClosureView) (b : Bool) (i j : ℕ) → AreDifferent c b i j → AreJoined c i j
different-joined c b i j d = record { first = made-term c b i d.first; second = made-term c b j d.second; same = d.same }

module _ (f : Flt) (ms : List Mark) (c : ClosureView) (is : IsClosureOf f ms c) where
  pub explained : IsExplained f (marks_of ms) c
  explained = record { nodes = is.nodes; complete = is.numbering.complete; given = is.equations.given }

  labels-count : length c.labels ≡ length f.terms + 1
  labels-count = is.count ∙ ap length is.nodes ∙ nodes-count f.terms

  number-term : (i : ℕ) → IsNumber f.terms i → IsTerm c i
  number-term i h = record { within = (let a = labels-count in let w = h.within in omega (arith, a, w)); some = subst (λ ns. 0 < (node_at ns i).kind) (sym is.nodes) (kind-above f.terms i h) }

  made-number : (i : ℕ) → IsTerm c i → IsNumber f.terms i
  made-number i h = number-from-kind f.terms i (let a = labels-count in let b = nodes-count f.terms in let w = h.within in omega (arith, a, b, w)) (subst (λ ns. 0 < (node_at ns i).kind) is.nodes h.some)

  maker-is : (i : ℕ) → IsNumber f.terms i → maker_at c i ≡ constructor_of (term_at f.terms i)
  maker-is i h = ap (λ ns. (node_at ns i).constructor) is.nodes ∙ constructor-terms f.terms i h

  -- two terms that are found differ
  pub different-differ : (b : Bool) (i j : ℕ) → AreDifferent c b i j → differ (term_at f.terms i) (term_at f.terms j) ≡ true
  different-differ b i j d =
      let p = maker-is i (made-number i (made-term c b i d.first)) in
      let q = maker-is j (made-number j (made-term c b j d.second)) in
      differ-made _ _ b (subst (λ n. 0 < n) p d.first.1.1.1.0) (subst (λ n. 0 < n) q d.second.1.1.1.0) (ap (λ n. nat_lt n 3) (sym p) ∙ d.first.1.1.1.1) (ap (λ n. nat_lt n 3) (sym q) ∙ d.second.1.1.1.1)
      (λ e. d.different (p ∙ e ∙ sym q))

  -- where none is found, labels are apart
  module _ (rs : Roles) (roles : AreRoles f rs) where
    none-different : ((b : Bool) (i j : ℕ) → AreDifferent c b i j → ⊥) → (t u : Tm) → IsNumbered f t → IsNumbered f u → IsTrue (differ t u) → label_of f c.labels t ≡ label_of f c.labels u → ⊥
    none-different none t u n m d same =
        let x = number-found f t n in
        let y = number-found f u m in
        let p = maker-is _ x.0 ∙ ap constructor_of x.1 in
        let q = maker-is _ y.0 ∙ ap constructor_of y.1 in
        let a = number-term _ x.0 in
        let b = number-term _ y.0 in
        let made = made-differ t u d in
        none made.truth (number_of f.terms t) (number_of f.terms u) (record {
          first = (a.within, (x.0.counted, (a.some, (subst (λ n. 0 < n) (sym p) made.first.0, ap (λ n. nat_lt n 3) p ∙ made.first.1))));
          second = (b.within, (y.0.counted, (b.some, (subst (λ n. 0 < n) (sym q) made.second.0, ap (λ n. nat_lt n 3) q ∙ made.second.1))));
          different = λ e. made.different (sym p ∙ e ∙ q);
          same = same;
        })

    none-unequal : ((k : ℕ) → k < length ms → JoinedSides c (get_or rs.atoms k role.Order) (get_or ms k mark.False) k None) → (a : ℕ) (t : Tm) (m : Mark) → HasMark f (marks_of ms) a t m → IsTrue (is_equation t) → truth_of m ≡ false
        → label_of f c.labels (arg_of t) ≡ label_of f c.labels (rest_of t) → ⊥
    none-unequal none zero t m h e off same = (let w = h.atom in cc)
    none-unequal none (suc k) t m h e off same =
        let w = get-part ms k mark.False m h.mark in
        let v = get-part f.atoms k t t h.atom in
        let count = roles.count in
        let less = v.0 in
        let s = equation-of f t (get_or rs.atoms k role.Order) e (roles.each (suc k) t (get_or rs.atoms k role.Order) h.atom (get-is rs.atoms k role.Order (omega (arith, less, count)))) in
        let l = s.1.1.1.0 in
        let r = s.1.1.1.1 in
        let p = number-is f.terms s.0 (arg_of t) is.numbering.once l.number l.is in
        let q = number-is f.terms s.1.0 (rest_of t) is.numbering.once r.number r.is in
        none k w.0 s.0 s.1.0 s.1.1.0 (ap truth_of w.1 ∙ off) (record { first = number-term s.0 l.number; second = number-term s.1.0 r.number; same = ap (label_at c.labels) (sym p) ∙ same ∙ ap (label_at c.labels) q })

    pub none-clash : ((k : ℕ) → k < length ms → JoinedSides c (get_or rs.atoms k role.Order) (get_or ms k mark.False) k None) → ((i j : ℕ) → AreDifferent c true i j → ⊥) → ((i j : ℕ) → AreDifferent c false i j → ⊥) → AreApart f (marks_of ms) (label_of f c.labels)
    none-clash unequal truths others = labels-apart f (marks_of ms) c.equations c.labels is.numbering is.equations (subst (λ ns. IsExact ns c.equations c.labels) is.nodes is.exact) (none-different either) (none-unequal unequal)
      where
        either : (b : Bool) (i j : ℕ) → AreDifferent c b i j → ⊥
        either true = truths
        either false = others

    pub may-clash : (unequal truths found : Option Leaf) → unequal ≡ None → truths ≡ None → MayBeUnequal f rs.atoms ms c unequal → MayDiffer f ms c true truths → MayDiffer f ms c false found → MayClash f ms c found
    may-clash unequal truths None u t p q h = none-clash (subst (MayBeUnequal f rs.atoms ms c) u p) (subst (MayDiffer f ms c true) t q) h
    may-clash unequal truths (Some l) u t p q h = h
