-- The numbers of constructors.
use Rattle.std.proofs.Common.{◌≡◌, ◌<◌, Bool, true, false, ◌&&◌, length, refl, sym, ap, arith}
use Rattle.std.proofs.lemmas.Bool.{false≢true}
use Rattle.fst_base.specs.declared.op.Op.{Op}
use Rattle.fst_base.specs.declared.op.Op.TheVariants as op
use Rattle.fst_base.specs.Rows.{same_op}
use Rattle.fst_cert.proofs.EquationTruths.{both-true}
use Rattle.fst_terms.specs.Terms.{Tm, t_bool, t_prim}
use Rattle.fst_terms.specs.Skeletons.{is_constructor}
use Rattle.fst_terms.specs.Branches.{same_constructor}
use Rattle.fst_terms.proofs.SameLemmas.{same_op-decides}
use Rattle.fst_congruence.specs.Numbered.{maker, constructor_of, arguments}

pair-only : (p : Op) → maker p ≡ 3 → p ≡ op.Pair
pair-only op.Pair e = refl
pair-only op.Nothing e = absurd (omega (arith, e))
pair-only op.Just e = absurd (omega (arith, e))
pair-only op.Nil e = absurd (omega (arith, e))
pair-only op.Cons e = absurd (omega (arith, e))
pair-only op.Inl e = absurd (omega (arith, e))
pair-only op.Inr e = absurd (omega (arith, e))
pair-only p e = absurd (omega (arith, e))

nothing-only : (p : Op) → maker p ≡ 4 → p ≡ op.Nothing
nothing-only op.Pair e = absurd (omega (arith, e))
nothing-only op.Nothing e = refl
nothing-only op.Just e = absurd (omega (arith, e))
nothing-only op.Nil e = absurd (omega (arith, e))
nothing-only op.Cons e = absurd (omega (arith, e))
nothing-only op.Inl e = absurd (omega (arith, e))
nothing-only op.Inr e = absurd (omega (arith, e))
nothing-only p e = absurd (omega (arith, e))

just-only : (p : Op) → maker p ≡ 5 → p ≡ op.Just
just-only op.Pair e = absurd (omega (arith, e))
just-only op.Nothing e = absurd (omega (arith, e))
just-only op.Just e = refl
just-only op.Nil e = absurd (omega (arith, e))
just-only op.Cons e = absurd (omega (arith, e))
just-only op.Inl e = absurd (omega (arith, e))
just-only op.Inr e = absurd (omega (arith, e))
just-only p e = absurd (omega (arith, e))

nil-only : (p : Op) → maker p ≡ 6 → p ≡ op.Nil
nil-only op.Pair e = absurd (omega (arith, e))
nil-only op.Nothing e = absurd (omega (arith, e))
nil-only op.Just e = absurd (omega (arith, e))
nil-only op.Nil e = refl
nil-only op.Cons e = absurd (omega (arith, e))
nil-only op.Inl e = absurd (omega (arith, e))
nil-only op.Inr e = absurd (omega (arith, e))
nil-only p e = absurd (omega (arith, e))

cons-only : (p : Op) → maker p ≡ 7 → p ≡ op.Cons
cons-only op.Pair e = absurd (omega (arith, e))
cons-only op.Nothing e = absurd (omega (arith, e))
cons-only op.Just e = absurd (omega (arith, e))
cons-only op.Nil e = absurd (omega (arith, e))
cons-only op.Cons e = refl
cons-only op.Inl e = absurd (omega (arith, e))
cons-only op.Inr e = absurd (omega (arith, e))
cons-only p e = absurd (omega (arith, e))

inl-only : (p : Op) → maker p ≡ 8 → p ≡ op.Inl
inl-only op.Pair e = absurd (omega (arith, e))
inl-only op.Nothing e = absurd (omega (arith, e))
inl-only op.Just e = absurd (omega (arith, e))
inl-only op.Nil e = absurd (omega (arith, e))
inl-only op.Cons e = absurd (omega (arith, e))
inl-only op.Inl e = refl
inl-only op.Inr e = absurd (omega (arith, e))
inl-only p e = absurd (omega (arith, e))

inr-only : (p : Op) → maker p ≡ 9 → p ≡ op.Inr
inr-only op.Pair e = absurd (omega (arith, e))
inr-only op.Nothing e = absurd (omega (arith, e))
inr-only op.Just e = absurd (omega (arith, e))
inr-only op.Nil e = absurd (omega (arith, e))
inr-only op.Cons e = absurd (omega (arith, e))
inr-only op.Inl e = absurd (omega (arith, e))
inr-only op.Inr e = refl
inr-only p e = absurd (omega (arith, e))

-- two operators with the number of a constructor are the same
pub maker-same : (o p : Op) → 0 < maker o → maker o ≡ maker p → o ≡ p
maker-same op.Pair p h e = sym (pair-only p (sym e))
maker-same op.Nothing p h e = sym (nothing-only p (sym e))
maker-same op.Just p h e = sym (just-only p (sym e))
maker-same op.Nil p h e = sym (nil-only p (sym e))
maker-same op.Cons p h e = sym (cons-only p (sym e))
maker-same op.Inl p h e = sym (inl-only p (sym e))
maker-same op.Inr p h e = sym (inr-only p (sym e))
maker-same o p h e = absurd (omega (arith, h))

pub maker-above : (o : Op) → 0 < maker o → (2 < maker o) × (is_constructor o ≡ true)
maker-above op.Pair h = (omega arith, refl)
maker-above op.Nothing h = (omega arith, refl)
maker-above op.Just h = (omega arith, refl)
maker-above op.Nil h = (omega arith, refl)
maker-above op.Cons h = (omega arith, refl)
maker-above op.Inl h = (omega arith, refl)
maker-above op.Inr h = (omega arith, refl)
maker-above o h = absurd (omega (arith, h))

both-on : (a b : Bool) → a ≡ true → b ≡ true → (a && b) ≡ true
both-on a b p q = rw (p, q) refl

-- terms with one number, and with arguments, begin with the same constructor
pub same-constructor : (t u : Tm) → 0 < constructor_of t → constructor_of t ≡ constructor_of u → 0 < length (arguments t) → same_constructor t u ≡ true
same-constructor (t_prim o S ts at) (t_prim p R us bt) h e n = both-on _ _ (maker-above o h).1 ((same_op-decides o p).1 (maker-same o p h e))
same-constructor (t_prim o S ts at) (t_bool true) h e n = (let above = (maker-above o h).0 in absurd (omega (arith, above, e)))
same-constructor (t_prim o S ts at) (t_bool false) h e n = (let above = (maker-above o h).0 in absurd (omega (arith, above, e)))
same-constructor (t_prim o S ts at) u h e n = absurd (omega (arith, h, e))
same-constructor (t_bool b) u h e n = absurd (omega (arith, n))
same-constructor t u h e n = absurd (omega (arith, h))

constructor-above : (o : Op) → is_constructor o ≡ true → 0 < maker o
constructor-above op.Pair h = omega arith
constructor-above op.Nothing h = omega arith
constructor-above op.Just h = omega arith
constructor-above op.Nil h = omega arith
constructor-above op.Cons h = omega arith
constructor-above op.Inl h = omega arith
constructor-above op.Inr h = omega arith
constructor-above o h = absurd (false≢true h)

-- terms with the same constructor have one number
pub constructor-same : (t u : Tm) → same_constructor t u ≡ true → (0 < constructor_of t) × (constructor_of t ≡ constructor_of u)
constructor-same (t_prim o S ts at) (t_prim p R us bt) e =
    let w = both-true (is_constructor o) (same_op o p) e in
    (constructor-above o w.0, ap maker ((same_op-decides o p).0 w.1))
constructor-same t u e = absurd (false≢true e)
