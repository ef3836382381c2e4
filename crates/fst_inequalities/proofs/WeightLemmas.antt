-- How far a term goes down, and what a primitive of few arguments is.
use Rattle.std.proofs.Common.{◌≡◌, ℕ, zero, suc, ◌+◌, ◌*◌, ◌<◌, List, [], ◌∷◌, length, get_or, refl, sym, ap, ap₂, ◌∙◌, arith}
use Rattle.fst_base.specs.declared.op.Op.{Op}
use Rattle.fst_base.specs.declared.op.Op.TheVariants as op
use Rattle.fst_base.specs.declared.place.Pos.{Pos}
use Rattle.fst_base.specs.declared.sort.Sort.{Sort}
use Rattle.fst_base.specs.Sorts.{Srt, plain_sort}
use Rattle.fst_terms.specs.declared.term.Term.{Term}
use Rattle.fst_terms.specs.declared.term.Term.TheVariants as T
use Rattle.fst_terms.specs.Flats.{Flt}
use Rattle.fst_terms.specs.Terms.{Tm, Tms, t_prim, t_end, t_more, plain_term, plain_terms}
use Rattle.fst_terms.proofs.PlainLemmas.{plain-term-Prim}
use Rattle.fst_inequalities.specs.Forming.{IsOpaque}

abbrev mutual
  pub weight : Tm → ℕ
  weight (t_prim o S ts at) = suc (weights ts)
  weight t = 1

  pub weights : Tms → ℕ
  weights t_end = zero
  weights (t_more t ts) = weight t + weights ts

-- the primitive of these arguments
abbrev pub IsPrim : Op → Tms → Tm → Type 0
IsPrim o ts w = (S : Srt) × ((at : ℕ) × (w ≡ t_prim o S ts at))

pub one-falls : (o : Op) (w t : Tm) → IsPrim o (t_more t t_end) w → weight t * 4 + 3 < weight w * 4 + 1
one-falls o w t p = rw p.1.1 (omega arith)

pub first-falls : (o : Op) (w t u : Tm) → IsPrim o (t_more t (t_more u t_end)) w → weight t * 4 + 3 < weight w * 4 + 1
first-falls o w t u p = rw p.1.1 (omega arith)

pub second-falls : (o : Op) (w t u : Tm) → IsPrim o (t_more t (t_more u t_end)) w → weight u * 4 + 3 < weight w * 4 + 1
second-falls o w t u p = rw p.1.1 (omega arith)

pub prim-is : (o : Op) (S : Sort) (ts args : List Term) (p : Pos) (w : Term) → w ≡ T.Prim o S ts p → args ≡ ts → IsPrim o (plain_terms args) (plain_term w)
prim-is o S ts args p w e f = (plain_sort S, (p.at, ap plain_term e ∙ plain-term-Prim o S ts p ∙ ap (λ xs. t_prim o (plain_sort S) (plain_terms xs) p.at) (sym f)))

pub only-is : (o : Op) (args : List Term) (x : Term) (w : Tm) → length args ≡ 1 → x ≡ get_or args 0 x → IsPrim o (plain_terms args) w → IsPrim o (t_more (plain_term x) t_end) w
only-is o [] x w h e p = absurd (omega (arith, h))
only-is o (t ∷ []) x w h e p = (p.0, (p.1.0, p.1.1 ∙ ap (λ y. t_prim o p.0 (t_more (plain_term y) t_end) p.1.0) (sym e)))
only-is o (t ∷ u ∷ ts) x w h e p = absurd (omega (arith, h))

pub two-are : (o : Op) (args : List Term) (x y : Term) (w : Tm) → length args ≡ 2 → x ≡ get_or args 0 x → y ≡ get_or args 1 y → IsPrim o (plain_terms args) w → IsPrim o (t_more (plain_term x) (t_more (plain_term y) t_end)) w
two-are o [] x y w h e f p = absurd (omega (arith, h))
two-are o (t ∷ []) x y w h e f p = absurd (omega (arith, h))
two-are o (t ∷ u ∷ []) x y w h e f p = (p.0, (p.1.0, p.1.1 ∙ ap₂ (λ a b. t_prim o p.0 (t_more (plain_term a) (t_more (plain_term b) t_end)) p.1.0) (sym e) (sym f)))
two-are o (t ∷ u ∷ v ∷ ts) x y w h e f p = absurd (omega (arith, h))

module _ (f : Flt) where
  none-opaque : (o : Op) (S : Srt) (at : ℕ) → IsOpaque f (t_prim o S t_end at)
  none-opaque op.Add S at = (refl, refl)
  none-opaque op.Sub S at = (refl, refl)
  none-opaque op.Neg S at = (refl, refl)
  none-opaque op.Mul S at = (refl, refl)
  none-opaque o S at = (refl, refl)

  many-opaque : (o : Op) (S : Srt) (t u v : Tm) (ts : Tms) (at : ℕ) → IsOpaque f (t_prim o S (t_more t (t_more u (t_more v ts))) at)
  many-opaque op.Add S t u v ts at = (refl, refl)
  many-opaque op.Sub S t u v ts at = (refl, refl)
  many-opaque op.Neg S t u v ts at = (refl, refl)
  many-opaque op.Mul S t u v ts at = (refl, refl)
  many-opaque o S t u v ts at = (refl, refl)

  pub prim-opaque : (o : Op) (args : List Term) (w : Tm) → (length args ≡ 1 → ⊥) → (length args ≡ 2 → ⊥) → IsPrim o (plain_terms args) w → IsOpaque f w
  prim-opaque o [] w h k p = rw p.1.1 (none-opaque o p.0 p.1.0)
  prim-opaque o (t ∷ []) w h k p = absurd (h refl)
  prim-opaque o (t ∷ u ∷ []) w h k p = absurd (k refl)
  prim-opaque o (t ∷ u ∷ v ∷ ts) w h k p = rw p.1.1 (many-opaque o p.0 (plain_term t) (plain_term u) (plain_term v) (plain_terms ts) p.1.0)
