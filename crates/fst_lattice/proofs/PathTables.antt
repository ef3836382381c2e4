-- The table of paths holds each path of lifts, where no lift makes a second one.
use Rattle.std.proofs.Common.{◌≡◌, ◌⊎◌, inl, inr, ℕ, zero, suc, ◌+◌, ◌<◌, List, [], ◌∷◌, ◌++◌, length, slice_get, Option, Some, None, refl, sym, ap, ◌∙◌, subst, arith, if◌then◌else◌}
use Rattle.std.proofs.lemmas.Bool.Decides.{Decides-eqb}
use Rattle.fst_program.specs.Texts.{LftDef}
use Rattle.fst_program.specs.LiftPaths.{IsPath, HasOnePath, Table, no_lifts, or_else, through, with_lift, with_lifts, path}
use Rattle.fst_program.proofs.ThereLemmas.{there, there-is}
use Rattle.fst_program.proofs.PathLemmas.{path-is}
use Rattle.fst_lattice.specs.Lattices.{SecondPath, IsWithin, AreWithin}

-- the table with one lift more
pub more-lifts : (t : Table) (n : ℕ) (ls : List LftDef) (l : LftDef) (D E : ℕ) → with_lifts t n (ls ++ l ∷ []) D E ≡ with_lift (with_lifts t n ls) (n + length ls) l D E
more-lifts t n [] l D E = let same : n ≡ n + 0 = omega arith in ap (λ m. with_lift t m l D E) same
more-lifts t n (k ∷ ls) l D E = let same : suc n + length ls ≡ n + suc (length ls) = omega arith in more-lifts (with_lift t n k) (suc n) ls l D E ∙ ap (λ m. with_lift (with_lifts (with_lift t n k) (suc n) ls) m l D E) same

abbrev pub Sure : List LftDef → Type 0
Sure ls = (D E : ℕ) (ns : List ℕ) → IsPath ls D ns E → path ls D E ≡ Some ns

pub sure-one : (ls : List LftDef) → Sure ls → HasOnePath ls
sure-one ls s D E ns ms p q = let a = s D E ns p in let b = s D E ms q in cc

pub sure-none : Sure []
sure-none D E [] p = ap (λ b. if b then Some [] else None) ((Decides-eqb D E).1 p)
sure-none D E (n ∷ ns) p = absurd p

-- of a longer list
at-end : (ls : List LftDef) (l : LftDef) (m : ℕ) (k : LftDef) → slice_get (ls ++ l ∷ []) m ≡ Some k → (slice_get ls m ≡ Some k) ⊎ ((m ≡ length ls) × (k ≡ l))
at-end [] l zero k e = inr (refl, cc)
at-end [] l (suc m) k e = cc
at-end (x ∷ ls) l zero k e = inl e
at-end (x ∷ ls) l (suc m) k e = go (at-end ls l m k e)
  where
    go : (slice_get ls m ≡ Some k) ⊎ ((m ≡ length ls) × (k ≡ l)) → (slice_get ls m ≡ Some k) ⊎ ((suc m ≡ suc (length ls)) × (k ≡ l))
    go (inl h) = inl h
    go (inr h) = inr (ap suc h.0, h.1)

-- a path goes through the last lift once, or not at all
abbrev Through : List LftDef → LftDef → (D : ℕ) → List ℕ → (E : ℕ) → Type 0
Through ls l D ns E = (bs : List ℕ) × ((cs : List ℕ) × ((ns ≡ bs ++ length ls ∷ cs) × IsPath ls D bs l.from × IsPath ls l.«to» cs E))

split : (ls : List LftDef) (l : LftDef) → ((bs : List ℕ) → IsPath ls l.«to» bs l.from → ⊥) → (D E : ℕ) (ns : List ℕ) → IsPath (ls ++ l ∷ []) D ns E → IsPath ls D ns E ⊎ Through ls l D ns E
split ls l apart D E [] p = inl p
split ls l apart D E (m ∷ ms) p =
    let k = there (slice_get (ls ++ l ∷ []) m) _ p in
    go k.0 k.1.1.0 (at-end ls l m k.0 k.1.0) (split ls l apart k.0.«to» E ms k.1.1.1)
  where
    go : (k : LftDef) → k.from ≡ D → (slice_get ls m ≡ Some k) ⊎ ((m ≡ length ls) × (k ≡ l)) → IsPath ls k.«to» ms E ⊎ Through ls l k.«to» ms E → IsPath ls D (m ∷ ms) E ⊎ Through ls l D (m ∷ ms) E
    go k f (inl g) (inl q) = inl (there-is (slice_get ls m) (λ k. (k.from ≡ D) × IsPath ls k.«to» ms E) k g (f, q))
    go k f (inl g) (inr q) = inr (m ∷ q.0, (q.1.0, (ap (◌∷◌ m) q.1.1.0, there-is (slice_get ls m) (λ k. (k.from ≡ D) × IsPath ls k.«to» q.0 l.from) k g (f, q.1.1.1), q.1.1.2)))
    go k f (inr g) (inl q) = inr ([], (ms, (ap (λ i. i ∷ ms) g.0, sym f ∙ ap (λ k. k.from) g.1, subst (λ k. IsPath ls k.«to» ms E) g.1 q)))
    go k f (inr g) (inr q) = absurd (apart q.0 (subst (λ k. IsPath ls k.«to» q.0 l.from) g.1 q.1.1.1))

-- ---- the effects of a path are among the first n

pub get-within : (n : ℕ) (ls : List LftDef) (m : ℕ) (l : LftDef) → AreWithin n ls → slice_get ls m ≡ Some l → IsWithin n l
get-within n [] m l h e = cc
get-within n (k ∷ ls) zero l h e = let same : k ≡ l = cc in subst (IsWithin n) same h.0
get-within n (k ∷ ls) (suc m) l h e = get-within n ls m l h.1 e

pub end-in : (n : ℕ) (ls : List LftDef) → AreWithin n ls → (D E : ℕ) (ns : List ℕ) → D < n → IsPath ls D ns E → E < n
end-in n ls r D E [] h p = subst (λ X. X < n) p h
end-in n ls r D E (m ∷ ns) h p = let l = there (slice_get ls m) _ p in end-in n ls r l.0.«to» E ns (get-within n ls m l.0 r l.1.0).1 l.1.1.1

pub start-in : (n : ℕ) (ls : List LftDef) → AreWithin n ls → (D E : ℕ) (ns : List ℕ) → E < n → IsPath ls D ns E → D < n
start-in n ls r D E [] h p = subst (λ X. X < n) (sym p) h
start-in n ls r D E (m ∷ ns) h p = let l = there (slice_get ls m) _ p in subst (λ X. X < n) l.1.1.0 (get-within n ls m l.0 r l.1.0).0

-- ---- a lift that makes no second path leaves the table sure

pub sure-more : (ls : List LftDef) (l : LftDef) → (SecondPath ls l → ⊥) → Sure ls → Sure (ls ++ l ∷ [])
sure-more ls l s sure D E ns p = more-lifts no_lifts 0 ls l D E ∙ same ∙ go (split ls l apart D E ns p)
  where
    apart : (bs : List ℕ) → IsPath ls l.«to» bs l.from → ⊥
    apart bs q = s (record { lower = l.from; upper = l.from; to_lift = []; from_lift = bs; already = []; begins = refl; ends = q; there = refl })

    same : with_lift (path ls) (0 + length ls) l D E ≡ with_lift (path ls) (length ls) l D E
    same = let e : 0 + length ls ≡ length ls = omega arith in ap (λ m. with_lift (path ls) m l D E) e

    go : IsPath ls D ns E ⊎ Through ls l D ns E → with_lift (path ls) (length ls) l D E ≡ Some ns
    go (inl q) = ap (λ o. or_else o (through (length ls) (path ls D l.from) (path ls l.«to» E))) (sure D E ns q)
    go (inr q) = new (path ls D E) refl
      where
        a : path ls D l.from ≡ Some q.0
        a = sure D l.from q.0 q.1.1.1

        b : path ls l.«to» E ≡ Some q.1.0
        b = sure l.«to» E q.1.0 q.1.1.2

        new : (o : Option (List ℕ)) → path ls D E ≡ o → with_lift (path ls) (length ls) l D E ≡ Some ns
        new (Some ms) c = absurd (s (record { lower = D; upper = E; to_lift = q.0; from_lift = q.1.0; already = ms; begins = q.1.1.1; ends = q.1.1.2; there = path-is ls D E ms c }))
        new None c = ap (λ o. or_else o (through (length ls) (path ls D l.from) (path ls l.«to» E))) c
            ∙ ap (λ o. through (length ls) o (path ls l.«to» E)) a ∙ ap (λ o. through (length ls) (Some q.0) o) b ∙ ap Some (sym q.1.1.0)
