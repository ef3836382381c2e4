-- Each entry of the table of paths is a path; and the path from an effect to itself is the empty one.
use Rattle.std.proofs.Common.{◌≡◌, ℕ, suc, ◌+◌, Bool, true, false, List, [], ◌∷◌, ◌++◌, slice_get, nat_eq, Option, Some, None, refl, sym, ap, ◌∙◌, subst, arith, if◌then◌else◌}
use Rattle.std.proofs.lemmas.Bool.Decides.{Decides-eqb}
use Rattle.fst_program.specs.Texts.{LftDef}
use Rattle.fst_program.specs.LiftPaths.{IsPath, Table, no_lifts, or_else, through, with_lift, with_lifts, path}
use Rattle.fst_program.proofs.ThereLemmas.{there, there-is}

path-append : (all : List LftDef) (D C E : ℕ) (ns ms : List ℕ) → IsPath all D ns C → IsPath all C ms E → IsPath all D (ns ++ ms) E
path-append all D C E [] ms p q = subst (λ X. IsPath all X ms E) (sym p) q
path-append all D C E (n ∷ ns) ms p q =
    let l = there (slice_get all n) _ p in
    there-is (slice_get all n) (λ l. (l.from ≡ D) × IsPath all l.«to» (ns ++ ms) E) l.0 l.1.0 (l.1.1.0, path-append all l.0.«to» C E ns ms l.1.1.1 q)

abbrev Sound : List LftDef → Table → Type 0
Sound all t = (D E : ℕ) (ns : List ℕ) → t D E ≡ Some ns → IsPath all D ns E

sound-lift : (all : List LftDef) (t : Table) (n : ℕ) (l : LftDef) → slice_get all n ≡ Some l → Sound all t → Sound all (with_lift t n l)
sound-lift all t n l g s D E ns e = go (t D E) refl (t D l.from) refl (t l.«to» E) refl e
  where
    go : (a : Option (List ℕ)) → t D E ≡ a → (b : Option (List ℕ)) → t D l.from ≡ b → (c : Option (List ℕ)) → t l.«to» E ≡ c → or_else a (through n b c) ≡ Some ns → IsPath all D ns E
    go (Some a) p b q c r e = s D E ns (p ∙ e)
    go None p None q c r e = cc
    go None p (Some b) q None r e = cc
    go None p (Some b) q (Some c) r e =
        let same : b ++ n ∷ c ≡ ns = cc in
        subst (λ ns. IsPath all D ns E) same
        (path-append all D l.from E b (n ∷ c) (s D l.from b q) (there-is (slice_get all n) (λ k. (k.from ≡ l.from) × IsPath all k.«to» c E) l g (refl, s l.«to» E c r)))

sound-lifts : (all : List LftDef) (t : Table) (n : ℕ) (ls : List LftDef) → ((i : ℕ) (l : LftDef) → slice_get ls i ≡ Some l → slice_get all (n + i) ≡ Some l) → Sound all t → Sound all (with_lifts t n ls)
sound-lifts all t n [] at s = s
sound-lifts all t n (l ∷ ls) at s =
    let here : n + 0 ≡ n = omega arith in
    sound-lifts all (with_lift t n l) (suc n) ls (λ i k g. let same : n + suc i ≡ suc n + i = omega arith in subst (λ j. slice_get all j ≡ Some k) same (at (suc i) k g))
    (sound-lift all t n l (subst (λ j. slice_get all j ≡ Some l) here (at 0 l refl)) s)

sound-none : (all : List LftDef) → Sound all no_lifts
sound-none all D E ns e = go (nat_eq D E) (λ p. (Decides-eqb D E).0 p) e
  where
    go : (b : Bool) → (b ≡ true → D ≡ E) → (if b then Some [] else None) ≡ Some ns → IsPath all D ns E
    go true p h = let q : [] ≡ ns = cc in subst (λ ns. IsPath all D ns E) q (p refl)
    go false p h = cc

pub path-is : (all : List LftDef) (D E : ℕ) (ns : List ℕ) → path all D E ≡ Some ns → IsPath all D ns E
path-is all = sound-lifts all no_lifts 0 all (λ i l g. let same : i ≡ 0 + i = omega arith in subst (λ j. slice_get all j ≡ Some l) same g) (sound-none all)

itself-lifts : (t : Table) (n : ℕ) (ls : List LftDef) (E : ℕ) → t E E ≡ Some [] → with_lifts t n ls E E ≡ Some []
itself-lifts t n [] E e = e
itself-lifts t n (l ∷ ls) E e = itself-lifts (with_lift t n l) (suc n) ls E (ap (λ o. or_else o (through n (t E l.from) (t l.«to» E))) e)

none-itself : (E : ℕ) → no_lifts E E ≡ Some []
none-itself E = ap (λ b. if b then Some [] else None) ((Decides-eqb E E).1 refl)

pub path-itself : (all : List LftDef) (E : ℕ) → path all E E ≡ Some []
path-itself all E = itself-lifts no_lifts 0 all E (none-itself E)
