-- From the table to the lattice, lift by lift.
use Rattle.std.proofs.Common.{◌≡◌, ◌⊎◌, inl, inr, ℕ, zero, suc, ◌+◌, ◌<◌, ◌≤◌, true, false, List, [], ◌∷◌, ◌++◌, length, take, map, slice_get, slice_index_or, get_or, Option, Some, None, refl, sym, ap, ◌∙◌, subst, arith, add-one}
use Rattle.fst_base.specs.declared.place.Pos.{Pos}
use Rattle.fst_base.specs.declared.rule.Rule.{Rule}
use Rattle.fst_base.specs.declared.rule.Rule.TheVariants as rule
use Rattle.fst_program.specs.declared.definition.LiftDef.{LiftDef}
use Rattle.fst_program.specs.Plain.{plain_lift}
use Rattle.fst_program.specs.Texts.{EffDef, LftDef}
use Rattle.fst_program.specs.LiftPaths.{IsPath, path}
use Rattle.fst_program.proofs.PathLemmas.{path-is}
use Rattle.fst_lattice.specs.Tables.{step_in, next_step, tabled, second_path}
use Rattle.fst_lattice.specs.Lattices.{Lowers, Keeps, KeepFrom, KeepRules, Breaks, IsRefused, IsWithin, AreWithin, IsLattice, first_of}
use Rattle.fst_lattice.proofs.PathTables.{Sure, sure-one, sure-none, sure-more, get-within}
use Rattle.fst_lattice.proofs.TableLemmas.{Tells, tells-none, tells-more, second-is, second-not}

-- what is known once these lifts are added
pub record Added (Es : List EffDef) (ls : List LftDef) (rows : List (List (Option ℕ))) : Type 0 where
  pub keep : KeepRules Es ls
  pub within : AreWithin (length Es) ls
  pub sure : Sure ls
  pub tells : Tells (length Es) rows (path ls)

pub added-none : (Es : List EffDef) → Added Es [] (tabled (λ D. tabled (λ E. None) (length Es)) (length Es))
added-none Es = record { keep = tt; within = tt; sure = sure-none; tells = tells-none (length Es) }

keep-more : (Es : List EffDef) (before ls : List LftDef) (l : LftDef) → KeepFrom Es before ls → Keeps Es (before ++ ls) l → KeepFrom Es before (ls ++ l ∷ [])
keep-more Es before [] l h k = (subst (λ b. Keeps Es b l) (none before) k, tt)
  where
    none : (xs : List LftDef) → xs ++ [] ≡ xs
    none [] = refl
    none (x ∷ xs) = ap (◌∷◌ x) (none xs)
keep-more Es before (m ∷ ls) l h k = (h.0, keep-more Es (before ++ m ∷ []) ls l h.1 (subst (λ b. Keeps Es b l) (again before) k))
  where
    again : (xs : List LftDef) → xs ++ (m ∷ ls) ≡ (xs ++ m ∷ []) ++ ls
    again [] = refl
    again (x ∷ xs) = ap (◌∷◌ x) (again xs)

within-more : (n : ℕ) (ls : List LftDef) (l : LftDef) → AreWithin n ls → IsWithin n l → AreWithin n (ls ++ l ∷ [])
within-more n [] l h k = (k, tt)
within-more n (m ∷ ls) l h k = (h.0, within-more n ls l h.1 k)

-- a lift that breaks no rule is added
pub added-more : (Es : List EffDef) (ls : List LftDef) (l : LftDef) (rows : List (List (Option ℕ))) (number : ℕ) → number ≡ length ls → IsWithin (length Es) l
    → (Lowers Es l → ⊥) → second_path rows l.from l.«to» (length Es) ≡ false → Added Es ls rows
    → Added Es (ls ++ l ∷ []) (tabled (λ D. tabled (λ E. next_step rows number l.from l.«to» D E) (length Es)) (length Es))
added-more Es ls l rows number is within base second a =
    let one = second-not (length Es) rows ls l within a.within a.sure a.tells second in
    record {
      keep = keep-more Es [] ls l a.keep (record { base = base; one_path = one });
      within = within-more (length Es) ls l a.within within;
      sure = sure-more ls l one a.sure;
      tells = tells-more (length Es) rows ls l number is within a.tells;
    }

-- all are added
pub added-lattice : (Es : List EffDef) (ls : List LftDef) (rows : List (List (Option ℕ))) → Added Es ls rows → IsLattice Es ls (step_in rows)
added-lattice Es ls rows a = record {
  keep = a.keep;
  one_path = sure-one ls a.sure;
  first = a.tells;
  some = λ D E n d e q. some D E n (path ls D E) refl (sym (a.tells D E d e) ∙ q);
  none = λ D E d e q ns p. none ns (sym (ap first_of (a.sure D E ns p)) ∙ sym (a.tells D E d e) ∙ q);
}
  where
    some : (D E n : ℕ) (o : Option (List ℕ)) → path ls D E ≡ o → first_of (path ls D E) ≡ Some n → (ns : List ℕ) × IsPath ls D (n ∷ ns) E
    some D E n None p q = let bad = sym (ap first_of p) ∙ q in cc
    some D E n (Some []) p q = let bad = sym (ap first_of p) ∙ q in cc
    some D E n (Some (m ∷ ns)) p q =
        let same : m ≡ n = (let s = sym (ap first_of p) ∙ q in cc) in
        (ns, subst (λ m. IsPath ls D (m ∷ ns) E) same (path-is ls D E (m ∷ ns) p))

    none : (ns : List ℕ) → first_of (Some ns) ≡ None → ns ≡ []
    none [] q = refl
    none (n ∷ ns) q = cc

-- ---- the lists of the code, item by item

take-next : {A : Type 0} (xs : List A) (k : ℕ) (x : A) → slice_get xs k ≡ Some x → take (k + 1) xs ≡ take k xs ++ x ∷ []
take-next xs k x e = rw add-one (go xs k e)
  where
    go : {A : Type 0} (xs : List A) (k : ℕ) {x : A} → slice_get xs k ≡ Some x → take (suc k) xs ≡ take k xs ++ x ∷ []
    go [] k e = cc
    go (y ∷ xs) zero e = cc
    go (y ∷ xs) (suc k) e = ap (◌∷◌ y) (go xs k e)

take-length : {A : Type 0} (xs : List A) (k : ℕ) (x : A) → slice_get xs k ≡ Some x → k ≡ length (take k xs)
take-length [] k x e = cc
take-length (y ∷ xs) zero x e = refl
take-length (y ∷ xs) (suc k) x e = ap suc (take-length xs k x e)

take-all : {A : Type 0} (xs : List A) (k : ℕ) → length xs ≤ k → take k xs ≡ xs
take-all [] zero h = refl
take-all [] (suc k) h = refl
take-all (x ∷ xs) zero h = absurd (omega (arith, h))
take-all (x ∷ xs) (suc k) h = ap (◌∷◌ x) (take-all xs k (omega (arith, h)))

split-at : {A : Type 0} (xs : List A) (k : ℕ) (x : A) → slice_get xs k ≡ Some x → (after : List A) × (xs ≡ take k xs ++ x ∷ after)
split-at [] k x e = cc
split-at (y ∷ xs) zero x e = (xs, cc)
split-at (y ∷ xs) (suc k) x e = let z = split-at xs k x e in (z.0, ap (◌∷◌ y) z.1)

pub lift-at : (xs : List LiftDef) (k : ℕ) (x : LiftDef) → k < length xs → x ≡ get_or xs k x → slice_get (map plain_lift xs) k ≡ Some (plain_lift x)
lift-at [] k x h e = absurd (omega (arith, h))
lift-at (y ∷ xs) zero x h e = ap (λ z. Some (plain_lift z)) (sym e)
lift-at (y ∷ xs) (suc k) x h e = lift-at xs k x (omega (arith, h)) e

pub place-at : (xs : List Pos) (k : ℕ) (d : Pos) → k < length xs → slice_get xs k ≡ Some (slice_index_or xs k d)
place-at [] k d h = absurd (omega (arith, h))
place-at (y ∷ xs) zero d h = refl
place-at (y ∷ xs) (suc k) d h = place-at xs k d (omega (arith, h))

module _ (Es : List EffDef) (ls : List LftDef) (rows : List (List (Option ℕ))) (k : ℕ) (l : LftDef) (there : slice_get ls k ≡ Some l) (all : AreWithin (length Es) ls) (a : Added Es (take k ls) rows) where
  -- the loop goes on
  pub next-added : (n number : ℕ) → n ≡ length Es → number ≡ k → (next : List (List (Option ℕ))) → next ≡ tabled (λ D. tabled (λ E. next_step rows number l.from l.«to» D E) n) n
      → (Lowers Es l → ⊥) → second_path rows l.from l.«to» n ≡ false → Added Es (take (k + 1) ls) next
  next-added n number q j next r base second =
      let made : next ≡ tabled (λ D. tabled (λ E. next_step rows number l.from l.«to» D E) (length Es)) (length Es) = subst (λ n. next ≡ tabled (λ D. tabled (λ E. next_step rows number l.from l.«to» D E) n) n) q r in
      subst (λ ls. Added Es ls next) (sym (take-next ls k l there))
      (subst (λ rows. Added Es (take k ls ++ l ∷ []) rows) (sym made)
      (added-more Es (take k ls) l rows number (j ∙ take-length ls k l there) (get-within (length Es) ls k l all there) base (subst (λ n. second_path rows l.from l.«to» n ≡ false) q second) a))

  -- the loop ends at a broken rule
  pub refused-here : (n : ℕ) → n ≡ length Es → (places : List Pos) (broken : Rule) (at : Pos) → slice_get places k ≡ Some at
      → ((broken ≡ rule.NoLift) × Lowers Es l) ⊎ ((broken ≡ rule.TwoPaths) × (Lowers Es l → ⊥) × (second_path rows l.from l.«to» n ≡ true))
      → IsRefused Es ls places broken at
  refused-here n q places broken at p b =
      let z = split-at ls k l there in
      record { before = take k ls; lift = l; after = z.0; lifts = z.1; kept = a.keep; place = subst (λ i. slice_get places i ≡ Some at) (take-length ls k l there) p; breaks = breaks b }
    where
      breaks : ((broken ≡ rule.NoLift) × Lowers Es l) ⊎ ((broken ≡ rule.TwoPaths) × (Lowers Es l → ⊥) × (second_path rows l.from l.«to» n ≡ true)) → Breaks Es (take k ls) l broken
      breaks (inl h) = inl h
      breaks (inr h) = inr (h.0, h.1, second-is (length Es) rows (take k ls) l (get-within (length Es) ls k l all there) a.tells (subst (λ n. second_path rows l.from l.«to» n ≡ true) q h.2))

-- the loop begins
pub begun : (Es : List EffDef) (n : ℕ) (rows : List (List (Option ℕ))) → n ≡ length Es → rows ≡ tabled (λ D. tabled (λ E. None) n) n → Added Es [] rows
begun Es n rows q r = subst (λ rows. Added Es [] rows) (sym (subst (λ n. rows ≡ tabled (λ D. tabled (λ E. None) n) n) q r)) (added-none Es)

-- the loop has gone over all lifts
pub ended : (Es : List EffDef) (ls : List LftDef) (rows : List (List (Option ℕ))) (k : ℕ) → length ls ≤ k → Added Es (take k ls) rows → IsLattice Es ls (step_in rows)
ended Es ls rows k h a = added-lattice Es ls rows (subst (λ ls. Added Es ls rows) (take-all ls k h) a)
