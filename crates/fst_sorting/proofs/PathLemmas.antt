-- Lifts that break no rule keep those of the lattice: no base DIV is lifted to base PURE, and there is one path at most.
use Rattle.std.proofs.Common.{◌≡◌, ℕ, zero, suc, ◌<◌, Bool, true, false, ◌&&◌, ◌||◌, List, [], ◌∷◌, ◌++◌, length, slice_get, nat_eq, Option, Some, None, refl, ap, ◌∙◌, subst, sym, arith, if◌then◌else◌}
use Rattle.std.proofs.lemmas.Bool.Decides.{Decides-eqb}
use Rattle.std.proofs.lemmas.List.{append-nil, append_assoc}
use Rattle.fst_base.specs.declared.rule.Rule.TheVariants as rule
use Rattle.fst_names.specs.Broken.{breaks}
use Rattle.fst_program.specs.declared.effect.Effect.TheVariants as effect
use Rattle.fst_program.specs.Texts.{EffDef, LftDef, if_there, is_pure}
use Rattle.fst_program.specs.LiftPaths.{HasOnePath, path}
use Rattle.fst_lattice.specs.Lattices.{Lowers, SecondPath, KeepFrom, KeepRules, IsWithin, AreWithin}
use Rattle.fst_lattice.specs.Tables.{is_there, some_below}
use Rattle.fst_lattice.proofs.PathTables.{Sure, sure-one, sure-none, sure-more, start-in, end-in}
use Rattle.fst_effects.specs.Known.{is_div}
use Rattle.fst_sorting.specs.Lifts.{base_at, second_path, broken_by, broken_lifts}
use Rattle.fst_sorting.proofs.BasicLemmas.{none-left, none-right}

near : (i n : ℕ) → i < suc n → (i ≡ n → ⊥) → i < n
near i n h f = omega arith

below-false : (n : ℕ) (test : ℕ → Bool) (i : ℕ) → some_below n test ≡ false → i < n → test i ≡ false
below-false zero test i e h = absurd (omega arith)
below-false (suc n) test i e h = go (some_below n test) refl (nat_eq i n) (λ p. (Decides-eqb i n).0 p) (λ p. (Decides-eqb i n).1 p) e (λ f g. below-false n test i f g)
  where
    go : (t : Bool) → some_below n test ≡ t → (b : Bool) → (b ≡ true → i ≡ n) → (i ≡ n → b ≡ true) → t || test n ≡ false → (some_below n test ≡ false → i < n → test i ≡ false) → test i ≡ false
    go true q b p r e rest = cc
    go false q true p r e rest = ap test (p refl) ∙ e
    go false q false p r e rest = rest q (near i n h (λ f. let g = r f in cc))

after-true : (a b : Bool) → a ≡ true → a && b ≡ false → b ≡ false
after-true true b e f = f
after-true false b e f = cc

chosen : {A : Type 0} (t : Bool) (x : A) (xs : List A) → (if t then x ∷ xs else []) ≡ [] → t ≡ false
chosen true x xs e = cc
chosen false x xs e = refl

div-is : (o : Option EffDef) → if_there o (λ d. d.base ≡ effect.Div) ⊥ → is_div (base_at o) ≡ true
div-is None h = absurd h
div-is (Some d) h = ap is_div h

pure-is : (o : Option EffDef) → if_there o (λ d. d.base ≡ effect.Pure) ⊥ → is_pure (base_at o) ≡ true
pure-is None h = absurd h
pure-is (Some d) h = ap is_pure h

module _ (Es : List EffDef) where
  pub not-second : (ls : List LftDef) (l : LftDef) → AreWithin (length Es) ls → IsWithin (length Es) l → Sure ls → second_path Es ls l ≡ false → SecondPath ls l → ⊥
  not-second ls l r w s e p =
      let low = start-in (length Es) ls r p.lower l.from p.to_lift w.0 p.begins in
      let up = end-in (length Es) ls r l.«to» p.upper p.from_lift w.1 p.ends in
      let one = below-false (length Es) (λ D. is_there (path ls D l.from) && some_below (length Es) (λ E. is_there (path ls l.«to» E) && is_there (path ls D E))) p.lower e low in
      let two = after-true (is_there (path ls p.lower l.from)) _ (ap is_there (s p.lower l.from p.to_lift p.begins)) one in
      let three = below-false (length Es) (λ E. is_there (path ls l.«to» E) && is_there (path ls p.lower E)) p.upper two up in
      let four = after-true (is_there (path ls l.«to» p.upper)) _ (ap is_there (s l.«to» p.upper p.from_lift p.ends)) three in
      let five : is_there (path ls p.lower p.upper) ≡ true = ap is_there (s p.lower p.upper p.already p.there) in cc

  pub not-lowered : (l : LftDef) → is_div (base_at (slice_get Es l.from)) && is_pure (base_at (slice_get Es l.«to»)) ≡ false → Lowers Es l → ⊥
  not-lowered l e h =
      let two = after-true (is_div (base_at (slice_get Es l.from))) _ (div-is (slice_get Es l.from) h.0) e in
      let three = pure-is (slice_get Es l.«to») h.1 in cc

  within-more : (ls : List LftDef) (l : LftDef) → AreWithin (length Es) ls → IsWithin (length Es) l → AreWithin (length Es) (ls ++ l ∷ [])
  within-more [] l r w = (w, tt)
  within-more (k ∷ ls) l r w = (r.0, within-more ls l r.1 w)

  keep-from : (ls more : List LftDef) (ats : List ℕ) → length ats ≡ length more → AreWithin (length Es) ls → AreWithin (length Es) more → broken_lifts Es ls more ats ≡ [] → Sure ls → KeepFrom Es ls more
  keep-from ls [] ats n r q b s = tt
  keep-from ls (l ∷ more) [] n r q b s = cc
  keep-from ls (l ∷ more) (at ∷ ats) n r q b s =
      let m : length ats ≡ length more = cc in
      let own = none-left (broken_by Es ls l at) _ b in
      let base = chosen (is_div (base_at (slice_get Es l.from)) && is_pure (base_at (slice_get Es l.«to»))) _ _ (none-left _ (if second_path Es ls l then breaks rule.TwoPaths at else []) own) in
      let second = chosen (second_path Es ls l) _ _ (none-right (if is_div (base_at (slice_get Es l.from)) && is_pure (base_at (slice_get Es l.«to»)) then breaks rule.NoLift at else []) _ own) in
      let one = not-second ls l r q.0 s second in (
        record { base = not-lowered l base; one_path = one },
        keep-from (ls ++ l ∷ []) more ats m (within-more ls l r q.0) q.1 (none-right (broken_by Es ls l at) _ b) (sure-more ls l one s),
      )

  pub kept-sure : (ls more : List LftDef) → KeepFrom Es ls more → Sure ls → Sure (ls ++ more)
  kept-sure ls [] k s = subst Sure (sym (append-nil ls)) s
  kept-sure ls (l ∷ more) k s = subst Sure (append_assoc ls (l ∷ []) more) (kept-sure (ls ++ l ∷ []) more k.1 (sure-more ls l k.0.one_path s))

  -- lifts that break no rule keep the rules of the lattice
  pub unbroken-keep : (ls : List LftDef) (ats : List ℕ) → length ats ≡ length ls → AreWithin (length Es) ls → broken_lifts Es [] ls ats ≡ [] → KeepRules Es ls
  unbroken-keep ls ats n r b = keep-from [] ls ats n tt r b sure-none

  pub keep-one : (ls : List LftDef) → KeepRules Es ls → HasOnePath ls
  keep-one ls k = sure-one ls (kept-sure [] ls k sure-none)

  keep-base-from : (ls more : List LftDef) (n : ℕ) (l : LftDef) → KeepFrom Es ls more → slice_get more n ≡ Some l → Lowers Es l → ⊥
  keep-base-from ls [] n l k e = cc
  keep-base-from ls (m ∷ more) zero l k e = let p : m ≡ l = cc in subst (λ l. Lowers Es l → ⊥) p k.0.base
  keep-base-from ls (m ∷ more) (suc n) l k e = keep-base-from (ls ++ m ∷ []) more n l k.1 e

  pub keep-base : (ls : List LftDef) (n : ℕ) (l : LftDef) → KeepRules Es ls → slice_get ls n ≡ Some l → Lowers Es l → ⊥
  keep-base ls n l k e = keep-base-from [] ls n l k e
