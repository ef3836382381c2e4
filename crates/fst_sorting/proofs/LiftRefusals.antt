-- Lifts that keep the rules of the lattice break none, and the first lift that breaks one is the one that answers, since the places of
-- lifts ascend.
use Rattle.std.proofs.Common.{◌≡◌, ◌⊎◌, inl, inr, ℕ, zero, suc, ◌<◌, Bool, true, false, ◌&&◌, ◌||◌, List, [], ◌∷◌, ◌++◌, length, map, slice_get, nat_eq, nat_le, nat_lt, Option, Some, None, refl, ap, ◌∙◌, subst, sym, arith, if◌then◌else◌}
use Rattle.std.specs.Prelude.{⊤}
use Rattle.std.proofs.lemmas.Bool.Decides.{Decides-eqb, leb_tells}
use Rattle.std.proofs.lemmas.List.{append-nil, append_assoc}
use Rattle.fst_base.specs.declared.place.Pos.{Pos}
use Rattle.fst_base.specs.declared.rule.Rule.{Rule}
use Rattle.fst_base.specs.declared.rule.Rule.TheVariants as rule
use Rattle.fst_names.specs.declared.broken.Broken.{Broken}
use Rattle.fst_names.specs.Broken.{breaks, first_broken, is_before, least, number}
use Rattle.fst_program.specs.declared.effect.Effect.{Effect}
use Rattle.fst_program.specs.declared.effect.Effect.TheVariants as effect
use Rattle.fst_program.specs.Texts.{EffDef, LftDef, if_there, is_pure}
use Rattle.fst_program.specs.LiftPaths.{path}
use Rattle.fst_program.proofs.PathLemmas.{path-is}
use Rattle.fst_lattice.specs.Lattices.{AreWithin, Breaks, IsRefused, IsWithin, KeepFrom, KeepRules, Lowers, SecondPath}
use Rattle.fst_lattice.specs.Tables.{is_there, some_below}
use Rattle.fst_lattice.proofs.PathTables.{sure-none}
use Rattle.fst_effects.specs.Known.{is_div}
use Rattle.fst_sorting.specs.Lifts.{base_at, second_path, broken_by, broken_lifts}
use Rattle.fst_sorting.specs.Ascending.{Above, Ascend}
use Rattle.fst_sorting.proofs.BasicLemmas.{and-left, and-right}
use Rattle.fst_sorting.proofs.PathLemmas.{kept-sure, not-lowered, not-second}

-- ---- what the tests say

div-base : (o : Option EffDef) → is_div (base_at o) ≡ true → if_there o (λ d. d.base ≡ effect.Div) ⊥
div-base None e = cc
div-base (Some d) e = go d.base e
  where
    go : (x : Effect) → is_div x ≡ true → x ≡ effect.Div
    go effect.Div e = refl
    go effect.Pure e = cc
    go effect.Ghost e = cc
    go (effect.User n) e = cc

pure-base : (o : Option EffDef) → is_pure (base_at o) ≡ true → if_there o (λ d. d.base ≡ effect.Pure) ⊥
pure-base None e = cc
pure-base (Some d) e = go d.base e
  where
    go : (x : Effect) → is_pure x ≡ true → x ≡ effect.Pure
    go effect.Pure e = refl
    go effect.Div e = cc
    go effect.Ghost e = cc
    go (effect.User n) e = cc

below-true : (n : ℕ) (test : ℕ → Bool) → some_below n test ≡ true → (i : ℕ) × (test i ≡ true)
below-true zero test e = cc
below-true (suc n) test e = go (some_below n test) (λ q. below-true n test q) e
  where
    go : (t : Bool) → (t ≡ true → (i : ℕ) × (test i ≡ true)) → t || test n ≡ true → (i : ℕ) × (test i ≡ true)
    go true rest f = rest refl
    go false rest f = (n, f)

there-path : (o : Option (List ℕ)) → is_there o ≡ true → (ns : List ℕ) × (o ≡ Some ns)
there-path None e = cc
there-path (Some ns) e = (ns, refl)

or-true : (b : Bool) → b || true ≡ true
or-true true = refl
or-true false = refl

not-true : (b : Bool) → (b ≡ true → ⊥) → b ≡ false
not-true true f = absurd (f refl)
not-true false f = refl

not-false : (b : Bool) → (b ≡ false → ⊥) → b ≡ true
not-false true f = refl
not-false false f = absurd (f refl)

module _ (Es : List EffDef) where
  abbrev lowers : LftDef → Bool
  lowers l = is_div (base_at (slice_get Es l.from)) && is_pure (base_at (slice_get Es l.«to»))

  lowers-is : (l : LftDef) → lowers l ≡ true → Lowers Es l
  lowers-is l e = (div-base (slice_get Es l.from) (and-left (is_div (base_at (slice_get Es l.from))) _ e), pure-base (slice_get Es l.«to») (and-right (is_div (base_at (slice_get Es l.from))) _ e))

  second-is : (ls : List LftDef) (l : LftDef) → second_path Es ls l ≡ true → SecondPath ls l
  second-is ls l e =
      let D = below-true (length Es) _ e in
      let lower = there-path (path ls D.0 l.from) (and-left (is_there (path ls D.0 l.from)) _ D.1) in
      let E = below-true (length Es) _ (and-right (is_there (path ls D.0 l.from)) _ D.1) in
      let upper = there-path (path ls l.«to» E.0) (and-left (is_there (path ls l.«to» E.0)) _ E.1) in
      let whole = there-path (path ls D.0 E.0) (and-right (is_there (path ls l.«to» E.0)) _ E.1) in
      record {
        lower = D.0;
        upper = E.0;
        to_lift = lower.0;
        from_lift = upper.0;
        already = whole.0;
        begins = path-is ls D.0 l.from lower.0 lower.1;
        ends = path-is ls l.«to» E.0 upper.0 upper.1;
        there = path-is ls D.0 E.0 whole.0 whole.1;
      }

  -- ---- lifts that keep the rules

  abbrev by_tests : (s t : Bool) → (at : ℕ) → List Broken
  by_tests s t at = (if s then breaks rule.NoLift at else []) ++ (if t then breaks rule.TwoPaths at else [])

  keeps-none : (ls : List LftDef) (l : LftDef) (at : ℕ) → (Lowers Es l → ⊥) → (SecondPath ls l → ⊥) → broken_by Es ls l at ≡ []
  keeps-none ls l at f g =
      ap (λ s. by_tests s (second_path Es ls l) at) (not-true (lowers l) (λ e. f (lowers-is l e)))
      ∙ ap (λ t. by_tests false t at) (not-true (second_path Es ls l) (λ e. g (second-is ls l e)))

  kept-from : (ls more : List LftDef) (ats : List ℕ) → KeepFrom Es ls more → broken_lifts Es ls more ats ≡ []
  kept-from ls [] ats k = refl
  kept-from ls (l ∷ more) [] k = refl
  kept-from ls (l ∷ more) (at ∷ ats) k = ap (λ bs. bs ++ broken_lifts Es (ls ++ l ∷ []) more ats) (keeps-none ls l at k.0.base k.0.one_path) ∙ kept-from (ls ++ l ∷ []) more ats k.1

  -- lifts that keep the rules of the lattice break none
  pub kept-unbroken : (ls : List LftDef) (ats : List ℕ) → KeepRules Es ls → broken_lifts Es [] ls ats ≡ []
  kept-unbroken ls ats k = kept-from [] ls ats k

-- ---- what is broken above a place

abbrev Higher : ℕ → Option Broken → Type 0
Higher p None = ⊤
Higher p (Some b) = p < b.at.at

abbrev AllHigher : ℕ → List Broken → Type 0
AllHigher p [] = ⊤
AllHigher p (b ∷ bs) = (p < b.at.at) × AllHigher p bs

least-higher : (p : ℕ) (b : Broken) (o : Option Broken) → p < b.at.at → Higher p o → Higher p (least (Some b) o)
least-higher p b None h k = h
least-higher p b (Some c) h k = go (is_before b c)
  where
    go : (t : Bool) → Higher p (if t then Some b else Some c)
    go true = h
    go false = k

first-higher : (p : ℕ) (bs : List Broken) → AllHigher p bs → Higher p (first_broken bs)
first-higher p [] h = tt
first-higher p (b ∷ bs) h = least-higher p b (first_broken bs) h.0 (first-higher p bs h.1)

lt-true : (p q : ℕ) → p < q → nat_lt p q ≡ true
lt-true p q h = go (leb_tells (suc p) q)
  where
    go : ((nat_lt p q ≡ true) × (p < q)) ⊎ ((nat_lt p q ≡ false) × (q < suc p)) → nat_lt p q ≡ true
    go (inl a) = a.0
    go (inr a) = let k = a.1 in absurd (omega arith)

-- one at the place comes first
before-higher : (b : Broken) (o : Option Broken) → Higher b.at.at o → least (Some b) o ≡ Some b
before-higher b None h = refl
before-higher b (Some c) h = ap (λ t. if t || (nat_eq b.at.at c.at.at && nat_le (number b.rule) (number c.rule)) then Some b else Some c) (lt-true b.at.at c.at.at h)

module _ (Es : List EffDef) where
  by-higher : (p at : ℕ) (s t : Bool) → p < at → (bs : List Broken) → AllHigher p bs → AllHigher p (by_tests Es s t at ++ bs)
  by-higher p at true true h bs k = (h, (h, k))
  by-higher p at true false h bs k = (h, k)
  by-higher p at false true h bs k = (h, k)
  by-higher p at false false h bs k = k

  lifts-higher : (p : ℕ) (ls more : List LftDef) (ats : List ℕ) → Above p ats → AllHigher p (broken_lifts Es ls more ats)
  lifts-higher p ls [] ats h = tt
  lifts-higher p ls (l ∷ more) [] h = tt
  lifts-higher p ls (l ∷ more) (at ∷ ats) h = by-higher p at (lowers Es l) (second_path Es ls l) h.0 (broken_lifts Es (ls ++ l ∷ []) more ats) (lifts-higher p (ls ++ l ∷ []) more ats h.1)

  -- ---- a refusal

  -- at one place the rule on bases comes before that on paths
  base-first : (at : Pos) → least (Some (record { at = at; rule = rule.NoLift })) (Some (record { at = at; rule = rule.TwoPaths })) ≡ Some (record { at = at; rule = rule.NoLift })
  base-first at =
      ap (λ t. if nat_lt at.at at.at || (t && true) then Some (record { at = at; rule = rule.NoLift }) else Some (record { at = at; rule = rule.TwoPaths })) ((Decides-eqb at.at at.at).1 refl)
      ∙ ap (λ t. if t then Some (record { at = at; rule = rule.NoLift }) else Some (record { at = at; rule = rule.TwoPaths })) (or-true (nat_lt at.at at.at))

  -- the rule that the lift breaks answers, where what is broken behind it stands above
  broken-first : (before : List LftDef) (l : LftDef) (r : Rule) (at : Pos) (bs : List Broken) → KeepRules Es before → AreWithin (length Es) before → IsWithin (length Es) l
      → Breaks Es before l r → AllHigher at.at bs → first_broken (broken_by Es before l at.at ++ bs) ≡ Some (record { at = at; rule = r })
  broken-first before l r at bs k w v (inl h) up = base (lowers Es l) (second_path Es before l) (not-false (lowers Es l) (λ e. not-lowered Es l e h.1))
    where
      named : (q : Rule) → first_broken (by_tests Es true false at.at ++ bs) ≡ Some (record { at = at; rule = rule.NoLift })
      named q = before-higher (record { at = at; rule = rule.NoLift }) (first_broken bs) (first-higher at.at bs up)

      base : (s t : Bool) → s ≡ true → first_broken (by_tests Es s t at.at ++ bs) ≡ Some (record { at = at; rule = r })
      base true true e =
          ap (least (Some (record { at = at; rule = rule.NoLift }))) (before-higher (record { at = at; rule = rule.TwoPaths }) (first_broken bs) (first-higher at.at bs up))
          ∙ base-first at ∙ ap (λ q. Some (record { at = at; rule = q })) (sym h.0)
      base true false e = named r ∙ ap (λ q. Some (record { at = at; rule = q })) (sym h.0)
      base false t e = cc
  broken-first before l r at bs k w v (inr h) up =
      paths (lowers Es l) (second_path Es before l) (not-true (lowers Es l) (λ e. h.1 (lowers-is Es l e)))
      (not-false (second_path Es before l) (λ e. not-second Es before l w v (kept-sure Es [] before k sure-none) e h.2))
    where
      paths : (s t : Bool) → s ≡ false → t ≡ true → first_broken (by_tests Es s t at.at ++ bs) ≡ Some (record { at = at; rule = r })
      paths false true e f = before-higher (record { at = at; rule = rule.TwoPaths }) (first_broken bs) (first-higher at.at bs up) ∙ ap (λ q. Some (record { at = at; rule = q })) (sym h.0)
      paths true t e f = cc
      paths false false e f = cc

  -- behind lifts that keep the rules
  from-lift : (ls before : List LftDef) (l : LftDef) (after : List LftDef) (ps : List Pos) (r : Rule) (at : Pos) → KeepFrom Es ls before → KeepRules Es (ls ++ before) → AreWithin (length Es) (ls ++ before) → IsWithin (length Es) l
      → Breaks Es (ls ++ before) l r → slice_get ps (length before) ≡ Some at → Ascend (map (λ p. p.at) ps)
      → first_broken (broken_lifts Es ls (before ++ l ∷ after) (map (λ p. p.at) ps)) ≡ Some (record { at = at; rule = r })
  from-lift ls [] l after [] r at k a w v b e u = cc
  from-lift ls [] l after (p ∷ ps) r at k a w v b e u =
      let same : p ≡ at = cc in
      let all : ls ++ [] ≡ ls = append-nil ls in
      subst (λ q. first_broken (broken_by Es ls l q.at ++ broken_lifts Es (ls ++ l ∷ []) after (map (λ p. p.at) ps)) ≡ Some (record { at = at; rule = r })) (sym same)
      (broken-first ls l r at (broken_lifts Es (ls ++ l ∷ []) after (map (λ p. p.at) ps)) (subst (KeepRules Es) all a) (subst (AreWithin (length Es)) all w) v
      (subst (λ zs. Breaks Es zs l r) all b) (lifts-higher at.at (ls ++ l ∷ []) after (map (λ p. p.at) ps) (subst (λ q. Above q.at (map (λ p. p.at) ps)) same u.0)))
  from-lift ls (m ∷ before) l after [] r at k a w v b e u = cc
  from-lift ls (m ∷ before) l after (p ∷ ps) r at k a w v b e u =
      let all : (ls ++ m ∷ []) ++ before ≡ ls ++ m ∷ before = append_assoc ls (m ∷ []) before in
      ap (λ bs. first_broken (bs ++ broken_lifts Es (ls ++ m ∷ []) (before ++ l ∷ after) (map (λ p. p.at) ps))) (keeps-none Es ls m p.at k.0.base k.0.one_path)
      ∙ from-lift (ls ++ m ∷ []) before l after ps r at k.1 (subst (KeepRules Es) (sym all) a) (subst (AreWithin (length Es)) (sym all) w) v (subst (λ zs. Breaks Es zs l r) (sym all) b) e u.1

  within-before : (before more : List LftDef) → AreWithin (length Es) (before ++ more) → AreWithin (length Es) before
  within-before [] more w = tt
  within-before (l ∷ before) more w = (w.0, within-before before more w.1)

  within-at : (before : List LftDef) (l : LftDef) (after : List LftDef) → AreWithin (length Es) (before ++ l ∷ after) → IsWithin (length Es) l
  within-at [] l after w = w.0
  within-at (m ∷ before) l after w = within-at before l after w.1

  -- what the lattice refuses is what answers
  pub refused-first : (ls : List LftDef) (ps : List Pos) (r : Rule) (at : Pos) → IsRefused Es ls ps r at → AreWithin (length Es) ls → Ascend (map (λ p. p.at) ps)
      → first_broken (broken_lifts Es [] ls (map (λ p. p.at) ps)) ≡ Some (record { at = at; rule = r })
  refused-first ls ps r at h w u =
      let v : AreWithin (length Es) (h.before ++ h.lift ∷ h.after) = subst (AreWithin (length Es)) h.lifts w in
      ap (λ zs. first_broken (broken_lifts Es [] zs (map (λ p. p.at) ps))) h.lifts
      ∙ from-lift [] h.before h.lift h.after ps r at h.kept h.kept (within-before h.before (h.lift ∷ h.after) v) (within-at h.before h.lift h.after v) h.breaks h.place u
