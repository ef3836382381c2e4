-- The table of paths beside the lattice.
use Rattle.std.proofs.Common.{◌≡◌, ◌⊎◌, inl, inr, ℕ, ◌<◌, ◌≤◌, Bool, true, false, List, [], ◌∷◌, map, length, slice_get, nat_eq, Option, Some, None, Result, Ok, Err, IfOk, refl, sym, ap, ◌∙◌, subst, arith, if◌then◌else◌}
use Rattle.std.proofs.lemmas.Bool.{cases_lt}
use Rattle.std.proofs.lemmas.Bool.Decides.{Decides-eqb}
use Rattle.std.proofs.lemmas.List.{length-map}
use Rattle.std.proofs.lemmas.Option.{slice_get_past}
use Rattle.fst_program.specs.Texts.{EffDef, LftDef}
use Rattle.fst_program.specs.declared.definition.EffectDef.{EffectDef}
use Rattle.fst_program.specs.Plain.{plain_effect}
use Rattle.fst_program.specs.LiftPaths.{IsPath, path}
use Rattle.fst_program.proofs.ThereLemmas.{there}
use Rattle.fst_program.proofs.PathLemmas.{path-is, path-itself}
use Rattle.fst_lattice.specs.Tables.{tabled}
use Rattle.fst_lattice.specs.Lattices.{AreWithin, IsLattice, first_of}
use Rattle.fst_lattice.proofs.PathTables.{end-in, get-within}
use Rattle.fst_lattice.proofs.TableLemmas.{tabled-get, tabled-length}
use Rattle.fst_sorting.specs.Routes.{Leads, lifts_on}
use Rattle.fst_sorting.specs.Sites.{path_in, entry_in}

-- ---- one step

pub next-none : (n : ℕ) (ls : List LftDef) (step : ℕ → ℕ → Option ℕ) (D E : ℕ) → Leads n ls step → D < n → E < n → step D E ≡ None → lifts_on (path ls D E) ≡ []
next-none n ls step D E w d e q = go (path ls D E) (sym (w.first D E d e) ∙ q)
  where
    go : (o : Option (List ℕ)) → first_of o ≡ None → lifts_on o ≡ []
    go None h = refl
    go (Some []) h = refl
    go (Some (m ∷ ms)) h = cc

-- the path's first lift, and the path from where it leads
first-is : (o : Option (List ℕ)) (k : ℕ) → first_of o ≡ Some k → (ns : List ℕ) × (o ≡ Some (k ∷ ns))
first-is None k h = cc
first-is (Some []) k h = cc
first-is (Some (m ∷ ms)) k h = (ms, (let e : m ≡ k = cc in ap (λ i. Some (i ∷ ms)) e))

behind : (n : ℕ) (ls : List LftDef) (step : ℕ → ℕ → Option ℕ) (D E k : ℕ) → Leads n ls step → D < n → E < n → step D E ≡ Some k → (ns : List ℕ) × ((path ls D E ≡ Some (k ∷ ns)) × IsPath ls D (k ∷ ns) E)
behind n ls step D E k w d e q =
    let f = first-is (path ls D E) k (sym (w.first D E d e) ∙ q) in (f.0, (f.1, path-is ls D E (k ∷ f.0) f.1))

pub next-there : (n : ℕ) (ls : List LftDef) (step : ℕ → ℕ → Option ℕ) (D E k : ℕ) → Leads n ls step → D < n → E < n → step D E ≡ Some k → slice_get ls k ≡ None → ⊥
next-there n ls step D E k w d e q h = let b = behind n ls step D E k w d e q in let l = there (slice_get ls k) _ b.1.1 in let g = l.1.0 in cc

pub next-some : (n : ℕ) (ls : List LftDef) (step : ℕ → ℕ → Option ℕ) (D E k : ℕ) (l : LftDef) → Leads n ls step → D < n → E < n → step D E ≡ Some k → slice_get ls k ≡ Some l
    → lifts_on (path ls D E) ≡ k ∷ lifts_on (path ls l.«to» E)
next-some n ls step D E k l w d e q h =
    let b = behind n ls step D E k w d e q in
    let m = there (slice_get ls k) _ b.1.1 in
    let same : m.0 ≡ l = let g = m.1.0 in cc in
    let rest = subst (λ l. IsPath ls l.«to» b.0 E) same m.1.1.1 in
    ap lifts_on b.1.0 ∙ ap (λ o. k ∷ lifts_on o) (sym (w.sure l.«to» E b.0 rest))

pub next-within : (n : ℕ) (ls : List LftDef) (step : ℕ → ℕ → Option ℕ) (k : ℕ) (l : LftDef) → Leads n ls step → slice_get ls k ≡ Some l → l.«to» < n
next-within n ls step k l w h = (get-within n ls k l w.within h).1

-- ---- an entry

pub entry-same : (ls : List LftDef) (D E : ℕ) → D ≡ E → path ls D E ≡ Some []
entry-same ls D E q = subst (λ X. path ls D X ≡ Some []) q (path-itself ls D)

pub entry-some : (n : ℕ) (ls : List LftDef) (step : ℕ → ℕ → Option ℕ) (D E k : ℕ) → Leads n ls step → D < n → E < n → step D E ≡ Some k → path ls D E ≡ Some (lifts_on (path ls D E))
entry-some n ls step D E k w d e q = let f = first-is (path ls D E) k (sym (w.first D E d e) ∙ q) in f.1 ∙ ap (λ o. Some (lifts_on o)) (sym f.1)

pub entry-none : (n : ℕ) (ls : List LftDef) (step : ℕ → ℕ → Option ℕ) (D E : ℕ) → Leads n ls step → D < n → E < n → step D E ≡ None → (D ≡ E → ⊥) → path ls D E ≡ None
entry-none n ls step D E w d e q apart = go (path ls D E) refl (sym (w.first D E d e) ∙ q)
  where
    go : (o : Option (List ℕ)) → path ls D E ≡ o → first_of o ≡ None → o ≡ None
    go None p h = refl
    go (Some []) p h = absurd (apart (path-is ls D E [] p))
    go (Some (m ∷ ms)) p h = cc

-- ---- the whole table

outside : (n : ℕ) (ls : List LftDef) → AreWithin n ls → (D E : ℕ) → (D ≡ E → ⊥) → ((D < n) → (E < n) → ⊥) → None ≡ path ls D E
outside n ls w D E apart out = go (path ls D E) refl
  where
    go : (o : Option (List ℕ)) → path ls D E ≡ o → None ≡ o
    go None p = refl
    go (Some []) p = absurd (apart (path-is ls D E [] p))
    go (Some (m ∷ ms)) p =
        let all = path-is ls D E (m ∷ ms) p in
        let l = there (slice_get ls m) _ all in
        let i = get-within n ls m l.0 w l.1.0 in
        absurd (out (subst (λ X. X < n) l.1.1.0 i.0) (end-in n ls w l.0.«to» E ms i.1 l.1.1.1))

entry-get : (row : List (Option (List ℕ))) (E : ℕ) (p : Option (List ℕ)) → slice_get row E ≡ Some p → entry_in (Some row) E ≡ p
entry-get row E p q = rw q refl

entry-past : (row : List (Option (List ℕ))) (E : ℕ) → slice_get row E ≡ None → entry_in (Some row) E ≡ None
entry-past row E q = rw q refl

table-in : (n : ℕ) (t : ℕ → ℕ → Option (List ℕ)) (D E : ℕ) → D < n → E < n → entry_in (slice_get (tabled (λ D. tabled (λ E. t D E) n) n) D) E ≡ t D E
table-in n t D E d e = ap (λ row. entry_in row E) (tabled-get (λ D. tabled (λ E. t D E) n) n D d) ∙ entry-get (tabled (λ E. t D E) n) E (t D E) (tabled-get (λ E. t D E) n E e)

table-past : (n : ℕ) (t : ℕ → ℕ → Option (List ℕ)) (D E : ℕ) → n ≤ D → entry_in (slice_get (tabled (λ D. tabled (λ E. t D E) n) n) D) E ≡ None
table-past n t D E h = ap (λ row. entry_in row E) (slice_get_past (tabled (λ D. tabled (λ E. t D E) n) n) D (subst (λ m. m ≤ D) (sym (tabled-length (λ D. tabled (λ E. t D E) n) n)) h))

row-past : (n : ℕ) (t : ℕ → ℕ → Option (List ℕ)) (D E : ℕ) → D < n → n ≤ E → entry_in (slice_get (tabled (λ D. tabled (λ E. t D E) n) n) D) E ≡ None
row-past n t D E d h = ap (λ row. entry_in row E) (tabled-get (λ D. tabled (λ E. t D E) n) n D d) ∙ entry-past (tabled (λ E. t D E) n) E (slice_get_past (tabled (λ E. t D E) n) E (subst (λ m. m ≤ E) (sym (tabled-length (λ E. t D E) n)) h))

pub table-is : (n : ℕ) (ls : List LftDef) → AreWithin n ls → (D E : ℕ) → path_in (tabled (λ D. tabled (λ E. path ls D E) n) n) D E ≡ path ls D E
table-is n ls w D E = go (nat_eq D E) (λ q. (Decides-eqb D E).0 q) (λ q. (Decides-eqb D E).1 q)
  where
    rows : List (List (Option (List ℕ)))
    rows = tabled (λ D. tabled (λ E. path ls D E) n) n

    apart-is : (D ≡ E → ⊥) → (D < n) ⊎ (n ≤ D) → (E < n) ⊎ (n ≤ E) → entry_in (slice_get rows D) E ≡ path ls D E
    apart-is apart (inl d) (inl e) = table-in n (path ls) D E d e
    apart-is apart (inl d) (inr e) = row-past n (path ls) D E d e ∙ outside n ls w D E apart (λ i j. omega (arith, j, e))
    apart-is apart (inr d) e = table-past n (path ls) D E d ∙ outside n ls w D E apart (λ i j. omega (arith, i, d))

    go : (b : Bool) → (b ≡ true → D ≡ E) → (D ≡ E → b ≡ true) → (if b then Some [] else entry_in (slice_get rows D) E) ≡ path ls D E
    go true p q = sym (subst (λ X. path ls D X ≡ Some []) (p refl) (path-itself ls D))
    go false p q = apart-is (λ e. let bad = q e in cc) (cases_lt D n) (cases_lt E n)

pub funext2 : {A B C : Type 0} {f g : A → B → C} → ((x : A) (y : B) → f x y ≡ g x y) → f ≡ g
funext2 h = λ i x y. h x y i

pub leads : (Es : List EffDef) (ls : List LftDef) (step : ℕ → ℕ → Option ℕ) → AreWithin (length Es) ls → IsLattice Es ls step → Leads (length Es) ls step
leads Es ls step w l = record { within = w; first = l.first; sure = sure }
  where
    in-range : (D E : ℕ) (ns : List ℕ) (o : Option (List ℕ)) → path ls D E ≡ o → D < length Es → E < length Es → IsPath ls D ns E → path ls D E ≡ Some ns
    in-range D E ns (Some ms) q d e p = q ∙ ap Some (l.one_path D E ms ns (path-is ls D E ms q) p)
    in-range D E ns None q d e p =
        let none : ns ≡ [] = l.none D E d e (l.first D E d e ∙ ap first_of q) ns p in
        let same : D ≡ E = subst (λ ns. IsPath ls D ns E) none p in
        subst (λ X. path ls D X ≡ Some []) same (path-itself ls D) ∙ ap Some (sym none)

    sure : (D E : ℕ) (ns : List ℕ) → IsPath ls D ns E → path ls D E ≡ Some ns
    sure D E [] p = subst (λ X. path ls D X ≡ Some []) p (path-itself ls D)
    sure D E (m ∷ ms) p =
        let k = there (slice_get ls m) _ p in
        let i = get-within (length Es) ls m k.0 w k.1.0 in
        in-range D E (m ∷ ms) (path ls D E) refl (subst (λ X. X < length Es) k.1.1.0 i.0) (end-in (length Es) ls w k.0.«to» E ms i.1 k.1.1.1) p

pub leads-count : (n : ℕ) (es : List EffectDef) (ls : List LftDef) (step : ℕ → ℕ → Option ℕ) → n ≡ length es → AreWithin (length es) ls → IsLattice (map plain_effect es) ls step → Leads n ls step
leads-count n es ls step q w l =
    let long = length-map es plain_effect in
    subst (λ m. Leads m ls step) (long ∙ sym q) (leads (map plain_effect es) ls step (subst (λ m. AreWithin m ls) (sym long) w) l)

pub paths-result : {E : Type 0} → (n : ℕ) (es : List EffectDef) (ls : List LftDef) (r : Result (List (List (Option (List ℕ)))) E) → n ≡ length es → AreWithin (length es) ls
    → IfOk r (λ rows. rows ≡ tabled (λ D. tabled (λ E. path ls D E) n) n) → IfOk r (λ rows. path_in rows ≡ path ls)
paths-result n es ls (Ok rows) q w h = ap path_in h ∙ funext2 (table-is n ls (subst (λ m. AreWithin m ls) (sym q) w))
paths-result n es ls (Err e) q w h = tt

pub ruleset next_lifts = (next-none, next-some, next-there, next-within)

pub ruleset entries = (entry-same, entry-some, entry-none)
