-- The table of the code beside the table of paths.
use Rattle.std.proofs.Common.{◌≡◌, ℕ, zero, suc, ◌+◌, ◌<◌, Bool, true, false, ◌&&◌, ◌||◌, List, [], ◌∷◌, ◌++◌, length, slice_get, nat_eq, Option, Some, None, refl, sym, ap, ◌∙◌, subst, arith, if◌then◌else◌}
use Rattle.std.proofs.lemmas.Bool.Decides.{Decides-eqb}
use Rattle.fst_program.specs.Texts.{LftDef}
use Rattle.fst_program.specs.LiftPaths.{IsPath, Table, no_lifts, or_else, through, with_lift, path}
use Rattle.fst_program.proofs.PathLemmas.{path-is, path-itself}
use Rattle.fst_lattice.specs.Tables.{tabled, step_in, entry_in, is_there, reaches, next_step, some_below, second_path}
use Rattle.fst_lattice.specs.Lattices.{SecondPath, IsWithin, AreWithin, first_of}
use Rattle.fst_lattice.proofs.PathTables.{Sure, more-lifts, start-in, end-in}

-- ---- lists of values

pub tabled-length : {A : Type 0} (f : ℕ → A) (n : ℕ) → length (tabled f n) ≡ n
tabled-length f zero = refl
tabled-length f (suc n) = append-length (tabled f n) (f n) ∙ ap suc (tabled-length f n)
  where
    append-length : {A : Type 0} (xs : List A) (x : A) → length (xs ++ x ∷ []) ≡ suc (length xs)
    append-length [] x = refl
    append-length (y ∷ xs) x = ap suc (append-length xs x)

get-front : {A : Type 0} (xs ys : List A) (k : ℕ) → k < length xs → slice_get (xs ++ ys) k ≡ slice_get xs k
get-front [] ys k h = absurd (omega (arith, h))
get-front (x ∷ xs) ys zero h = refl
get-front (x ∷ xs) ys (suc k) h = get-front xs ys k (omega (arith, h))

get-last : {A : Type 0} (xs : List A) (x : A) → slice_get (xs ++ x ∷ []) (length xs) ≡ Some x
get-last [] x = refl
get-last (y ∷ xs) x = get-last xs x

near : (k n : ℕ) → k < suc n → (k ≡ n → ⊥) → k < n
near k n h apart = omega (arith, h, apart)

pub tabled-get : {A : Type 0} (f : ℕ → A) (n k : ℕ) → k < n → slice_get (tabled f n) k ≡ Some (f k)
tabled-get f zero k h = absurd (omega (arith, h))
tabled-get f (suc n) k h = go (nat_eq k n) (λ p. (Decides-eqb k n).0 p) (λ p. (Decides-eqb k n).1 p) (λ less. tabled-get f n k less)
  where
    go : (b : Bool) → (b ≡ true → k ≡ n) → (k ≡ n → b ≡ true) → (k < n → slice_get (tabled f n) k ≡ Some (f k)) → slice_get (tabled f n ++ f n ∷ []) k ≡ Some (f k)
    go true p q rest =
        let e = p refl in
        subst (λ i. slice_get (tabled f n ++ f n ∷ []) i ≡ Some (f k)) (tabled-length f n ∙ sym e) (get-last (tabled f n) (f n) ∙ ap (λ i. Some (f i)) (sym e))
    go false p q rest =
        let less = near k n h (λ e. let bad = q e in cc) in
        get-front (tabled f n) (f n ∷ []) k (subst (λ i. k < i) (sym (tabled-length f n)) less) ∙ rest less

entry-is : (row : List (Option ℕ)) (E : ℕ) (x : Option ℕ) → slice_get row E ≡ Some x → entry_in (Some row) E ≡ x
entry-is row E x q = rw q refl

pub tabled-step : (f : ℕ → ℕ → Option ℕ) (n D E : ℕ) → D < n → E < n → step_in (tabled (λ D. tabled (λ E. f D E) n) n) D E ≡ f D E
tabled-step f n D E d e =
    ap (λ row. entry_in row E) (tabled-get (λ D. tabled (λ E. f D E) n) n D d) ∙ entry-is (tabled (λ E. f D E) n) E (f D E) (tabled-get (λ E. f D E) n E e)

-- ---- the table tells the first lifts of paths

abbrev pub Tells : (n : ℕ) → List (List (Option ℕ)) → Table → Type 0
Tells n rows t = (D E : ℕ) → D < n → E < n → step_in rows D E ≡ first_of (t D E)

-- among equal effects the path is the empty one, and among others it isn't
same-effect : (ls : List LftDef) (D E : ℕ) → D ≡ E → path ls D E ≡ Some []
same-effect ls D E e = subst (λ X. path ls D X ≡ Some []) e (path-itself ls D)

pub reaches-is : (n : ℕ) (rows : List (List (Option ℕ))) (ls : List LftDef) → Tells n rows (path ls) → (D E : ℕ) → D < n → E < n → reaches rows D E ≡ is_there (path ls D E)
reaches-is n rows ls tells D E d e = go (nat_eq D E) (λ p. (Decides-eqb D E).0 p) (λ p. (Decides-eqb D E).1 p) (path ls D E) refl
  where
    go : (b : Bool) → (b ≡ true → D ≡ E) → (D ≡ E → b ≡ true) → (o : Option (List ℕ)) → path ls D E ≡ o → (b || is_there (step_in rows D E)) ≡ is_there (path ls D E)
    go true p q o r = sym (ap is_there (same-effect ls D E (p refl)))
    go false p q None r = ap is_there (tells D E d e ∙ ap first_of r) ∙ sym (ap is_there r)
    go false p q (Some []) r = let bad = q (path-is ls D E [] r) in cc
    go false p q (Some (m ∷ ms)) r = ap is_there (tells D E d e ∙ ap first_of r) ∙ sym (ap is_there r)

pub tells-none : (n : ℕ) → Tells n (tabled (λ D. tabled (λ E. None) n) n) (path [])
tells-none n D E d e = tabled-step (λ D E. None) n D E d e ∙ go (nat_eq D E)
  where
    go : (b : Bool) → None ≡ first_of (if b then Some [] else None)
    go true = refl
    go false = refl

-- with a lift more
pub tells-more : (n : ℕ) (rows : List (List (Option ℕ))) (ls : List LftDef) (l : LftDef) (number : ℕ) → number ≡ length ls → IsWithin n l → Tells n rows (path ls)
    → Tells n (tabled (λ D. tabled (λ E. next_step rows number l.from l.«to» D E) n) n) (path (ls ++ l ∷ []))
tells-more n rows ls l number is within tells D E d e =
    tabled-step (λ D E. next_step rows number l.from l.«to» D E) n D E d e
    ∙ next (path ls D E) refl (path ls D l.from) refl (path ls l.«to» E) refl
    ∙ ap first_of (sym (more-lifts no_lifts 0 ls l D E ∙ ap (λ m. with_lift (path ls) m l D E) zero-length))
  where
    zero-length : 0 + length ls ≡ number
    zero-length = omega (arith, is)

    whole : Bool → Bool → Bool → Option ℕ
    whole a b c = if a then step_in rows D E else (if b && c then (if nat_eq D l.from then Some number else step_in rows D l.from) else None)

    is-whole : (a b c : Bool) → reaches rows D E ≡ a → reaches rows D l.from ≡ b → reaches rows l.«to» E ≡ c → next_step rows number l.from l.«to» D E ≡ whole a b c
    is-whole a b c p q r = ap (λ x. whole x (reaches rows D l.from) (reaches rows l.«to» E)) p ∙ ap (λ x. whole a x (reaches rows l.«to» E)) q ∙ ap (λ x. whole a b x) r

    reached : (A B : ℕ) → A < n → B < n → (o : Option (List ℕ)) → path ls A B ≡ o → reaches rows A B ≡ is_there o
    reached A B f t o q = reaches-is n rows ls tells A B f t ∙ ap is_there q

    begin : (b : Bool) → (b ≡ true → D ≡ l.from) → (D ≡ l.from → b ≡ true) → (ns ms : List ℕ) → path ls D l.from ≡ Some ns → (if b then Some number else step_in rows D l.from) ≡ first_of (Some (ns ++ number ∷ ms))
    begin true p q [] ms r = refl
    begin true p q (k ∷ ns) ms r = let s = same-effect ls D l.from (p refl) in cc
    begin false p q [] ms r = let bad = q (path-is ls D l.from [] r) in cc
    begin false p q (k ∷ ns) ms r = tells D l.from d within.0 ∙ ap first_of r

    next : (o : Option (List ℕ)) → path ls D E ≡ o → (a : Option (List ℕ)) → path ls D l.from ≡ a → (b : Option (List ℕ)) → path ls l.«to» E ≡ b
        → next_step rows number l.from l.«to» D E ≡ first_of (with_lift (path ls) number l D E)
    next o p a q b r =
        is-whole (is_there o) (is_there a) (is_there b) (reached D E d e o p) (reached D l.from d within.0 a q) (reached l.«to» E within.1 e b r)
        ∙ go o p a q b
        ∙ ap first_of (sym (ap (λ o. or_else o (through number (path ls D l.from) (path ls l.«to» E))) p ∙ ap (λ a. or_else o (through number a (path ls l.«to» E))) q ∙ ap (λ b. or_else o (through number a b)) r))
      where
        go : (o : Option (List ℕ)) → path ls D E ≡ o → (a : Option (List ℕ)) → path ls D l.from ≡ a → (b : Option (List ℕ)) → whole (is_there o) (is_there a) (is_there b) ≡ first_of (or_else o (through number a b))
        go (Some ns) p a q b = tells D E d e ∙ ap first_of p
        go None p None q b = refl
        go None p (Some ns) q None = refl
        go None p (Some ns) q (Some ms) = begin (nat_eq D l.from) (λ z. (Decides-eqb D l.from).0 z) (λ z. (Decides-eqb D l.from).1 z) ns ms q

-- ---- second paths

below-true : (n : ℕ) (test : ℕ → Bool) → some_below n test ≡ true → (i : ℕ) × ((i < n) × (test i ≡ true))
below-true zero test e = cc
below-true (suc n) test e = go (some_below n test) refl (test n) refl e (λ p. below-true n test p)
  where
    go : (a : Bool) → some_below n test ≡ a → (b : Bool) → test n ≡ b → (a || b) ≡ true → (some_below n test ≡ true → (i : ℕ) × ((i < n) × (test i ≡ true))) → (i : ℕ) × ((i < suc n) × (test i ≡ true))
    go true p b q e rest = let z = rest p in let less = z.1.0 in (z.0, (omega (arith, less), z.1.1))
    go false p true q e rest = (n, (omega arith, q))
    go false p false q e rest = cc

pub below-found : (n : ℕ) (test : ℕ → Bool) (i : ℕ) → i < n → test i ≡ true → some_below n test ≡ true
below-found zero test i h e = absurd (omega (arith, h))
below-found (suc n) test i h e = go (nat_eq i n) (λ p. (Decides-eqb i n).0 p) (λ p. (Decides-eqb i n).1 p) (some_below n test) refl (λ less. below-found n test i less e)
  where
    go : (c : Bool) → (c ≡ true → i ≡ n) → (i ≡ n → c ≡ true) → (a : Bool) → some_below n test ≡ a → (i < n → some_below n test ≡ true) → (some_below n test || test n) ≡ true
    go c r s true p rest = ap (λ a. a || test n) p
    go true r s false p rest = ap (λ a. a || test n) p ∙ ap test (sym (r refl)) ∙ e
    go false r s false p rest = ap (λ a. a || test n) (rest (near i n h (λ x. let bad = s x in cc)))

below-false : (n : ℕ) (test : ℕ → Bool) (i : ℕ) → some_below n test ≡ false → i < n → test i ≡ false
below-false zero test i e h = absurd (omega (arith, h))
below-false (suc n) test i e h = go (some_below n test) refl (test n) refl e (nat_eq i n) (λ p. (Decides-eqb i n).0 p) (λ p. (Decides-eqb i n).1 p) (λ f less. below-false n test i f less)
  where
    go : (a : Bool) → some_below n test ≡ a → (b : Bool) → test n ≡ b → (a || b) ≡ false → (c : Bool) → (c ≡ true → i ≡ n) → (i ≡ n → c ≡ true) → (some_below n test ≡ false → i < n → test i ≡ false) → test i ≡ false
    go true p b q e c r s rest = cc
    go false p true q e c r s rest = cc
    go false p false q e true r s rest = ap test (r refl) ∙ q
    go false p false q e false r s rest = rest p (near i n h (λ x. let bad = s x in cc))

both : (a b : Bool) → (a && b) ≡ true → (a ≡ true) × (b ≡ true)
both true b e = (refl, e)
both false b e = cc

found : (o : Option (List ℕ)) → is_there o ≡ true → (ns : List ℕ) × (o ≡ Some ns)
found None e = cc
found (Some ns) e = (ns, refl)

pub second-is : (n : ℕ) (rows : List (List (Option ℕ))) (ls : List LftDef) (l : LftDef) → IsWithin n l → Tells n rows (path ls) → second_path rows l.from l.«to» n ≡ true → SecondPath ls l
second-is n rows ls l within tells e =
    let a = below-true n _ e in
    let b = both (reaches rows a.0 l.from) _ a.1.1 in
    let c = below-true n _ b.1 in
    let f = both (reaches rows l.«to» c.0) _ c.1.1 in
    let x = found (path ls a.0 l.from) (sym (reaches-is n rows ls tells a.0 l.from a.1.0 within.0) ∙ b.0) in
    let y = found (path ls l.«to» c.0) (sym (reaches-is n rows ls tells l.«to» c.0 within.1 c.1.0) ∙ f.0) in
    let z = found (path ls a.0 c.0) (sym (reaches-is n rows ls tells a.0 c.0 a.1.0 c.1.0) ∙ f.1) in
    record {
      lower = a.0;
      upper = c.0;
      to_lift = x.0;
      from_lift = y.0;
      already = z.0;
      begins = path-is ls a.0 l.from x.0 x.1;
      ends = path-is ls l.«to» c.0 y.0 y.1;
      there = path-is ls a.0 c.0 z.0 z.1;
    }

pub second-not : (n : ℕ) (rows : List (List (Option ℕ))) (ls : List LftDef) (l : LftDef) → IsWithin n l → AreWithin n ls → Sure ls → Tells n rows (path ls) → second_path rows l.from l.«to» n ≡ false → SecondPath ls l → ⊥
second-not n rows ls l within all sure tells e s =
    let d = start-in n ls all s.lower l.from s.to_lift within.0 s.begins in
    let u = end-in n ls all l.«to» s.upper s.from_lift within.1 s.ends in
    let reach = λ (A B : ℕ) (f : A < n) (t : B < n) (ns : List ℕ) (p : IsPath ls A ns B). reaches-is n rows ls tells A B f t ∙ ap is_there (sure A B ns p) in
    let a = reach s.lower l.from d within.0 s.to_lift s.begins in
    let b = reach l.«to» s.upper within.1 u s.from_lift s.ends in
    let c = reach s.lower s.upper d u s.already s.there in
    let one = after (reaches rows s.lower l.from) _ a (below-false n _ s.lower e d) in
    let two = after (reaches rows l.«to» s.upper) _ b (below-false n _ s.upper one u) in
    cc
  where
    after : (a b : Bool) → a ≡ true → (a && b) ≡ false → b ≡ false
    after true b e f = f
    after false b e f = cc
