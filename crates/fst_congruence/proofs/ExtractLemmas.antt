-- A log without the lines that its last one does not need.
use Rattle.std.proofs.Common.{◌≡◌, ℕ, ◌+◌, ◌-◌, ◌<◌, ◌≤◌, ◌⊎◌, inl, inr, Bool, true, false, List, [], ◌∷◌, ◌++◌, length, take, get_or, set, get_or-set_same, get_or-set_other, refl, sym, ap, subst, ◌∙◌, arith, length-append}
use Rattle.std.specs.Prelude.{Contains}
use Rattle.std.proofs.lemmas.Bool.{cases_lt, cases_eq, false≢true}
use Rattle.std.proofs.lemmas.List.{get_or_default, get_or-take, get_or_append_left, get_or_at, take-append-le, take_at, length-take-le, length-map, length-set, get_or-map}
use Rattle.fst_congruence.specs.declared.equation.Equation.{Equation}
use Rattle.fst_cert.specs.declared.line.Line.{Line}
use Rattle.fst_cert.specs.declared.line.Line.TheVariants as line
use Rattle.fst_congruence.specs.declared.node.Node.{Node}
use Rattle.fst_congruence.specs.Joined.{arg_at}
use Rattle.fst_congruence.specs.Lines.{At, AtTurned, Because, StrictReason, Gives, Holds, Grown, grown_none, grown_more, Valid}
use Rattle.fst_congruence.specs.Closures.{IsGivenLine, GivenLines}
use Rattle.fst_congruence.specs.declared.extract.Needed.{Needed}
use Rattle.fst_congruence.specs.declared.why.Why.{Why}
use Rattle.fst_congruence.specs.Extracts.{Stands, renumbered, IsWanted, EarlierLines, WantedFrom, Moved, Copied, Keeps}
use Rattle.fst_congruence.proofs.LogLemmas.{at-append, at-pushed}

pub stands-map : (P Q : ℕ → Type 0) → ((r : ℕ) → P r → Q r) → (l : Line) → Stands P l → Stands Q l
stands-map P Q f (line.Flip i) h = f i h
stands-map P Q f (line.Chain i j) h = (f i h.0, f j h.1)
stands-map P Q f (line.Same i j rs) h = λ k lt. f _ (h k lt)
stands-map P Q f (line.Part i k) h = f i h
stands-map P Q f l h = tt

-- ---- marking

pub wanted-marked : (log : List Equation) (old new : List Bool) (at : ℕ) (r : Equation) → at < length log → EarlierLines log
    → ((i : ℕ) → IsWanted old i → IsWanted new i) → Stands (IsWanted new) (get_or log at r).by → ((b : ℕ) → Stands (λ m. m < b) (get_or log at r).by → (i : ℕ) → b ≤ i → get_or new i false ≡ get_or old i false)
    → WantedFrom log old (at + 1) → WantedFrom log new at
wanted-marked log old new at r lt earlier kept marked above closed k below from wanted d = go (cases_eq k at)
  where
    go : (k ≡ at) ⊎ (k ≡ at → ⊥) → Stands (IsWanted new) (get_or log k d).by
    go (inl same) =
        let item : get_or log k d ≡ get_or log at r = ap (λ j. get_or log j d) same ∙ get_or_default log at d r lt in
        subst (λ (f : Equation). Stands (IsWanted new) f.by) (sym item) marked
    go (inr other) =
        let differs : k ≡ at → ⊥ = other in
        let was : IsWanted old (k + 1) = sym (above (at + 1) (earlier at lt r) (k + 1) (omega (arith, from))) ∙ wanted in
        stands-map (IsWanted old) (IsWanted new) kept _ (closed k below (omega (arith, from)) was d)

pub wanted-kept : (log : List Equation) (wanted : List Bool) (at : ℕ) → get_or wanted (at + 1) false ≡ false → WantedFrom log wanted (at + 1) → WantedFrom log wanted at
wanted-kept log wanted at none closed k below from is d = go (cases_eq k at)
  where
    go : (k ≡ at) ⊎ (k ≡ at → ⊥) → Stands (IsWanted wanted) (get_or log k d).by
    go (inl same) = absurd (false≢true (sym none ∙ ap (λ j. get_or wanted (j + 1) false) (sym same) ∙ is))
    go (inr other) = let differs : k ≡ at → ⊥ = other in closed k below (omega (arith, from)) is d

-- ---- lines of a valid log

pub at-take : (log : List Equation) (n i x y : ℕ) → n ≤ length log → At (take n log) i x y → At log i x y
at-take log n i x y le h =
    let size : length (take n log) ≡ n = length-take-le n log le in
    let below : i - 1 < n = omega (arith, h.counted, h.within, size) in
    record {
      counted = h.counted;
      within = omega (arith, h.within, size, le);
      left = λ d. ap (λ (e : Equation). e.left) (sym (get_or-take n log (i - 1) d below)) ∙ h.left d;
      right = λ d. ap (λ (e : Equation). e.right) (sym (get_or-take n log (i - 1) d below)) ∙ h.right d;
    }

pub valid-at : (ns : List Node) (es old log : List Equation) → Grown ns es old log → old ≡ [] → (k : ℕ) → k < length log → (d : Equation) → Holds ns es (take k log) (get_or log k d)
valid-at ns es old log grown_none e k lt d = absurd (omega (arith, lt, ap (λ (l : List Equation). length l) e))
valid-at ns es old log (grown_more {new = between} {e = f} g h) e k lt d = go (cases_lt k (length between)) (λ below. valid-at ns es old between g e k below d)
  where
    go : (k < length between) ⊎ (length between ≤ k) → (k < length between → Holds ns es (take k between) (get_or between k d)) → Holds ns es (take k (between ++ f ∷ [])) (get_or (between ++ f ∷ []) k d)
    go (inl below) before =
        let prefix : take k (between ++ f ∷ []) ≡ take k between = take-append-le k between (f ∷ []) (omega (arith, below)) in
        let item : get_or (between ++ f ∷ []) k d ≡ get_or between k d = get_or_append_left between (f ∷ []) d k below in
        subst (λ (l : List Equation). Holds ns es l (get_or (between ++ f ∷ []) k d)) (sym prefix) (subst (λ (q : Equation). Holds ns es (take k between) q) (sym item) (before below))
    go (inr le) before =
        let last : length between ≡ k = omega (arith, le, lt, length-append between (f ∷ [])) in
        let prefix : take k (between ++ f ∷ []) ≡ between = take_at between (f ∷ []) k last in
        let item : get_or (between ++ f ∷ []) k d ≡ f = get_or_at between f [] d k last in
        subst (λ (l : List Equation). Holds ns es l (get_or (between ++ f ∷ []) k d)) (sym prefix) (subst (λ (q : Equation). Holds ns es between q) (sym item) h)

given-stands : (P : ℕ → Type 0) (l : Line) → IsGivenLine l → Stands P l
given-stands P (line.Given atom) h = tt
given-stands P (line.Eta term) h = tt
given-stands P (line.Unit term) h = tt
given-stands P l h = absurd h

given-renumbered : (numbers : List ℕ) (l : Line) → IsGivenLine l → renumbered numbers l ≡ l
given-renumbered numbers (line.Given atom) h = refl
given-renumbered numbers (line.Eta term) h = refl
given-renumbered numbers (line.Unit term) h = refl
given-renumbered numbers l h = absurd h

strict-within : (log : List Equation) (i x y : ℕ) → StrictReason log i x y → i < length log + 1
strict-within log i x y (inl h) = omega (arith, h.0)
strict-within log i x y (inr h) = omega (arith, h.1.within)

at-within : (log : List Equation) (i x y : ℕ) → At log i x y → i < length log + 1
at-within log i x y h = omega (arith, h.within)

gives-within : (ns : List Node) (log : List Equation) (l : Line) (x y : ℕ) → Gives ns log l x y → Stands (λ r. r < length log + 1) l
gives-within ns log (line.Flip i) x y h = at-within log i y x h
gives-within ns log (line.Chain i j) x y h = (at-within log i x h.0 h.1.0, at-within log j h.0 y h.1.1)
gives-within ns log (line.Same i j rs) x y h = λ k lt. strict-within log _ _ _ (h.1.1.each k (omega (arith, lt, h.1.1.count)))
gives-within ns log (line.Part i k) x y h = at-within log i h.left h.right h.line
gives-within ns log l x y h = absurd h

pub earlier-lines : (ns : List Node) (es log : List Equation) → GivenLines es → Valid ns es log → EarlierLines log
earlier-lines ns es log given v k lt d = go (valid-at ns es [] log v refl k lt d)
  where
    go : Holds ns es (take k log) (get_or log k d) → Stands (λ r. r < k + 1) (get_or log k d).by
    go (inl h) = given-stands _ _ (given _ h)
    go (inr h) =
        let size : length (take k log) ≡ k = length-take-le k log (omega (arith, lt)) in
        subst (λ n. Stands (λ r. r < n + 1) (get_or log k d).by) size (gives-within ns (take k log) _ _ _ h)

-- ---- lines with new numbers

strict-moved : (log out : List Equation) (numbers : List ℕ) (i x y : ℕ) → get_or numbers 0 0 ≡ 0 → Moved log out numbers i → StrictReason log i x y → StrictReason out (get_or numbers i 0) x y
strict-moved log out numbers i x y none m (inl h) = inl (ap (λ r. get_or numbers r 0) h.0 ∙ none, h.1)
strict-moved log out numbers i x y none m (inr h) = inr (h.0, m x y h.1)

gives-moved : (ns : List Node) (log out : List Equation) (numbers : List ℕ) (l : Line) (x y : ℕ) → get_or numbers 0 0 ≡ 0 → Stands (Moved log out numbers) l → Gives ns log l x y → Gives ns out (renumbered numbers l) x y
gives-moved ns log out numbers (line.Flip i) x y none m h = m y x h
gives-moved ns log out numbers (line.Chain i j) x y none m h = (h.0, (m.0 x h.0 h.1.0, m.1 h.0 y h.1.1))
gives-moved ns log out numbers (line.Same i j rs) x y none m h = (
  h.0,
  (
    h.1.0,
    record {
      alike = h.1.1.alike;
      count = length-map rs (λ r. get_or numbers r 0) ∙ h.1.1.count;
      each = λ k lt.
          (let below : k < length rs = omega (arith, lt, h.1.1.count) in
          subst (λ r. StrictReason out r (arg_at ns i k) (arg_at ns j k)) (sym (get_or-map (λ r. get_or numbers r 0) rs k 0 0 below)) (strict-moved log out numbers _ _ _ none (m k below) (h.1.1.each k lt)));
    },
  ),
)
gives-moved ns log out numbers (line.Part i k) x y none m h = record {
  left = h.left;
  right = h.right;
  line = m h.left h.right h.line;
  same = h.same;
  counted = h.counted;
  first = h.first;
  second = h.second;
  left_part = h.left_part;
  right_part = h.right_part;
}
gives-moved ns log out numbers l x y none m h = absurd h

pub holds-moved : (ns : List Node) (es log out : List Equation) (numbers : List ℕ) (e : Equation) → GivenLines es → get_or numbers 0 0 ≡ 0 → Stands (Moved log out numbers) e.by → Holds ns es log e
    → Holds ns es out (record { left = e.left; right = e.right; by = renumbered numbers e.by })
holds-moved ns es log out numbers e given none m (inl h) =
    inl (subst (λ (l : Line). Contains es (record { left = e.left; right = e.right; by = l })) (sym (given-renumbered numbers e.by (given e h))) h)
holds-moved ns es log out numbers e given none m (inr h) = inr (gives-moved ns log out numbers e.by e.left e.right none m h)

-- ---- the loop that copies

pub copied-none : (log new : List Equation) (wanted : List Bool) (numbers : List ℕ) → numbers ≡ 0 ∷ [] → new ≡ [] → Copied log new wanted numbers 0
copied-none log new wanted numbers is begun = record {
  count = ap (λ (l : List ℕ). length l) is;
  none = ap (λ (l : List ℕ). get_or l 0 0) is;
  moved = λ r lt w x y h. absurd (omega (arith, lt, h.counted));
  valid = λ ns es given v. subst (λ (l : List Equation). Valid ns es l) (sym begun) grown_none;
}

-- one more line: `more` says what is at it, `longer` that what was there stays
copied-more : (log new next : List Equation) (wanted : List Bool) (numbers : List ℕ) (n number : ℕ) → Copied log new wanted numbers n
    → ((i x y : ℕ) → At new i x y → At next i x y)
    → (IsWanted wanted (n + 1) → (x y : ℕ) → At log (n + 1) x y → At next number x y)
    → ((ns : List Node) (es : List Equation) → GivenLines es → Valid ns es log → Valid ns es next) → Copied log next wanted (numbers ++ number ∷ []) (n + 1)
copied-more log new next wanted numbers n number c longer more valid = record {
  count = omega (arith, c.count, length-append numbers (number ∷ []));
  none = get_or_append_left numbers (number ∷ []) 0 0 (omega (arith, c.count)) ∙ c.none;
  moved = λ r lt w. moved r lt w (cases_eq r (n + 1));
  valid = valid;
}
  where
    here : get_or (numbers ++ number ∷ []) (n + 1) 0 ≡ number
    here = get_or_at numbers number [] 0 (n + 1) c.count

    moved : (r : ℕ) → r < n + 1 + 1 → IsWanted wanted r → (r ≡ n + 1) ⊎ (r ≡ n + 1 → ⊥) → Moved log next (numbers ++ number ∷ []) r
    moved r lt w (inl same) x y h =
        subst (λ m. At next (get_or (numbers ++ number ∷ []) m 0) x y) (sym same)
        (subst (λ m. At next m x y) (sym here) (more (subst (IsWanted wanted) same w) x y (subst (λ m. At log m x y) same h)))
    moved r lt w (inr other) x y h =
        let differs : r ≡ n + 1 → ⊥ = other in
        let below : r < length numbers = omega (arith, lt, c.count) in
        subst (λ m. At next m x y) (sym (get_or_append_left numbers (number ∷ []) 0 r below)) (longer _ x y (c.moved r (omega (arith, below, c.count)) w x y h))

pub copied-left : (log new : List Equation) (wanted : List Bool) (numbers : List ℕ) (n : ℕ) → Copied log new wanted numbers n → get_or wanted (n + 1) false ≡ false → Copied log new wanted (numbers ++ 0 ∷ []) (n + 1)
copied-left log new wanted numbers n c off = copied-more log new new wanted numbers n 0 c (λ i x y h. h) (λ w. absurd (false≢true (sym off ∙ w))) c.valid

-- the lines that a wanted line stands on have moved
stands-moved : (log new : List Equation) (wanted : List Bool) (numbers : List ℕ) (n : ℕ) (l : Line) → n < length log → Copied log new wanted numbers n → Stands (λ r. r < n + 1) l → Stands (IsWanted wanted) l
    → Stands (Moved (take n log) new numbers) l
stands-moved log new wanted numbers n (line.Flip i) lt c b w = λ x y h. c.moved i b w x y (at-take log n i x y (omega (arith, lt)) h)
stands-moved log new wanted numbers n (line.Chain i j) lt c b w = (λ x y h. c.moved i b.0 w.0 x y (at-take log n i x y (omega (arith, lt)) h), λ x y h. c.moved j b.1 w.1 x y (at-take log n j x y (omega (arith, lt)) h))
stands-moved log new wanted numbers n (line.Same i j rs) lt c b w = λ k below x y h. c.moved _ (b k below) (w k below) x y (at-take log n _ x y (omega (arith, lt)) h)
stands-moved log new wanted numbers n (line.Part i k) lt c b w = λ x y h. c.moved i b w x y (at-take log n i x y (omega (arith, lt)) h)
stands-moved log new wanted numbers n l lt c b w = tt

abbrev pub with_line : Equation → Line → Equation
with_line e by = record { left = e.left; right = e.right; by = by }

pub copied-line : (log new next : List Equation) (wanted : List Bool) (numbers : List ℕ) (n number : ℕ) (d : Equation) (by : Line) → n < length log → EarlierLines log → WantedFrom log wanted 0 → get_or wanted (n + 1) false ≡ true
    → Copied log new wanted numbers n → by ≡ renumbered numbers (get_or log n d).by
    → (next ≡ new ++ with_line (get_or log n d) by ∷ []) × (number ≡ length next) → Copied log next wanted (numbers ++ number ∷ []) (n + 1)
copied-line log new next wanted numbers n number d by lt earlier closed on c is noted =
    copied-more log new next wanted numbers n number c
    (λ i x y h. subst (λ (l : List Equation). At l i x y) (sym noted.0) (at-append new (with_line (get_or log n d) by ∷ []) i x y h))
    (λ w x y h. subst (λ m. At next m x y) (sym noted.1) (at-last x y h))
    (λ ns es given v. subst (λ (l : List Equation). Valid ns es l) (sym noted.0) (grown_more (c.valid ns es given v)
    (subst (λ (l : Line). Holds ns es new (with_line (get_or log n d) l)) (sym is)
    (holds-moved ns es (take n log) new numbers (get_or log n d) given c.none
    (stands-moved log new wanted numbers n _ lt c (earlier n lt d) (closed n lt (omega arith) on d)) (valid-at ns es [] log v refl n lt d)))))
  where
    at-last : (x y : ℕ) → At log (n + 1) x y → At next (length next) x y
    at-last x y h =
        let place : n + 1 - 1 ≡ n = omega arith in
        let left : (get_or log n d).left ≡ x = ap (λ m. (get_or log m d).left) (sym place) ∙ h.left d in
        let right : (get_or log n d).right ≡ y = ap (λ m. (get_or log m d).right) (sym place) ∙ h.right d in
        let end : At (new ++ with_line (get_or log n d) by ∷ []) (length (new ++ with_line (get_or log n d) by ∷ [])) (get_or log n d).left (get_or log n d).right = at-pushed new (with_line (get_or log n d) by) in
        subst (λ (l : List Equation). At l (length l) x y) (sym noted.0)
        (subst (λ z. At (new ++ with_line (get_or log n d) by ∷ []) (length (new ++ with_line (get_or log n d) by ∷ [])) x z) right
        (subst (λ z. At (new ++ with_line (get_or log n d) by ∷ []) (length (new ++ with_line (get_or log n d) by ∷ [])) z (get_or log n d).right) left end))

-- ---- what two lines need

pub copied-keeps : (log : List Equation) (kept : Needed) (wanted : List Bool) (first second : ℕ) → Copied log kept.log wanted kept.numbers (length log) → first ≤ length log → second ≤ length log → IsWanted wanted first → IsWanted wanted second → Keeps log kept first second
copied-keeps log kept wanted first second c p q f g = record {
  count = c.count;
  none = c.none;
  first_moved = c.moved first (omega (arith, p)) f;
  second_moved = c.moved second (omega (arith, q)) g;
  valid = c.valid;
}

-- two lines are marked
pub both-wanted : (old : List Bool) (first second : ℕ) → first < length old → second < length old → IsWanted (set (set old first true) second true) first × IsWanted (set (set old first true) second true) second
both-wanted old first second p q = (go (cases_eq first second), get_or-set_same (set old first true) second true false (omega (arith, q, length-set old first true)))
  where
    go : (first ≡ second) ⊎ (first ≡ second → ⊥) → IsWanted (set (set old first true) second true) first
    go (inl e) = ap (λ k. get_or (set (set old first true) second true) k false) e ∙ get_or-set_same (set old first true) second true false (omega (arith, q, length-set old first true))
    go (inr n) = get_or-set_other (set old first true) second first true false n ∙ get_or-set_same old first true false p

-- a reason on the lines that are kept
pub because-kept : (log : List Equation) (kept : Needed) (w v : Why) (x y : ℕ) → get_or kept.numbers 0 0 ≡ 0 → Moved log kept.log kept.numbers w.line → v ≡ record { line = get_or kept.numbers w.line 0; turned = w.turned } → Because log w x y → Because kept.log v x y
because-kept log kept w v x y none m e h = subst (λ (u : Why). Because kept.log u x y) (sym e) (go h)
  where
    turned : (b : Bool) → AtTurned b log w.line x y → AtTurned b kept.log (get_or kept.numbers w.line 0) x y
    turned false at = m x y at
    turned true at = m y x at

    go : Because log w x y → Because kept.log (record { line = get_or kept.numbers w.line 0; turned = w.turned }) x y
    go (inl p) = inl (ap (λ r. get_or kept.numbers r 0) p.0 ∙ none, p.1)
    go (inr at) = inr (turned w.turned at)

turned-below : (log : List Equation) (b : Bool) (i x y : ℕ) → AtTurned b log i x y → i ≤ length log
turned-below log false i x y h = h.within
turned-below log true i x y h = h.within

pub because-below : (log : List Equation) (w : Why) (x y : ℕ) → Because log w x y → w.line ≤ length log
because-below log w x y (inl h) = (let z = h.0 in omega (arith, z))
because-below log w x y (inr h) = turned-below log w.turned w.line x y h
