-- How refutations are put together: leaves, splits, orders, and marks that aren't used.
use Rattle.std.proofs.Common.{◌≡◌, ℕ, suc, ◌≤◌, Bool, true, false, ◌&&◌, if◌then◌else◌, nat_eq, List, [], ◌∷◌, ◌++◌, length, Option, Some, None, option_map, refl, sym, ap, subst, arith}
use Rattle.std.specs.Prelude.{is_none}
use Rattle.std.proofs.lemmas.Bool.{false≢true, eqb-true, eq-eqb}
use Rattle.fst_terms.specs.Terms.{Tm}
use Rattle.fst_terms.specs.Flats.{Flt}
use Rattle.fst_terms.specs.declared.flat.Mark.{Mark}
use Rattle.fst_terms.specs.declared.flat.Mark.TheVariants as mark
use Rattle.fst_terms.specs.Rows.{Rw}
use Rattle.fst_terms.specs.Marks.{Marking, at_number, var_sorts, is_int_equation, reads}
use Rattle.fst_cert.specs.Proving.{Mk, marking_of, marked, only_if, holds, Eqn, equation_by, row_by, Owed, owed_all, owed_branch, owed_close, same_mark, has_marks, is_value, is_false_mark, after_line, first_bad, Proves}
use Rattle.fst_cert.specs.declared.line.Line.{Line}
use Rattle.fst_cert.specs.declared.line.Line.TheVariants as line
use Rattle.fst_congruence.specs.Explained.{equations_by}
use Rattle.fst_cases.specs.Refuting.{Within, put, UnmarkedAfter, Settles, Ends, IsRefuted, rows_after, Closes, closing}
use Rattle.fst_cert.proofs.EquationTruths.{on-inv}
use Rattle.fst_cases.proofs.RefutedLemmas.{same-more, within-more, within-put, reads-more, closes-more}

-- ---- what is owed

-- a line that holds leaves what is owed after it
pub step : (f : Flt) (o : Owed) (l : Line) (next os : List Owed) (ls : List Line) → after_line f o l ≡ Some next → Settles f (next ++ os) ls → Settles f (o ∷ os) (l ∷ ls)
step f o l next os ls q h at =
    subst (λ (x : Option (List Owed)). ◌≡◌ {A = Option ℕ} (elim x [ None ↦ Some at | Some more ↦ first_bad f (more ++ os) ls (suc at) ]) None) (sym q) (h (suc at))

pub joined-lists : {A : Type 0} (xs ys zs : List A) → (xs ++ ys) ++ zs ≡ xs ++ (ys ++ zs)
joined-lists [] ys zs = refl
joined-lists (x ∷ xs) ys zs = ap (λ w. x ∷ w) (joined-lists xs ys zs)

pub no-more : {A : Type 0} (xs : List A) → xs ++ [] ≡ xs
no-more [] = refl
no-more (x ∷ xs) = ap (λ w. x ∷ w) (no-more xs)

-- two parts one after the other
pub both-end : (f : Flt) (o p : Owed) (ls ks : List Line) → Ends f o ls → Ends f p ks → (os : List Owed) (more : List Line) → Settles f os more → Settles f (o ∷ p ∷ os) ((ls ++ ks) ++ more)
both-end f o p ls ks h i os more s = subst (Settles f (o ∷ p ∷ os)) (sym (joined-lists ls ks more)) (h (p ∷ os) (ks ++ more) (i os more s))

-- ---- leaves

abbrev none_owed : List Owed
none_owed = []

pub held : {A : Type 0} (b : Bool) (x : A) → b ≡ true → only_if b x ≡ Some x
held true x h = refl
held false x h = absurd (false≢true h)

pub holds-at : {A : Type 0} (o : Option A) (test : A → Bool) (x : A) → o ≡ Some x → test x ≡ true → holds o test ≡ true
holds-at o test x q h = subst (λ p. holds p test ≡ true) (sym q) h

value-here : (b : Bool) (v : Option Bool) → v ≡ Some b → is_value b v ≡ true
value-here true v q = subst (λ w. is_value true w ≡ true) (sym q) refl
value-here false v q = subst (λ w. is_value false w ≡ true) (sym q) refl

pub refuted-hyp : (f : Flt) (ended : List (List Mk)) (n : ℕ) (core : Marking) (k : ℕ) (phi : Tm) → at_number f.formulas k ≡ Some phi → reads f core phi ≡ Some false → IsRefuted f ended n core (line.Hyp k ∷ [])
refuted-hyp f ended n core k phi q h ms within unmarked os more s =
    step f (owed_branch ended ms) (line.Hyp k) none_owed os more
    (held (holds (at_number f.formulas k) (λ psi. is_value false (reads f (marking_of ms) psi))) none_owed
    (holds-at (at_number f.formulas k) (λ psi. is_value false (reads f (marking_of ms) psi)) phi q (value-here false (reads f (marking_of ms) phi) (reads-more f core (marking_of ms) within phi false h)))) s

pub refuted-done : (f : Flt) (ended : List (List Mk)) (n : ℕ) (core : Marking) → reads f core f.goal ≡ Some true → IsRefuted f ended n core (line.Done ∷ [])
refuted-done f ended n core h ms within unmarked os more s =
    step f (owed_branch ended ms) line.Done none_owed os more
    (held (is_value true (reads f (marking_of ms) f.goal)) none_owed (value-here true (reads f (marking_of ms) f.goal) (reads-more f core (marking_of ms) within f.goal true h))) s

both : (a b : Bool) → (a && b) ≡ true → (a ≡ true) × (b ≡ true)
both true b h = (refl, h)
both false b h = absurd (false≢true h)

found : (o : Option Mark) (test : Mark → Bool) → holds o test ≡ true → (m : Mark) × ((o ≡ Some m) × (test m ≡ true))
found None test h = absurd (false≢true h)
found (Some m) test h = (m, (refl, h))

pub marks-more : (core look : Marking) → Within core look → (ks : List Mk) → has_marks core ks ≡ true → has_marks look ks ≡ true
marks-more core look within [] h = refl
marks-more core look within (k ∷ ks) h =
    let w = both (holds (core k.atom) (same_mark k.mark)) (has_marks core ks) h in
    let m = found (core k.atom) (same_mark k.mark) w.0 in
    let n = within k.atom m.0 m.1.0 in
    let a = holds-at (look k.atom) (same_mark k.mark) n.0 n.1.0 (same-more k.mark m.0 n.0 m.1.1 n.1.1) in
    subst (λ b. (b && has_marks look ks) ≡ true) (sym a) (marks-more core look within ks w.1)

-- an ended share whose marks are among those of the core
pub refuted-use : (f : Flt) (ended : List (List Mk)) (n : ℕ) (core : Marking) (i : ℕ) (ks : List Mk) → at_number ended i ≡ Some ks → has_marks core ks ≡ true → IsRefuted f ended n core (line.Use i ∷ [])
refuted-use f ended n core i ks q h ms within unmarked os more s =
    step f (owed_branch ended ms) (line.Use i) none_owed os more
    (held (holds (at_number ended i) (has_marks (marking_of ms))) none_owed
    (holds-at (at_number ended i) (has_marks (marking_of ms)) ks q (marks-more core (marking_of ms) within ks h))) s

-- ---- a closing

equations-settle : (f : Flt) (ms : List Mk) (r : ℕ) (rows : List Rw) (os : List Owed) (rest : List Line) (es : List Eqn) (ls : List Line) (ds : List Eqn)
    → equations_by f (marking_of ms) es ls ≡ Some ds → Settles f (owed_close ms 0 r ds rows ∷ os) rest → Settles f (owed_close ms (length ls) r es rows ∷ os) (ls ++ rest)
equations-settle f ms r rows os rest es [] ds q s = let p : es ≡ ds = cc in subst (λ w. Settles f (owed_close ms 0 r w rows ∷ os) rest) (sym p) s
equations-settle f ms r rows os rest es (l ∷ ls) ds q s =
    let d = on-inv (equation_by f (marking_of ms) es l) (λ d. equations_by f (marking_of ms) (es ++ d ∷ []) ls) ds q in
    step f (owed_close ms (suc (length ls)) r es rows) l (owed_close ms (length ls) r (es ++ d.0 ∷ []) rows ∷ []) os (ls ++ rest)
    (ap (option_map (λ d. owed_close ms (length ls) r (es ++ d ∷ []) rows ∷ [])) d.1.0)
    (equations-settle f ms r rows os rest (es ++ d.0 ∷ []) ls ds d.1.1 s)

rows-settle : (f : Flt) (ms : List Mk) (es : List Eqn) (os : List Owed) (rest : List Line) (rows : List Rw) (ls : List Line) (rs : List Rw)
    → rows_after f (marking_of ms) es rows ls ≡ Some rs → Settles f (owed_close ms 0 0 es rs ∷ os) rest → Settles f (owed_close ms 0 (length ls) es rows ∷ os) (ls ++ rest)
rows-settle f ms es os rest rows [] rs q s = let p : rows ≡ rs = cc in subst (λ w. Settles f (owed_close ms 0 0 es w ∷ os) rest) (sym p) s
rows-settle f ms es os rest rows (l ∷ ls) rs q s =
    let r = on-inv (row_by f (marking_of ms) es rows l) (λ r. rows_after f (marking_of ms) es (rows ++ r ∷ []) ls) rs q in
    step f (owed_close ms 0 (suc (length ls)) es rows) l (owed_close ms 0 (length ls) es (rows ++ r.0 ∷ []) ∷ []) os (ls ++ rest)
    (ap (option_map (λ r. owed_close ms 0 (length ls) es (rows ++ r ∷ []) ∷ [])) r.1.0)
    (rows-settle f ms es os rest (rows ++ r.0 ∷ []) ls rs r.1.1 s)

pub closing-ends : (f : Flt) (ended : List (List Mk)) (ms : List Mk) (es rs : List Line) (v : Line) → Closes f (marking_of ms) es rs v → Ends f (owed_branch ended ms) (closing es rs v)
closing-ends f ended ms es rs v c os more s =
    step f (owed_branch ended ms) (line.Close (length es) (length rs)) (owed_close ms (length es) (length rs) [] [] ∷ []) os ((es ++ (rs ++ v ∷ [])) ++ more) refl
    (subst (Settles f (owed_close ms (length es) (length rs) [] [] ∷ os)) (sym (joined-lists es (rs ++ v ∷ []) more))
    (equations-settle f ms (length rs) [] os ((rs ++ v ∷ []) ++ more) [] es c.gives c.equations_hold
    (subst (Settles f (owed_close ms 0 (length rs) c.gives [] ∷ os)) (sym (joined-lists rs (v ∷ []) more))
    (rows-settle f ms c.gives os (v ∷ more) [] rs c.sums c.rows_hold
    (step f (owed_close ms 0 0 c.gives c.sums) v [] os more (ap (λ b. only_if b []) c.ends) s)))))

pub refuted-close : (f : Flt) (ended : List (List Mk)) (n : ℕ) (core : Marking) (es rs : List Line) (v : Line) → Closes f core es rs v → IsRefuted f ended n core (closing es rs v)
refuted-close f ended n core es rs v c ms within unmarked = closing-ends f ended ms es rs v (closes-more f core (marking_of ms) within es rs v c)

-- ---- marks that aren't used

-- a refutation serves under more marks, and before further atoms are marked
pub refuted-more : (f : Flt) (ended : List (List Mk)) (n k : ℕ) (core larger : Marking) (ls : List Line) → k ≤ n → Within core larger → IsRefuted f ended n core ls → IsRefuted f ended k larger ls
refuted-more f ended n k core larger ls less more h ms within unmarked = h ms (within-more core larger (marking_of ms) more within) (λ a l. unmarked a (omega (arith, less, l)))

-- ---- splits

unmarked-put : (n : ℕ) (look : Marking) (m : Mark) → UnmarkedAfter n look → UnmarkedAfter (suc n) (put (suc n) m look)
unmarked-put n look m unmarked a l = go (nat_eq (suc n) a) refl
  where
    go : (c : Bool) → nat_eq (suc n) a ≡ c → (if c then Some m else look a) ≡ None
    go true q = absurd (omega (arith, eqb-true (suc n) a q, l))
    go false q = unmarked a (omega (arith, l))

abbrev two_sides : List (List Mk) → ℕ → (m n : Mark) → List Mk → List Owed
two_sides ended a m n ms = owed_branch ended (marked a m ms) ∷ owed_branch ended (marked a n ms) ∷ []

split-holds : (f : Flt) (ended : List (List Mk)) (ms : List Mk) (a : ℕ) (t : Tm) → at_number f.atoms a ≡ Some t → marking_of ms a ≡ None
    → after_line f (owed_branch ended ms) (line.Split a) ≡ Some (two_sides ended a mark.True mark.False ms)
split-holds f ended ms a t q h =
    held (holds (at_number f.atoms a) (λ u. is_none (marking_of ms a))) (two_sides ended a mark.True mark.False ms)
    (holds-at (at_number f.atoms a) (λ u. is_none (marking_of ms a)) t q (subst (λ o. is_none o ≡ true) (sym h) refl))

-- the next atom true and false
pub refuted-split : (f : Flt) (ended : List (List Mk)) (n : ℕ) (t : Tm) (core on_true on_false : Marking) (ls ks : List Line) → at_number f.atoms (suc n) ≡ Some t
    → Within on_true (put (suc n) mark.True core) → IsRefuted f ended (suc n) on_true ls
    → Within on_false (put (suc n) mark.False core) → IsRefuted f ended (suc n) on_false ks
    → IsRefuted f ended n core (line.Split (suc n) ∷ ls ++ ks)
refuted-split f ended n t core on_true on_false ls ks q inside-left left inside-right right ms within unmarked os more s =
    let side : (m : Mark) (d : Marking) → Within d (put (suc n) m core) → Within d (marking_of (marked (suc n) m ms)) = λ m d w. within-more d (put (suc n) m core) (put (suc n) m (marking_of ms)) w (within-put core (marking_of ms) (suc n) m within) in
    step f (owed_branch ended ms) (line.Split (suc n)) (two_sides ended (suc n) mark.True mark.False ms) os ((ls ++ ks) ++ more)
    (split-holds f ended ms (suc n) t q (unmarked (suc n) (omega arith)))
    (both-end f (owed_branch ended (marked (suc n) mark.True ms)) (owed_branch ended (marked (suc n) mark.False ms)) ls ks
    (left (marked (suc n) mark.True ms) (side mark.True on_true inside-left) (unmarked-put n (marking_of ms) mark.True unmarked))
    (right (marked (suc n) mark.False ms) (side mark.False on_false inside-right) (unmarked-put n (marking_of ms) mark.False unmarked)) os more s)

-- ---- orders

put-here : (a : ℕ) (m : Mark) (look : Marking) → put a m look a ≡ Some m
put-here a m look = subst (λ b. (if b then Some m else look a) ≡ Some m) (sym (eq-eqb a a refl)) refl

put-twice : (a : ℕ) (m k : Mark) (core look : Marking) → Within core look → Within (put a m core) (put a m (put a k look))
put-twice a m k core look h b n q = go (nat_eq a b) q
  where
    self : (m : Mark) → same_mark m m ≡ true
    self mark.True = refl
    self mark.False = refl
    self mark.Less = refl
    self mark.Greater = refl

    go : (c : Bool) → (if c then Some m else core b) ≡ Some n → (o : Mark) × (((if c then Some m else (if c then Some k else look b)) ≡ Some o) × (same_mark n o ≡ true))
    go true r = (n, (r, self n))
    go false r = h b n r

unmarked-twice : (n : ℕ) (look : Marking) (m k : Mark) → UnmarkedAfter n look → UnmarkedAfter (suc n) (put (suc n) m (put (suc n) k look))
unmarked-twice n look m k unmarked a l = go (nat_eq (suc n) a) refl
  where
    go : (c : Bool) → nat_eq (suc n) a ≡ c → (if c then Some m else (if c then Some k else look a)) ≡ None
    go true q = absurd (omega (arith, eqb-true (suc n) a q, l))
    go false q = unmarked a (omega (arith, l))

order-holds : (f : Flt) (ended : List (List Mk)) (ms : List Mk) (a : ℕ) (t : Tm) → at_number f.atoms a ≡ Some t → is_int_equation (var_sorts f) t ≡ true → marking_of ms a ≡ Some mark.False
    → after_line f (owed_branch ended ms) (line.Order a) ≡ Some (two_sides ended a mark.Less mark.Greater ms)
order-holds f ended ms a t q i h =
    held (holds (at_number f.atoms a) (λ t. is_int_equation (var_sorts f) t && holds (marking_of ms a) is_false_mark)) (two_sides ended a mark.Less mark.Greater ms)
    (holds-at (at_number f.atoms a) (λ t. is_int_equation (var_sorts f) t && holds (marking_of ms a) is_false_mark) t q
    (subst (λ b. (b && holds (marking_of ms a) is_false_mark) ≡ true) (sym i) (holds-at (marking_of ms a) is_false_mark mark.False h refl)))

-- the next atom, an equation of numbers, true, less and greater
pub refuted-order : (f : Flt) (ended : List (List Mk)) (n : ℕ) (t : Tm) (core on_true on_less on_greater : Marking) (ls ks js : List Line) → at_number f.atoms (suc n) ≡ Some t → is_int_equation (var_sorts f) t ≡ true
    → Within on_true (put (suc n) mark.True core) → IsRefuted f ended (suc n) on_true ls
    → Within on_less (put (suc n) mark.Less core) → IsRefuted f ended (suc n) on_less ks
    → Within on_greater (put (suc n) mark.Greater core) → IsRefuted f ended (suc n) on_greater js
    → IsRefuted f ended n core (line.Split (suc n) ∷ ls ++ (line.Order (suc n) ∷ ks ++ js))
refuted-order f ended n t core on_true on_less on_greater ls ks js q i inside-true left inside-less less inside-greater greater ms within unmarked os more s =
    step f (owed_branch ended ms) (line.Split (suc n)) (two_sides ended (suc n) mark.True mark.False ms) os ((ls ++ (line.Order (suc n) ∷ ks ++ js)) ++ more)
    (split-holds f ended ms (suc n) t q (unmarked (suc n) (omega arith)))
    (both-end f (owed_branch ended (marked (suc n) mark.True ms)) (owed_branch ended (marked (suc n) mark.False ms)) ls (line.Order (suc n) ∷ ks ++ js)
    (left (marked (suc n) mark.True ms) (within-more on_true (put (suc n) mark.True core) (put (suc n) mark.True (marking_of ms)) inside-true (within-put core (marking_of ms) (suc n) mark.True within)) (unmarked-put n (marking_of ms) mark.True unmarked))
    ordered os more s)
  where
    ordered : Ends f (owed_branch ended (marked (suc n) mark.False ms)) (line.Order (suc n) ∷ ks ++ js)
    ordered os more s =
        step f (owed_branch ended (marked (suc n) mark.False ms)) (line.Order (suc n)) (two_sides ended (suc n) mark.Less mark.Greater (marked (suc n) mark.False ms)) os ((ks ++ js) ++ more)
        (order-holds f ended (marked (suc n) mark.False ms) (suc n) t q i (put-here (suc n) mark.False (marking_of ms)))
        (both-end f (owed_branch ended (marked (suc n) mark.Less (marked (suc n) mark.False ms))) (owed_branch ended (marked (suc n) mark.Greater (marked (suc n) mark.False ms))) ks js
        (less (marked (suc n) mark.Less (marked (suc n) mark.False ms)) (within-more on_less (put (suc n) mark.Less core) (marking_of (marked (suc n) mark.Less (marked (suc n) mark.False ms))) inside-less (put-twice (suc n) mark.Less mark.False core (marking_of ms) within)) (unmarked-twice n (marking_of ms) mark.Less mark.False unmarked))
        (greater (marked (suc n) mark.Greater (marked (suc n) mark.False ms)) (within-more on_greater (put (suc n) mark.Greater core) (marking_of (marked (suc n) mark.Greater (marked (suc n) mark.False ms))) inside-greater (put-twice (suc n) mark.Greater mark.False core (marking_of ms) within)) (unmarked-twice n (marking_of ms) mark.Greater mark.False unmarked))
        os more s)

-- ---- the whole

not-shared : (f : Flt) (ls : List Line) → Settles f (owed_branch [] [] ∷ []) ls → Settles f (owed_all ∷ []) ls
not-shared f [] h at = let w = h at in cc
not-shared f (line.Shared n ∷ ls) h at = let w = h at in cc
not-shared f (l ∷ ls) h at = h at

-- a refutation of the empty marking is a proof
pub refuted-proves : (f : Flt) (ls : List Line) → IsRefuted f [] 0 (λ a. None) ls → Proves f ls
refuted-proves f ls h =
    not-shared f ls (subst (Settles f (owed_branch [] [] ∷ [])) (no-more ls) (h [] (λ a m q. cc) (λ a l. refl) [] [] (λ at. refl))) 1
